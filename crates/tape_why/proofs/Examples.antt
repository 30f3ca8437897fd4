-- Worked examples, computed by the checker: directories of a cassette of 512 records that begin at record 2.
use Rattle.std.proofs.Common.{◌≡◌, ◌++◌, ℕ, List, [], ◌∷◌, Some, None, codes, refl, replicate, true, false}
use Rattle.std.specs.Prelude.{⊤}
use Rattle.std.specs.Str.{bytes_eq}
use Rattle.lif_model.specs.Numbers.{two_at, four_at}
use Rattle.lif_model.specs.Shelf.{piece, tape_of}
use Rattle.lif_model.specs.Gate.{is_open}
use Rattle.lif_model.specs.Directory.{entries_of, entry_at, name_of}
use Rattle.lif_model.specs.Made.{in_four, new_entry, with_type}
use Rattle.lif_model.specs.Printed.{printed}
use Rattle.lif_model.specs.Redo.{is_valid, targets_record, zeros}
use Rattle.lif_model.specs.Volume.{Files, Volume, redo_entry}
use Rattle.lif_model.specs.declared.version.Version.TheVariants.{One, Two}
use Rattle.lif_model.proofs.RedoExamples.{named, opened, with_redo}
use Rattle.tape_why.specs.declared.defects.Defect.TheVariants as defect
use Rattle.tape_why.specs.Defects.{defect_of}
use Rattle.tape_why.specs.Why.{is_changeable, is_changeable_with, listed_text, unlisted_line, why_on, why_text}

unfoldable on_literals : ⊤
unfolding two_at four_at name_of printed new_entry with_type is_open is_valid targets_record piece zeros
on_literals = tt

-- a header with a directory of this first record and this number of records
abbrev header : ℕ → ℕ → List ℕ
header start count = 0x80 ∷ 0 ∷ codes "HP71  " ++ (in_four start ++ (0x10 ∷ 0 ∷ 0 ∷ 0 ∷ in_four count))

abbrev file : List ℕ → ℕ → ℕ → List ℕ
file name start count = new_entry name 0xE0D0 start count (replicate 4 0)

abbrev gone : List ℕ
gone = with_type 0 (file (codes "A         ") 4 600)

-- the line of a directory that is not legal
abbrev line : List ℕ → List (List ℕ) → List ℕ
line head slots = unlisted_line slots (defect_of 512 head slots)

-- ---- record 0

no_mark : (line (0x80 ∷ 1 ∷ []) [] ≡ codes "it cannot be listed: it does not begin with 8000 hex, the mark of a LIF volume\n") × (bytes_eq (line (0x80 ∷ 1 ∷ []) []) [] ≡ false)
unfolding on_literals
no_mark = (refl, refl)

in_record_0 : (line (header 0 2) [] ≡ codes "it cannot be listed: its directory would begin in record 0\n")
    × (bytes_eq (line (header 0 0) []) (codes "it cannot be listed: its directory has no record\n") ≡ false)
unfolding on_literals
in_record_0 = (refl, refl)

no_record : (line (header 2 0) [] ≡ codes "it cannot be listed: its directory has no record\n") × (bytes_eq (line (header 2 1) []) (codes "it cannot be listed: its directory has no record\n") ≡ false)
unfolding on_literals
no_record = (refl, refl)

-- one that ends exactly before the last 4 records is no defect
too_long : (line (header 2 507) [] ≡ codes "it cannot be listed: its directory does not end before the last 4 records of the medium\n") × (defect_of 512 (header 2 506) [] ≡ None)
    × (bytes_eq (line (header 2 507) []) [] ≡ false)
unfolding on_literals
too_long = (refl, refl, refl)

-- ---- the slots

-- file B begins in the last record of the directory; a purged slot may hold any numbers
in_directory : (line (header 2 3) (gone ∷ file (codes "B         ") 4 2 ∷ []) ≡ codes "it cannot be listed: B has records that are not between the directory and the end of the medium\n")
    × (defect_of 512 (header 2 3) (gone ∷ file (codes "B         ") 5 507 ∷ []) ≡ None)
    × (bytes_eq (line (header 2 3) (gone ∷ file (codes "B         ") 4 2 ∷ [])) (codes "it cannot be listed: A has records that are not between the directory and the end of the medium\n") ≡ false)
unfolding on_literals
in_directory = (refl, refl, refl)

past_the_end : defect_of 512 (header 2 3) (file (codes "B         ") 5 508 ∷ []) ≡ Some (defect.Outside 0)
unfolding on_literals
past_the_end = refl

-- B and C have record 8 in common; D has one in common with C, but C comes first
in_common : (line (header 2 3) (file (codes "A         ") 20 2 ∷ file (codes "B         ") 7 2 ∷ file (codes "C         ") 8 3 ∷ file (codes "D         ") 10 1 ∷ [])
    ≡ codes "it cannot be listed: B and C have records in common\n")
    × (defect_of 512 (header 2 3) (file (codes "B         ") 7 2 ∷ file (codes "C         ") 9 3 ∷ []) ≡ None)
    × (bytes_eq (line (header 2 3) (file (codes "B         ") 7 2 ∷ file (codes "C         ") 8 3 ∷ [])) (codes "it cannot be listed: B and B have records in common\n") ≡ false)
unfolding on_literals
in_common = (refl, refl, refl)

-- a purged file has no name
one_name : (line (header 2 3) (gone ∷ file (codes "A         ") 5 2 ∷ file (codes "A         ") 7 2 ∷ []) ≡ codes "it cannot be listed: two files have the name A\n")
    × (defect_of 512 (header 2 3) (gone ∷ file (codes "A         ") 5 2 ∷ file (codes "B         ") 7 2 ∷ []) ≡ None)
    × (bytes_eq (line (header 2 3) (gone ∷ file (codes "A         ") 5 2 ∷ [])) (codes "it cannot be listed: two files have the name A\n") ≡ false)
unfolding on_literals
one_name = (refl, refl, refl)

-- ---- a volume that can be listed

module _ (files : Files) where
  abbrev volume : ℕ → List (List ℕ) → Volume
  volume count slots = record { header = header 2 count; slots = slots; files = files }

  large : (listed_text 512 (volume 3 (redo_entry Two 512 ∷ [])) ≡ codes "it can be listed and changed\n") × (bytes_eq (listed_text 512 (volume 3 (redo_entry One 512 ∷ []))) (codes "it can be listed and changed\n") ≡ false)
  unfolding on_literals
  large = (refl, refl)

  small : listed_text 512 (volume 3 (redo_entry One 512 ∷ []))
      ≡ codes "it can be listed and changed, but not packed, and not by a batch: its redo file has 4 records; the command upgrade of il gives it 30 records more\n"
  unfolding on_literals
  small = refl

  -- a file in record 478, the first of those that the redo file would have
  kept_small : listed_text 512 (volume 3 (redo_entry One 512 ∷ file (codes "A         ") 470 9 ∷ []))
      ≡ codes "it can be listed and changed, but not packed, and not by a batch: its redo file has 4 records; it cannot have 30 records more, since the directory or a file has one of them\n"
  unfolding on_literals
  kept_small = refl

  -- a directory that ends after record 478
  long_directory : listed_text 512 (volume 477 (redo_entry One 512 ∷ []))
      ≡ codes "it can be listed and changed, but not packed, and not by a batch: its redo file has 4 records; it cannot have 30 records more, since the directory or a file has one of them\n"
  unfolding on_literals
  long_directory = refl

  not_adopted : listed_text 512 (volume 3 (gone ∷ []))
      ≡ codes "it can be listed, but not changed: it has no redo file; the command adopt of il makes one of the last 4 records\n"
  unfolding on_literals
  not_adopted = refl

  other_file : listed_text 512 (volume 3 (file (codes "REDOFILE  ") 5 4 ∷ []))
      ≡ codes "it can be listed, but not changed: it has no redo file; none can be made, since another file has the name REDOFILE\n"
  unfolding on_literals
  other_file = refl

  no_slot : listed_text 512 (volume 1 (replicate 8 gone)) ≡ codes "it can be listed, but not changed: it has no redo file; none can be made, since no slot is free\n"
  unfolding on_literals
  no_slot = refl

  in_use : listed_text 512 (volume 3 (file (codes "A         ") 500 9 ∷ []))
      ≡ codes "it can be listed, but not changed: it has no redo file; none can be made, since a file has one of the last 4 records\n"
  unfolding on_literals
  in_use = refl

  changeable : (is_changeable_with 512 (Some (volume 3 (redo_entry One 512 ∷ []))) ≡ true) × (is_changeable_with 512 (Some (volume 3 (gone ∷ []))) ≡ false)
  unfolding on_literals
  changeable = (refl, refl)

-- ---- a change that was broken off

-- a tape of 12 records with an open redo
stopped : (why_on (with_redo opened (named (0 ∷ 1 ∷ 0 ∷ 2 ∷ [])))
    ≡ codes "a change was broken off, and the next command completes it\n" ++ codes "it cannot be listed: it does not begin with 8000 hex, the mark of a LIF volume\n")
    × (bytes_eq (why_on (with_redo opened (named (0 ∷ 1 ∷ 0 ∷ 2 ∷ [])))) (codes "it cannot be listed: it does not begin with 8000 hex, the mark of a LIF volume\n") ≡ false)
unfolding on_literals
stopped = (refl, refl)

-- ---- images

abbrev mark_line : List ℕ
mark_line = codes "it cannot be listed: it does not begin with 8000 hex, the mark of a LIF volume\n"

empty_image : (why_text [] ≡ mark_line) × (is_changeable [] ≡ false)
unfolding on_literals tape_of
empty_image = (refl, refl)

-- a header, a record of zeros, and a directory with a redo file of 4 records, whose bytes of type FFFF hex end the image
abbrev image : List ℕ
image = header 2 1 ++ (replicate 492 0 ++ (redo_entry One 512 ++ (replicate 10 0 ++ 0xFF ∷ 0xFF ∷ [])))

small_image : (why_text image
    ≡ codes "it can be listed and changed, but not packed, and not by a batch: its redo file has 4 records; the command upgrade of il gives it 30 records more\n")
    × (is_changeable image ≡ true)
unfolding on_literals tape_of entry_at entries_of
small_image = (refl, refl)
