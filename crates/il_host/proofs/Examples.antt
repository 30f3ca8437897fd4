-- Worked examples of the lines of replies, computed by the checker.
use Rattle.std.proofs.Common.{◌≡◌, ◌++◌, ℕ, List, [], ◌∷◌, Some, None, true, false, refl, sym, ◌∙◌, codes, replicate}
use Rattle.std.specs.Fmt.{digits}
use Rattle.std.specs.Str.{bytes_eq}
use Rattle.std.proofs.lemmas.Slice.Eq.{bytes_eq-Decides}
use Rattle.hex.specs.Hex.{encode_with}
use Rattle.lif_model.specs.Numbers.{two_at, four_at}
use Rattle.lif_model.specs.Directory.{name_of, implementation_of}
use Rattle.lif_model.specs.Printed.{printed}
use Rattle.lif_dir.specs.declared.entries.FileEntry.{FileEntry}
use Rattle.lif_dir.specs.declared.entries.Slot.TheVariants.{Live, Purged}
use Rattle.lif_volume.specs.declared.volume.Listing.{Listing}
use Rattle.il_script.specs.Replies.{text_line}
use Rattle.host_model.specs.Listing.{volume_line, file_line}
use Rattle.host_model.specs.Replies.{device_lines, paper_line}
use Rattle.il_host.specs.Texts.{listing_text, entry_line, label_text, data_text}

-- two texts that compare as different are not equal
texts_differ : (a b : List ℕ) → bytes_eq a b ≡ false → a ≡ b → ⊥
texts_differ a b differ same = let both : true ≡ false = sym ((bytes_eq-Decides a b).1 same) ∙ differ in cc

-- ---- dir

-- a directory of two records
abbrev two_records : Listing
two_records = record { label = codes "TAPE  "; start = 2; length = 2 }

-- a file A of that type
abbrev a_file : ℕ → FileEntry
a_file kind = record {
  name = record { bytes = codes "A         " };
  kind = kind;
  start = 4;
  length = 12;
  date = replicate 6 0;
  volume = 0x8001;
  implementation = 0 ∷ 1 ∷ 0xAB ∷ 0xFF ∷ [];
}

no_slots : listing_text two_records [] ≡ text_line (codes "volume TAPE 2 2 0 16")
unfolding volume_line printed digits
no_slots = refl

-- a purged slot is used and has no line
purged_and_live : listing_text two_records (Purged (a_file 0) ∷ Live (a_file 0xE0D0) ∷ [])
    ≡ text_line (codes "volume TAPE 2 2 2 16") ++ text_line (codes "file A E0D0 4 12 0001ABFF")
unfolding volume_line file_line name_of implementation_of four_at two_at printed encode_with digits
purged_and_live = refl

purged_with_a_line : listing_text two_records (Purged (a_file 0) ∷ []) ≡ text_line (codes "volume TAPE 2 2 1 16") ++ text_line (codes "file A 0000 4 12 0001ABFF") → ⊥
unfolding volume_line file_line name_of implementation_of four_at two_at printed encode_with digits
purged_with_a_line = texts_differ _ _ refl

used_without_purged : listing_text two_records (Purged (a_file 0) ∷ []) ≡ text_line (codes "volume TAPE 2 2 0 16") → ⊥
unfolding volume_line file_line name_of implementation_of four_at two_at printed encode_with digits
used_without_purged = texts_differ _ _ refl

-- by its parts
by_parts : entry_line (a_file 1) ≡ text_line (codes "file A 0001 4 12 0001ABFF")
unfolding entry_line printed encode_with digits
by_parts = refl

-- ---- label

-- without its spaces, but for one of spaces alone
labels : (label_text (codes "TAPE  ") ≡ text_line (codes "label TAPE")) × (label_text (codes "      ") ≡ text_line (codes "label %20"))
unfolding printed encode_with
labels = (refl, refl)

-- ---- fetch

data_of_two : data_text 0xE0D1 (0 ∷ 0 ∷ 0x10 ∷ 0xFE ∷ []) (codes "AB") ≡ text_line (codes "data E0D1 000010FE 4142")
unfolding encode_with
data_of_two = refl

-- a file without records
data_of_none : data_text 1 (replicate 4 0) [] ≡ text_line (codes "data 0001 00000000 -")
unfolding encode_with
data_of_none = refl

none_as_nothing : data_text 1 (replicate 4 0) [] ≡ text_line (codes "data 0001 00000000 ") → ⊥
unfolding encode_with
none_as_nothing = texts_differ _ _ refl

-- ---- the loop

-- the addresses begin with 1
three_devices : device_lines 1 (Some 16 ∷ None ∷ Some 0x2F ∷ []) ≡ text_line (codes "device 1 10") ++ (text_line (codes "device 2 --") ++ text_line (codes "device 3 2F"))
unfolding encode_with digits
three_devices = refl

counted_from_zero : device_lines 1 (None ∷ []) ≡ text_line (codes "device 0 --") → ⊥
unfolding digits
counted_from_zero = texts_differ _ _ refl

-- the count goes on where the paper is full, up to its greatest value
greatest_count : paper_line (Some ([], 18446744073709551615)) ≡ text_line (codes "paper - 18446744073709551615")
unfolding digits
greatest_count = refl
