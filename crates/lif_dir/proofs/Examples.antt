-- Worked examples, computed by the checker.
use Rattle.std.proofs.Common.{◌≡◌, ◌≢◌, ◌<◌, ◌++◌, ℕ, zero, suc, get_or, arith, List, [], ◌∷◌, refl, true, false, codes, replicate, lit≤, lit<, rules, Some, None}
use Rattle.std.specs.Prelude.{option_map}
use Rattle.std.specs.Ordering.{nat_cmp, is_gt}
use Rattle.std.specs.Cmp.Lexicographic.{slice_cmp}
use Rattle.lif_model.specs.Numbers.{two_at, four_at}
use Rattle.lif_model.specs.Directory.{name_of, date_of, implementation_of}
use Rattle.lif_dir.specs.declared.entries.FileEntry.{FileEntry}
use Rattle.lif_dir.specs.declared.entries.Slot.TheVariants.{Live, Purged, End}
use Rattle.lif_dir.specs.Entries.{spaced, name_bytes, entry_bytes, entry_from, slot_of, slot_from, slot_bytes, is_entry}
use Rattle.lif_dir.specs.Names.{is_made, name_of_bytes, new_name, made_name, new_label, label_bytes}
use Rattle.lif_model.specs.Parts as model
use Rattle.lif_dir.specs.declared.batch.Part.TheVariants as batch
use Rattle.lif_dir.specs.Batches.{bytes_at, parts_of}
use Rattle.lif_dir.specs.Indexes.{is_live_at, name_at, name_in, IsUpTo, IsIndex, AreSorted}
use Rattle.lif_dir.specs.Tables.{IsInRoom, IsIndexed}
use Rattle.lif_dir.proofs.Searching.{sorted_here}
use Rattle.lif_dir.proofs.TableLemmas.{empty_indexed}

two_letters : spaced (codes "AB") ≡ codes "AB        "
two_letters = refl

ten_letters : spaced (codes "TENLETTERS") ≡ codes "TENLETTERS"
ten_letters = refl

-- ---- names and labels that may be made

-- a letter, and then letters, digits and `_`
made : (is_made (codes "A") ≡ true) × (is_made (codes "Z9_A") ≡ true)
made = (refl, refl)

not_made : (is_made [] ≡ false) × (is_made (codes "9A") ≡ false) × (is_made (codes "_A") ≡ false)
    × (is_made (codes "a") ≡ false) × (is_made (codes "AbC") ≡ false) × (is_made (codes "A B") ≡ false)
not_made = (refl, refl, refl, refl, refl, refl)

-- one to ten bytes
names : (name_of_bytes [] ≡ None) × (name_of_bytes (codes "ELEVENCHARS") ≡ None)
    × (name_of_bytes (codes "A B") ≡ Some (record { bytes = codes "A B       " }))
names = (refl, refl, refl)

-- the spaces at the end of a name are no part of it, those in between are
spaces_behind : option_map made_name (new_name (record { bytes = codes "DATA_1    " })) ≡ Some (record { bytes = codes "DATA_1    " })
spaces_behind = refl

spaces_between : new_name (record { bytes = codes "A B       " }) ≡ None
spaces_between = refl

spaces_alone : new_name (record { bytes = codes "          " }) ≡ None
spaces_alone = refl

-- a label is taken as it is, and has six bytes at most
labels : (option_map label_bytes (new_label (codes "AB")) ≡ Some (codes "AB    ")) × (new_label (codes "AB ") ≡ None)
    × (option_map label_bytes (new_label (codes "HPTAPE")) ≡ Some (codes "HPTAPE")) × (new_label (codes "HPTAPES") ≡ None) × (new_label [] ≡ None)
labels = (refl, refl, refl, refl, refl)

-- ---- entries

-- the redo file of a tape of 512 records
abbrev redo : FileEntry
redo = record {
  name = record { bytes = codes "REDOFILE  " };
  kind = 0xE0D0;
  start = 508;
  length = 4;
  date = replicate 6 0;
  volume = 0x8001;
  implementation = replicate 4 0;
}

abbrev redo_text : List ℕ
redo_text = codes "REDOFILE  " ++ 0xE0 ∷ 0xD0 ∷ 0 ∷ 0 ∷ 1 ∷ 0xFC ∷ 0 ∷ 0 ∷ 0 ∷ 4 ∷ 0 ∷ 0 ∷ 0 ∷ 0 ∷ 0 ∷ 0 ∷ 0x80 ∷ 1 ∷ 0 ∷ 0 ∷ 0 ∷ 0 ∷ []

redo_name : name_bytes redo.name ≡ codes "REDOFILE  "
redo_name = refl

redo_written : entry_bytes redo ≡ redo_text
redo_written = refl

redo_read : entry_from redo_text ≡ redo
unfolding name_of date_of implementation_of four_at two_at
redo_read = refl

redo_is_live : slot_from redo_text ≡ Live redo
unfolding name_of date_of implementation_of four_at two_at
redo_is_live = refl

-- a purged file whose numbers are junk
abbrev junk : FileEntry
junk = record redo { kind = 0; start = 0xFFFFFFFF; length = 0xFFFFFFFF }

junk_is_purged : slot_from (entry_bytes junk) ≡ Purged junk
unfolding name_of date_of implementation_of four_at two_at
junk_is_purged = refl

kinds : (slot_of junk ≡ Purged junk) × (slot_of redo ≡ Live redo)
kinds = (refl, refl)

junk_written : slot_bytes (Purged junk) ≡ entry_bytes junk
junk_written = refl

-- only the type counts
last_is_end : slot_from (entry_bytes (record redo { kind = 0xFFFF })) ≡ End
unfolding two_at
last_is_end = refl

entries : (is_entry (Live redo) ≡ true) × (is_entry (Purged junk) ≡ true) × (is_entry End ≡ false)
entries = (refl, refl, refl)

-- ---- tables and their index

one_of_two : IsInRoom 1 2 2 (Live redo ∷ [])
one_of_two = record { within = lit≤ tt; reserved = lit≤ tt; small = lit< tt; entries = search rules }

-- a file of that name, of a type that is live or purged
abbrev file : List ℕ → ℕ → List ℕ
file name kind = entry_bytes (record redo { name = record { bytes = name }; kind = kind })

-- the order is that of the bytes: a shorter name stands first, since a space does
in_order : IsUpTo (codes "AB        ") (codes "ABC       ")
in_order = refl

out_of_order : is_gt (slice_cmp nat_cmp (codes "B         ") (codes "ABC       ")) ≡ true
out_of_order = refl

-- B, a purged A, and A: the live ones stand in the index by name
abbrev three : List (List ℕ)
three = file (codes "B         ") 1 ∷ file (codes "A         ") 0 ∷ file (codes "A         ") 1 ∷ []

live_ones : (is_live_at three 0 ≡ true) × (is_live_at three 1 ≡ false) × (is_live_at three 2 ≡ true) × (is_live_at three 3 ≡ false)
unfolding two_at
live_ones = (refl, refl, refl, refl)

names_by_place : (name_at three 2 ≡ codes "A         ") × (name_in three (2 ∷ 0 ∷ []) 1 ≡ codes "B         ")
unfolding name_of
names_by_place = (refl, refl)

abbrev places : List ℕ
places = 2 ∷ 0 ∷ []

three_live : (j : ℕ) → j < 2 → is_live_at three (get_or places j 0) ≡ true
unfolding two_at
three_live zero lt = refl
three_live (suc zero) lt = refl
three_live (suc (suc j)) lt = absurd (omega arith)

three_all : (i : ℕ) → is_live_at three i ≡ true → (j : ℕ) × (j < 2) × (get_or places j 0 ≡ i)
unfolding two_at
three_all zero on = (1, lit< tt, refl)
three_all (suc zero) on = cc
three_all (suc (suc zero)) on = (0, lit< tt, refl)
three_all (suc (suc (suc i))) on = cc

three_once : (j k : ℕ) → j < k → k < 2 → get_or places j 0 ≢ get_or places k 0
three_once zero (suc zero) less lt e = cc
three_once (suc j) (suc zero) less lt e = omega arith
three_once j zero less lt e = omega arith
three_once j (suc (suc k)) less lt e = omega arith

three_sorted : (j k : ℕ) → j < k → k < 2 → IsUpTo (name_in three places j) (name_in three places k)
unfolding name_of
three_sorted zero (suc zero) less lt = refl
three_sorted (suc j) (suc zero) less lt = absurd (omega arith)
three_sorted j zero less lt = absurd (omega arith)
three_sorted j (suc (suc k)) less lt = absurd (omega arith)

index_of_three : IsIndex three places
index_of_three = record { live = three_live; all = three_all; once = three_once; sorted = three_sorted }

sorted_three : AreSorted three places
sorted_three = sorted_here three places index_of_three

no_slots_indexed : IsIndexed 0 2 2 [] []
no_slots_indexed = empty_indexed 0 2 2 [] [] (lit≤ tt) refl refl refl

-- ---- the parts of a batch

-- two of its bytes
some_bytes : (bytes_at (65 ∷ 66 ∷ 67 ∷ 68 ∷ []) 1 2 ≡ 66 ∷ 67 ∷ []) × (bytes_at (65 ∷ 66 ∷ []) 2 0 ≡ [])
some_bytes = (refl, refl)

-- a store of them, a rename and a purge
the_parts : parts_of (record {
  parts = batch.Store (record { name = record { bytes = codes "A         " } }) 1 (replicate 4 0) 1 2 ∷ batch.Rename (record { bytes = codes "B         " }) (record { name = record { bytes = codes "C         " } })
      ∷ batch.Purge (record { bytes = codes "D         " }) ∷ [];
  bytes = 65 ∷ 66 ∷ 67 ∷ 68 ∷ [];
}) ≡ model.Store (codes "A         ") 1 (replicate 4 0) (66 ∷ 67 ∷ []) ∷ model.Rename (codes "B         ") (codes "C         ") ∷ model.Purge (codes "D         ") ∷ []
the_parts = refl
