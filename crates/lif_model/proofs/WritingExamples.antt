-- Worked examples of what commands write, computed by the checker, on a tape of twelve records: the
-- directory is records 2 and 3 and has room for sixteen slots, files begin at record 4, and the
-- gate is record 8.
use Rattle.std.proofs.Common.{◌≡◌, ◌++◌, ℕ, List, [], ◌∷◌, refl, replicate, codes}
use Rattle.std.specs.FinMap.{empty}
use Rattle.lif_model.specs.Numbers.{two_at, four_at}
use Rattle.lif_model.specs.Tape.{Tape}
use Rattle.lif_model.specs.Directory.{name_of, entry_at}
use Rattle.lif_model.specs.Made.{new_entry, with_name, with_type, with_extent, first_directory_record, fresh_header}
use Rattle.lif_model.specs.Shelf.{piece}
use Rattle.lif_model.specs.Volume.{Volume}
use Rattle.lif_model.specs.Apply.{VolumeCommand, Dir, Store, Rename, Purge, Adopt, Upgrade, Format}
use Rattle.lif_model.specs.Writing.{with_entry, touched, changes_of, written_by}
use Rattle.lif_model.proofs.Examples as base
use Rattle.lif_model.proofs.VolumeExamples.{file, purged, a_name, b_name, numbered}

-- ---- one record, and the records touched

-- entry 7 of a record of sevens
last_entry : with_entry (replicate 256 7) 7 (replicate 32 1) ≡ replicate 224 7 ++ replicate 32 1
unfolding with_entry
last_entry = refl

first_entry : with_entry (replicate 256 7) 0 (replicate 32 1) ≡ replicate 32 1 ++ replicate 224 7
unfolding with_entry
first_entry = refl

-- slots 7, 8 and 9 lie in two records, the first of which holds slot 7
two_touched : touched 2 ((7, []) ∷ (8, []) ∷ (9, []) ∷ []) ≡ 2 ∷ 3 ∷ []
two_touched = refl

one_touched : touched 2 ((5, []) ∷ (6, []) ∷ (7, []) ∷ []) ≡ 2 ∷ []
one_touched = refl

-- ---- tapes

-- bytes that stood in a slot before
abbrev old_bytes : List ℕ
old_bytes = replicate 32 7

-- the same bytes of the type that ends a directory
abbrev old_ended : List ℕ
old_ended = replicate 10 7 ++ 0xFF ∷ 0xFF ∷ replicate 20 7

abbrev redo : List ℕ
redo = base.redo_entry

-- a live file without records, of a name of its own
abbrev small : ℕ → List ℕ
small k = file (codes "F" ++ k ∷ codes "        ") 4 0

abbrev five : List ℕ
five = small 49 ++ small 50 ++ small 51 ++ small 52 ++ small 53

abbrev slots_of_five : List (List ℕ)
slots_of_five = small 49 ∷ small 50 ∷ small 51 ∷ small 52 ∷ small 53 ∷ []

-- the directory's two records and record 4
abbrev tape : List ℕ → List ℕ → List ℕ → Tape
tape first second fourth = base.header ∷ base.blank ∷ base.filled first ∷ base.filled second ∷ fourth
    ∷ numbered 5 ∷ numbered 6 ∷ numbered 7 ∷ numbered 8 ∷ numbered 9 ∷ numbered 10 ∷ numbered 11 ∷ []

abbrev with : List (List ℕ) → Volume
with slots = record { header = base.header; slots = slots; files = empty }

-- ---- store

-- one byte, 'A', as a file of type 1
abbrev store_a : VolumeCommand
store_a = Store a_name 1 (0 ∷ 0 ∷ 0 ∷ 0 ∷ []) (65 ∷ [])

abbrev letter_a : List ℕ
letter_a = 65 ∷ replicate 255 0

abbrev new_a : List ℕ
new_a = file a_name 4 1

-- the redo entry stands in slot 5: all three slots lie in one record, and the third keeps its bytes
-- but for the type
stored_at_five : written_by 12 store_a (with (slots_of_five ++ redo ∷ [])) (tape (five ++ redo ++ base.end_entry ++ old_bytes) [] (numbered 4))
    ≡ tape (five ++ new_a ++ redo ++ old_ended) [] letter_a
unfolding four_at two_at name_of entry_at with_entry with_type new_entry piece
stored_at_five = refl

-- in slot 6: the end is the first slot of the second record
stored_at_six : written_by 12 store_a (with (slots_of_five ++ small 54 ∷ redo ∷ [])) (tape (five ++ small 54 ++ redo ++ base.end_entry) (old_bytes ++ old_bytes) (numbered 4))
    ≡ tape (five ++ small 54 ++ new_a ++ redo) (old_ended ++ old_bytes) letter_a
unfolding four_at two_at name_of entry_at with_entry with_type new_entry piece
stored_at_six = refl

-- in slot 7: the redo entry moves on to the second record
stored_at_seven : written_by 12 store_a (with (slots_of_five ++ small 54 ∷ small 55 ∷ redo ∷ [])) (tape (five ++ small 54 ++ small 55 ++ redo) (base.end_entry ++ old_bytes) (numbered 4))
    ≡ tape (five ++ small 54 ++ small 55 ++ new_a) (redo ++ old_ended) letter_a
unfolding four_at two_at name_of entry_at with_entry with_type new_entry piece
stored_at_seven = refl

-- in slot 8, which is the first of the second record
stored_at_eight : written_by 12 store_a (with (slots_of_five ++ small 54 ∷ small 55 ∷ small 56 ∷ redo ∷ [])) (tape (five ++ small 54 ++ small 55 ++ small 56) (redo ++ base.end_entry ++ old_bytes) (numbered 4))
    ≡ tape (five ++ small 54 ++ small 55 ++ small 56) (new_a ++ redo ++ old_ended) letter_a
unfolding four_at two_at name_of entry_at with_entry with_type new_entry piece
stored_at_eight = refl

-- the second record alone, then
changed_at_eight : changes_of 12 store_a (with (slots_of_five ++ small 54 ∷ small 55 ∷ small 56 ∷ redo ∷ [])) (tape (five ++ small 54 ++ small 55 ++ small 56) (redo ++ base.end_entry ++ old_bytes) (numbered 4))
    ≡ (3, base.filled (new_a ++ redo ++ old_ended)) ∷ []
unfolding four_at two_at name_of entry_at with_entry with_type new_entry piece
changed_at_eight = refl

-- in slot 14: the redo entry takes the last slot, and no end follows
stored_at_fourteen : written_by 12 store_a (with (slots_of_five ++ small 54 ∷ small 55 ∷ small 56 ∷ small 57 ∷ small 58 ∷ small 59 ∷ small 60 ∷ small 61 ∷ small 62 ∷ redo ∷ []))
    (tape (five ++ small 54 ++ small 55 ++ small 56) (small 57 ++ small 58 ++ small 59 ++ small 60 ++ small 61 ++ small 62 ++ redo ++ base.end_entry) (numbered 4))
    ≡ tape (five ++ small 54 ++ small 55 ++ small 56) (small 57 ++ small 58 ++ small 59 ++ small 60 ++ small 61 ++ small 62 ++ new_a ++ redo) letter_a
unfolding four_at two_at name_of entry_at with_entry with_type new_entry piece
stored_at_fourteen = refl

-- a purged B with a date: the entry is new in all its bytes, and no other slot is written
stored_in_purged : written_by 12 store_a (with ((b_name ++ 0 ∷ 0 ∷ 0 ∷ 0 ∷ 0 ∷ 4 ∷ 0 ∷ 0 ∷ 0 ∷ 2 ∷ replicate 6 0x12 ++ 0x80 ∷ 0x01 ∷ 0 ∷ 0 ∷ 0 ∷ 0 ∷ []) ∷ redo ∷ []))
    (tape (b_name ++ 0 ∷ 0 ∷ 0 ∷ 0 ∷ 0 ∷ 4 ∷ 0 ∷ 0 ∷ 0 ∷ 2 ∷ replicate 6 0x12 ++ 0x80 ∷ 0x01 ∷ 0 ∷ 0 ∷ 0 ∷ 0 ∷ [] ++ redo ++ base.end_entry ++ old_bytes) [] (numbered 4))
    ≡ tape (new_a ++ redo ++ base.end_entry ++ old_bytes) [] letter_a
unfolding four_at two_at name_of entry_at with_entry with_type new_entry piece
stored_in_purged = refl

-- ---- purge and rename

-- two bytes of one entry
purge_of_b : written_by 12 (Purge b_name) (with (new_a ∷ file b_name 5 1 ∷ redo ∷ [])) (tape (new_a ++ file b_name 5 1 ++ redo ++ base.end_entry) old_bytes (numbered 4))
    ≡ tape (new_a ++ purged (file b_name 5 1) ++ redo ++ base.end_entry) old_bytes (numbered 4)
unfolding four_at two_at name_of with_entry with_type
purge_of_b = refl

-- the purged slot of that name is not the one
renamed : written_by 12 (Rename a_name b_name) (with (purged (file a_name 5 1) ∷ new_a ∷ redo ∷ [])) (tape (purged (file a_name 5 1) ++ new_a ++ redo ++ base.end_entry) [] (numbered 4))
    ≡ tape (purged (file a_name 5 1) ++ file b_name 4 1 ++ redo ++ base.end_entry) [] (numbered 4)
unfolding four_at two_at name_of with_entry with_type with_name
renamed = refl

-- nothing changes
renamed_to_itself : changes_of 12 (Rename a_name a_name) (with (new_a ∷ redo ∷ [])) (tape (new_a ++ redo ++ base.end_entry) [] (numbered 4)) ≡ []
renamed_to_itself = refl

listed : written_by 12 Dir (with (redo ∷ [])) (tape (redo ++ base.end_entry) [] (numbered 4)) ≡ tape (redo ++ base.end_entry) [] (numbered 4)
listed = refl

-- ---- adopt

-- the redo entry takes the end's slot, and the next one ends the directory
adopted : written_by 12 Adopt (with (new_a ∷ [])) (tape (new_a ++ base.end_entry ++ old_bytes ++ old_bytes) [] (numbered 4)) ≡ tape (new_a ++ redo ++ old_ended ++ old_bytes) [] (numbered 4)
unfolding four_at two_at name_of entry_at with_entry with_type new_entry
adopted = refl

-- one slot is left, and then the directory is full: no end follows, and the record after it stays
adopted_full : written_by 12 Adopt (with (slots_of_five ++ small 54 ∷ small 55 ∷ small 56 ∷ small 57 ∷ small 58 ∷ small 59 ∷ small 60 ∷ small 61 ∷ small 62 ∷ small 63 ∷ []))
    (tape (five ++ small 54 ++ small 55 ++ small 56) (small 57 ++ small 58 ++ small 59 ++ small 60 ++ small 61 ++ small 62 ++ small 63 ++ base.end_entry) (numbered 4))
    ≡ tape (five ++ small 54 ++ small 55 ++ small 56) (small 57 ++ small 58 ++ small 59 ++ small 60 ++ small 61 ++ small 62 ++ small 63 ++ redo) (numbered 4)
unfolding four_at two_at name_of entry_at with_entry with_type new_entry
adopted_full = refl

-- the redo file is there
adopted_again : changes_of 12 Adopt (with (redo ∷ [])) (tape (redo ++ base.end_entry) [] (numbered 4)) ≡ []
unfolding four_at two_at name_of
adopted_again = refl

-- ---- upgrade, on 44 records: the redo file of version 1 begins at record 40, that of version 2 at record 10

-- a redo entry with these four bytes of start and length, these of the date, and this implementation field
abbrev redo_of : ℕ → ℕ → List ℕ → List ℕ
redo_of start count implementation = codes "REDOFILE  " ++ 0xE0 ∷ 0xD0 ∷ 0 ∷ 0 ∷ 0 ∷ start ∷ 0 ∷ 0 ∷ 0 ∷ count ∷ replicate 6 0x12 ++ 0x80 ∷ 0x01 ∷ implementation

abbrev long_tape : List ℕ → Tape
long_tape first = base.header ∷ base.blank ∷ base.filled first ∷ replicate 41 base.blank

-- the entry keeps its name, type, date and volume word
upgraded : changes_of 44 Upgrade (with (new_a ∷ redo_of 40 4 (1 ∷ 2 ∷ 3 ∷ 4 ∷ []) ∷ [])) (long_tape (new_a ++ redo_of 40 4 (1 ∷ 2 ∷ 3 ∷ 4 ∷ []) ++ base.end_entry ++ old_bytes))
    ≡ (2, base.filled (new_a ++ redo_of 10 34 (0 ∷ 0 ∷ 0 ∷ 0 ∷ []) ++ base.end_entry ++ old_bytes)) ∷ []
unfolding four_at two_at name_of with_entry with_extent
upgraded = refl

-- it is of version 2
upgraded_again : changes_of 44 Upgrade (with (redo_of 10 34 (1 ∷ 2 ∷ 3 ∷ 4 ∷ []) ∷ [])) (long_tape (redo_of 10 34 (1 ∷ 2 ∷ 3 ∷ 4 ∷ []) ++ base.end_entry)) ≡ []
unfolding four_at two_at name_of
upgraded_again = refl

-- a store on a volume of version 2: the redo entry moves on with the bytes that it had
stored_on_two : changes_of 44 store_a (with (redo_of 10 34 (1 ∷ 2 ∷ 3 ∷ 4 ∷ []) ∷ [])) (long_tape (redo_of 10 34 (1 ∷ 2 ∷ 3 ∷ 4 ∷ []) ++ base.end_entry ++ old_bytes))
    ≡ (2, base.filled (new_a ++ redo_of 10 34 (1 ∷ 2 ∷ 3 ∷ 4 ∷ []) ++ old_ended)) ∷ []
unfolding four_at two_at name_of entry_at with_entry with_type new_entry
stored_on_two = refl

-- ---- format

-- record 0 and the first record of the directory; the second keeps its bytes
formatted : written_by 12 (Format (codes "HPTAPE") 16) (with []) (tape old_bytes old_bytes (numbered 4))
    ≡ fresh_header 12 (codes "HPTAPE") 2 ∷ base.blank ∷ base.filled (redo ++ base.end_entry) ∷ base.filled old_bytes ∷ numbered 4
    ∷ numbered 5 ∷ numbered 6 ∷ numbered 7 ∷ numbered 8 ∷ numbered 9 ∷ numbered 10 ∷ numbered 11 ∷ []
unfolding first_directory_record new_entry with_type piece
formatted = refl
