-- Worked examples of volumes, computed by the checker, on tapes of twelve and sixteen records: the
-- gate is record 8 or record 12, and files begin at record 4 after a directory of two records.
use Rattle.std.proofs.Common.{◌≡◌, ◌++◌, ℕ, List, [], ◌∷◌, Some, None, true, false, refl, length, replicate, take, drop, codes, map}
use Rattle.std.specs.FinMap.{empty, insert}
use Rattle.lif_model.specs.Numbers.{two_at, four_at}
use Rattle.lif_model.specs.Tape.{Tape}
use Rattle.lif_model.specs.Shelf.{piece}
use Rattle.lif_model.specs.Gate.{is_open}
use Rattle.lif_model.specs.Directory.{name_of, entry_at, entries_of, slots_of}
use Rattle.lif_model.specs.Made.{in_four, new_entry, with_name, with_type, first_directory_record, fresh_header, file_length, filled, file_records}
use Rattle.lif_model.specs.declared.version.Version.TheVariants.{One}
use Rattle.lif_model.specs.Redo.{zeros, targets_record, is_valid}
use Rattle.lif_model.specs.Legal.{ends_before, have_other_names, is_legal, slot_named}
use Rattle.lif_model.specs.Pairs.{all_neighbours}
use Rattle.lif_model.specs.Volume.{redo_entry, is_adopted, Volume, volume_of, is_used, is_foreign_gated}
use Rattle.lif_model.proofs.Examples as base

-- ---- bytes that are written

-- after `format HPTAPE 16` of a tape
tape_header : fresh_header 512 (codes "HPTAPE") 2
    ≡ 0x80 ∷ 0x00 ∷ 0x48 ∷ 0x50 ∷ 0x54 ∷ 0x41 ∷ 0x50 ∷ 0x45 ∷ 0 ∷ 0 ∷ 0 ∷ 2 ∷ 0x10 ∷ 0x00 ∷ 0 ∷ 0 ∷ 0 ∷ 0 ∷ 0 ∷ 2 ∷ 0 ∷ 1 ∷ 0 ∷ 0
    ∷ 0 ∷ 0 ∷ 0 ∷ 2 ∷ 0 ∷ 0 ∷ 0 ∷ 1 ∷ 0 ∷ 0 ∷ 1 ∷ 0 ∷ replicate 220 0
unfolding fresh_header piece
tape_header = refl

-- bytes 24 to 35 of an HP 9114 disc: 77 tracks, 2 surfaces, 16 records
disc_geometry : take 12 (drop 24 (fresh_header 2464 (codes "HPDISC") 16)) ≡ 0 ∷ 0 ∷ 0 ∷ 0x4D ∷ 0 ∷ 0 ∷ 0 ∷ 2 ∷ 0 ∷ 0 ∷ 0 ∷ 0x10 ∷ []
unfolding fresh_header piece
disc_geometry = refl

-- the redo entry on a tape of 512 records
tape_redo_entry : redo_entry One 512
    ≡ 0x52 ∷ 0x45 ∷ 0x44 ∷ 0x4F ∷ 0x46 ∷ 0x49 ∷ 0x4C ∷ 0x45 ∷ 0x20 ∷ 0x20 ∷ 0xE0 ∷ 0xD0 ∷ 0 ∷ 0 ∷ 0x01 ∷ 0xFC ∷ 0 ∷ 0 ∷ 0 ∷ 4 ∷ 0 ∷ 0 ∷ 0 ∷ 0 ∷ 0 ∷ 0 ∷ 0x80 ∷ 0x01 ∷ 0 ∷ 0 ∷ 0 ∷ 0 ∷ []
unfolding new_entry
tape_redo_entry = refl

small_redo_entry : redo_entry One 12 ≡ base.redo_entry
unfolding new_entry
small_redo_entry = refl

-- slot 1 ends the directory, and the rest is zeros
formatted_directory : first_directory_record (redo_entry One 12) ≡ base.redo_entry ++ replicate 10 0 ++ 0xFF ∷ 0xFF ∷ replicate 212 0
unfolding first_directory_record new_entry with_type piece
formatted_directory = refl

large_numbers : in_four 0x12345678 ≡ 0x12 ∷ 0x34 ∷ 0x56 ∷ 0x78 ∷ []
large_numbers = refl

-- a file of no bytes has a record of zeros
empty_file : (file_length [] ≡ 1) × (file_records [] ≡ replicate 256 0 ∷ [])
unfolding piece
empty_file = (refl, refl)

file_lengths : (file_length (replicate 256 7) ≡ 1) × (file_length (replicate 257 7) ≡ 2)
file_lengths = (refl, refl)

short_file : filled (codes "AB") ≡ 65 ∷ 66 ∷ replicate 254 0
unfolding filled
short_file = refl

two_records : file_records (replicate 256 7 ++ 8 ∷ []) ≡ replicate 256 7 ∷ (8 ∷ replicate 255 0) ∷ []
unfolding piece
two_records = refl

-- ---- entries and tapes

-- type 0001, volume word 8001, numbers below 256
abbrev pub file : List ℕ → ℕ → ℕ → List ℕ
file name start count = name ++ 0 ∷ 1 ∷ 0 ∷ 0 ∷ 0 ∷ start ∷ 0 ∷ 0 ∷ 0 ∷ count ∷ 0 ∷ 0 ∷ 0 ∷ 0 ∷ 0 ∷ 0 ∷ 0x80 ∷ 0x01 ∷ 0 ∷ 0 ∷ 0 ∷ 0 ∷ []

abbrev pub purged : List ℕ → List ℕ
purged entry = with_type 0 entry

abbrev pub a_name : List ℕ
a_name = codes "A         "

abbrev pub b_name : List ℕ
b_name = codes "B         "

-- a purged entry whose numbers are all FFFF hex
abbrev pub junk : List ℕ
junk = replicate 10 0xFF ++ 0 ∷ 0 ∷ replicate 20 0xFF

-- twelve records with this beginning of a directory
abbrev tape : List ℕ → Tape
tape directory = base.tape_with directory

-- ---- kinds and names

-- a purged slot keeps all its bytes but two
purged_slot : purged (file a_name 4 1) ≡ a_name ++ 0 ∷ 0 ∷ 0 ∷ 0 ∷ 0 ∷ 4 ∷ 0 ∷ 0 ∷ 0 ∷ 1 ∷ 0 ∷ 0 ∷ 0 ∷ 0 ∷ 0 ∷ 0 ∷ 0x80 ∷ 0x01 ∷ 0 ∷ 0 ∷ 0 ∷ 0 ∷ []
unfolding with_type
purged_slot = refl

renamed_slot : with_name b_name (file a_name 4 1) ≡ file b_name 4 1
unfolding with_name
renamed_slot = refl

-- a purged slot is no file, also under its old name
found_slot : (slot_named (purged (file a_name 4 1) ∷ file a_name 5 1 ∷ []) a_name ≡ Some (file a_name 5 1)) × (slot_named (purged (file a_name 4 1) ∷ []) a_name ≡ None)
unfolding with_type two_at name_of
found_slot = (refl, refl)

-- ---- legal

legal_formatted : is_legal base.formatted ≡ true
unfolding four_at two_at entries_of entry_at name_of
legal_formatted = refl

-- no header, and so no volume
blank_tape : volume_of (replicate 12 base.blank) ≡ None
unfolding four_at two_at is_open
blank_tape = refl

-- a purged slot may hold any numbers
junk_is_legal : is_legal (tape (junk ++ base.redo_entry ++ base.end_entry)) ≡ true
unfolding four_at two_at entries_of entry_at name_of
junk_is_legal = refl

two_of_one_name : is_legal (tape (file a_name 4 1 ++ file a_name 5 1 ++ base.end_entry)) ≡ false
unfolding four_at two_at entries_of entry_at name_of
two_of_one_name = refl

-- the name of a purged slot may come again
purged_name_again : is_legal (tape (purged (file a_name 4 1) ++ file a_name 5 1 ++ base.end_entry)) ≡ true
unfolding four_at two_at entries_of entry_at name_of with_type
purged_name_again = refl

-- record 5 is in both
overlapping : is_legal (tape (file a_name 4 2 ++ file b_name 5 1 ++ base.end_entry)) ≡ false
unfolding four_at two_at entries_of entry_at name_of
overlapping = refl

-- a file ends where the next one begins; slots need not stand in the order of their extents
touching : is_legal (tape (file a_name 6 2 ++ file b_name 4 2 ++ base.end_entry)) ≡ true
unfolding four_at two_at entries_of entry_at name_of
touching = refl

-- an extent may end at the tape's end and not past it, and begins after the directory
last_record : (is_legal (tape (file a_name 11 1 ++ base.end_entry)) ≡ true) × (is_legal (tape (file a_name 11 2 ++ base.end_entry)) ≡ false)
    × (is_legal (tape (file a_name 3 1 ++ base.end_entry)) ≡ false)
unfolding four_at two_at entries_of entry_at name_of
last_record = (refl, refl, refl)

-- listed by their starts, each ends at or before the start of the next; the second of three reaches
-- into the third, and so does the first, which its neighbour does not meet
by_starts : (all_neighbours ends_before (file b_name 4 2 ∷ file a_name 6 2 ∷ file (codes "C         ") 9 1 ∷ []) ≡ true)
    × (all_neighbours ends_before (file b_name 4 2 ∷ file a_name 6 4 ∷ file (codes "C         ") 9 1 ∷ []) ≡ false)
    × (all_neighbours ends_before (file b_name 4 6 ∷ file a_name 5 1 ∷ file (codes "C         ") 9 1 ∷ []) ≡ false)
unfolding four_at two_at
by_starts = (refl, refl, refl)

-- and by their names, a name that comes again stands next to itself
by_names : (all_neighbours have_other_names (file a_name 6 2 ∷ file b_name 4 2 ∷ []) ≡ true) × (all_neighbours have_other_names (file a_name 6 2 ∷ file b_name 4 2 ∷ file b_name 9 1 ∷ []) ≡ false)
unfolding name_of
by_names = (refl, refl)

-- a live file of no records stands anywhere, also in another file or past the tape's end
no_records : is_legal (tape (file a_name 5 0 ++ file b_name 4 3 ++ file (codes "C         ") 200 0 ++ base.end_entry)) ≡ true
unfolding four_at two_at entries_of entry_at name_of
no_records = refl

-- the sum of start and length is not cut to 16 or 32 bits
long_sum : is_legal (tape (a_name ++ 0 ∷ 1 ∷ 0 ∷ 0 ∷ 0 ∷ 4 ∷ 0xFF ∷ 0xFF ∷ 0xFF ∷ 0xFE ∷ replicate 12 0 ++ base.end_entry)) ≡ false
unfolding four_at two_at entries_of entry_at name_of
long_sum = refl

-- a directory without an end mark: sixteen purged slots of zeros, and the same after a file
no_end_mark : (is_legal (tape []) ≡ true) × (length (slots_of (tape (file a_name 4 1))) ≡ 16)
unfolding four_at two_at entries_of entry_at name_of
no_end_mark = (refl, refl)

-- what comes after the end mark is no slot
behind_end_mark : slots_of (tape (file a_name 4 1 ++ base.end_entry ++ file b_name 4 1)) ≡ file a_name 4 1 ∷ []
unfolding four_at two_at entries_of entry_at
behind_end_mark = refl

-- ---- volumes

-- the redo file of an adopted volume is a slot and no file
formatted_volume : volume_of base.formatted ≡ Some (record { header = base.header; slots = base.redo_entry ∷ []; files = empty })
unfolding four_at two_at entries_of entry_at name_of is_open
formatted_volume = refl

-- a redo file in another place, and one of another type, adopt no volume: it is a file like any
-- other
not_adopted : (is_adopted 12 (file (codes "REDOFILE  ") 8 4 ∷ []) ≡ false) × (is_adopted 16 (base.redo_entry ∷ []) ≡ false) × (is_adopted 12 (base.redo_entry ∷ []) ≡ true)
unfolding four_at two_at name_of
not_adopted = (refl, refl, refl)

-- the records hold their numbers in each byte
abbrev pub numbered : ℕ → List ℕ
numbered k = replicate 256 k

abbrev with_files : List ℕ → Tape
with_files directory = base.header ∷ base.blank ∷ base.filled directory ∷ base.blank ∷ numbered 4 ∷ numbered 5 ∷ numbered 6 ∷ numbered 7 ∷ numbered 8 ∷ numbered 9 ∷ numbered 10 ∷ numbered 11 ∷ []

-- all bytes of all records of each live file
files_volume : volume_of (with_files (file a_name 5 2 ++ purged (file b_name 4 1) ++ base.redo_entry ++ base.end_entry))
    ≡ Some (record { header = base.header; slots = file a_name 5 2 ∷ purged (file b_name 4 1) ∷ base.redo_entry ∷ []; files = insert empty a_name (replicate 256 5 ++ replicate 256 6) })
unfolding four_at two_at entries_of entry_at name_of is_open with_type
files_volume = refl

-- without its type the redo file is a file of the volume
foreign_redo : volume_of (with_files (file (codes "REDOFILE  ") 8 1 ++ base.end_entry))
    ≡ Some (record { header = base.header; slots = file (codes "REDOFILE  ") 8 1 ∷ []; files = insert empty (codes "REDOFILE  ") (replicate 256 8) })
unfolding four_at two_at entries_of entry_at name_of is_open with_type
foreign_redo = refl

-- record 0, the directory and the records of A are used; those of a purged file and of the redo
-- file are not
used_records : map (is_used (with_files (file a_name 5 2 ++ purged (file b_name 4 1) ++ base.redo_entry ++ base.end_entry))) (0 ∷ 1 ∷ 2 ∷ 3 ∷ 4 ∷ 5 ∷ 6 ∷ 7 ∷ 8 ∷ [])
    ≡ true ∷ false ∷ true ∷ true ∷ false ∷ true ∷ true ∷ false ∷ false ∷ []
unfolding four_at two_at entries_of entry_at name_of with_type
used_records = refl

-- ---- an open redo of the directory: A and the redo file in place of the redo file alone

abbrev opened : List ℕ
opened = base.filled (codes "LIFREDO1 OPEN   ")

abbrev names : List ℕ → List ℕ
names bytes = base.filled (codes "LIFREDO1" ++ bytes)

abbrev with_redo : List ℕ → List ℕ → Tape
with_redo gate targets = base.header ∷ base.blank ∷ base.filled (base.redo_entry ++ base.end_entry) ∷ base.blank ∷ numbered 4 ∷ numbered 5 ∷ numbered 6 ∷ numbered 7
    ∷ gate ∷ targets ∷ base.filled (file a_name 4 1 ++ base.redo_entry ++ base.end_entry) ∷ base.blank ∷ []

abbrev settled_volume : Volume
settled_volume = record { header = base.header; slots = file a_name 4 1 ∷ base.redo_entry ∷ []; files = insert empty a_name (replicate 256 4) }

abbrev old_volume : Volume
old_volume = record { header = base.header; slots = base.redo_entry ∷ []; files = empty }

open_redo : volume_of (with_redo opened (names (0 ∷ 1 ∷ 0 ∷ 2 ∷ []))) ≡ Some settled_volume
unfolding four_at two_at entries_of entry_at name_of is_open is_valid targets_record piece zeros
open_redo = refl

-- the gate's sixteenth byte is another
shut_redo : volume_of (with_redo (base.filled (codes "LIFREDO1 OPEN  X")) (names (0 ∷ 1 ∷ 0 ∷ 2 ∷ []))) ≡ Some old_volume
unfolding four_at two_at entries_of entry_at name_of is_open is_valid targets_record piece zeros
shut_redo = refl

-- three targets
invalid_redo : volume_of (with_redo opened (names (0 ∷ 3 ∷ 0 ∷ 2 ∷ 0 ∷ 3 ∷ 0 ∷ 4 ∷ []))) ≡ Some old_volume
unfolding four_at two_at entries_of entry_at name_of is_open is_valid targets_record piece zeros
invalid_redo = refl

-- ---- a gate that is not ours

abbrev foreign : List ℕ → Tape
foreign directory = base.header ∷ base.blank ∷ base.filled directory ∷ base.blank ∷ numbered 4 ∷ numbered 5 ∷ numbered 6 ∷ numbered 7 ∷ opened ∷ names (0 ∷ 1 ∷ 0 ∷ 4 ∷ []) ∷ numbered 10 ∷ numbered 11 ∷ []

-- a file holds the open gate; a file does not reach it; the volume is adopted
gates : (is_foreign_gated (foreign (file a_name 4 6 ++ base.end_entry)) ≡ true) × (is_foreign_gated (foreign (file a_name 4 4 ++ base.end_entry)) ≡ false)
    × (is_foreign_gated (foreign (base.redo_entry ++ base.end_entry)) ≡ false)
unfolding four_at two_at entries_of entry_at name_of is_open is_valid targets_record piece zeros
gates = (refl, refl, refl)

-- the same file after a closed gate
gate_shut : is_foreign_gated (with_files (file a_name 4 6 ++ base.end_entry)) ≡ false
unfolding four_at two_at entries_of entry_at name_of is_open is_valid targets_record piece zeros
gate_shut = refl
