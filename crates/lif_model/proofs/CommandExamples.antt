-- Worked examples of the choice of place and of the commands, computed by the checker. On a tape of
-- twelve records the gate is record 8, on one of sixteen record 12.
use Rattle.std.proofs.Common.{◌≡◌, ◌++◌, ℕ, List, [], ◌∷◌, Option, Some, None, true, refl, replicate, codes}
use Rattle.std.specs.FinMap.{empty, insert, remove}
use Rattle.lif_model.specs.Numbers.{two_at, four_at}
use Rattle.lif_model.specs.Directory.{name_of}
use Rattle.lif_model.specs.Header.{is_readable, label_of, capacity_of}
use Rattle.lif_model.specs.Made.{new_entry, with_type, with_extent, fresh_header, filled}
use Rattle.lif_model.specs.Shelf.{piece}
use Rattle.lif_model.specs.declared.version.Version.TheVariants.{One, Two}
use Rattle.lif_model.specs.Volume.{redo_entry, upgraded_entry, is_adopted_with, Volume}
use Rattle.lif_model.specs.Fit.{Place, At, NoSlot, NoRoom, fit, candidates}
use Rattle.lif_model.specs.Apply.{VolumeCommand, Dir, Fetch, Store, Rename, Purge, Adopt, Upgrade, Format, first_met, store_checks, refusal_of, stored, apply}
use Rattle.lif_model.specs.declared.refusal.Refusal.{Refusal}
use Rattle.lif_model.specs.declared.refusal.Refusal.TheVariants as refusal
use Rattle.lif_model.specs.declared.refusal.Refusal.TheVariants.{NotLif, NoRedo, Protected, NoFile, Exists, InUse}
use Rattle.lif_model.proofs.Examples as base
use Rattle.lif_model.proofs.VolumeExamples.{file, purged, junk, a_name, b_name}

-- ---- the choice of place: the directory ends at record 4 and has room for sixteen slots

abbrev redo : List ℕ
redo = base.redo_entry

abbrev c_name : List ℕ
c_name = codes "C         "

abbrev place : List (List ℕ) → ℕ → Place
place slots count = fit 12 4 16 slots count

-- the redo entry's own slot, after the directory
first_file : place (redo ∷ []) 1 ≡ At 0 4
unfolding two_at four_at name_of
first_file = refl

-- up to the gate, and no further
to_the_gate : (place (redo ∷ []) 4 ≡ At 0 4) × (place (redo ∷ []) 5 ≡ NoRoom)
unfolding two_at four_at name_of
to_the_gate = (refl, refl)

-- A and B, one record each, are purged, and C takes the rest: the two free records are of two slots
abbrev holes : List (List ℕ)
holes = purged (file a_name 4 1) ∷ purged (file b_name 5 1) ∷ file c_name 6 2 ∷ redo ∷ []

hole_of_one : (place holes 1 ≡ At 0 4) × (place holes 2 ≡ NoRoom)
unfolding two_at four_at name_of with_type
hole_of_one = (refl, refl)

-- the first purged slot is too small, and the second is not
second_hole : place (purged (file a_name 4 1) ∷ purged (file b_name 5 2) ∷ file c_name 7 1 ∷ redo ∷ []) 2 ≡ At 1 5
unfolding two_at four_at name_of with_type
second_hole = refl

-- the numbers of a purged slot count as well: no candidate after it has room, and none before it
-- ends past its start
junk_counts : (place (junk ∷ redo ∷ []) 1 ≡ At 0 4) × (place (purged (file a_name 6 9) ∷ redo ∷ []) 5 ≡ NoRoom)
    × (candidates 16 (purged (file a_name 6 9) ∷ redo ∷ []) ≡ 0 ∷ 1 ∷ []) × (place (file b_name 4 1 ∷ purged (file a_name 6 9) ∷ file c_name 5 1 ∷ redo ∷ []) 1 ≡ NoRoom)
unfolding two_at four_at name_of with_type
junk_counts = (refl, refl, refl, refl)

-- a full directory without a purged slot, one whose redo entry is not last, and one with a purged
-- slot after it
no_slot : (fit 12 4 2 (file a_name 4 1 ∷ redo ∷ []) 1 ≡ NoSlot) × (place (redo ∷ file a_name 4 1 ∷ []) 1 ≡ NoSlot) × (place (redo ∷ purged (file a_name 4 1) ∷ []) 1 ≡ NoSlot)
unfolding two_at four_at name_of with_type
no_slot = (refl, refl, refl)

-- a full directory with a purged slot
full_with_hole : fit 12 4 2 (purged (file a_name 4 1) ∷ redo ∷ []) 4 ≡ At 0 4
unfolding two_at four_at name_of with_type
full_with_hole = refl

-- ---- commands on the volume that `format` makes

abbrev volume : List (List ℕ) → Option Volume
volume slots = Some (record { header = base.header; slots = slots; files = empty })

abbrev store : List ℕ → List ℕ → VolumeCommand
store name bytes = Store name 1 (0 ∷ 0 ∷ 0 ∷ 0 ∷ []) bytes

-- one byte as A: the redo entry moves on
stored_first : apply 12 (store a_name (65 ∷ [])) (volume (redo ∷ []))
    ≡ (None, Some (record { header = base.header; slots = file a_name 4 1 ∷ redo ∷ []; files = insert empty a_name (65 ∷ replicate 255 0) }))
unfolding two_at four_at name_of new_entry filled
stored_first = refl

-- into a purged slot: the whole entry is new, and no other moves
stored_in_hole : apply 12 (store a_name (65 ∷ [])) (volume (purged (file b_name 4 2) ∷ redo ∷ []))
    ≡ (None, Some (record { header = base.header; slots = file a_name 4 1 ∷ redo ∷ []; files = insert empty a_name (65 ∷ replicate 255 0) }))
unfolding two_at four_at name_of new_entry filled with_type
stored_in_hole = refl

purged_file : apply 12 (Purge a_name) (volume (file a_name 4 1 ∷ file b_name 5 1 ∷ redo ∷ []))
    ≡ (None, Some (record { header = base.header; slots = purged (file a_name 4 1) ∷ file b_name 5 1 ∷ redo ∷ []; files = remove empty a_name }))
unfolding two_at four_at name_of with_type
purged_file = refl

-- what a command refuses, or nothing
abbrev answer : VolumeCommand → List (List ℕ) → Option Refusal
answer command slots = refusal_of 12 command (volume slots)

abbrev redo_name : List ℕ
redo_name = codes "REDOFILE  "

answers_without_a : (answer (Fetch b_name) (redo ∷ []) ≡ Some NoFile) × (answer (store a_name (65 ∷ [])) (redo ∷ []) ≡ None) × (answer (Purge a_name) (redo ∷ []) ≡ Some NoFile)
unfolding two_at four_at name_of
answers_without_a = (refl, refl, refl)

-- with A on the volume
answers_with_a : (answer (store a_name (65 ∷ [])) (file a_name 4 1 ∷ redo ∷ []) ≡ Some Exists) × (answer (Rename a_name a_name) (file a_name 4 1 ∷ redo ∷ []) ≡ None)
    × (answer (Rename a_name redo_name) (file a_name 4 1 ∷ redo ∷ []) ≡ Some Protected) × (answer (Rename b_name c_name) (file a_name 4 1 ∷ redo ∷ []) ≡ Some NoFile)
    × (answer (Purge redo_name) (file a_name 4 1 ∷ redo ∷ []) ≡ Some Protected) × (answer (Fetch redo_name) (file a_name 4 1 ∷ redo ∷ []) ≡ Some Protected) × (answer (Purge a_name) (file a_name 4 1 ∷ redo ∷ []) ≡ None)
unfolding two_at four_at name_of
answers_with_a = (refl, refl, refl, refl, refl, refl, refl)

-- the new name is that of another file
rename_onto : answer (Rename a_name b_name) (file a_name 4 1 ∷ file b_name 5 1 ∷ redo ∷ []) ≡ Some Exists
unfolding two_at four_at name_of
rename_onto = refl

-- a file renamed to its own name stays
renamed_to_itself : apply 12 (Rename a_name a_name) (volume (file a_name 4 1 ∷ redo ∷ [])) ≡ (None, volume (file a_name 4 1 ∷ redo ∷ []))
unfolding two_at four_at name_of
renamed_to_itself = refl

-- a purged A may be stored again; no other test comes before Exists
stored_again : (answer (store a_name (65 ∷ [])) (purged (file a_name 4 1) ∷ redo ∷ []) ≡ None) × (answer (store a_name (replicate 1281 0)) (file a_name 4 1 ∷ redo ∷ []) ≡ Some Exists)
unfolding two_at four_at name_of with_type
stored_again = (refl, refl)

-- at a place that is handed in, as where several commands change the directory at once: the tests
-- of a store look at it last, and the file goes there
abbrev with_a : Volume
with_a = record { header = base.header; slots = file a_name 4 1 ∷ redo ∷ []; files = empty }

handed_in : (first_met (store_checks 12 with_a b_name (At 1 6)) ≡ None) × (first_met (store_checks 12 with_a b_name NoSlot) ≡ Some refusal.NoSlot)
    × (first_met (store_checks 12 with_a b_name NoRoom) ≡ Some refusal.NoRoom) × (first_met (store_checks 12 with_a a_name NoRoom) ≡ Some Exists)
    × ((stored with_a b_name 1 (replicate 4 0) (66 ∷ []) (At 1 6)).slots ≡ file a_name 4 1 ∷ file b_name 6 1 ∷ redo ∷ [])
unfolding two_at four_at name_of new_entry
handed_in = (refl, refl, refl, refl, refl)

-- ---- a directory of one record, eight slots, on sixteen records: files from record 3 on

abbrev small : List (List ℕ) → Option Volume
small slots = Some (record { header = fresh_header 16 (codes "HPTAPE") 1; slots = slots; files = empty })

abbrev numbered : ℕ → List ℕ
numbered k = codes "F" ++ 48 ∷ [] ++ k ∷ [] ++ codes "       "

abbrev seven : List (List ℕ)
seven = file (numbered 1) 3 1 ∷ file (numbered 2) 4 1 ∷ file (numbered 3) 5 1 ∷ file (numbered 4) 6 1 ∷ file (numbered 5) 7 1 ∷ file (numbered 6) 8 1 ∷ file (numbered 7) 9 1 ∷ []

abbrev redo_of_sixteen : List ℕ
redo_of_sixteen = redo_entry One 16

-- the eighth file finds no slot, and after a purge that of the purged file, at its record
eighth_file : (refusal_of 16 (store (numbered 8) (88 ∷ [])) (small (seven ++ redo_of_sixteen ∷ [])) ≡ Some refusal.NoSlot)
    × (fit 16 3 8 (file (numbered 1) 3 1 ∷ purged (file (numbered 2) 4 1) ∷ file (numbered 3) 5 1 ∷ file (numbered 4) 6 1 ∷ file (numbered 5) 7 1 ∷ file (numbered 6) 8 1 ∷ file (numbered 7) 9 1 ∷ redo_of_sixteen ∷ []) 1 ≡ At 1 4)
unfolding two_at four_at name_of fresh_header piece new_entry with_type
eighth_file = (refl, refl)

-- the seventh file takes the redo entry's slot and the next record, where the directory has two
-- records
seventh_file : fit 16 4 16 (file (numbered 1) 4 1 ∷ file (numbered 2) 5 1 ∷ file (numbered 3) 6 1 ∷ file (numbered 4) 7 1 ∷ file (numbered 5) 8 1 ∷ file (numbered 6) 9 1 ∷ redo_of_sixteen ∷ []) 1 ≡ At 6 10
unfolding two_at four_at name_of new_entry
seventh_file = refl

no_room : refusal_of 16 (store (numbered 8) (replicate 2305 0)) (small (redo_of_sixteen ∷ [])) ≡ Some refusal.NoRoom
unfolding two_at four_at name_of fresh_header piece new_entry
no_room = refl

-- ---- volumes without a redo file

not_adopted : (answer Dir (file a_name 4 1 ∷ []) ≡ None) × (answer (Fetch a_name) (file a_name 4 1 ∷ []) ≡ None) × (answer (store b_name []) (file a_name 4 1 ∷ []) ≡ Some NoRedo)
    × (answer (Rename a_name redo_name) (file a_name 4 1 ∷ []) ≡ Some NoRedo) × (answer (Purge b_name) (file a_name 4 1 ∷ []) ≡ Some NoRedo)
unfolding two_at four_at name_of
not_adopted = (refl, refl, refl, refl, refl)

-- a live file that is named REDOFILE but is no redo file can be fetched
foreign_redo : (answer (Fetch (codes "REDOFILE  ")) (file (codes "REDOFILE  ") 4 1 ∷ []) ≡ None) × (answer Adopt (file (codes "REDOFILE  ") 4 1 ∷ []) ≡ Some Exists)
unfolding two_at four_at name_of
foreign_redo = (refl, refl)

adopted : apply 12 Adopt (volume (file a_name 4 1 ∷ [])) ≡ (None, volume (file a_name 4 1 ∷ redo ∷ []))
unfolding two_at four_at name_of new_entry
adopted = refl

-- an adopted volume stays as it is
adopted_again : apply 12 Adopt (volume (redo ∷ file a_name 4 1 ∷ [])) ≡ (None, volume (redo ∷ file a_name 4 1 ∷ []))
unfolding two_at four_at name_of
adopted_again = refl

-- a live file in the last record; a purged one there; one without records
in_use : (answer Adopt (file a_name 4 2 ∷ file (codes "LAST      ") 11 1 ∷ []) ≡ Some InUse) × (answer (Format (codes "HPTAPE") 8) (file a_name 4 2 ∷ file (codes "LAST      ") 11 1 ∷ []) ≡ Some InUse)
    × (answer Adopt (purged (file a_name 11 1) ∷ []) ≡ None) × (answer Adopt (file a_name 11 0 ∷ []) ≡ None) × (answer Adopt (file a_name 4 4 ∷ []) ≡ None) × (answer Adopt (file a_name 4 5 ∷ []) ≡ Some InUse)
unfolding two_at four_at name_of with_type
in_use = (refl, refl, refl, refl, refl, refl)

-- an adopted volume can be formatted, and a full one cannot be adopted
formats_adopted : (answer (Format (codes "HPTAPE") 8) (redo ∷ []) ≡ None) × (answer Adopt (replicate 16 (purged (file a_name 4 1))) ≡ Some refusal.NoSlot)
unfolding two_at four_at name_of with_type
formats_adopted = (refl, refl)

-- ---- upgrade, on fifty records: the redo file of version 1 begins at record 46, that of version 2 at record 16

abbrev fifty : ℕ → List (List ℕ) → Option Volume
fifty count slots = Some (record { header = fresh_header 50 (codes "HPTAPE") count; slots = slots; files = empty })

abbrev redo_in_fifty : List ℕ
redo_in_fifty = redo_entry One 50

-- a redo entry with a date, another volume word and an implementation field keeps all but its place
-- and that field
upgraded_redo_entry : upgraded_entry 50 (codes "REDOFILE  " ++ 0xE0 ∷ 0xD0 ∷ 0 ∷ 0 ∷ 0 ∷ 46 ∷ 0 ∷ 0 ∷ 0 ∷ 4 ∷ 0x85 ∷ 0x11 ∷ 0x27 ∷ 0x15 ∷ 0x20 ∷ 0x59 ∷ 0x80 ∷ 0x02 ∷ 1 ∷ 2 ∷ 3 ∷ 4 ∷ [])
    ≡ codes "REDOFILE  " ++ 0xE0 ∷ 0xD0 ∷ 0 ∷ 0 ∷ 0 ∷ 16 ∷ 0 ∷ 0 ∷ 0 ∷ 34 ∷ 0x85 ∷ 0x11 ∷ 0x27 ∷ 0x15 ∷ 0x20 ∷ 0x59 ∷ 0x80 ∷ 0x02 ∷ 0 ∷ 0 ∷ 0 ∷ 0 ∷ []
unfolding with_extent
upgraded_redo_entry = refl

-- a file may end where the new redo file begins, and a purged slot may hold any numbers
upgraded_fifty : apply 50 Upgrade (fifty 2 (file a_name 4 12 ∷ purged (file b_name 40 1) ∷ redo_in_fifty ∷ []))
    ≡ (None, fifty 2 (file a_name 4 12 ∷ purged (file b_name 40 1) ∷ redo_entry Two 50 ∷ []))
unfolding two_at four_at name_of fresh_header piece new_entry with_type with_extent
upgraded_fifty = refl

-- to upgrade again changes nothing
upgraded_again : (apply 50 Upgrade (fifty 2 (file a_name 4 12 ∷ redo_entry Two 50 ∷ [])) ≡ (None, fifty 2 (file a_name 4 12 ∷ redo_entry Two 50 ∷ [])))
    × (is_adopted_with 50 Two (redo_entry Two 50 ∷ []) ≡ true)
unfolding two_at four_at name_of fresh_header piece new_entry
upgraded_again = (refl, refl)

-- a file in the first of the new records; one without records there; a directory that ends there,
-- and one that ends before
past_redo : (refusal_of 50 Upgrade (fifty 2 (file a_name 4 13 ∷ redo_in_fifty ∷ [])) ≡ Some InUse) × (refusal_of 50 Upgrade (fifty 2 (redo_in_fifty ∷ file a_name 45 1 ∷ [])) ≡ Some InUse)
    × (refusal_of 50 Upgrade (fifty 2 (file a_name 40 0 ∷ redo_in_fifty ∷ [])) ≡ None)
    × (refusal_of 50 Upgrade (fifty 15 (redo_in_fifty ∷ [])) ≡ Some InUse) × (refusal_of 50 Upgrade (fifty 14 (redo_in_fifty ∷ [])) ≡ None)
unfolding two_at four_at name_of fresh_header piece new_entry
past_redo = (refl, refl, refl, refl, refl)

-- without a redo file, and where a tape is too short for one of version 2
no_upgrade : (refusal_of 50 Upgrade (fifty 2 (file a_name 4 13 ∷ [])) ≡ Some NoRedo) × (refusal_of 50 Upgrade None ≡ Some NotLif) × (answer Upgrade (redo ∷ []) ≡ Some InUse)
unfolding two_at four_at name_of fresh_header piece new_entry
no_upgrade = (refl, refl, refl)

-- the redo entry of version 2 counts as after its own place: its start bounds the place, and not
-- the gate, record 46
bounded_by_redo : (fit 50 4 16 (redo_entry Two 50 ∷ []) 12 ≡ At 0 4) × (fit 50 4 16 (redo_entry Two 50 ∷ []) 13 ≡ NoRoom) × (fit 50 4 16 (redo_in_fifty ∷ []) 42 ≡ At 0 4)
unfolding two_at four_at name_of new_entry
bounded_by_redo = (refl, refl, refl)

-- ---- tapes without a volume

no_volume : (apply 12 Dir None ≡ (Some NotLif, None)) × (refusal_of 12 Adopt None ≡ Some NotLif) × (refusal_of 12 (store a_name []) None ≡ Some NotLif)
no_volume = (refl, refl, refl)

formatted : apply 12 (Format (codes "HPTAPE") 16) None ≡ (None, Some (record { header = fresh_header 12 (codes "HPTAPE") 2; slots = redo ∷ []; files = empty }))
unfolding new_entry
formatted = refl

-- the fresh header read back
formatted_header : (is_readable 12 (fresh_header 12 (codes "HPTAPE") 2) ≡ true) × (label_of (fresh_header 12 (codes "HPTAPE") 2) ≡ codes "HPTAPE") × (capacity_of (fresh_header 12 (codes "HPTAPE") 2) ≡ 16)
unfolding fresh_header piece two_at four_at label_of
formatted_header = (refl, refl, refl)

-- on a tape of twelve records a directory of six records ends at the gate, and one of seven would
-- end after it
longest_directory : (refusal_of 12 (Format (codes "HPTAPE") 48) None ≡ None) × (refusal_of 12 (Format (codes "HPTAPE") 49) None ≡ Some refusal.NoRoom) × (refusal_of 512 (Format (codes "HPTAPE") 4048) None ≡ None)
longest_directory = (refl, refl, refl)
