-- Worked examples of batches, computed by the checker, on a tape of forty records: files begin at record 4, after a directory of
-- two records, and the redo file of version 2 begins at record 6.
use Rattle.std.proofs.Common.{◌≡◌, ◌++◌, ℕ, List, [], ◌∷◌, Some, None, true, false, refl, replicate}
use Rattle.std.specs.FinMap.{empty, insert, remove}
use Rattle.lif_model.specs.Numbers.{two_at, four_at}
use Rattle.lif_model.specs.Tape.{Tape}
use Rattle.lif_model.specs.Shelf.{piece}
use Rattle.lif_model.specs.Directory.{name_of, entry_at}
use Rattle.lif_model.specs.Made.{new_entry, with_name, with_type, filled}
use Rattle.lif_model.specs.declared.version.Version.TheVariants.{One, Two}
use Rattle.lif_model.specs.Volume.{redo_entry, Volume}
use Rattle.lif_model.specs.Fit.{At, NoSlot, NoRoom, fit_beside}
use Rattle.lif_model.specs.Parts.{Part, IsWellFormedPart, most_parts}
use Rattle.lif_model.specs.Parts as part
use Rattle.lif_model.specs.Apply.{Batch, Midway, before_parts, purged_by, after_part, refusal_of, volume_after, apply}
use Rattle.lif_model.specs.declared.refusal.Refusal.TheVariants.{NotLif, NoRedo, NeedsUpgrade, NoFile, Exists}
use Rattle.lif_model.specs.Writing.{with_entry, same_slots, parts_files, files_left, changes_of, written_by}
use Rattle.lif_model.proofs.Examples as base
use Rattle.lif_model.proofs.VolumeExamples.{file, a_name, b_name, numbered}
use Rattle.lif_model.proofs.VolumeExamples as slot

-- ---- parts

abbrev store : List ℕ → ℕ → Part
store name byte = part.Store name 1 (0 ∷ 0 ∷ 0 ∷ 0 ∷ []) (byte ∷ [])

abbrev redo : List ℕ
redo = redo_entry Two 40

abbrev with : List (List ℕ) → Volume
with slots = record { header = base.header; slots = slots; files = empty }

abbrev gone : List ℕ → List ℕ
gone entry = slot.purged entry

-- one letter, as a record
abbrev letter : ℕ → List ℕ
letter byte = byte ∷ replicate 255 0

-- a new file has a name of ten bytes and a type
formed : IsWellFormedPart (store a_name 65)
formed = (refl, λ e. cc, λ e. cc, refl)

-- and no type of a purged file
not_formed : IsWellFormedPart (part.Store a_name 0 (0 ∷ 0 ∷ 0 ∷ 0 ∷ []) []) → ⊥
not_formed is = is.1 refl

at_most : most_parts ≡ 31
at_most = refl

-- ---- the choice of place

-- a purged A in slot 0 is taken, where it is not barred; else the file goes before the redo entry
beside : (fit_beside 40 4 16 (gone (file a_name 4 1) ∷ redo ∷ []) [] 1 ≡ At 0 4) × (fit_beside 40 4 16 (gone (file a_name 4 1) ∷ redo ∷ []) (0 ∷ []) 1 ≡ At 1 5)
unfolding two_at four_at name_of with_type new_entry
beside = (refl, refl)

-- its records stay taken, and with all slots barred there is none
beside_all : (fit_beside 40 4 16 (gone (file a_name 4 1) ∷ redo ∷ []) (0 ∷ []) 2 ≡ NoRoom) × (fit_beside 40 4 2 (gone (file a_name 4 1) ∷ redo ∷ []) (0 ∷ []) 1 ≡ NoSlot)
    × (fit_beside 40 4 2 (gone (file a_name 4 1) ∷ redo ∷ []) (7 ∷ []) 1 ≡ At 0 4)
unfolding two_at four_at name_of with_type new_entry
beside_all = (refl, refl, refl)

-- ---- one part after the other

abbrev first : Midway
first = before_parts (with (redo ∷ []))

-- A is stored, and renamed to B
abbrev second : Midway
second = after_part 40 (store a_name 65) first

abbrev third : Midway
third = after_part 40 (part.Rename a_name b_name) second

after_store : second ≡ record { volume = record { header = base.header; slots = file a_name 4 1 ∷ redo ∷ []; files = insert empty a_name (letter 65) }; barred = [] }
unfolding two_at four_at name_of new_entry filled
after_store = refl

after_rename : (third.volume.slots ≡ file b_name 4 1 ∷ redo ∷ []) × (third.barred ≡ [])
unfolding two_at four_at name_of new_entry filled with_name
after_rename = (refl, refl)

-- a part that purges bars the slot
after_purge : ((after_part 40 (part.Purge b_name) third).volume.slots ≡ gone (file b_name 4 1) ∷ redo ∷ []) × ((after_part 40 (part.Purge b_name) third).barred ≡ 0 ∷ [])
unfolding two_at four_at name_of new_entry filled with_name with_type
after_purge = (refl, refl)

-- and no other part does
bars : (purged_by (part.Purge a_name) (with (file b_name 5 1 ∷ file a_name 4 1 ∷ redo ∷ [])) ≡ 1 ∷ []) × (purged_by (store a_name 65) (with (redo ∷ [])) ≡ [])
unfolding two_at four_at name_of new_entry
bars = (refl, refl)

-- ---- what a batch answers

abbrev four : List Part
four = store a_name 65 ∷ part.Rename a_name b_name ∷ store a_name 66 ∷ part.Purge b_name ∷ []

-- A stored and renamed, another A stored after it, and the first one purged
whole : (refusal_of 40 (Batch four) (Some (with (redo ∷ []))) ≡ None)
    × ((volume_after 40 (Batch four) (with (redo ∷ []))).slots ≡ gone (file b_name 4 1) ∷ file a_name 5 1 ∷ redo ∷ [])
unfolding two_at four_at name_of new_entry filled with_name with_type
whole = (refl, refl)

-- without parts nothing changes
empty_batch : apply 40 (Batch []) (Some (with (redo ∷ []))) ≡ (None, Some (with (redo ∷ [])))
unfolding two_at four_at name_of new_entry
empty_batch = refl

-- the redo file has to be of version 2, whatever the parts are; and one that is refused refuses all
abbrev stored_a : Volume
stored_a = record { header = base.header; slots = file a_name 4 1 ∷ redo ∷ []; files = insert empty a_name (letter 65) }

answers : (refusal_of 40 (Batch (part.Purge a_name ∷ [])) (Some (with (redo_entry One 40 ∷ []))) ≡ Some NeedsUpgrade)
    × (refusal_of 40 (Batch []) (Some (with [])) ≡ Some NoRedo) × (refusal_of 40 (Batch []) None ≡ Some NotLif)
    × (apply 40 (Batch (part.Purge a_name ∷ part.Purge a_name ∷ [])) (Some stored_a) ≡ (Some NoFile, Some stored_a))
unfolding two_at four_at name_of new_entry with_type
answers = (refl, refl, refl, refl)

-- the first part that is refused decides
first_refused : (refusal_of 40 (Batch (part.Purge b_name ∷ store a_name 66 ∷ [])) (Some stored_a) ≡ Some NoFile)
    × (refusal_of 40 (Batch (store a_name 66 ∷ part.Purge b_name ∷ [])) (Some stored_a) ≡ Some Exists)
    × (refusal_of 40 (Batch (store b_name 66 ∷ part.Purge b_name ∷ [])) (Some stored_a) ≡ None)
unfolding two_at four_at name_of new_entry with_type filled
first_refused = (refl, refl, refl)

-- A is purged: another A is no longer refused, but may not have its slot, nor its records
purged_stays : apply 40 (Batch (part.Purge a_name ∷ store a_name 66 ∷ [])) (Some stored_a)
    ≡ (None, Some (record { header = base.header; slots = gone (file a_name 4 1) ∷ file a_name 5 1 ∷ redo ∷ []; files = insert (remove stored_a.files a_name) a_name (letter 66) }))
unfolding two_at four_at name_of new_entry filled with_type
purged_stays = refl

-- ---- what it writes

abbrev tape : List ℕ → List ℕ → List ℕ → Tape
tape directory fourth fifth = base.header ∷ base.blank ∷ base.filled directory ∷ base.blank ∷ fourth ∷ fifth ∷ replicate 34 base.blank

-- the file that is purged again is not written
left : (parts_files 40 four first ≡ record { slot = 0; start = 4; bytes = 65 ∷ [] } ∷ record { slot = 1; start = 5; bytes = 66 ∷ [] } ∷ [])
    × (files_left 40 four (with (redo ∷ [])) ≡ record { slot = 1; start = 5; bytes = 66 ∷ [] } ∷ [])
unfolding two_at four_at name_of new_entry filled with_name with_type
left = (refl, refl)

written : written_by 40 (Batch four) (with (redo ∷ [])) (tape (redo ++ base.end_entry) (numbered 4) (numbered 5))
    ≡ tape (gone (file b_name 4 1) ++ file a_name 5 1 ++ redo ++ base.end_entry) (numbered 4) (letter 66)
unfolding two_at four_at name_of entry_at new_entry filled with_name with_type with_entry piece
written = refl

-- a rename and its undoing change no slot, and nothing is written
undone : changes_of 40 (Batch (part.Rename a_name b_name ∷ part.Rename b_name a_name ∷ [])) stored_a (tape (file a_name 4 1 ++ redo ++ base.end_entry) (letter 65) (numbered 5)) ≡ []
unfolding two_at four_at name_of entry_at new_entry filled with_name with_type with_entry piece
undone = refl

-- slots that differ in a byte are not the same, nor is one more
differ : (same_slots (file a_name 4 1 ∷ []) (file a_name 4 1 ∷ []) ≡ true) × (same_slots (file a_name 4 1 ∷ []) (file a_name 5 1 ∷ []) ≡ false)
    × (same_slots (file a_name 4 1 ∷ []) (file a_name 4 1 ∷ redo ∷ []) ≡ false)
differ = (refl, refl, refl)
