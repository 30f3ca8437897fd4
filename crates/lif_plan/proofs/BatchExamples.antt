-- Worked examples of what is planned for batches, computed by the checker, on a tape of 44 records, whose redo file of version 2
-- begins at record 10. Files begin at record 4.
use Rattle.std.proofs.Common.{◌≡◌, ◌+◌, ◌*◌, ◌++◌, ℕ, List, [], ◌∷◌, true, false, refl, ap, arith, codes}
use Rattle.std.specs.Prelude.{Some, None, Ok, Err, replicate}
use Rattle.std.specs.FinMap.{empty}
use Rattle.lif_model.specs.Numbers.{two_at, four_at}
use Rattle.lif_model.specs.Header.{HeaderParts}
use Rattle.lif_model.specs.Directory.{name_of, date_of, implementation_of}
use Rattle.lif_model.specs.Made.{with_type}
use Rattle.lif_model.specs.declared.version.Version.TheVariants.{Two}
use Rattle.lif_model.specs.Volume.{Volume}
use Rattle.lif_model.specs.Fit.{At, fit_beside, fit_beside_in}
use Rattle.lif_model.specs.Parts.{Part}
use Rattle.lif_model.specs.Parts as part
use Rattle.lif_model.specs.declared.refusal.Refusal.TheVariants as refusal
use Rattle.lif_model.proofs.Examples as base
use Rattle.lif_model.proofs.VolumeExamples.{file, purged, a_name, b_name}
use Rattle.lif_dir.specs.declared.change.Change.{Change}
use Rattle.lif_dir.specs.Entries.{entry_from, entry_bytes, slot_from}
use Rattle.lif_dir.specs.Changes.{bytes_with, AreInTurn, all_writes}
use Rattle.lif_plan.specs.declared.batches.PlannedFile.{PlannedFile}
use Rattle.lif_plan.specs.declared.batches.Before.{Before}
use Rattle.lif_plan.specs.Parts.{place_beside, part_refusal, RefusesPart, LeavesAll, purged_at, PlacesPart, MakesPart, IsPartPlan}
use Rattle.lif_plan.specs.Batches.{file_of, file_at, PlansBatch, IsBatchPlan, IsFileWithin, LiesBetween, IsRemembered, is_as_before, is_left, Recalls, Remembers, SoFar, TakesPart, TakesAll}
use Rattle.lif_plan.proofs.Planning.{of_slots, leaves, makes}
use Rattle.lif_plan.proofs.PartPlans.{refuses_part, rename_part, purge_part}
use Rattle.lif_plan.proofs.BatchPlans.{so_far_none, so_far_more, batch_plan, needs_upgrade}
use Rattle.lif_plan.proofs.Remembered.{remembers_none}

abbrev header : HeaderParts
header = record { label = codes "HPTAPE"; start = 2; length = 2 }

abbrev redo : List ℕ
redo = codes "REDOFILE  " ++ 0xE0 ∷ 0xD0 ∷ 0 ∷ 0 ∷ 0 ∷ 10 ∷ 0 ∷ 0 ∷ 0 ∷ 34 ∷ replicate 6 0 ++ 0x80 ∷ 0x01 ∷ replicate 4 0

abbrev a_file : List ℕ
a_file = file a_name 4 1

abbrev gone : List ℕ
gone = purged a_file

abbrev with : List (List ℕ) → Volume
with slots = record { header = base.header; slots = slots; files = empty }

abbrev store : List ℕ → Part
store name = part.Store name 1 (replicate 4 0) (65 ∷ [])

-- ---- one part

-- a purged slot, and the same slot where it is barred
places : (place_beside 44 [] (store b_name) (with (gone ∷ redo ∷ [])) ≡ At 0 4) × (place_beside 44 (0 ∷ []) (store b_name) (with (gone ∷ redo ∷ [])) ≡ At 1 5)
unfolding four_at two_at name_of with_type
places = (refl, refl)

refusals : (part_refusal 44 [] (part.Purge b_name) (with (a_file ∷ redo ∷ [])) ≡ Some refusal.NoFile) × (part_refusal 44 [] (part.Purge a_name) (with (a_file ∷ redo ∷ [])) ≡ None)
unfolding four_at two_at name_of
refusals = (refl, refl)

refused : IsPartPlan 44 (part.Purge b_name) [] header (a_file ∷ redo ∷ []) (Err refusal.NoFile)
unfolding four_at two_at name_of
refused = refuses_part refl (λ v is. refl)

-- where the directory is not kept it is no plan
not_refused : RefusesPart 44 (part.Purge b_name) [] header (a_file ∷ redo ∷ []) refusal.NotLif → ⊥
not_refused plan = let kept : false ≡ true = plan.known in cc

-- a rename to the own name
nothing : IsPartPlan 44 (part.Rename a_name a_name) [] header (a_file ∷ redo ∷ []) (Ok None)
unfolding four_at two_at name_of
nothing = rename_part 44 [] header (a_file ∷ redo ∷ []) a_name a_name (Ok None) (leaves (refl, refl) (λ v is. refl) (λ v is u. refl) (λ v is. refl))

not_nothing : LeavesAll 44 (part.Rename a_name []) [] header (a_file ∷ redo ∷ []) → ⊥
not_nothing plan = absurd (omega (arith, plan.formed.1))

bars : (purged_at (part.Purge a_name) 3 ≡ 3 ∷ []) × (purged_at (store a_name) 3 ≡ [])
bars = (refl, refl)

abbrev without_a : Change
without_a = record { version = Two; slot = 0; entry = entry_from gone; next = None; ended = false }

purging : IsPartPlan 44 (part.Purge a_name) [] header (a_file ∷ redo ∷ []) (Ok (Some without_a))
unfolding four_at two_at name_of with_type date_of implementation_of
purging = purge_part 44 [] header (a_file ∷ redo ∷ []) a_name (Ok (Some without_a))
    (makes without_a refl (record { place = omega arith; one = omega arith; within = omega arith; kind = λ no. absurd (omega (arith, no)); next = tt; end_within = λ no. cc; end_past = λ no. cc; end_there = λ more room. absurd (omega (arith, more)) }) tt
    (λ v is. refl) (λ v is. refl) (λ v is u begins. refl) (λ v is. refl))

-- a slot that is not there
not_purging : MakesPart 44 (part.Purge a_name) [] header [] (record without_a { slot = 1 }) → ⊥
not_purging plan = absurd (omega (arith, plan.fits.place))

-- a new file in the second slot
abbrev with_b : Change
with_b = record { version = Two; slot = 1; entry = entry_from (file b_name 5 1); next = Some (entry_from redo); ended = true }

placed : PlacesPart 44 (store b_name) (0 ∷ []) header (gone ∷ redo ∷ []) with_b × PlacesPart 44 (part.Purge b_name) [] header (redo ∷ []) with_b
unfolding four_at two_at name_of with_type
placed = (
  record {
    chosen = of_slots (λ v. fit_beside_in 44 v (0 ∷ []) 1 ≡ At 1 5) (λ v is. ap (λ (h : HeaderParts). fit_beside 44 (h.start + h.length) (8 * h.length) (gone ∷ redo ∷ []) (0 ∷ []) 1) is.told);
    count = refl;
    low = omega arith;
    high = omega arith;
  },
  tt,
)

-- not in the directory
not_placed : PlacesPart 44 (store b_name) [] header (redo ∷ []) (record with_b { entry = entry_from (file b_name 3 1) }) → ⊥
unfolding four_at two_at name_of
not_placed is = absurd (omega (arith, is.low))

new_files : (file_at (store b_name) with_b ≡ record { slot = 1; start = 5; bytes = 65 ∷ [] } ∷ []) × (file_at (part.Purge b_name) with_b ≡ [])
unfolding four_at two_at
new_files = (refl, refl)

-- ---- changes, files, and what is remembered

in_turn : AreInTurn 16 (a_file ∷ redo ∷ []) (without_a ∷ []) (gone ∷ redo ∷ []) × AreInTurn 16 (redo ∷ []) [] (redo ∷ [])
unfolding four_at two_at name_of with_type date_of implementation_of
in_turn = ((record { place = omega arith; one = omega arith; within = omega arith; kind = λ no. absurd (omega (arith, no)); next = tt; end_within = λ no. cc; end_past = λ no. cc; end_there = λ more room. absurd (omega (arith, more)) }, refl), refl)

not_in_turn : AreInTurn 0 (a_file ∷ redo ∷ []) (without_a ∷ []) (gone ∷ redo ∷ []) → ⊥
not_in_turn turn = absurd (omega (arith, turn.0.within))

writes : all_writes 2 (without_a ∷ without_a ∷ []) [] ≡ (0, entry_bytes (entry_from gone)) ∷ (0, entry_bytes (entry_from gone)) ∷ []
writes = refl

abbrev b_planned : PlannedFile
b_planned = record { slot = 1; start = 5; from = 2; length = 1 }

of_batch : file_of (65 ∷ 66 ∷ 67 ∷ 68 ∷ []) b_planned ≡ record { slot = 1; start = 5; bytes = 67 ∷ [] }
of_batch = refl

-- two bytes of so many from the third one on, and a file of one record on a tape of 44
within : IsFileWithin 4 b_planned × (IsFileWithin 2 b_planned → ⊥)
within = (omega arith, λ is. absurd (omega (arith, is)))

between : LiesBetween 44 header (record { slot = 1; start = 5; bytes = 67 ∷ [] }) × (LiesBetween 44 header (record { slot = 1; start = 10; bytes = 67 ∷ [] }) → ⊥)
between = ((omega arith, omega arith), λ is. absurd (omega (arith, is.1)))

-- its slot is live, purged, or not there
left : (is_left (gone ∷ file b_name 5 1 ∷ redo ∷ []) b_planned ≡ true) × (is_left (redo ∷ gone ∷ []) b_planned ≡ false) × (is_left (redo ∷ []) b_planned ≡ false)
unfolding four_at two_at with_type
left = (refl, refl, refl)

abbrev a_before : Before
a_before = record { slot = 0; held = slot_from a_file }

known : IsRemembered (a_before ∷ []) 0 × (IsRemembered (a_before ∷ []) 1 → ⊥)
known = (refl, λ is. cc)

as_before : (is_as_before (a_file ∷ redo ∷ []) a_before ≡ true) × (is_as_before (gone ∷ redo ∷ []) a_before ≡ false)
unfolding four_at two_at name_of with_type date_of implementation_of
as_before = (refl, refl)

recalled : Recalls (slot_from a_file ∷ []) a_before × (Recalls [] a_before → ⊥)
unfolding four_at two_at name_of
recalled = (record { within = omega arith; held = refl; entry = refl }, λ is. absurd (omega (arith, is.within)))

remembered : Remembers (slot_from a_file ∷ []) (slot_from a_file ∷ []) []
remembered = remembers_none (slot_from a_file ∷ []) [] refl

-- fewer slots than before
not_remembered : Remembers (slot_from a_file ∷ []) [] [] → ⊥
not_remembered is = absurd (omega (arith, is.longer))

-- ---- a batch

none_so_far : SoFar 44 header (a_file ∷ redo ∷ []) [] (a_file ∷ redo ∷ []) [] [] []
unfolding four_at two_at name_of
none_so_far = so_far_none 44 header (a_file ∷ redo ∷ []) refl

so_far : SoFar 44 header (a_file ∷ redo ∷ []) (part.Purge a_name ∷ []) (bytes_with without_a (a_file ∷ redo ∷ [])) (without_a ∷ []) [] (0 ∷ [])
so_far = so_far_more 44 header (a_file ∷ redo ∷ []) [] (a_file ∷ redo ∷ []) [] [] [] none_so_far (part.Purge a_name) without_a purging

-- not with the slots as they were
not_so_far : SoFar 44 header (redo ∷ []) [] [] [] [] [] → ⊥
not_so_far is = let no : redo ∷ [] ≡ [] = is.in_turn in cc

-- one part more
takes : TakesPart 44 header (a_file ∷ redo ∷ []) [] (part.Purge a_name) [] (a_file ∷ redo ∷ []) (bytes_with without_a (a_file ∷ redo ∷ [])) (without_a ∷ []) [] (0 ∷ []) (Ok tt)
    × TakesPart 44 header (a_file ∷ redo ∷ []) [] (part.Purge b_name) [] (a_file ∷ redo ∷ []) [] [] [] [] (Err refusal.NoFile)
takes = (so_far, refused)

not_takes : TakesAll 44 header (redo ∷ []) [] (redo ∷ []) [] [] [] (Err refusal.NotLif) → ⊥
not_takes plan = let kept : false ≡ true = plan.known in cc

-- an empty batch leaves all slots
planned : IsBatchPlan 44 [] header (redo ∷ []) (redo ∷ []) [] [] (Ok true)
unfolding four_at two_at name_of
planned = batch_plan 44 [] header (redo ∷ []) (redo ∷ []) [] [] [] [] true refl (omega arith) (so_far_none 44 header (redo ∷ []) refl) refl refl

not_planned : (PlansBatch 44 [] header (redo ∷ []) (redo ∷ []) [] [] false → ⊥) × (IsBatchPlan 44 [] header (redo ∷ []) (redo ∷ []) [] [] (Err refusal.NotLif) → ⊥)
not_planned = ((λ plan. let no : false ≡ true = plan.same in cc), (λ plan. let kept : false ≡ true = plan.known in cc))

-- and is refused on a volume that is adopted with version 1
old_redo : IsBatchPlan 12 (part.Purge a_name ∷ []) header (base.redo_entry ∷ []) (base.redo_entry ∷ []) [] [] (Err refusal.NeedsUpgrade)
unfolding four_at two_at name_of
old_redo = needs_upgrade 12 (part.Purge a_name ∷ []) header (base.redo_entry ∷ []) refl
