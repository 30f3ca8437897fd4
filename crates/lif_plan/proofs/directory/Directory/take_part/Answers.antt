use Rattle.std.proofs.Common.{◌≡◌, ◌++◌, ◌∷◌, [], ◌∙◌, ℕ, List, length, sym, subst, map, arith}
use Rattle.std.specs.Prelude.{All, Option, Ok}
use Rattle.std.proofs.lemmas.List.{length-map}
use Rattle.lif_dir.specs.declared.change.Change.{Change}
use Rattle.lif_dir.specs.declared.entries.Slot.{Slot}
use Rattle.lif_dir.specs.Changes.{slots_with}
use Rattle.lif_dir.specs.Entries.{slot_bytes}
use Rattle.lif_dir.specs.Batches.{part_of}
use Rattle.lif_dir.proofs.Changing.{changed_bytes}
use Rattle.lif_plan.specs.declared.batches.Before.{Before}
use Rattle.lif_plan.specs.Parts.{LeavesAll, purged_at, MakesPart, IsPartPlan}
use Rattle.lif_plan.specs.Batches.{file_of, file_at, IsFileWithin, Remembers}
use Rattle.lif_plan.proofs.BatchPlans.{so_far_same, so_far_more, so_far_is}
use Rattle.lif_plan.proofs.Remembered.{change_keeps}
use Rattle.lif_plan.proofs.directory.Directory.take_part.Goals as goal
use Rattle.lif_plan.proofs.directory.Directory.take_part.Goals.{After-change}

told : (P : List ℕ → Option Change → Type 0) {bars bars_too : List ℕ} {o o_too : Option Change} → bars ≡ bars_too → o ≡ o_too → P bars o → P bars_too o_too
told P {bars} {bars_too} {o} {o_too} a b is = subst (λ (xs : List ℕ). P xs o_too) a (subst (λ (x : Option Change). P bars x) b is)

pub returns-in_default-clause-takes : goal.returns-in_default-clause-takes
returns-in_default-clause-takes c = λ slots parts so_far.
    let later = map slot_bytes c.args.self.now.table.slots in
    let p = part_of c.args.bytes.now c.args.part.now in
    let leaves : LeavesAll c.args.size p c.args.plan.now.barred.items c.args.header.now later =
    told (λ bars o. IsPartPlan c.args.size p bars c.args.header.now later (Ok o)) c.deref.ensures.value c.in_default.is c.in_ok-change.ensures.plan in
    so_far_same c.args.size c.args.header.now slots parts later c.args.plan.now.changes.items (map (file_of c.args.bytes.now) c.args.plan.now.files.items) c.args.plan.now.barred.items so_far p leaves

plan : (c : After-change) → MakesPart c.args.size (part_of c.args.bytes.now c.args.part.now) c.args.plan.now.barred.items c.args.header.now (map slot_bytes c.args.self.now.table.slots) c.in-Some.change
plan c = told (λ bars o. IsPartPlan c.args.size (part_of c.args.bytes.now c.args.part.now) bars c.args.header.now (map slot_bytes c.args.self.now.table.slots) (Ok o))
    c.deref.ensures.value c.in-Some.is c.in_ok-change.ensures.plan

pub returns-clause-takes : goal.returns-clause-takes
returns-clause-takes c = λ slots parts so_far.
    let later = map slot_bytes c.args.self.now.table.slots in
    let bytes = c.args.bytes.now in
    let p = part_of bytes c.args.part.now in
    let change = c.in-Some.change in
    let same_changes = c.remember-2.ensures.changes ∙ c.remember.ensures.changes in
    let same_files = c.remember-2.ensures.files ∙ c.remember.ensures.files in
    let same_barred = c.remember-2.ensures.barred ∙ c.remember.ensures.barred in
    so_far_is (sym ((λ i. map slot_bytes (c.change.ensures.changed i).slots) ∙ changed_bytes change c.args.self.now.table.slots))
    (sym (c.add.ensures.changes ∙ (λ i. (same_changes i).items ++ change ∷ [])))
    (sym (c.add.ensures.files bytes ∙ (λ i. map (file_of bytes) (same_files i).items ++ file_at p change)))
    (sym (c.add.ensures.barred bytes ∙ (λ i. (same_barred i).items ++ purged_at p change.slot)))
    (so_far_more c.args.size c.args.header.now slots parts later c.args.plan.now.changes.items (map (file_of bytes) c.args.plan.now.files.items) c.args.plan.now.barred.items so_far p change (plan c))

pub returns-clause-remembers : goal.returns-clause-remembers
returns-clause-remembers c = λ slots long is.
    let later = c.args.self.now.table.slots in
    let change = c.in-Some.change in
    let befores : List Before = c.remember-2.new.self.befores.items in
    let first = c.remember.ensures.remembered slots long is in
    let second = c.remember-2.ensures.remembered slots (long ∙ sym c.remember.ensures.count) first in
    let kept : Remembers slots (slots_with change later) befores =
    change_keeps slots later befores change second (omega (arith, (plan c).fits.place, length-map later slot_bytes))
    (λ lt. c.remember-2.ensures.others change.slot (c.remember.ensures.slot (omega (arith, lt, long))))
    (λ lt. c.remember-2.ensures.slot (omega (arith, lt, long, c.remember.ensures.count))) in
    subst (λ (xs : List Slot). Remembers slots xs c.add.new.self.befores.items) (sym (λ i. (c.change.ensures.changed i).slots))
    (subst (λ (bs : List Before). Remembers slots (slots_with change later) bs) (sym (λ i. (c.add.ensures.befores i).items)) kept)

pub returns-clause-within : goal.returns-clause-within
returns-clause-within c = λ all.
    let count = length c.args.bytes.now in
    c.add.ensures.within count c.requires.part (subst (All (IsFileWithin count)) (sym (λ i. ((c.remember-2.ensures.files ∙ c.remember.ensures.files) i).items)) all)
