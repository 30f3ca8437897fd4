use Rattle.std.proofs.Common.{◌≡◌, ◌++◌, ◌∷◌, [], ◌∙◌, sym, subst, rules, arith, List}
use Rattle.std.proofs.lemmas.Option.{get_or_from_slice_get}
use Rattle.lif_dir.specs.declared.entries.Slot.TheVariants.{End}
use Rattle.lif_plan.specs.declared.batches.Before.{Before}
use Rattle.lif_plan.specs.Batches.{Remembers}
use Rattle.lif_plan.proofs.Remembered.{remembers_more}
use Rattle.lif_plan.proofs.batches.BatchPlan.remember.Goals as goal

pub returns-then-not-knows-clause-remembered : goal.returns-then-not-knows-clause-remembered
returns-then-not-knows-clause-remembered c = λ slots long is.
    let before : Before = record { slot = c.args.slot; held = c.get-held.result.now } in
    let now = c.args.table.now.slots in
    let pushed : c.push.new.self.items ≡ c.args.self.now.befores.items ++ before ∷ [] = search rules in
    subst (λ (bs : List Before). Remembers slots now bs) (sym pushed)
    (remembers_more slots now c.args.self.now.befores.items before is (omega (arith, long, c.if-slot-self.true))
    (sym c.knows.ensures ∙ c.if-not-knows.true) (get_or_from_slice_get now c.args.slot c.get-held.result.now End c.get-held.ensures.slot) c.get-held.ensures.entry)
