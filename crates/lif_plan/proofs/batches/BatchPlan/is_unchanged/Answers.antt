use Rattle.std.proofs.Common.{◌≡◌, ◌==◌, ◌&&◌, ◌∙◌, Bool, true, length, map, ap, sym, arith}
use Rattle.std.specs.List.{list_all}
use Rattle.std.proofs.lemmas.Bool.{eq-eqb}
use Rattle.lif_dir.specs.Entries.{slot_bytes}
use Rattle.lif_plan.specs.Batches.{is_as_before}
use Rattle.lif_plan.proofs.Remembered.{unchanged_is}
use Rattle.lif_plan.proofs.batches.BatchPlan.is_unchanged.Goals as goal

pub returns-then-len-self : goal.returns-then-len-self
returns-then-len-self c = λ slots long is.
    let later = c.args.table.now.slots in
    let befores = c.args.self.now.befores.items in
    let as_many : (length later == length slots) ≡ true = eq-eqb (length later) (length slots) (omega (arith, long, c.if-len-self.true, c.len.ensures.count)) in
    c.hold_still.ensures ∙ sym (ap (λ (b : Bool). b && list_all (is_as_before (map slot_bytes later)) befores) as_many) ∙ unchanged_is slots later befores is
