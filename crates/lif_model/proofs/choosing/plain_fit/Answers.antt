use Rattle.std.proofs.Common.{◌∙◌, ap, sym, refl, true}
use Rattle.lif_model.specs.Fit.{At}
use Rattle.lif_model.proofs.Plain.{fit_after, all_picked, fit_skips, fit_goes_on, fit_found}
use Rattle.lif_model.proofs.choosing.plain_fit.Goals as goal
use Rattle.lif_model.proofs.choosing.plain_fit.Goals.{then-is_purged+in-None, else-is_purged}

pub returns-in-Some : goal.returns-in-Some
returns-in-Some c = ap (At c.loop-i.i) c.in-Some.ensures.0
    ∙ fit_found c.args.n c.args.directory_end c.args.slots.now (λ i. true) c.args.count c.redo_place-redo.result c.loop-i.i _ _ c.loop-i.seen c.loop-i-test.true c.redo_place-redo.ensures.bound
    (sym c.is_purged.ensures ∙ c.if-is_purged.true) refl c.in-Some.ensures.1
    (ap (fit_after c.loop-i.seen c.args.n c.args.directory_end c.args.slots.now c.args.count) (all_picked _) ∙ c.loop-i.invariant)

pub loop-i-preserved : goal.loop-i-preserved
loop-i-preserved c = elim c.if-is_purged.branch [
  | then-is_purged+in-None w ↦ rw w.seen-is (sym (ap (fit_after true c.args.n c.args.directory_end c.args.slots.now c.args.count) (all_picked _))
      ∙ fit_goes_on c.args.n c.args.directory_end c.args.slots.now (λ i. true) c.args.count c.redo_place-redo.result c.loop-i.i _ _ c.loop-i.seen c.loop-i-test.true c.redo_place-redo.ensures.bound
      (sym c.is_purged.ensures ∙ w.if-is_purged.true) refl w.in-None.ensures
      (ap (fit_after c.loop-i.seen c.args.n c.args.directory_end c.args.slots.now c.args.count) (all_picked _) ∙ c.loop-i.invariant))
  | else-is_purged w ↦ rw w.seen-is (sym (ap (fit_after c.loop-i.seen c.args.n c.args.directory_end c.args.slots.now c.args.count) (all_picked _))
      ∙ fit_skips c.args.n c.args.directory_end c.args.slots.now (λ i. true) c.args.count c.redo_place-redo.result c.loop-i.i _ _ c.loop-i.seen c.loop-i-test.true c.redo_place-redo.ensures.bound
      (sym c.is_purged.ensures ∙ w.if-is_purged.false)
      (ap (fit_after c.loop-i.seen c.args.n c.args.directory_end c.args.slots.now c.args.count) (all_picked _) ∙ c.loop-i.invariant))
]
