use Rattle.std.proofs.Common.{◌≡◌, ◌<◌, ◌+◌, ◌∙◌, ℕ, suc, length, sym, ap, arith}
use Rattle.il_device.specs.Roles.{no_roles}
use Rattle.loop_model.specs.Reach.{is_reached}
use Rattle.trace_readers.proofs.TalkerLemmas.{along_reached, along_kept}
use Rattle.trace_readers.proofs.talkers.pass.Goals.{then-is_reached, else-is_reached}
use Rattle.trace_readers.proofs.talkers.pass.Goals as goal

pub loop-place-preserved : goal.loop-place-preserved
loop-place-preserved c =
    let below : c.loop-place.place < length c.loop-place.devices = omega arith in
    let one : suc c.loop-place.place ≡ c.loop-place.place + 1 = omega arith in
    let there = ap (λ (p : ℕ). is_reached 0 c.args.outcome p) one ∙ sym c.is_reached.ensures in
    elim c.if-is_reached.branch [
      | then-is_reached w ↦
          rw (w.devices-is, w.message-is)
          (along_reached c.args.outcome c.loop-place.place c.loop-place.message _ c.loop-place.devices _ no_roles _ below
          c.loop-place.invariant (there ∙ w.if-is_reached.true) w.after.ensures w.passed_on-message.ensures)
      | else-is_reached w ↦
          rw (w.devices-is, w.message-is)
          (along_kept c.args.outcome c.loop-place.place c.loop-place.message c.loop-place.devices _ no_roles below
          c.loop-place.invariant (there ∙ w.if-is_reached.false))
    ]
