use Rattle.std.proofs.Common.{◌∙◌, ◌+◌, sym, arith}
use Rattle.tape_text.proofs.Steps.{records_next}
use Rattle.tape_text.proofs.volume.records_held.Goals as goal

pub slots-preserved : goal.slots-preserved
slots-preserved c = record {
  count = (λ i. c.slots.invariant.count i + (c.from-held.ensures ∙ c.records_at.ensures) i)
      ∙ sym (records_next c.args.slots.now.slots c.slots.place c.get.result.now c.get.ensures.slot);
  few = omega arith;
  end = omega arith;
}
