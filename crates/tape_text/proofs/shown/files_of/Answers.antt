use Rattle.std.proofs.Common.{◌∙◌, ◌+◌, sym, arith}
use Rattle.tape_text.proofs.Steps.{files_next}
use Rattle.tape_text.proofs.shown.files_of.Goals as goal

pub slots-preserved : goal.slots-preserved
slots-preserved c = record {
  count = (λ i. c.slots.invariant.count i + c.files_at-files.ensures.count i)
      ∙ sym (files_next c.args.all c.args.size c.args.slots.now.slots c.slots.place c.get.result.now c.get.ensures.slot);
  few = omega arith;
  end = omega arith;
}
