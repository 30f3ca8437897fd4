use Rattle.std.proofs.Common.{◌∙◌, ◌+◌, sym, arith}
use Rattle.lif_dir.specs.Entries.{entry_bytes}
use Rattle.tape_text.proofs.Steps.{purged_next}
use Rattle.tape_text.proofs.volume.purged_of.Goals as goal

pub slots-preserved : goal.slots-preserved
slots-preserved c = record {
  count = (λ i. c.slots.invariant.count i + c.purged_at-purged.ensures.count i)
      ∙ sym (purged_next c.args.slots.now.slots c.slots.place (entry_bytes c.entry.result.now) (omega arith) c.entry.ensures);
  few = omega arith;
}
