use Rattle.std.proofs.Common.{sym, ap, ◌∙◌}
use Rattle.lif_model.specs.Legal.{is_live}
use Rattle.lif_dir.specs.Entries.{slot_bytes}
use Rattle.lif_dir.proofs.Indexing.{no_slot}
use Rattle.lif_dir.proofs.entries.Slot.is_live.Goals as goal

pub returns-in-End : goal.returns-in-End
returns-in-End c = sym (ap (λ s. is_live (slot_bytes s)) c.in-End.is ∙ no_slot)
