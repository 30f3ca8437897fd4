use Rattle.std.proofs.Common.{◌∙◌, map, sym, arith}
use Rattle.std.proofs.lemmas.List.{length-map}
use Rattle.std.proofs.lemmas.Bool.{le-ltb}
use Rattle.lif_dir.specs.Entries.{slot_bytes}
use Rattle.lif_plan.proofs.Remembered.{dead_outside}
use Rattle.lif_plan.proofs.batches.is_live_in.Goals as goal

pub returns-else-slot-len : goal.returns-else-slot-len
returns-else-slot-len c = le-ltb c.args.slot c.len.result (omega (arith, c.if-slot-len.false))
    ∙ sym (dead_outside (map slot_bytes c.args.table.now.slots) c.args.slot (omega (arith, c.if-slot-len.false, c.len.ensures.count, length-map c.args.table.now.slots slot_bytes)))
