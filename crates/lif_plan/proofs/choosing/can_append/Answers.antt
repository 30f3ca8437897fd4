use Rattle.std.proofs.Common.{map, arith}
use Rattle.std.proofs.lemmas.List.{length-map}
use Rattle.lif_dir.specs.Entries.{slot_bytes}
use Rattle.lif_plan.proofs.Walk.{append_is}
use Rattle.lif_plan.proofs.choosing.can_append.Goals as goal

pub returns-then-redo-count : goal.returns-then-redo-count
returns-then-redo-count c =
    append_is c.args.capacity c.len-count.result c.args.redo (map slot_bytes c.args.slots.now.slots) c.requires.redo (omega (arith, length-map c.args.slots.now.slots slot_bytes)) c.if-redo-count.true
