use Rattle.std.proofs.Common.{map}
use Rattle.lif_dir.specs.Entries.{slot_bytes}
use Rattle.lif_pack.specs.Steps.{ArePlaced}
use Rattle.lif_pack.proofs.placed.placed_front.Given as goal

abbrev pub invariant-loop-k : goal.invariant-loop-k
invariant-loop-k l = ArePlaced l.fn.end l.k l.place (map slot_bytes l.slots.slots)
