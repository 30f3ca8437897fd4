use Rattle.std.proofs.Common.{◌≡◌, nat_le, map, drop}
use Rattle.lif_model.specs.Fit.{least_start}
use Rattle.lif_dir.specs.Entries.{slot_bytes}
use Rattle.lif_plan.proofs.choosing.is_free.Given as goal

abbrev pub invariant-loop-k : goal.invariant-loop-k
invariant-loop-k l = nat_le l.end (least_start l.gate (drop l.k (map slot_bytes l.slots.slots))) ≡ nat_le l.end (least_start l.gate (drop l.from (map slot_bytes l.slots.slots)))
