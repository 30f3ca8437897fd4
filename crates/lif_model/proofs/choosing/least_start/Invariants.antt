use Rattle.std.proofs.Common.{◌≡◌, ◌≤◌, min, drop}
use Rattle.lif_model.specs.Fit.{least_start}
use Rattle.lif_model.proofs.choosing.least_start.Given as goal

abbrev pub invariant-loop-slot : goal.invariant-loop-slot
invariant-loop-slot l = record {
  value : min l.least (least_start l.high (drop l.slot-index l.slots)) ≡ least_start l.high l.slots;
  below : l.least ≤ l.high;
}
