use Rattle.std.proofs.Common.{◌≡◌, ◌<◌, ◌≤◌, ◌^◌, max, drop}
use Rattle.lif_model.specs.Fit.{greatest_end}
use Rattle.lif_model.proofs.choosing.greatest_end.Given as goal

abbrev pub invariant-loop-slot : goal.invariant-loop-slot
invariant-loop-slot l = record {
  value : max l.greatest (greatest_end l.low (drop l.slot-index l.slots)) ≡ greatest_end l.low l.slots;
  above : l.low ≤ l.greatest;
  bound : l.low < 2 ^ 33 → l.greatest < 2 ^ 33;
}
