use Rattle.std.proofs.Common.{◌≤◌, length}
use Rattle.std.specs.List.{All}
use Rattle.il_ring.specs.Rings.{MayStand}
use Rattle.il_rows.proofs.runs.twenty_nine.Given as goal

abbrev pub invariant-quiets : goal.invariant-quiets
invariant-quiets g l = record {
  count : length l.devices.items ≤ l.counter;
  stand : All (λ b. MayStand ((g.dyn-1.0.entry b.vtable).1.state b.value)) l.devices.items;
}
