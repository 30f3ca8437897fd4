use Rattle.std.proofs.Common.{◌-◌, ◌≡◌, ℕ}
use Rattle.il_ports.specs.Files.{byte_at, GrowsTo}
use Rattle.il_ports.proofs.memory_file.grow.Given as goal

abbrev pub invariant-zeros : goal.invariant-zeros
invariant-zeros l = record {
  same : (i : ℕ) → byte_at l.bytes.items i ≡ byte_at l.initial.bytes.items i;
  size : GrowsTo l.end l.initial.bytes.items l.bytes.items;
}

abbrev pub decreases-zeros : goal.decreases-zeros
decreases-zeros l = l.end - l.bytes.len
