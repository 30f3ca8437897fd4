use Rattle.std.proofs.Common.{◌≡◌, ◌≤◌, length, take}
use Rattle.lif_model.specs.Printed.{trimmed}
use Rattle.lif_dir.proofs.names.without_end_spaces.Given as goal

abbrev pub invariant-spaces : goal.invariant-spaces
invariant-spaces l = record {
  text : trimmed (take l.end l.bytes) ≡ trimmed l.bytes;
  size : l.end ≤ length l.bytes;
}

abbrev pub decreases-spaces : goal.decreases-spaces
decreases-spaces l = l.end
