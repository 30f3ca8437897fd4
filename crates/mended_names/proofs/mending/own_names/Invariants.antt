use Rattle.std.proofs.Common.{◌≡◌, ◌≤◌, map, take, length}
use Rattle.std.specs.Vec.{vec_capacity}
use Rattle.lif_dir.specs.Names.{new_name}
use Rattle.mended_names.proofs.mending.own_names.Given as goal

abbrev pub invariant-names : goal.invariant-names
invariant-names l = record {
  own : l.own.items ≡ map new_name (take l.name-index l.names);
  size : length l.own.items ≡ l.name-index;
  room : length l.names ≤ vec_capacity l.own;
}
