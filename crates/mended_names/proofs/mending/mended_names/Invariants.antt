use Rattle.std.proofs.Common.{◌≡◌, ◌≤◌, ◌++◌, map, drop, length}
use Rattle.std.specs.Vec.{vec_capacity}
use Rattle.lif_dir.specs.Names.{new_name}
use Rattle.mended_names.specs.Mending.{mended_from}
use Rattle.mended_names.proofs.mending.mended_names.Given as goal

abbrev pub invariant-names : goal.invariant-names
invariant-names l = record {
  given : mended_from (map new_name l.names) l.names ≡ l.given.items ++ mended_from (map new_name l.names ++ l.given.items) (drop l.name-index l.names);
  size : length l.given.items ≡ l.name-index;
  room : length l.names ≤ vec_capacity l.given;
}
