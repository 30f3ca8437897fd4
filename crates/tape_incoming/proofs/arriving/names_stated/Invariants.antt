use Rattle.std.proofs.Common.{◌≡◌, ◌≤◌, ◌++◌, drop, length, map}
use Rattle.std.specs.Vec.{vec_capacity}
use Rattle.tape_incoming.specs.Incoming.{names_stated}
use Rattle.tape_incoming.proofs.arriving.names_stated.Given as goal

abbrev pub invariant-paths : goal.invariant-paths
invariant-paths l = record {
  stated : l.names.items ++ names_stated (drop l.path-index (map (λ path. path.now) l.paths)) ≡ names_stated (map (λ path. path.now) l.paths);
  room : length l.names.items ≤ l.path-index;
  space : length l.paths ≤ vec_capacity l.names;
}
