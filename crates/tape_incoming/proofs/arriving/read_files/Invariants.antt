use Rattle.std.proofs.Common.{◌≡◌, ◌≤◌, ◌+◌, All, drop, length, map}
use Rattle.std.specs.Vec.{vec_capacity}
use Rattle.tape_changes.specs.Storing.{IsStorable}
use Rattle.tape_incoming.specs.Incoming.{names_stated}
use Rattle.tape_incoming.proofs.OneByOne.{Joins}
use Rattle.tape_incoming.proofs.arriving.read_files.Given as goal

abbrev pub invariant-paths : goal.invariant-paths
invariant-paths g l = record {
  joins : Joins g.F.TapeFile.view g.I.Images.view (map (λ path. path.now) l.paths) (drop l.path-index (map (λ path. path.now) l.paths)) l.given.items (drop l.place l.given.items) l.fn.host l.host l.files.items l.refused.items;
  within : l.place ≤ length l.given.items;
  left : length (drop l.place l.given.items) ≡ length (names_stated (drop l.path-index (map (λ path. path.now) l.paths)));
  storable : All IsStorable l.files.items;
  count : length l.files.items + length l.refused.items ≡ l.path-index;
  space : length l.paths ≤ vec_capacity l.files;
  place_for : length l.paths ≤ vec_capacity l.refused;
}
