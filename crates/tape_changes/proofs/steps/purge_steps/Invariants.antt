use Rattle.std.proofs.Common.{◌≡◌, ◌≤◌, ◌++◌, map, drop, length}
use Rattle.std.specs.Vec.{vec_capacity}
use Rattle.tape_changes.specs.Changing.{AreFormed, said}
use Rattle.tape_changes.specs.Steps.{purges}
use Rattle.tape_changes.proofs.steps.purge_steps.Given as goal

abbrev pub invariant-names : goal.invariant-names
invariant-names l = record {
  said : map said l.steps.items ++ purges (drop l.place l.names) (drop l.place (map (λ text. text.now) l.texts)) ≡ purges l.names (map (λ text. text.now) l.texts);
  formed : AreFormed l.steps.items;
  room : length l.steps.items ≡ l.place;
  space : length l.names ≤ vec_capacity l.steps;
}
