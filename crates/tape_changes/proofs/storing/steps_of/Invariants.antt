use Rattle.std.proofs.Common.{◌≡◌, ◌≤◌, length, map, take}
use Rattle.std.specs.Vec.{vec_capacity}
use Rattle.tape_changes.specs.Changing.{AreFormed, said}
use Rattle.tape_changes.specs.Storing.{ready_step}
use Rattle.tape_changes.proofs.storing.steps_of.Given as goal

abbrev pub invariant-files : goal.invariant-files
invariant-files l = record {
  said : map said l.steps.items ≡ map ready_step (take l.ready-index l.files);
  formed : AreFormed l.steps.items;
  room : length l.steps.items ≡ l.ready-index;
  space : length l.files ≤ vec_capacity l.steps;
}
