use Rattle.std.proofs.Common.{◌≡◌, ◌≤◌, All, length, map, take}
use Rattle.std.specs.Vec.{vec_capacity}
use Rattle.tape_changes.specs.Storing.{IsReadyFile, incoming_step, ready_step}
use Rattle.tape_changes.proofs.storing.ready_files.Given as goal

abbrev pub invariant-files : goal.invariant-files
invariant-files l = record {
  steps : map ready_step l.all.items ≡ map (incoming_step l.over l.quiet) (take l.incoming-index l.files);
  ready : All IsReadyFile l.all.items;
  room : length l.all.items ≡ l.incoming-index;
  space : length l.files ≤ vec_capacity l.all;
}
