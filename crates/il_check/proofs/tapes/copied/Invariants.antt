use Rattle.std.proofs.Common.{◌≡◌, ◌≤◌, length, take}
use Rattle.std.specs.Vec.{vec_capacity}
use Rattle.il_check.proofs.tapes.copied.Given as goal

abbrev pub invariant-loop-record : goal.invariant-loop-record
invariant-loop-record l = record {
  so_far : l.copy.items ≡ take l.record-index l.tape;
  room : length l.tape ≤ vec_capacity l.copy;
}
