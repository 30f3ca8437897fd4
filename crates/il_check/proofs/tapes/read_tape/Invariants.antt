use Rattle.std.proofs.Common.{◌≡◌, ◌≤◌, Some, length, take}
use Rattle.std.specs.Vec.{vec_capacity}
use Rattle.lif_model.specs.Tape.{Tape}
use Rattle.il_check.specs.Whole.{StaysSo}
use Rattle.il_check.proofs.tapes.read_tape.Given as goal

abbrev pub invariant-records : goal.invariant-records
invariant-records g l = record {
  so_far : length l.tape.items ≡ l.n;
  told : (t : Tape) → (g.M.Medium.view l.fn.medium).tape ≡ Some t → l.tape.items ≡ take l.n t;
  room : (g.M.Medium.view l.fn.medium).record_count ≤ vec_capacity l.tape;
  stays : StaysSo (g.M.Medium.view l.fn.medium) (g.M.Medium.view l.medium);
  faults : (g.M.Medium.view l.medium).faults ≡ (g.M.Medium.view l.fn.medium).faults;
}
