use Rattle.std.proofs.Common.{◌≡◌, ◌≤◌, ◌*◌, length, take, Some}
use Rattle.std.specs.Vec.{vec_capacity}
use Rattle.lif_model.specs.Shelf.{bytes_of}
use Rattle.lif_model.specs.Stops.{StandsStill}
use Rattle.lif_model.specs.Tape.{Tape}
use Rattle.tape.proofs.whole.read_tape.Given as goal

abbrev pub invariant-records : goal.invariant-records
invariant-records g l = record {
  content : (t : Tape) → (g.M.Medium.view l.fn.medium).tape ≡ Some t → l.bytes.items ≡ bytes_of (take l.n t);
  count : length l.bytes.items ≡ 256 * l.n;
  space : 256 * l.size ≤ vec_capacity l.bytes;
  tape : (g.M.Medium.view l.medium).tape ≡ (g.M.Medium.view l.fn.medium).tape;
  inside : (g.M.Medium.view l.medium).inside ≡ (g.M.Medium.view l.fn.medium).inside;
  shelf : (g.M.Medium.view l.medium).shelf ≡ (g.M.Medium.view l.fn.medium).shelf;
  size : (g.M.Medium.view l.medium).record_count ≡ (g.M.Medium.view l.fn.medium).record_count;
  since : StandsStill (g.M.Medium.view l.fn.medium).left_since (g.M.Medium.view l.medium).left_since;
  faults : (g.M.Medium.view l.medium).faults ≡ (g.M.Medium.view l.fn.medium).faults;
}
