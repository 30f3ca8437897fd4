use Rattle.std.proofs.Common.{◌≡◌, ◌*◌, length, take}
use Rattle.std.specs.Prelude.{Some, Ok}
use Rattle.lif_model.specs.Tape.{Tape}
use Rattle.lif_model.specs.Redo.{Changes, redo_of, changed, settled}
use Rattle.lif_model.specs.Commit.{SettlesAs}
use Rattle.il_ports.specs.Stores.{GoesOn, RunLeaves}
use Rattle.lif_redo.specs.Writing.{AddsWrites}
use Rattle.lif_redo.proofs.steps.replay.Given as goal

abbrev pub invariant-loop-i : goal.invariant-loop-i
invariant-loop-i g l = record {
  goes_on : GoesOn {T = Unit {0}} (2 * l.i) (g.R.Records.view l.initial.records) (g.R.Records.view l.records) (Ok tt);
  writes : (done : Changes) × ((t : Tape) → (g.R.Records.view l.initial.records).tape ≡ Some t → done ≡ take l.i (redo_of t))
      × (length done ≡ l.i) × AddsWrites done (g.R.Records.view l.initial.records).transferred (g.R.Records.view l.records).transferred;
  tape : (t : Tape) → (g.R.Records.view l.initial.records).tape ≡ Some t → (g.R.Records.view l.records).tape ≡ Some (changed (take l.i (redo_of t)) t);
  moments : (t : Tape) → (g.R.Records.view l.initial.records).tape ≡ Some t → RunLeaves (g.R.Records.view l.initial.records) (g.R.Records.view l.records) (SettlesAs (settled t));
}
