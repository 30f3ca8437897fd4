use Rattle.std.proofs.Common.{◌≡◌, take}
use Rattle.std.specs.Prelude.{Some, Ok}
use Rattle.lif_model.specs.Tape.{Tape}
use Rattle.lif_model.specs.Redo.{changed}
use Rattle.lif_model.specs.Commit.{SettlesAs}
use Rattle.il_ports.specs.Stores.{GoesOn, RunLeaves}
use Rattle.lif_redo.specs.Writing.{AddsWrites}
use Rattle.lif_redo.proofs.steps.finish.Given as goal

abbrev pub invariant-loop-change : goal.invariant-loop-change
invariant-loop-change g l = record {
  goes_on : GoesOn {T = Unit {0}} l.change-index (g.R.Records.view l.initial.records) (g.R.Records.view l.records) (Ok tt);
  writes : AddsWrites (take l.change-index l.changes) (g.R.Records.view l.initial.records).transferred (g.R.Records.view l.records).transferred;
  tape : (t : Tape) → (g.R.Records.view l.initial.records).tape ≡ Some t → (g.R.Records.view l.records).tape ≡ Some (changed (take l.change-index l.changes) t);
  moments : (t : Tape) → (g.R.Records.view l.initial.records).tape ≡ Some t → RunLeaves (g.R.Records.view l.initial.records) (g.R.Records.view l.records) (SettlesAs (changed l.changes t));
}
