use Rattle.std.proofs.Common.{◌≡◌, take}
use Rattle.std.specs.Prelude.{Some, Ok}
use Rattle.lif_model.specs.Tape.{Tape}
use Rattle.lif_model.specs.Commit.{IsShut, content_writes}
use Rattle.il_ports.specs.Stores.{GoesOn, RunLeaves}
use Rattle.lif_redo.specs.Writing.{AddsWrites}
use Rattle.lif_redo.specs.Filling.{IsFilled}
use Rattle.lif_redo.proofs.steps.fill.Given as goal

abbrev pub invariant-loop-i : goal.invariant-loop-i
invariant-loop-i g l = record {
  goes_on : GoesOn {T = Unit {0}} l.i (g.R.Records.view l.initial.records) (g.R.Records.view l.records) (Ok tt);
  writes : AddsWrites (content_writes l.fn.version (g.R.Records.view l.initial.records).record_count 0 (take l.i l.changes)) (g.R.Records.view l.initial.records).transferred (g.R.Records.view l.records).transferred;
  filled : (t : Tape) → (g.R.Records.view l.initial.records).tape ≡ Some t → (u : Tape) × ((g.R.Records.view l.records).tape ≡ Some u) × IsFilled l.fn.version l.i l.changes t u;
  moments : (t : Tape) → (g.R.Records.view l.initial.records).tape ≡ Some t → RunLeaves (g.R.Records.view l.initial.records) (g.R.Records.view l.records) (IsShut l.fn.version t);
}
