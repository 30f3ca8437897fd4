use Rattle.std.proofs.Common.{◌≡◌, ◌++◌}
use Rattle.std.specs.Prelude.{Some, Ok}
use Rattle.lif_model.specs.Tape.{Tape}
use Rattle.lif_model.specs.Redo.{targets_in}
use Rattle.il_ports.specs.Stores.{GoesOn, IsQuiet}
use Rattle.lif_model.specs.Packing.{records_from}
use Rattle.lif_pack.specs.Moving.{numbers_from, numbered_from}
use Rattle.lif_pack.proofs.memory.Packer.carry.Given as goal

abbrev pub invariant-loop-i : goal.invariant-loop-i
invariant-loop-i g l = record {
  still : l.self.slots ≡ l.initial.self.slots;
  goes_on : GoesOn {T = Unit {0}} l.i (g.R.Records.view l.initial.records) (g.R.Records.view l.records) (Ok tt);
  quiet : IsQuiet (g.R.Records.view l.initial.records) (g.R.Records.view l.records);
  targets : targets_in l.self.changes.items ≡ targets_in l.initial.self.changes.items ++ numbers_from l.fn.to l.i;
  told : (t : Tape) → (g.R.Records.view l.initial.records).tape ≡ Some t
      → l.self.changes.items ≡ l.initial.self.changes.items ++ numbered_from l.fn.to (records_from t l.fn.from l.i);
}
