use Rattle.std.proofs.Common.{◌≡◌, ◌<◌, ◌+◌, ◌*◌}
use Rattle.std.specs.Prelude.{Some, Ok}
use Rattle.lif_model.specs.Tape.{Tape}
use Rattle.lif_model.specs.Redo.{IsSettled}
use Rattle.il_ports.specs.Stores.{GoesOn, RunLeaves}
use Rattle.lif_pack.specs.Moving.{IsUnderWay, IsMarkedAs, IsMidway}
use Rattle.lif_model.specs.Writing.{entry_from}
use Rattle.lif_pack.proofs.memory.Packer.move_rest.Given as goal

abbrev pub invariant-loop-i : goal.invariant-loop-i
invariant-loop-i g l = record {
  still : l.self.slots ≡ l.initial.self.slots;
  goes_on : GoesOn {T = Unit {0}} (99 * l.i) (g.R.Records.view l.initial.records) (g.R.Records.view l.records) (Ok tt);
  settled : (t : Tape) → (g.R.Records.view l.records).tape ≡ Some t → IsSettled t;
  moves : (t : Tape) → (g.R.Records.view l.initial.records).tape ≡ Some t → (0 < l.file.moved → IsMarkedAs l.file.slot l.file.moved (entry_from t l.fn.first l.fn.redo))
      → (x : Tape) × ((g.R.Records.view l.records).tape ≡ Some x) × IsMidway l.fn.first l.file.place l.fn.redo l.file (l.file.moved + 30 * l.i) t x;
  stops : (t : Tape) → (g.R.Records.view l.initial.records).tape ≡ Some t → (0 < l.file.moved → IsMarkedAs l.file.slot l.file.moved (entry_from t l.fn.first l.fn.redo))
      → RunLeaves (g.R.Records.view l.initial.records) (g.R.Records.view l.records) (IsUnderWay l.fn.first l.file.place l.fn.redo l.file t);
}
