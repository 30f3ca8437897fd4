use Rattle.std.proofs.Common.{◌≡◌, ◌+◌, ◌-◌, ◌*◌, ◌++◌, length, map}
use Rattle.std.specs.Prelude.{Some, Ok}
use Rattle.lif_model.specs.Tape.{Tape}
use Rattle.il_ports.specs.Stores.{GoesOn, IsQuiet}
use Rattle.il_ports.specs.Transfers.{GoesOnBy}
use Rattle.lif_model.specs.Directory.{slots_from}
use Rattle.lif_dir.specs.Entries.{slot_from, slot_bytes, AreSlots}
use Rattle.lif_dir.proofs.reading.read_slots.Given as goal

-- what is still to come of the directory, after the slots that the table has
abbrev pub invariant-loop-n : goal.invariant-loop-n
invariant-loop-n g l = record {
  goes_on : GoesOn {T = Unit {0}} (l.n - l.header.start) (g.R.Records.view l.fn.records) (g.R.Records.view l.records) (Ok tt);
  quiet : IsQuiet (g.R.Records.view l.fn.records) (g.R.Records.view l.records);
  transfers : GoesOnBy (λ n. ⊥) (g.R.Records.view l.fn.records).transferred (g.R.Records.view l.records).transferred;
  room : l.table.room ≡ l.fn.table.room;
  shape : AreSlots (8 * (l.n - l.header.start)) (map slot_bytes l.table.slots);
  count : length l.table.slots ≡ 8 * (l.n - l.header.start);
  slots : (t : Tape) → (g.R.Records.view l.fn.records).tape ≡ Some t
      → map slot_from (slots_from t l.header.start l.header.length) ≡ l.table.slots ++ map slot_from (slots_from t l.n (l.header.start + l.header.length - l.n));
  bytes : (t : Tape) → (g.R.Records.view l.fn.records).tape ≡ Some t
      → slots_from t l.header.start l.header.length ≡ map slot_bytes l.table.slots ++ slots_from t l.n (l.header.start + l.header.length - l.n);
}
