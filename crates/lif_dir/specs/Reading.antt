-- Reading a directory (the LIF directory format: eight entries in a record, as far as the first of type FFFF hex).
use Rattle.std.specs.Prelude.{◌≡◌, ◌*◌, List, map, Some, OnOk, Result}
use Rattle.lif_model.specs.Tape.{Tape}
use Rattle.lif_model.specs.Header.{HeaderParts}
use Rattle.lif_model.specs.Directory.{slots_from}
use Rattle.il_ports.specs.declared.records.Trouble.{Trouble}
use Rattle.il_ports.specs.Stores.{RecordsView, GoesOn, IsQuiet}
use Rattle.il_ports.specs.Transfers.{AddsOnly}
use Rattle.lif_dir.specs.declared.entries.Slot.{Slot}
use Rattle.lif_dir.specs.Entries.{slot_from, slot_bytes, AreSlots}

-- the slots of the directory that this header tells of were read
pub record ReadsSlots {S T : Type 0} (header : HeaderParts) (v w : RecordsView S) (slots : List Slot) (answer : Result T Trouble) : Type 0 where
  -- what was read, where the records tell the tape: as slots, and as the bytes of each
  pub done : OnOk answer ((t : Tape) → v.tape ≡ Some t → slots ≡ map slot_from (slots_from t header.start header.length))
  pub bytes : OnOk answer ((t : Tape) → v.tape ≡ Some t → map slot_bytes slots ≡ slots_from t header.start header.length)
  -- whether the tape is told or not, these are slots of such a directory
  pub shape : OnOk answer (AreSlots (8 * header.length) (map slot_bytes slots))
  -- No record changes. No more records are read than the directory has; there are reads alone, and no call of `resume`.
  pub goes_on : GoesOn header.length v w answer
  pub quiet : IsQuiet v w
  pub transfers : AddsOnly (λ n. ⊥) v.transferred w.transferred answer
