-- What is read of a tape in memory.
use Rattle.std.specs.Prelude.{◌≡◌, ◌*◌, List, true, length, map, Result, Ok, Err}
use Rattle.lif_model.specs.Tape.{Tape, record_at}
use Rattle.lif_model.specs.Header.{HeaderParts, header_of, is_readable}
use Rattle.lif_model.specs.Directory.{slots_of}
use Rattle.lif_header.specs.Reading.{IsFault}
use Rattle.lif_header.specs.declared.header.HeaderFault.{HeaderFault}
use Rattle.lif_dir.specs.declared.entries.Slot.{Slot}
use Rattle.lif_dir.specs.Entries.{slot_bytes, AreSlots}

-- record 0 can be read as a header, and these are its parts and the slots of its directory
pub record IsDirectoryRead (t : Tape) (header : HeaderParts) (slots : List Slot) : Type 0 where
  pub told : header ≡ header_of (record_at t 0)
  pub readable : is_readable (length t) (record_at t 0) ≡ true
  pub bytes : map slot_bytes slots ≡ slots_of t
  pub whole : length (record_at t 0) ≡ 256
  pub shape : AreSlots (8 * header.length) (map slot_bytes slots)

-- the directory, or the first test that record 0 fails
abbrev pub IsReadAs : Tape → List Slot → Result HeaderParts HeaderFault → Type 0
IsReadAs t slots (Ok header) = IsDirectoryRead t header slots
IsReadAs t slots (Err fault) = IsFault (length t) (record_at t 0) fault
