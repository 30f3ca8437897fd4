-- What a host keeps in memory: a directory, and the bytes of a file.
use Rattle.std.specs.Prelude.{◌≡◌, ℕ, List, map, take, Some}
use Rattle.std.specs.FinMap.{get}
use Rattle.lif_model.specs.Header.{HeaderParts, header_of}
use Rattle.lif_model.specs.Directory.{type_of, implementation_of}
use Rattle.lif_model.specs.Legal.{slot_named}
use Rattle.lif_model.specs.Tape.{Tape}
use Rattle.lif_model.specs.Volume.{Volume}
use Rattle.lif_dir.specs.Entries.{slot_bytes, slot_from}
use Rattle.lif_dir.specs.declared.entries.Slot.{Slot}
use Rattle.lif_volume.specs.declared.volume.Fetched.{Fetched}
use Rattle.host_model.specs.HostStates.{HostState, volume_at}
use Rattle.il_host.specs.declared.file_buffer.FileBuffer.{FileBuffer}

-- If contracts can see the tape, it has a volume; these are what record 0 of it says, and its slots, with their dates and with those of purged files.
abbrev pub TellsKept : HostState → HeaderParts → List Slot → Type 0
TellsKept s header slots = (t : Tape) → s.tape ≡ Some t
    → (v : Volume) × (volume_at s ≡ Some v) × (header ≡ header_of v.header) × (map slot_bytes slots ≡ v.slots) × (slots ≡ map slot_from v.slots)

-- a file that was read: what was told of it, and the bytes of all its records
pub record FileRead : Type 0 where
  pub fetched : Fetched
  pub bytes : List ℕ

abbrev pub file_held : FileBuffer → FileRead
file_held buffer = record { fetched = buffer.fetched; bytes = take buffer.fetched.length buffer.bytes.items }

-- If contracts can see the tape, it has a volume; its file of that name has this type, this implementation field and these bytes.
abbrev pub GivesFile : HostState → List ℕ → FileRead → Type 0
GivesFile s name file = (t : Tape) → s.tape ≡ Some t
    → (v : Volume) × (volume_at s ≡ Some v) × (slot : List ℕ) × (slot_named v.slots name ≡ Some slot)
    × (file.fetched.kind ≡ type_of slot) × (file.fetched.implementation ≡ implementation_of slot) × (get v.files name ≡ Some file.bytes)
