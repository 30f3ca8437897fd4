-- Names, entries and slots as bytes: 32 bytes an entry, every number high byte first (the LIF directory format).
use Rattle.std.specs.Prelude.{◌≡◌, ◌==◌, ◌<◌, ◌≤◌, ◌++◌, ◌-◌, if◌then◌else◌, ℕ, Bool, true, false, List, [], length, get_or, replicate}
use Rattle.std.specs.Int.{w16, w32, to_be_bytes}
use Rattle.lif_model.specs.Directory.{name_of, type_of, start_of, length_of, date_of, volume_word_of, implementation_of, is_end, is_purged}
use Rattle.lif_dir.specs.declared.entries.Name.{Name}
use Rattle.lif_dir.specs.declared.entries.FileEntry.{FileEntry}
use Rattle.lif_dir.specs.declared.entries.Slot.{Slot}
use Rattle.lif_dir.specs.declared.entries.Slot.TheVariants.{Live, Purged, End}

-- bytes filled up with spaces to ten
abbrev pub spaced : List ℕ → List ℕ
spaced bytes = bytes ++ replicate (10 - length bytes) 32

-- the ten bytes of a name
abbrev pub name_bytes : Name → List ℕ
name_bytes name = name.bytes

-- the 32 bytes of an entry: name, type, first record, number of records, date, volume word, implementation field
abbrev pub entry_bytes : FileEntry → List ℕ
entry_bytes entry =
    name_bytes entry.name ++ to_be_bytes w16 entry.kind ++ to_be_bytes w32 entry.start ++ to_be_bytes w32 entry.length
    ++ entry.date ++ to_be_bytes w16 entry.volume ++ entry.implementation

-- the entry that 32 bytes tell of
abbrev pub entry_from : List ℕ → FileEntry
entry_from bytes = record {
  name = record { bytes = name_of bytes };
  kind = type_of bytes;
  start = start_of bytes;
  length = length_of bytes;
  date = date_of bytes;
  volume = volume_word_of bytes;
  implementation = implementation_of bytes;
}

-- the slot of an entry that does not end the directory
abbrev pub slot_of : FileEntry → Slot
slot_of entry = if entry.kind == 0 then Purged entry else Live entry

-- the slot that 32 bytes tell of
abbrev pub slot_from : List ℕ → Slot
slot_from bytes = if is_end bytes then End else if is_purged bytes then Purged (entry_from bytes) else Live (entry_from bytes)

-- the 32 bytes of a slot; the end of a directory tells none
abbrev pub slot_bytes : Slot → List ℕ
slot_bytes (Live entry) = entry_bytes entry
slot_bytes (Purged entry) = entry_bytes entry
slot_bytes End = []

-- a slot of a directory, live or purged, and not its end
abbrev pub is_entry : Slot → Bool
is_entry (Live _) = true
is_entry (Purged _) = true
is_entry End = false

-- slots of a directory that has room for so many, by their bytes: each has 32, and none is an end
pub record AreSlots (room : ℕ) (slots : List (List ℕ)) : Type 0 where
  pub few : length slots ≤ room
  pub entries : (i : ℕ) → i < length slots → length (get_or slots i []) ≡ 32
  pub kinds : (i : ℕ) → i < length slots → is_end (get_or slots i []) ≡ false
