-- What each command writes on a tape of n records: slots of the directory, the records that these
-- touch, and the records of a file.
use Rattle.std.specs.Prelude.{◌≡◌, ◌⊎◌, ◌+◌, ◌*◌, ◌/◌, ◌%◌, ◌++◌, nat_eq, nat_lt, not, Bool, if◌then◌else◌, ℕ, suc, List, [], ◌∷◌, length, take, drop, get_or, set, map, filter}
use Rattle.std.specs.Str.{bytes_eq}
use Rattle.std.specs.Cmp.Lexicographic.{pointwise}
use Rattle.lif_model.specs.Tape.{Tape, record_at}
use Rattle.lif_model.specs.Header.{directory_start, capacity_of}
use Rattle.lif_model.specs.Directory.{entry_at}
use Rattle.lif_model.specs.Made.{new_entry, with_name, with_type, first_directory_record, fresh_header, records_for_slots, file_length, file_records}
use Rattle.lif_model.specs.declared.version.Version.TheVariants.{One}
use Rattle.lif_model.specs.Redo.{Changes, changed}
use Rattle.lif_model.specs.Legal.{is_live, place_named}
use Rattle.lif_model.specs.Volume.{Volume, redo_name, redo_entry, upgraded_entry, is_adopted}
use Rattle.lif_model.specs.Fit.{Place, At, NoSlot, redo_place, fit_in}
use Rattle.lif_model.specs.Parts.{Part}
use Rattle.lif_model.specs.Parts as part
use Rattle.lif_model.specs.Apply.{VolumeCommand, Store, Rename, Purge, Adopt, Upgrade, Batch, Format, is_upgraded, Midway, before_parts, part_place, after_part, after_parts}

-- ---- slots as they stand on a tape (the LIF directory format: eight entries in a record)

-- the directory record with another entry k
unfoldable pub with_entry : List ℕ → ℕ → List ℕ → List ℕ
with_entry bytes k entry = take (32 * k) bytes ++ (entry ++ drop (32 * k + 32) bytes)

-- the record of slot k, in a directory that begins at record `start`
abbrev pub slot_record : ℕ → ℕ → ℕ
slot_record start k = start + k / 8

-- the 32 bytes of slot k of that directory, also after its last slot
abbrev pub entry_from : Tape → ℕ → ℕ → List ℕ
entry_from tape start k = entry_at (record_at tape (slot_record start k)) (k % 8)

-- the same of the directory that record 0 tells of
abbrev pub entry_on : Tape → ℕ → List ℕ
entry_on tape k = entry_from tape (directory_start (record_at tape 0)) k

-- ---- slots that are written

-- slots, each with the 32 bytes that it is to have
abbrev pub SlotWrites : Type 0
SlotWrites = List (ℕ × List ℕ)

-- the tape with these slots written, one after the other
abbrev pub with_slots : ℕ → SlotWrites → Tape → Tape
with_slots start [] tape = tape
with_slots start (w ∷ ws) tape =
    with_slots start ws (set tape (slot_record start w.0)
    (with_entry (record_at tape (slot_record start w.0)) (w.0 % 8) w.1))

-- slot k is one of them
abbrev pub IsSlotWritten : SlotWrites → ℕ → Type 0
IsSlotWritten [] k = ⊥
IsSlotWritten (w ∷ ws) k = (k ≡ w.0) ⊎ IsSlotWritten ws k

-- the records that these writes touch, each once, in the order in which they are first touched
abbrev pub touched : ℕ → SlotWrites → List ℕ
touched start [] = []
touched start (w ∷ ws) =
    slot_record start w.0 ∷ filter (λ k. not (nat_eq k (slot_record start w.0))) (touched start ws)

-- each of these records, with what it holds on a tape
abbrev pub records_on : Tape → List ℕ → Changes
records_on tape numbers = map (λ k. (k, record_at tape k)) numbers

-- each touched record, with what it is to hold
abbrev pub changes_by : ℕ → SlotWrites → Tape → Changes
changes_by start writes tape = records_on (with_slots start writes tape) (touched start writes)

-- ---- the slots that a command writes

-- slot k ends the directory and keeps its other bytes, where the directory has room for it
abbrev pub ended_behind : ℕ → Tape → ℕ → SlotWrites
ended_behind capacity tape k =
    if nat_lt k capacity then (k, with_type 0xFFFF (entry_on tape k)) ∷ [] else []

-- slot k and, where there is room, an end after it
abbrev pub last_slot : ℕ → Tape → ℕ → List ℕ → SlotWrites
last_slot capacity tape k entry = (k, entry) ∷ ended_behind capacity tape (suc k)

-- A new entry replaces a purged slot; or it takes the place of the redo entry, which becomes the
-- last slot, with the bytes that it had.
abbrev pub stored_writes : Volume → ℕ → List ℕ → Tape → SlotWrites
stored_writes v i entry tape =
    (i, entry) ∷ (if nat_eq i (redo_place v.slots)
    then last_slot (capacity_of v.header) tape (suc i) (get_or v.slots i []) else [])

-- the live slot of that name, changed
abbrev pub changed_slot : List ℕ → (List ℕ → List ℕ) → List (List ℕ) → SlotWrites
changed_slot name change slots =
    (place_named name slots, change (get_or slots (place_named name slots) [])) ∷ []

-- what a part of a batch, or a command by itself, writes of the directory, where a store has that place
abbrev pub part_writes : Part → Volume → Place → Tape → SlotWrites
part_writes (part.Store name kind implementation bytes) v (At i start) tape =
    stored_writes v i (new_entry name kind start (file_length bytes) implementation) tape
part_writes (part.Store name kind implementation bytes) v place tape = []
part_writes (part.Rename old new) v place tape =
    if bytes_eq old new then [] else changed_slot old (with_name new) v.slots
part_writes (part.Purge name) v place tape = changed_slot name (with_type 0) v.slots

-- what the parts write, one part after the other
abbrev pub parts_writes : ℕ → List Part → Midway → Tape → SlotWrites
parts_writes n [] m tape = []
parts_writes n (p ∷ parts) m tape =
    part_writes p m.volume (part_place n m p) tape ++ parts_writes n parts (after_part n p m) tape

-- the slots before and after are the same, byte by byte
abbrev pub same_slots : List (List ℕ) → List (List ℕ) → Bool
same_slots old new = pointwise bytes_eq old new

-- nothing, where the slots after all parts are those before
abbrev pub batch_writes : ℕ → List Part → Volume → Tape → SlotWrites
batch_writes n parts v tape =
    if same_slots v.slots (after_parts n parts (before_parts v)).volume.slots then []
    else parts_writes n parts (before_parts v) tape

-- what a command writes of the directory; a store's place is handed in
abbrev pub slot_writes : ℕ → VolumeCommand → Volume → Place → Tape → SlotWrites
slot_writes n (Store name kind implementation bytes) v place tape =
    part_writes (part.Store name kind implementation bytes) v place tape
slot_writes n (Rename old new) v place tape = part_writes (part.Rename old new) v place tape
slot_writes n (Purge name) v place tape = part_writes (part.Purge name) v place tape
slot_writes n Adopt v place tape =
    if is_adopted n v.slots then []
    else last_slot (capacity_of v.header) tape (length v.slots) (redo_entry One n)
slot_writes n Upgrade v place tape =
    if is_upgraded n v then [] else changed_slot redo_name (upgraded_entry n) v.slots
slot_writes n (Batch parts) v place tape = batch_writes n parts v tape
slot_writes n command v place tape = []

-- ---- the files that a command writes

-- a file's slot, its first record and its bytes
pub record NewFile : Type 0 where
  pub slot : ℕ
  pub start : ℕ
  pub bytes : List ℕ

-- of a store, at that place
abbrev pub part_files : Part → Place → List NewFile
part_files (part.Store name kind implementation bytes) (At i start) =
    record { slot = i; start = start; bytes = bytes } ∷ []
part_files (part.Store name kind implementation bytes) place = []
part_files (part.Rename old new) place = []
part_files (part.Purge name) place = []

-- of all parts, in their order
abbrev pub parts_files : ℕ → List Part → Midway → List NewFile
parts_files n [] m = []
parts_files n (p ∷ parts) m = part_files p (part_place n m p) ++ parts_files n parts (after_part n p m)

-- the file's slot is live among these
abbrev pub is_left_in : List (List ℕ) → NewFile → Bool
is_left_in slots file = is_live (get_or slots file.slot [])

-- those whose slot is live after all parts
abbrev pub files_left : ℕ → List Part → Volume → List NewFile
files_left n parts v =
    filter (is_left_in (after_parts n parts (before_parts v)).volume.slots) (parts_files n parts (before_parts v))

-- those of a command; a store's place is handed in
abbrev pub files_written : ℕ → VolumeCommand → Volume → Place → List NewFile
files_written n (Store name kind implementation bytes) v place =
    part_files (part.Store name kind implementation bytes) place
files_written n (Batch parts) v place = files_left n parts v
files_written n command v place = []

-- ---- the tape that a command makes

-- the records from `first` on, one after the other
abbrev pub with_records : ℕ → List (List ℕ) → Tape → Tape
with_records first [] tape = tape
with_records first (r ∷ rs) tape = with_records (suc first) rs (set tape first r)

-- the tape with these files, one after the other
abbrev pub with_files : List NewFile → Tape → Tape
with_files [] tape = tape
with_files (file ∷ files) tape = with_files files (with_records file.start (file_records file.bytes) tape)

-- the tape with the files of a command
abbrev pub with_file : ℕ → VolumeCommand → Volume → Place → Tape → Tape
with_file n command v place tape = with_files (files_written n command v place) tape

-- what `format` writes of any tape: record 0, and the first record of a directory whose only slot
-- is the redo entry
abbrev pub format_changes : ℕ → List ℕ → ℕ → Changes
format_changes n label slots =
    (0, fresh_header n label (records_for_slots slots))
    ∷ (2, first_directory_record (redo_entry One n)) ∷ []

-- the records that a command changes all at once, in this order
abbrev pub changes_at : ℕ → VolumeCommand → Volume → Place → Tape → Changes
changes_at n (Format label slots) v place tape = format_changes n label slots
changes_at n command v place tape =
    changes_by (directory_start v.header) (slot_writes n command v place tape) tape

-- the files first, and then the changes
abbrev pub written_at : ℕ → VolumeCommand → Volume → Place → Tape → Tape
written_at n command v place tape =
    changed (changes_at n command v place tape) (with_file n command v place tape)

-- the place of a store
abbrev pub chosen_place : ℕ → VolumeCommand → Volume → Place
chosen_place n (Store name kind implementation bytes) v = fit_in n v (file_length bytes)
chosen_place n command v = NoSlot

abbrev pub changes_of : ℕ → VolumeCommand → Volume → Tape → Changes
changes_of n command v tape = changes_at n command v (chosen_place n command v) tape

-- the tape that a command makes of a settled tape with that volume
abbrev pub written_by : ℕ → VolumeCommand → Volume → Tape → Tape
written_by n command v tape = written_at n command v (chosen_place n command v) tape
