-- Packing: files that stand without gaps, in slot order, from the directory's end on; the mark of a file that is being
-- moved; and the tape that a stopped packing is finished to. The mark stands in the implementation field of the redo
-- entry, and that is this project's own.
use Rattle.std.specs.Prelude.{◌+◌, ◌-◌, ◌++◌, ◌&&◌, ◌==◌, if◌then◌else◌, nat_lt, not, ℕ, zero, suc}
use Rattle.std.specs.Prelude.{Bool, true, false, List, [], ◌∷◌, length, take, drop, get_or, set, map, filter}
use Rattle.std.specs.Prelude.{replicate, Option, Some, None, option_map}
use Rattle.std.specs.List.{list_all}
use Rattle.std.specs.FinMap.{insert}
use Rattle.lif_model.specs.Numbers.{two_at}
use Rattle.lif_model.specs.Tape.{Tape, record_at, bytes_from}
use Rattle.lif_model.specs.Header.{directory_start, directory_end}
use Rattle.lif_model.specs.Directory.{name_of, start_of, length_of, is_purged}
use Rattle.lif_model.specs.Pairs.{all_pairs}
use Rattle.lif_model.specs.Made.{in_four}
use Rattle.lif_model.specs.declared.version.Version.TheVariants.{Two}
use Rattle.lif_model.specs.Redo.{redo_start, settled}
use Rattle.lif_model.specs.Legal.{is_live, has_records, occupies}
use Rattle.lif_model.specs.Volume.{Volume, Files, is_file, volume_in, volume_of}
use Rattle.lif_model.specs.Fit.{redo_place}
use Rattle.lif_model.specs.Apply.{is_upgraded, lacks_redo, first_met}
use Rattle.lif_model.specs.Writing.{SlotWrites, with_slots, with_records}
use Rattle.lif_model.specs.declared.refusal.Refusal.{Refusal}
use Rattle.lif_model.specs.declared.refusal.Refusal.TheVariants.{NotLif, NoRedo, NeedsUpgrade, OutOfOrder}

-- ---- order

-- the first slot's records begin before the second's
abbrev pub rises : List ℕ → List ℕ → Bool
rises a b = nat_lt (start_of a) (start_of b)

-- live extents that have records rise in slot order, and no live slot stands after the redo entry
abbrev pub is_in_order : List (List ℕ) → Bool
is_in_order slots =
    all_pairs rises (filter occupies slots) && list_all is_purged (drop (suc (redo_place slots)) slots)

-- ---- where a file is to begin

-- how many records a file has, if it is live
abbrev pub live_length : List ℕ → ℕ
live_length slot = if is_live slot then length_of slot else 0

-- how many records the live files have
abbrev pub live_records : List (List ℕ) → ℕ
live_records [] = 0
live_records (slot ∷ slots) = live_length slot + live_records slots

-- the place of the file of slot i: after the directory and the live files before it
abbrev pub packed_start : Volume → ℕ → ℕ
packed_start v i = directory_end v.header + live_records (take i v.slots)

-- a live file that has records begins at this place
abbrev pub stands_at : ℕ → List ℕ → Bool
stands_at place slot = if occupies slot then start_of slot == place else true

-- each does so, one after the other, where the first place is this
abbrev pub are_packed : ℕ → List (List ℕ) → Bool
are_packed place [] = true
are_packed place (slot ∷ slots) = stands_at place slot && are_packed (place + live_length slot) slots

-- the slot with another first record, in bytes 12 to 15; all else of it stays
unfoldable pub with_start : ℕ → List ℕ → List ℕ
with_start start slot = take 12 slot ++ (in_four start ++ drop 16 slot)

-- ---- the mark of a file that is being moved

-- the redo entry
abbrev pub redo_slot : Volume → List ℕ
redo_slot v = get_or v.slots (redo_place v.slots) []

-- the slot that moves, plus one: bytes 28 and 29
abbrev pub marked_slot : List ℕ → ℕ
marked_slot entry = two_at entry 28

-- how many of its records stand at the new place: bytes 30 and 31
abbrev pub marked_count : List ℕ → ℕ
marked_count entry = two_at entry 30

-- the entry with an implementation field of zeros, bytes 28 to 31; all else of it stays
unfoldable pub unmarked : List ℕ → List ℕ
unmarked entry = take 28 entry ++ replicate 4 0

-- the field of a redo file of version 2 is not zero, on a tape of n records
abbrev pub bears_mark : ℕ → Volume → Bool
bears_mark n v =
    is_upgraded n v && not ((marked_slot (redo_slot v) == 0) && (marked_count (redo_slot v) == 0))

-- Slot i holds a file of which j records, and not all, can stand at its place already: it is live and before the redo
-- entry, the volume is in order, the files before it are packed, and its place is below its start.
abbrev pub is_move : Volume → ℕ → ℕ → Bool
is_move v i j =
    (nat_lt i (redo_place v.slots) && is_live (get_or v.slots i []))
    && ((nat_lt 0 j && nat_lt j (length_of (get_or v.slots i [])))
    && (is_in_order v.slots
    && (are_packed (directory_end v.header) (take i v.slots)
    && nat_lt (packed_start v i) (start_of (get_or v.slots i [])))))

-- the slot that the mark names, where it names one
abbrev pub moving_slot : ℕ → Option ℕ
moving_slot zero = None
moving_slot (suc i) = Some i

-- the slot and the count of a mark that is good
abbrev pub good_mark : Volume → Option ℕ → Option (ℕ × ℕ)
good_mark v None = None
good_mark v (Some i) = if is_move v i (marked_count (redo_slot v)) then Some (i, marked_count (redo_slot v)) else None

abbrev pub move_of : Volume → Option (ℕ × ℕ)
move_of v = good_mark v (moving_slot (marked_slot (redo_slot v)))

-- ---- finished

-- so many records, from record k on
abbrev pub records_from : Tape → ℕ → ℕ → List (List ℕ)
records_from tape k zero = []
records_from tape k (suc count) = record_at tape k ∷ records_from tape (suc k) count

-- the redo entry becomes unmarked, and a slot that moves begins at its place
abbrev pub finishing_slots : Volume → Option (ℕ × ℕ) → SlotWrites
finishing_slots v None = (redo_place v.slots, unmarked (redo_slot v)) ∷ []
finishing_slots v (Some move) =
    (redo_place v.slots, unmarked (redo_slot v))
    ∷ (move.0, with_start (packed_start v move.0) (get_or v.slots move.0 [])) ∷ []

-- the records of a file that moves stand at its place: the first ones do already
abbrev pub with_moved : Volume → Option (ℕ × ℕ) → Tape → Tape
with_moved v None tape = tape
with_moved v (Some move) tape =
    with_records (packed_start v move.0 + move.1)
    (records_from tape (start_of (get_or v.slots move.0 []) + move.1) (length_of (get_or v.slots move.0 []) - move.1))
    tape

abbrev pub finished_with : Volume → Option (ℕ × ℕ) → Tape → Tape
finished_with v move tape =
    with_slots (directory_start v.header) (finishing_slots v move) (with_moved v move tape)

-- of a settled tape with that volume, or none
abbrev pub finished_by : Option Volume → Tape → Tape
finished_by None tape = tape
finished_by (Some v) tape = if bears_mark (length tape) v then finished_with v (move_of v) tape else tape

-- the tape is settled, and a file that is being moved stands at its new place
abbrev pub finished : Tape → Tape
finished tape = finished_by (volume_of tape) (settled tape)

-- the tape has a volume, and that has a mark
abbrev pub has_mark : ℕ → Option Volume → Bool
has_mark n None = false
has_mark n (Some v) = bears_mark n v

-- the volume that is shown of a tape
abbrev pub finished_volume_of : Tape → Option Volume
finished_volume_of tape = volume_in (finished tape)

-- ---- the volume that a settled tape with a volume is finished to

-- the slots with these written, one after the other
abbrev pub slots_after : SlotWrites → List (List ℕ) → List (List ℕ)
slots_after [] slots = slots
slots_after (w ∷ ws) slots = slots_after ws (set slots w.0 w.1)

-- a file that moves has the bytes of the records that stand at its place already, and then those that are left
abbrev pub finished_files : Volume → Option (ℕ × ℕ) → Tape → Files
finished_files v None tape = v.files
finished_files v (Some move) tape =
    insert v.files (name_of (get_or v.slots move.0 []))
    (bytes_from tape (packed_start v move.0) move.1
    ++ bytes_from tape (start_of (get_or v.slots move.0 []) + move.1) (length_of (get_or v.slots move.0 []) - move.1))

abbrev pub finished_volume : Volume → Tape → Volume
finished_volume v tape =
    if bears_mark (length tape) v
    then record v {
      slots = slots_after (finishing_slots v (move_of v)) v.slots;
      files = finished_files v (move_of v) tape;
    }
    else v

-- ---- what packing leaves as it was

-- the slot without its start
unfoldable pub without_start : List ℕ → List ℕ
without_start slot = take 12 slot ++ drop 16 slot

-- record 0, the live slots in order without their starts and without the redo entry, and the files
pub record Shown : Type 0 where
  pub header : List ℕ
  pub slots : List (List ℕ)
  pub files : Files

abbrev pub files_shown : ℕ → Option Volume → Option Shown
files_shown n None = None
files_shown n (Some v) =
    Some (record { header = v.header; slots = map without_start (filter (is_file n) v.slots); files = v.files })

-- ---- `pack`: its refusals, the volume after it, and its reply

-- the tests in order, on a volume that is finished
abbrev pub pack_checks : ℕ → Volume → List (Bool × Refusal)
pack_checks n v =
    (lacks_redo n v, NoRedo) ∷ (not (is_upgraded n v), NeedsUpgrade) ∷ (not (is_in_order v.slots), OutOfOrder) ∷ []

abbrev pub pack_refusal : ℕ → Option Volume → Option Refusal
pack_refusal n None = Some NotLif
pack_refusal n (Some v) = first_met (pack_checks n v)

-- these slots of files, where the first place is this
abbrev pub packed_from : ℕ → List (List ℕ) → List (List ℕ)
packed_from place [] = []
packed_from place (slot ∷ slots) =
    (if has_records slot then with_start place slot else slot) ∷ packed_from (place + length_of slot) slots

-- the live slots of the files, each that has records at its place, and then the redo entry, unmarked
abbrev pub packed_slots : ℕ → Volume → List (List ℕ)
packed_slots n v =
    packed_from (directory_end v.header) (filter (is_file n) v.slots) ++ unmarked (redo_slot v) ∷ []

abbrev pub packed : ℕ → Volume → Volume
packed n v = record v { slots = packed_slots n v }

-- what packing answers and makes of a volume that is finished, or of none
abbrev pub repacked : ℕ → Option Volume → Option Refusal × Option Volume
repacked n volume = (pack_refusal n volume, option_map (packed n) volume)

-- how many of these files are not at their place
abbrev pub count_moved : ℕ → List (List ℕ) → ℕ
count_moved place [] = 0
count_moved place (slot ∷ slots) =
    (if has_records slot && not (start_of slot == place) then 1 else 0) + count_moved (place + length_of slot) slots

-- what the reply says: the files whose start changes, and the free records before the redo file
abbrev pub files_moved : ℕ → Volume → ℕ
files_moved n v = count_moved (directory_end v.header) (filter (is_file n) v.slots)

abbrev pub records_free : ℕ → Volume → ℕ
records_free n v = redo_start Two n - (directory_end v.header + live_records (filter (is_file n) v.slots))
