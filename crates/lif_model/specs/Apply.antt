-- What each command of a volume answers, and the volume after it: this project's own commands on
-- LIF volumes. The tape has n records.
use Rattle.std.specs.Prelude.{◌≡◌, ◌<◌, ◌≤◌, ◌-◌, ◌*◌, ◌&&◌, ◌||◌, if◌then◌else◌, nat_lt, nat_le, nat_eq, not, ℕ, Bool, true, false, List, All, [], ◌∷◌, ◌++◌, length, map, set, insert, filter, Option, Some, None}
use Rattle.std.specs.List.{list_any}
use Rattle.std.specs.Str.{bytes_eq}
use Rattle.std.specs.FinMap as files
use Rattle.lif_model.specs.Gate.{gate_of}
use Rattle.lif_model.specs.Header.{directory_end, capacity_of}
use Rattle.lif_model.specs.declared.version.Version.TheVariants.{One, Two}
use Rattle.lif_model.specs.Redo.{redo_start}
use Rattle.lif_model.specs.Made.{new_entry, with_name, with_type, fresh_header, records_for_slots, file_length, filled}
use Rattle.lif_model.specs.Legal.{occupies, end_of, is_live_named, place_named, has_file}
use Rattle.lif_model.specs.Volume.{Volume, Files, redo_name, redo_entry, upgraded_entry, is_redo_file, is_adopted_with, is_adopted}
use Rattle.lif_model.specs.Fit.{Place, At, redo_place, fit_in, fit_beside_in}
use Rattle.lif_model.specs.Parts.{Part, most_parts, IsWellFormedPart}
use Rattle.lif_model.specs.Parts as part
use Rattle.lif_model.specs.declared.refusal.Refusal.{Refusal}
use Rattle.lif_model.specs.declared.refusal.Refusal.TheVariants.{NotLif, NoRedo, Protected, NoFile, Exists, NoSlot, NoRoom, InUse, NeedsUpgrade}

-- ---- commands

-- Names have ten bytes, a label six and an implementation field four; kind is a file's type.
pub data VolumeCommand : Type 0 where
  Dir : VolumeCommand
  Label : VolumeCommand
  Fetch : (name : List ℕ) → VolumeCommand
  Store : (name : List ℕ) (kind : ℕ) (implementation bytes : List ℕ) → VolumeCommand
  Rename : (old new : List ℕ) → VolumeCommand
  Purge : (name : List ℕ) → VolumeCommand
  Adopt : VolumeCommand
  Upgrade : VolumeCommand
  Batch : (parts : List Part) → VolumeCommand
  Format : (label : List ℕ) (slots : ℕ) → VolumeCommand

-- the lengths of names, labels and fields, and what types and counts of slots and parts may be
abbrev pub IsWellFormed : VolumeCommand → Type 0
IsWellFormed Dir = Unit {0}
IsWellFormed Label = Unit {0}
IsWellFormed (Fetch name) = length name ≡ 10
IsWellFormed (Store name kind implementation bytes) = IsWellFormedPart (part.Store name kind implementation bytes)
IsWellFormed (Rename old new) = IsWellFormedPart (part.Rename old new)
IsWellFormed (Purge name) = IsWellFormedPart (part.Purge name)
IsWellFormed Adopt = Unit {0}
IsWellFormed Upgrade = Unit {0}
IsWellFormed (Batch parts) = (length parts ≤ most_parts) × All IsWellFormedPart parts
IsWellFormed (Format label slots) = (length label ≡ 6) × (0 < slots)

-- ---- what refuses a command

-- the volume has no redo file
abbrev pub lacks_redo : ℕ → Volume → Bool
lacks_redo n v = not (is_adopted n v.slots)

-- the redo file of an adopted volume is not to be named
abbrev pub is_protected : ℕ → Volume → List ℕ → Bool
is_protected n v name = is_adopted n v.slots && bytes_eq name redo_name

abbrev pub lacks_file : Volume → List ℕ → Bool
lacks_file v name = not (has_file v.slots name)

abbrev pub lacks_slot : Place → Bool
lacks_slot (At i start) = false
lacks_slot Place.NoSlot = true
lacks_slot Place.NoRoom = false

abbrev pub lacks_room : Place → Bool
lacks_room (At i start) = false
lacks_room Place.NoSlot = false
lacks_room Place.NoRoom = true

-- live and purged slots fill the directory
abbrev pub is_full : Volume → Bool
is_full v = nat_le (capacity_of v.header) (length v.slots)

-- a live file reaches into the records that the redo file is to have
abbrev pub runs_past_gate : ℕ → Volume → Bool
runs_past_gate n v = list_any (λ slot. nat_lt (gate_of n) (end_of slot)) (filter occupies v.slots)

-- the redo file is of version 2 already
abbrev pub is_upgraded : ℕ → Volume → Bool
is_upgraded n v = is_adopted_with n Two v.slots

-- the directory or a live file, other than the redo file, reaches into the records that version 2
-- is to have
abbrev pub runs_past_redo : ℕ → Volume → Bool
runs_past_redo n v = nat_lt (redo_start Two n) (directory_end v.header)
    || list_any (λ slot. not (is_redo_file n slot) && nat_lt (redo_start Two n) (end_of slot))
    (filter occupies v.slots)

-- the directory would leave no record for files
abbrev pub is_too_long : ℕ → ℕ → Bool
is_too_long n slots = nat_lt (8 * (n - 6)) slots

-- the first refusal whose test is met
abbrev pub first_met : List (Bool × Refusal) → Option Refusal
first_met [] = None
first_met (check ∷ checks) = if check.0 then Some check.1 else first_met checks

-- ---- a store, a rename, a purge: by itself a command, and a part of a batch

-- the tests of a store under that name at a place, which a store by itself chooses with `fit_in`
abbrev pub store_checks : ℕ → Volume → List ℕ → Place → List (Bool × Refusal)
store_checks n v name place =
    (lacks_redo n v, NoRedo) ∷ (is_protected n v name, Protected) ∷ (has_file v.slots name, Exists)
    ∷ (lacks_slot place, NoSlot) ∷ (lacks_room place, NoRoom) ∷ []

-- the tests of a part on a volume, in order, where a store has that place
abbrev pub part_checks : ℕ → Volume → Place → Part → List (Bool × Refusal)
part_checks n v place (part.Store name kind implementation bytes) = store_checks n v name place
part_checks n v place (part.Rename old new) =
    (lacks_redo n v, NoRedo) ∷ (is_protected n v old || is_protected n v new, Protected)
    ∷ (lacks_file v old, NoFile) ∷ (has_file v.slots new && not (bytes_eq old new), Exists) ∷ []
part_checks n v place (part.Purge name) =
    (lacks_redo n v, NoRedo) ∷ (is_protected n v name, Protected) ∷ (lacks_file v name, NoFile) ∷ []

-- a new entry replaces a purged slot, or stands before the redo entry, which moves on
abbrev pub placed : List (List ℕ) → ℕ → List ℕ → List (List ℕ)
placed slots i entry =
    if nat_eq i (redo_place slots) then insert slots i entry else set slots i entry

abbrev pub stored : Volume → List ℕ → ℕ → List ℕ → List ℕ → Place → Volume
stored v name kind implementation bytes (At i start) =
    record v {
      slots = placed v.slots i (new_entry name kind start (file_length bytes) implementation);
      files = files.insert v.files name (filled bytes);
    }
stored v name kind implementation bytes place = v

-- the live slot of that name, changed
abbrev pub with_slot : List ℕ → (List ℕ → List ℕ) → List (List ℕ) → List (List ℕ)
with_slot name change slots =
    map (λ slot. if is_live_named name slot then change slot else slot) slots

abbrev pub moved_key : Files → List ℕ → List ℕ → Option (List ℕ) → Files
moved_key map old new None = map
moved_key map old new (Some bytes) = files.insert (files.remove map old) new bytes

abbrev pub renamed : Volume → List ℕ → List ℕ → Volume
renamed v old new = record v {
  slots = with_slot old (with_name new) v.slots;
  files = moved_key v.files old new (files.get v.files old);
}

-- a slot of that name turns into that of a purged file
abbrev pub purged : Volume → List ℕ → Volume
purged v name = record v { slots = with_slot name (with_type 0) v.slots; files = files.remove v.files name }

-- the volume after a part that is not refused, a store at that place
abbrev pub part_made : Place → Part → Volume → Volume
part_made place (part.Store name kind implementation bytes) v = stored v name kind implementation bytes place
part_made place (part.Rename old new) v = if bytes_eq old new then v else renamed v old new
part_made place (part.Purge name) v = purged v name

-- ---- a batch

-- between two parts of a batch: the volume so far, and the places of the slots that its parts have purged
pub record Midway : Type 0 where
  pub volume : Volume
  pub barred : List ℕ

abbrev pub before_parts : Volume → Midway
before_parts v = record { volume = v; barred = [] }

-- the place of a part's file, which takes no slot that the batch has purged
abbrev pub part_place : ℕ → Midway → Part → Place
part_place n m (part.Store name kind implementation bytes) = fit_beside_in n m.volume m.barred (file_length bytes)
part_place n m (part.Rename old new) = Place.NoSlot
part_place n m (part.Purge name) = Place.NoSlot

-- the slots that a part purges
abbrev pub purged_by : Part → Volume → List ℕ
purged_by (part.Store name kind implementation bytes) v = []
purged_by (part.Rename old new) v = []
purged_by (part.Purge name) v = place_named name v.slots ∷ []

abbrev pub after_part : ℕ → Part → Midway → Midway
after_part n p m = record {
  volume = part_made (part_place n m p) p m.volume;
  barred = m.barred ++ purged_by p m.volume;
}

abbrev pub after_parts : ℕ → List Part → Midway → Midway
after_parts n [] m = m
after_parts n (p ∷ parts) m = after_parts n parts (after_part n p m)

-- the tests of the parts, each on the volume after the parts before it
abbrev pub parts_checks : ℕ → List Part → Midway → List (Bool × Refusal)
parts_checks n [] m = []
parts_checks n (p ∷ parts) m = part_checks n m.volume (part_place n m p) p ++ parts_checks n parts (after_part n p m)

-- ---- what a command answers

-- the tests of a command on a volume, in order
abbrev pub checks_of : ℕ → VolumeCommand → Volume → List (Bool × Refusal)
checks_of n Dir v = []
checks_of n Label v = []
checks_of n (Fetch name) v = (is_protected n v name, Protected) ∷ (lacks_file v name, NoFile) ∷ []
checks_of n (Store name kind implementation bytes) v =
    part_checks n v (fit_in n v (file_length bytes)) (part.Store name kind implementation bytes)
checks_of n (Rename old new) v = part_checks n v Place.NoSlot (part.Rename old new)
checks_of n (Purge name) v = part_checks n v Place.NoSlot (part.Purge name)
checks_of n Adopt v =
    (lacks_redo n v && has_file v.slots redo_name, Exists) ∷ (lacks_redo n v && is_full v, NoSlot)
    ∷ (lacks_redo n v && runs_past_gate n v, InUse) ∷ []
checks_of n Upgrade v =
    (lacks_redo n v, NoRedo) ∷ (not (is_upgraded n v) && runs_past_redo n v, InUse) ∷ []
checks_of n (Batch parts) v =
    (lacks_redo n v, NoRedo) ∷ (not (is_upgraded n v), NeedsUpgrade) ∷ parts_checks n parts (before_parts v)
checks_of n (Format label slots) v =
    (is_too_long n slots, NoRoom) ∷ (lacks_redo n v && runs_past_gate n v, InUse) ∷ []

-- only `format` takes a tape that is not legal
abbrev pub checks_without : ℕ → VolumeCommand → List (Bool × Refusal)
checks_without n (Format label slots) = (is_too_long n slots, NoRoom) ∷ []
checks_without n command = (true, NotLif) ∷ []

abbrev pub refusal_of : ℕ → VolumeCommand → Option Volume → Option Refusal
refusal_of n command None = first_met (checks_without n command)
refusal_of n command (Some v) = first_met (checks_of n command v)

-- ---- the volume after a command that is not refused

-- the redo entry moves forward to the records of version 2
abbrev pub upgraded : ℕ → Volume → Volume
upgraded n v = record v { slots = with_slot redo_name (upgraded_entry n) v.slots }

abbrev pub fresh_volume : ℕ → List ℕ → ℕ → Volume
fresh_volume n label slots = record {
  header = fresh_header n label (records_for_slots slots);
  slots = redo_entry One n ∷ [];
  files = files.empty;
}

abbrev pub volume_after : ℕ → VolumeCommand → Volume → Volume
volume_after n Dir v = v
volume_after n Label v = v
volume_after n (Fetch name) v = v
volume_after n (Store name kind implementation bytes) v =
    part_made (fit_in n v (file_length bytes)) (part.Store name kind implementation bytes) v
volume_after n (Rename old new) v = part_made Place.NoSlot (part.Rename old new) v
volume_after n (Purge name) v = part_made Place.NoSlot (part.Purge name) v
volume_after n Adopt v =
    if is_adopted n v.slots then v else record v { slots = v.slots ++ redo_entry One n ∷ [] }
volume_after n Upgrade v = if is_upgraded n v then v else upgraded n v
volume_after n (Batch parts) v = (after_parts n parts (before_parts v)).volume
volume_after n (Format label slots) v = fresh_volume n label slots

abbrev pub volume_made : ℕ → VolumeCommand → Option Volume → Option Volume
volume_made n (Format label slots) volume = Some (fresh_volume n label slots)
volume_made n command None = None
volume_made n command (Some v) = Some (volume_after n command v)

-- ---- the reply and the next volume

abbrev pub next_unless : ℕ → VolumeCommand → Option Volume → Option Refusal → Option Volume
next_unless n command volume None = volume_made n command volume
next_unless n command volume (Some refusal) = volume

-- none is the reply ok; a refused command leaves the volume
abbrev pub apply : ℕ → VolumeCommand → Option Volume → Option Refusal × Option Volume
apply n command volume =
    (refusal_of n command volume, next_unless n command volume (refusal_of n command volume))
