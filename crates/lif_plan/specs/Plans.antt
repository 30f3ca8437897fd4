-- What a command is to write of the directory, before it is written.
use Rattle.std.specs.Prelude.{◌≡◌, ◌⊎◌, ◌<◌, ◌≤◌, ◌+◌, ◌*◌, ◌&&◌, nat_lt, not, ℕ, Bool, List, [], true, false, length, get_or, Option, Some, None, Result, Ok, Err}
use Rattle.std.specs.Str.{bytes_eq}
use Rattle.lif_model.specs.Tape.{Tape, record_at}
use Rattle.lif_model.specs.Gate.{gate_of}
use Rattle.lif_model.specs.Header.{HeaderParts, directory_start, header_of}
use Rattle.lif_model.specs.Directory.{is_purged}
use Rattle.lif_model.specs.Made.{file_length}
use Rattle.lif_model.specs.declared.version.Version.{Version}
use Rattle.lif_model.specs.declared.version.Version.TheVariants.{One}
use Rattle.lif_model.specs.declared.refusal.Refusal.{Refusal}
use Rattle.lif_model.specs.Volume.{Volume, IsVolume, redo_name, is_redo_entry, is_redo_file, is_adopted_with, is_adopted}
use Rattle.lif_model.specs.Legal.{occupies, end_of, has_file}
use Rattle.lif_model.specs.Fit.{Place, At, redo_place, can_append, fit_in}
use Rattle.lif_model.specs.Apply.{VolumeCommand, IsWellFormed, Dir, Label, Fetch, Store, Rename, Purge, Adopt, Upgrade, Batch, Format, first_met, store_checks, refusal_of, volume_after}
use Rattle.lif_model.specs.Writing.{slot_writes, chosen_place, changes_of}
use Rattle.lif_dir.specs.declared.change.Change.{Change}
use Rattle.lif_dir.specs.Changes.{FitsIn, change_writes, bytes_with}
use Rattle.lif_plan.specs.Refusals.{keeps_behind}

-- ---- the version of the redo file

-- of these slots one is that of the redo file of the version, or none is of any
abbrev pub IsVersionOf : ℕ → List (List ℕ) → Option Version → Type 0
IsVersionOf n slots None = is_adopted n slots ≡ false
IsVersionOf n slots (Some version) = is_adopted_with n version slots ≡ true

-- the same of one slot
abbrev pub IsVersionOfEntry : ℕ → List ℕ → Option Version → Type 0
IsVersionOfEntry n slot None = is_redo_file n slot ≡ false
IsVersionOfEntry n slot (Some version) = is_redo_entry n version slot ≡ true

-- with which a command commits
abbrev pub CommitsWith : ℕ → Version → VolumeCommand → Volume → Type 0
CommitsWith n version (Store name kind implementation bytes) v = is_adopted_with n version v.slots ≡ true
CommitsWith n version (Rename old later) v = is_adopted_with n version v.slots ≡ true
CommitsWith n version (Purge name) v = is_adopted_with n version v.slots ≡ true
CommitsWith n version (Batch parts) v = is_adopted_with n version v.slots ≡ true
CommitsWith n version Adopt v = (version ≡ One) × (is_adopted n v.slots ≡ false)
CommitsWith n version Upgrade v = (version ≡ One) × (is_adopted_with n One v.slots ≡ true)
CommitsWith n version command v = ⊥

-- a live file that is not the redo file, and whose records reach past the beginning of that record
abbrev pub reaches_past : ℕ → ℕ → List ℕ → Bool
reaches_past n limit slot = occupies slot && (not (is_redo_file n slot) && nat_lt limit (end_of slot))

-- ---- the name of a new file

-- a store of that name is refused, whatever its place
pub record IsNameRefused (n : ℕ) (name : List ℕ) (slots : List (List ℕ)) (why : Refusal) : Type 0 where
  pub refused : (v : Volume) → v.slots ≡ slots → (place : Place) → first_met (store_checks n v name place) ≡ Some why
  pub known : keeps_behind why ≡ true

-- no test of the name refuses it, and the volume is adopted with that version
pub record IsNameFree (n : ℕ) (name : List ℕ) (slots : List (List ℕ)) (version : Version) : Type 0 where
  pub adopted : is_adopted_with n version slots ≡ true
  pub other : bytes_eq name redo_name ≡ false
  pub none_named : has_file slots name ≡ false
  pub ten : length name ≡ 10

abbrev pub IsNewName : ℕ → List ℕ → List (List ℕ) → Result Version Refusal → Type 0
IsNewName n name slots (Err why) = IsNameRefused n name slots why
IsNewName n name slots (Ok version) = IsNameFree n name slots version

-- ---- its slot

-- that of a purged file before the redo entry, or the redo entry's own
abbrev pub MayTake : ℕ → List (List ℕ) → ℕ → Type 0
MayTake capacity slots i = ((i < redo_place slots) × (i < length slots) × (is_purged (get_or slots i []) ≡ true))
    ⊎ ((i ≡ redo_place slots) × (can_append capacity slots ≡ true))

-- ---- plans

-- a volume with this header and these slots
pub record IsVolumeWith (n : ℕ) (header : HeaderParts) (slots : List (List ℕ)) (v : Volume) : Type 0 where
  pub volume : IsVolume n v
  pub told : header_of v.header ≡ header
  pub same : v.slots ≡ slots

-- the command is refused
pub record RefusesAs (n : ℕ) (command : VolumeCommand) (header : HeaderParts) (slots : List (List ℕ)) (why : Refusal) : Type 0 where
  pub refused : (v : Volume) → IsVolumeWith n header slots v → refusal_of n command (Some v) ≡ Some why
  pub known : keeps_behind why ≡ true

-- it changes nothing
pub record ChangesNothing (n : ℕ) (command : VolumeCommand) (header : HeaderParts) (slots : List (List ℕ)) : Type 0 where
  pub formed : IsWellFormed command
  pub free : (v : Volume) → IsVolumeWith n header slots v → refusal_of n command (Some v) ≡ None
  pub nothing : (v : Volume) → IsVolumeWith n header slots v → (u : Tape) → changes_of n command v u ≡ []
  pub same : (v : Volume) → IsVolumeWith n header slots v → volume_after n command v ≡ v

-- the file of a new entry goes to its place: after the directory, and before the redo file
pub record PlacesFile (n : ℕ) (place : Volume → Place) (bytes : List ℕ) (header : HeaderParts) (slots : List (List ℕ)) (change : Change) : Type 0 where
  pub chosen : (v : Volume) → IsVolumeWith n header slots v → place v ≡ At change.slot change.entry.start
  pub count : change.entry.length ≡ file_length bytes
  pub low : header.start + header.length ≤ change.entry.start
  pub high : change.entry.start + change.entry.length ≤ gate_of n

-- of a store; a batch changes slots of many parts, and no other command has a file
abbrev pub PlacesFileOf : ℕ → VolumeCommand → HeaderParts → List (List ℕ) → Change → Type 0
PlacesFileOf n (Store name kind implementation bytes) header slots change =
    PlacesFile n (λ v. fit_in n v (file_length bytes)) bytes header slots change
PlacesFileOf n (Batch parts) header slots change = ⊥
PlacesFileOf n Dir header slots change = Unit {0}
PlacesFileOf n Label header slots change = Unit {0}
PlacesFileOf n (Fetch name) header slots change = Unit {0}
PlacesFileOf n (Rename old later) header slots change = Unit {0}
PlacesFileOf n (Purge name) header slots change = Unit {0}
PlacesFileOf n Adopt header slots change = Unit {0}
PlacesFileOf n Upgrade header slots change = Unit {0}
PlacesFileOf n (Format label count) header slots change = Unit {0}

-- it changes these slots
pub record MakesChange (n : ℕ) (command : VolumeCommand) (header : HeaderParts) (slots : List (List ℕ)) (change : Change) : Type 0 where
  pub formed : IsWellFormed command
  pub fits : FitsIn (8 * header.length) (length slots) change
  pub free : (v : Volume) → IsVolumeWith n header slots v → refusal_of n command (Some v) ≡ None
  pub commits : (v : Volume) → IsVolumeWith n header slots v → CommitsWith n change.version command v
  pub file : PlacesFileOf n command header slots change
  pub writes : (v : Volume) → IsVolumeWith n header slots v → (u : Tape) → directory_start (record_at u 0) ≡ header.start
      → slot_writes n command v (chosen_place n command v) u ≡ change_writes header.start change u
  pub after : (v : Volume) → IsVolumeWith n header slots v → (volume_after n command v).slots ≡ bytes_with change slots

-- what is planned for a command on a volume with this header and these slots
abbrev pub IsPlan : ℕ → VolumeCommand → HeaderParts → List (List ℕ) → Result (Option Change) Refusal → Type 0
IsPlan n command header slots (Err why) = RefusesAs n command header slots why
IsPlan n command header slots (Ok None) = ChangesNothing n command header slots
IsPlan n command header slots (Ok (Some change)) = MakesChange n command header slots change
