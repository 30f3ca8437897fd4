-- What is planned for a command that changes slots: the files that it writes first, and the slots, by one commit.
use Rattle.std.proofs.Common.{◌≡◌, ◌<◌, ◌≤◌, ◌+◌, ℕ, List, [], ◌∷◌, Bool, length, refl, ap, arith}
use Rattle.std.specs.Prelude.{All, None, Some}
use Rattle.std.proofs.lemmas.List.Elements.{All-nil, All-cons}
use Rattle.lif_model.specs.Tape.{Tape, record_at}
use Rattle.lif_model.specs.Gate.{gate_of}
use Rattle.lif_model.specs.Header.{HeaderParts, directory_start}
use Rattle.lif_model.specs.Made.{file_length}
use Rattle.lif_model.specs.declared.version.Version.{Version}
use Rattle.lif_model.specs.Volume.{Volume}
use Rattle.lif_model.specs.Apply.{VolumeCommand, Dir, Label, Fetch, Store, Rename, Purge, Adopt, Upgrade, Batch, Format, IsWellFormed, refusal_of, volume_after}
use Rattle.lif_model.specs.Parts as part
use Rattle.lif_model.specs.Writing.{changes_of, SlotWrites, NewFile, part_files, slot_writes, touched, chosen_place, files_written}
use Rattle.lif_model.proofs.Recorded.{records_count}
use Rattle.lif_dir.specs.declared.change.Change.{Change}
use Rattle.lif_dir.specs.Changes.{change_writes, bytes_with}
use Rattle.lif_commit.specs.Staged.{touched_by, calls_among, most_commit_calls, most_batch_calls}
use Rattle.lif_commit.proofs.Staging.{touched_same, touched_few, calls_most}
use Rattle.lif_plan.specs.Plans.{CommitsWith, IsVolumeWith, PlacesFileOf, MakesChange}
use Rattle.lif_model.specs.Redo.{Changes}
use Rattle.lif_model.specs.Commit.{IsCommitted, commit_writes}
use Rattle.lif_volume.specs.Changing.{writes_if_any, beside}
use Rattle.lif_model.specs.Changing.{IsChanged}
use Rattle.lif_volume.specs.Carrying.{HasFile, file_count, records_filed}

-- what a command is to write: by which version it commits, which slots, in which records, the slots after it, and the files
pub record Planned : Type 0 where
  pub version : Version
  pub slots : Tape → SlotWrites
  pub numbers : List ℕ
  pub later : List (List ℕ)
  pub files : List NewFile

-- a file lies between the directory and the gate
abbrev pub LiesBeside : ℕ → HeaderParts → NewFile → Type 0
LiesBeside n header file = (header.start + header.length ≤ file.start) × (file.start + file_length file.bytes ≤ gate_of n)

-- the calls of its commit at most
abbrev pub most_calls : VolumeCommand → ℕ
most_calls (Batch parts) = most_batch_calls
most_calls command = most_commit_calls

-- on a volume with this header and these slots, of a tape of n records
pub record IsPlanned (n : ℕ) (command : VolumeCommand) (header : HeaderParts) (slots : List (List ℕ)) (p : Planned) : Type 0 where
  pub formed : IsWellFormed command
  pub free : (v : Volume) → IsVolumeWith n header slots v → refusal_of n command (Some v) ≡ None
  pub commits : (v : Volume) → IsVolumeWith n header slots v → CommitsWith n p.version command v
  pub writes : (v : Volume) → IsVolumeWith n header slots v → (u : Tape) → directory_start (record_at u 0) ≡ header.start
      → slot_writes n command v (chosen_place n command v) u ≡ p.slots u
  pub after : (v : Volume) → IsVolumeWith n header slots v → (volume_after n command v).slots ≡ p.later
  pub touches : (u : Tape) → touched header.start (p.slots u) ≡ p.numbers
  pub some : 0 < length p.numbers
  pub calls : (is_open : Bool) → calls_among header.start (length slots) is_open p.numbers ≤ most_calls command
  pub left : (v : Volume) → IsVolumeWith n header slots v → files_written n command v (chosen_place n command v) ≡ p.files
  pub lie : All (LiesBeside n header) p.files
  pub count : records_filed p.files ≤ file_count command
  pub fits : file_count command ≤ beside n (Some header)

-- a command that changes nothing, and has no file
pub record LeavesTape (n : ℕ) (command : VolumeCommand) (v : Volume) (t : Tape) : Type 0 where
  pub free : refusal_of n command (Some v) ≡ None
  pub changes : changes_of n command v t ≡ []
  pub same : volume_after n command v ≡ v
  pub files : files_written n command v (chosen_place n command v) ≡ []

-- where some records change, they change by a commit
pub changed_some : (version : Version) (cs : Changes) (t u : Tape) → 0 < length cs → IsCommitted version cs t u → IsChanged version cs t u
changed_some version [] t u some done = absurd (omega (arith, some))
changed_some version (c ∷ cs) t u some done = done

pub writes_some : (version : Version) (n : ℕ) (was_open : Bool) (cs : Changes) → 0 < length cs → commit_writes version n was_open cs ≡ writes_if_any version n was_open cs
writes_some version n was_open [] some = absurd (omega (arith, some))
writes_some version n was_open (c ∷ cs) some = refl

-- ---- one change

-- a store has a file
abbrev pub file_of_change : VolumeCommand → Change → List NewFile
file_of_change (Store name kind implementation bytes) change = record { slot = change.slot; start = change.entry.start; bytes = bytes } ∷ []
file_of_change command change = []

abbrev pub one_change : HeaderParts → List (List ℕ) → VolumeCommand → Change → Planned
one_change header slots command change = record {
  version = change.version;
  slots = change_writes header.start change;
  numbers = touched_by header.start change;
  later = bytes_with change slots;
  files = file_of_change command change;
}

pub no_file : (command : VolumeCommand) (change : Change) → HasFile command None → file_of_change command change ≡ []
no_file Dir change has = refl
no_file Label change has = refl
no_file (Fetch name) change has = refl
no_file (Store name kind implementation bytes) change has = cc
no_file (Rename old later) change has = refl
no_file (Purge name) change has = refl
no_file Adopt change has = refl
no_file Upgrade change has = refl
no_file (Batch parts) change has = refl
no_file (Format label slots) change has = refl

module _ (n : ℕ) (header : HeaderParts) (slots : List (List ℕ)) (change : Change) (low : 0 < header.start) where
  abbrev Written : VolumeCommand → Type 0
  Written command = (v : Volume) → IsVolumeWith n header slots v → files_written n command v (chosen_place n command v) ≡ file_of_change command change

  written : (command : VolumeCommand) → PlacesFileOf n command header slots change → Written command
  written Dir placed v is = refl
  written Label placed v is = refl
  written (Fetch name) placed v is = refl
  written (Store name kind implementation bytes) placed v is = ap (part_files (part.Store name kind implementation bytes)) (placed.chosen v is)
  written (Rename old later) placed v is = refl
  written (Purge name) placed v is = refl
  written Adopt placed v is = refl
  written Upgrade placed v is = refl
  written (Batch parts) placed v is = absurd placed
  written (Format label count) placed v is = refl

  lies : (command : VolumeCommand) → PlacesFileOf n command header slots change → All (LiesBeside n header) (file_of_change command change)
  lies Dir placed = All-nil (LiesBeside n header)
  lies Label placed = All-nil (LiesBeside n header)
  lies (Fetch name) placed = All-nil (LiesBeside n header)
  lies (Store name kind implementation bytes) placed =
      All-cons (LiesBeside n header) (record { slot = change.slot; start = change.entry.start; bytes = bytes }) [] (placed.low, omega (arith, placed.high, placed.count)) (All-nil (LiesBeside n header))
  lies (Rename old later) placed = All-nil (LiesBeside n header)
  lies (Purge name) placed = All-nil (LiesBeside n header)
  lies Adopt placed = All-nil (LiesBeside n header)
  lies Upgrade placed = All-nil (LiesBeside n header)
  lies (Batch parts) placed = absurd placed
  lies (Format label count) placed = All-nil (LiesBeside n header)

  -- the file's records, which are no more than the directory leaves room for
  counts : (command : VolumeCommand) → PlacesFileOf n command header slots change
      → (records_filed (file_of_change command change) ≤ file_count command) × (file_count command ≤ beside n (Some header)) × (most_commit_calls ≤ most_calls command)
  counts Dir placed = (omega arith, omega arith, omega arith)
  counts Label placed = (omega arith, omega arith, omega arith)
  counts (Fetch name) placed = (omega arith, omega arith, omega arith)
  counts (Store name kind implementation bytes) placed = (omega (arith, records_count bytes), omega (arith, records_count bytes, placed.count, placed.low, placed.high, low), omega arith)
  counts (Rename old later) placed = (omega arith, omega arith, omega arith)
  counts (Purge name) placed = (omega arith, omega arith, omega arith)
  counts Adopt placed = (omega arith, omega arith, omega arith)
  counts Upgrade placed = (omega arith, omega arith, omega arith)
  counts (Batch parts) placed = absurd placed
  counts (Format label count) placed = (omega arith, omega arith, omega arith)

  pub is_one_change : (command : VolumeCommand) → MakesChange n command header slots change → IsPlanned n command header slots (one_change header slots command change)
  is_one_change command plan =
      let is = counts command plan.file in
      record {
        formed = plan.formed;
        free = plan.free;
        commits = plan.commits;
        writes = plan.writes;
        after = plan.after;
        touches = touched_same header.start change;
        some = (touched_few header.start change).0;
        calls = λ is_open. omega (arith, calls_most header.start (length slots) is_open change, is.2);
        left = written command plan.file;
        lie = lies command plan.file;
        count = is.0;
        fits = is.1;
      }
