-- What it is to carry out what is planned for a command, on a volume whose directory is kept.
use Rattle.std.specs.Prelude.{◌≡◌, ◌≤◌, ◌+◌, ◌++◌, if◌then◌else◌, ℕ, List, [], ◌∷◌, true, false, length, map, Option, Some, None, OnOk, Result}
use Rattle.lif_model.specs.Tape.{Tape}
use Rattle.lif_model.specs.Gate.{has_open_gate}
use Rattle.lif_model.specs.Header.{HeaderParts}
use Rattle.lif_model.specs.Made.{file_length, file_records}
use Rattle.lif_model.specs.declared.version.Version.{Version}
use Rattle.lif_model.specs.Commit.{IsCommitted, commit_writes}
use Rattle.lif_model.specs.Redo.{Changes}
use Rattle.lif_model.specs.Volume.{volume_of, is_gate_held}
use Rattle.lif_model.specs.Apply.{VolumeCommand, Dir, Label, Fetch, Store, Rename, Purge, Adopt, Upgrade, Batch, Format}
use Rattle.lif_model.specs.Transfers.{Transfer, PartlyReplaced}
use Rattle.lif_model.specs.Writing.{SlotWrites, NewFile, with_files, changes_by}
use Rattle.il_ports.specs.declared.records.Trouble.{Trouble}
use Rattle.il_ports.specs.Stores.{RecordsView, GoesOn, RunLeaves}
use Rattle.lif_redo.specs.Writing.{writes_among, AreSingle, runs_filed}
use Rattle.lif_commit.specs.Staged.{most_commit_calls, most_batch_calls}
use Rattle.lif_dir.specs.declared.change.Change.{Change}
use Rattle.lif_dir.specs.declared.entries.Slot.{Slot}
use Rattle.lif_dir.specs.Entries.{slot_bytes}
use Rattle.lif_model.specs.Parts.{Part}
use Rattle.lif_plan.specs.declared.batches.PlannedFile.{PlannedFile}
use Rattle.lif_plan.specs.Batches.{PlansBatch, file_of}
use Rattle.lif_dir.specs.Changes.{slots_with}
use Rattle.lif_volume.specs.declared.fault.VolumeFault.{VolumeFault}
use Rattle.lif_volume.specs.Views.{VolumeView}
use Rattle.lif_volume.specs.Answers.{keeps, store_answer, Answers}
use Rattle.lif_volume.specs.Changing.{IsWrittenIfOk, beside, file_runs, records_stored, carrying, carrying_on, VolumeTurns, AddsAsAnswered}
use Rattle.lif_model.specs.Changing.{files_when, file_when, changes_filed}

-- as many records as a file beside a directory with this header and a commit may read and write
abbrev pub carry_room : ℕ → HeaderParts → ℕ
carry_room n header = beside n (Some header) + most_commit_calls

-- the same for the files of a batch and its commit
abbrev pub batch_room : ℕ → HeaderParts → ℕ
batch_room n header = beside n (Some header) + most_batch_calls

-- These changes and files are planned for a batch of these parts, whose bytes these are, and it changes the directory.
abbrev pub ChangesByParts : List Part → ℕ → HeaderParts → List Slot → List ℕ → List Change → List PlannedFile → Type 0
ChangesByParts parts n header slots bytes changes files =
    (later : List (List ℕ)) × PlansBatch n parts header (map slot_bytes slots) later changes (map (file_of bytes) files) false

-- ---- files, one after the other

-- how many records they have
abbrev pub records_filed : List NewFile → ℕ
records_filed [] = 0
records_filed (file ∷ files) = file_length file.bytes + records_filed files

-- a file lies within so many records
abbrev pub EndsWithin : ℕ → NewFile → Type 0
EndsWithin n file = file.start + file_length file.bytes ≤ n

-- Tape x is tape t with the first of them, or the next one is being written then.
pub data IsPartlyFiled (files : List NewFile) (t x : Tape) : Type 0 where
  some_stand : (done rest : List NewFile) → files ≡ done ++ rest → x ≡ with_files done t → IsPartlyFiled files t x
  next_begun : (done : List NewFile) (next : NewFile) (rest : List NewFile) → files ≡ done ++ next ∷ rest
      → PartlyReplaced next.start (file_records next.bytes) (with_files done t) x → IsPartlyFiled files t x

-- they are written, each by one run
pub record WritesFiles {S T : Type 0} (files : List NewFile) (v w : RecordsView S) (answer : Result T Trouble) : Type 0 where
  pub goes_on : GoesOn (records_filed files) v w answer
  pub stops : (t : Tape) → v.tape ≡ Some t → RunLeaves v w (IsPartlyFiled files t)
  pub after : (t : Tape) → v.tape ≡ Some t → (u : Tape) × (w.tape ≡ Some u) × IsPartlyFiled files t u
  pub done : OnOk answer ((t : Tape) → v.tape ≡ Some t → w.tape ≡ Some (with_files files t))
  pub added : OnOk answer ((list : List Transfer) → v.transferred list → w.transferred (list ++ runs_filed files))

-- ---- the file

-- these are the bytes of the command's file: a store has one, a batch any number, and no other command one
abbrev pub HasFile : VolumeCommand → Option (List ℕ) → Type 0
HasFile (Store name kind implementation bytes) file = file ≡ Some bytes
HasFile (Batch parts) file = ⊥
HasFile Dir file = file ≡ None
HasFile Label file = file ≡ None
HasFile (Fetch name) file = file ≡ None
HasFile (Rename old new) file = file ≡ None
HasFile (Purge name) file = file ≡ None
HasFile Adopt file = file ≡ None
HasFile Upgrade file = file ≡ None
HasFile (Format label slots) file = file ≡ None

-- how many records the file has
abbrev pub file_count : VolumeCommand → ℕ
file_count (Store name kind implementation bytes) = length (file_records bytes)
file_count (Batch parts) = records_stored parts
file_count command = 0

-- The file is written, on a told tape which is settled. After an Ok it stands, by one run.
pub record PutsFileOn {S T : Type 0} (n : ℕ) (command : VolumeCommand) (v w : RecordsView S) (t : Tape) (answer : Result T Trouble) : Type 0 where
  pub stops : VolumeTurns n command v w t
  pub done : OnOk answer (w.tape ≡ Some (file_when n command (volume_of t) t))
  pub added : OnOk answer ((list : List Transfer) → v.transferred list → w.transferred (list ++ file_runs n command (volume_of t)))

pub record PutsFile {S T : Type 0} (command : VolumeCommand) (v w : RecordsView S) (answer : Result T Trouble) : Type 0 where
  pub goes_on : GoesOn (file_count command) v w answer
  pub on_tape : (t : Tape) → v.tape ≡ Some t → PutsFileOn v.record_count command v w t answer

-- ---- the slots in memory

-- with these changes, one after the other
abbrev pub slots_with_all : List Change → List Slot → List Slot
slots_with_all [] slots = slots
slots_with_all (change ∷ changes) slots = slots_with_all changes (slots_with change slots)

-- ---- the files and the commit of slots, of a directory that begins at record `start`

-- the records that change on a tape
abbrev pub changes_made : ℕ → (Tape → SlotWrites) → Tape → Changes
changes_made start slots t = changes_by start (slots t) t

pub record PutsOn {S T : Type 0} (n : ℕ) (command : VolumeCommand) (version : Version) (start : ℕ) (slots : Tape → SlotWrites) (v w : RecordsView S) (t : Tape) (answer : Result T Trouble) : Type 0 where
  pub stops : VolumeTurns n command v w t
  -- after an Ok the slots stand on the tape with the files
  pub done : OnOk answer ((u : Tape) × (w.tape ≡ Some u)
      × IsCommitted version (changes_made start slots (file_when n command (volume_of t) t)) (file_when n command (volume_of t) t) u)
  pub added : OnOk answer ((list : List Transfer) → v.transferred list → (more : List Transfer)
      × w.transferred (list ++ (file_runs n command (volume_of t) ++ more))
      × (writes_among more ≡ commit_writes version n (has_open_gate (file_when n command (volume_of t) t)) (changes_made start slots (file_when n command (volume_of t) t)))
      × AreSingle more)

-- in so many calls of the commit
pub record Puts {S T : Type 0} (calls : ℕ) (command : VolumeCommand) (version : Version) (start : ℕ) (slots : Tape → SlotWrites) (v w : RecordsView S) (answer : Result T Trouble) : Type 0 where
  pub goes_on : GoesOn (file_count command + calls) v w answer
  pub on_tape : (t : Tape) → v.tape ≡ Some t → PutsOn v.record_count command version start slots v w t answer

-- ---- the whole

-- on a told tape, which is settled
pub record CarriesOutOn {S T : Type 0} (n : ℕ) (command : VolumeCommand) (v w : RecordsView S) (t : Tape) (answer : Result T VolumeFault) : Type 0 where
  pub few : v.calls_left ≤ w.calls_left + carrying_on n command t (changes_filed n command (volume_of t) t) answer
  pub written : (u : Tape) → w.tape ≡ Some u → IsWrittenIfOk n command (volume_of t) t u answer
  pub answers : (u : Tape) → w.tape ≡ Some u → Answers n command t u answer
  pub stops : VolumeTurns n command v w t
  pub added : AddsAsAnswered (λ k. ⊥) true n command (volume_of t) t v.transferred w.transferred answer

-- from a volume whose directory is kept; where no call may be made, or there is neither a file nor a change, or a file that is not ours
-- holds the gate record, the store is as it was
pub record CarriesOut {R S T : Type 0} (command : VolumeCommand) (view : R → RecordsView S) (old new : VolumeView R) (answer : Result T VolumeFault) : Type 0 where
  pub goes_on : GoesOn (carrying (view old.records).record_count command old.kept answer) (view old.records) (view new.records) (store_answer answer)
  pub idle : carrying (view old.records).record_count command old.kept answer ≡ 0 → new.records ≡ old.records
  pub idle_on : (t : Tape) → (view old.records).tape ≡ Some t → files_when (view old.records).record_count command (volume_of t) ≡ []
      → changes_filed (view old.records).record_count command (volume_of t) t ≡ [] → new.records ≡ old.records
  pub held : (t : Tape) → (view old.records).tape ≡ Some t → is_gate_held t ≡ true → new.records ≡ old.records
  pub kept : new.kept ≡ (if keeps answer then old.kept else None)
  pub on_tape : (t : Tape) → (view old.records).tape ≡ Some t
      → CarriesOutOn (view old.records).record_count command (view old.records) (view new.records) t answer
