-- What the commands that change a volume do: first the file of a store, and then slots of the directory by one commit.
use Rattle.std.specs.Prelude.{◌≡◌, ◌⊎◌, ◌+◌, ◌-◌, ◌++◌, ℕ, Bool, List, [], ◌∷◌, true, false, length, min, Option, Some, None, Result, Ok, Err, is_some}
use Rattle.lif_model.specs.Tape.{Tape, record_at}
use Rattle.lif_model.specs.Gate.{has_open_gate}
use Rattle.lif_model.specs.Header.{HeaderParts, directory_start}
use Rattle.lif_model.specs.Directory.{slots_of}
use Rattle.lif_model.specs.Made.{file_length}
use Rattle.lif_model.specs.declared.version.Version.{Version}
use Rattle.lif_model.specs.Redo.{Changes, targets_in, redo_of, settled}
use Rattle.lif_model.specs.Commit.{IsSettleWrite, commit_writes}
use Rattle.lif_model.specs.Volume.{Volume, volume_of, is_gate_held, is_foreign_gated}
use Rattle.lif_model.specs.Parts.{Part}
use Rattle.lif_model.specs.Parts as part
use Rattle.lif_model.specs.Apply.{VolumeCommand, Store, Batch, Format, IsWellFormed, apply}
use Rattle.lif_model.specs.Changing.{IsWrittenOn, changes_filed, file_when, files_when, version_for}
use Rattle.lif_model.specs.Transfers.{Transfer}
use Rattle.il_ports.specs.Stores.{RecordsView, RunLeaves}
use Rattle.il_ports.specs.Transfers.{WritesOnly, GoesOnBy}
use Rattle.lif_redo.specs.Writing.{writes_among, AreSingle, runs_filed}
use Rattle.lif_redo.specs.Atomic.{commit_calls}
use Rattle.lif_commit.specs.Staged.{past_end, most_commit_calls, most_batch_calls}
use Rattle.lif_model.specs.declared.refusal.Refusal.{Refusal}
use Rattle.lif_model.specs.declared.refusal.Refusal.TheVariants as refusal
use Rattle.lif_volume.specs.declared.fault.VolumeFault.{VolumeFault}
use Rattle.lif_volume.specs.declared.fault.VolumeFault.TheVariants.{Refused, Trouble as Troubled}
use Rattle.lif_volume.specs.Views.{VolumeView}
use Rattle.lif_volume.specs.Answers.{keeps}
use Rattle.lif_volume.specs.Commands.{IsTold, SettlesOnly, mounting}

-- ---- the tape after a command

-- After an Ok the tape is what the command makes of a settled tape, whose volume is that one or none; after a refusal it
-- is that tape.
abbrev pub IsWrittenIfOk : {T : Type 0} → ℕ → VolumeCommand → Option Volume → Tape → Tape → Result T VolumeFault → Type 0
IsWrittenIfOk n command volume t u (Ok _) = IsWrittenOn n command volume t u
IsWrittenIfOk n command volume t u (Err (Refused why)) = u ≡ t
IsWrittenIfOk n command volume t u (Err (Troubled _)) = Unit {0}

-- the tape after a refusal is the settled one; `format` refuses for want of room before it settles
abbrev pub refused_tape : VolumeCommand → Refusal → Tape → Tape
refused_tape (Format label slots) refusal.NoRoom t = t
refused_tape command why t = settled t

-- the same of any tape, which is settled first
abbrev pub IsWrittenAs : {T : Type 0} → ℕ → VolumeCommand → Tape → Tape → Result T VolumeFault → Type 0
IsWrittenAs n command t u (Err (Refused why)) = u ≡ refused_tape command why t
IsWrittenAs n command t u answer = IsWrittenIfOk n command (volume_of t) (settled t) u answer

-- whether the directory is kept after an answer, where it was kept before or not: `format` that is
-- refused for want of room leaves that, and a batch that is refused forgets it
abbrev pub keeps_behind_command : {T : Type 0} → VolumeCommand → Bool → Result T VolumeFault → Bool
keeps_behind_command (Format label slots) was (Err (Refused refusal.NoRoom)) = was
keeps_behind_command (Batch parts) was (Err (Refused why)) = false
keeps_behind_command command was answer = keeps answer

-- ---- how many records are read and written

-- so many, and none where the command is refused
abbrev pub unless_refused : {T : Type 0} → ℕ → Result T VolumeFault → ℕ
unless_refused calls (Ok _) = calls
unless_refused calls (Err (Refused why)) = 0
unless_refused calls (Err (Troubled trouble)) = calls

-- in a commit at most, with the records that are read for it
abbrev pub committing : {T : Type 0} → Result T VolumeFault → ℕ
committing answer = unless_refused most_commit_calls answer

-- those of the directory past the one with the end; `format` reads none
abbrev pub past_on : VolumeCommand → Tape → Changes → ℕ
past_on (Format label slots) t changes = 0
past_on command t changes = past_end (directory_start (record_at t 0)) (length (slots_of t)) (targets_in changes)

-- in a commit of these changes of a settled tape that is told; none where the command changes nothing
abbrev pub committing_on : {T : Type 0} → VolumeCommand → Tape → Changes → Result T VolumeFault → ℕ
committing_on command t [] answer = 0
committing_on command t (c ∷ cs) (Err (Refused why)) = 0
committing_on command t (c ∷ cs) (Ok _) = past_on command t (c ∷ cs) + commit_calls (has_open_gate t) (length (c ∷ cs))
committing_on command t (c ∷ cs) (Err (Troubled trouble)) =
    past_on command t (c ∷ cs) + commit_calls (has_open_gate t) (length (c ∷ cs))

-- A file comes after the directory and below the redo file: beside a directory with this header,
-- or any, it has at most so many records, and so have the files of a batch together.
abbrev pub beside : ℕ → Option HeaderParts → ℕ
beside n (Some header) = n - (header.length + 5)
beside n None = n - 5

-- on a medium of n records the file's
abbrev pub filing : {T : Type 0} → ℕ → Option HeaderParts → List ℕ → Result T VolumeFault → ℕ
filing n kept bytes answer = unless_refused (min (beside n kept) (file_length bytes)) answer

-- the records of the files that a batch stores
abbrev pub records_stored : List Part → ℕ
records_stored [] = 0
records_stored (part.Store name kind implementation bytes ∷ parts) = file_length bytes + records_stored parts
records_stored (part.Rename old new ∷ parts) = records_stored parts
records_stored (part.Purge name ∷ parts) = records_stored parts

-- on a medium of n records
abbrev pub batch_filing : {T : Type 0} → ℕ → Option HeaderParts → List Part → Result T VolumeFault → ℕ
batch_filing n kept parts answer = unless_refused (min (beside n kept) (records_stored parts)) answer

-- with its commit
abbrev pub batching : {T : Type 0} → ℕ → Option HeaderParts → List Part → Result T VolumeFault → ℕ
batching n kept parts answer = batch_filing n kept parts answer + unless_refused most_batch_calls answer

-- beside a directory with this header, or any
abbrev pub carrying : {T : Type 0} → ℕ → VolumeCommand → Option HeaderParts → Result T VolumeFault → ℕ
carrying n (Store name kind implementation bytes) kept answer = filing n kept bytes answer + committing answer
carrying n (Batch parts) kept answer = batching n kept parts answer
carrying n command kept answer = committing answer

-- on a settled tape that is told, where these records change
abbrev pub carrying_on : {T : Type 0} → ℕ → VolumeCommand → Tape → Changes → Result T VolumeFault → ℕ
carrying_on n (Store name kind implementation bytes) t changes answer =
    filing n None bytes answer + committing_on (Store name kind implementation bytes) t changes answer
carrying_on n (Batch parts) t changes answer = batch_filing n None parts answer + committing_on (Batch parts) t changes answer
carrying_on n command t changes answer = committing_on command t changes answer

-- So many with those of mounting, where it is so many beside a directory, and at most so many in all; where the directory
-- was kept, those beside any.
abbrev pub with_mounting : {T : Type 0} → ℕ → (old new : Option HeaderParts) → (Option HeaderParts → ℕ) → ℕ → Result T VolumeFault → ℕ
with_mounting n (Some old) new calls most answer = calls None
with_mounting n None (Some new) calls most answer = mounting n None (Some new) + calls (Some new)
with_mounting n None None calls most (Err (Refused why)) = mounting n None None
with_mounting n None None calls most answer = most

-- Where a directory that is read lies below the redo file, a store takes never more than n + 76,
abbrev pub storing : {T : Type 0} → ℕ → (old new : Option HeaderParts) → List ℕ → Result T VolumeFault → ℕ
storing n old new bytes answer = with_mounting n old new (λ kept. filing n kept bytes answer + committing answer) (n + 76) answer

-- and a batch never more than n + 138.
abbrev pub batching_all : {T : Type 0} → ℕ → (old new : Option HeaderParts) → List Part → Result T VolumeFault → ℕ
batching_all n old new parts answer = with_mounting n old new (λ kept. batching n kept parts answer) (n + 138) answer

-- of every command with those of mounting; `format` mounts a tape that may be none of a legal volume, whose directory
-- has any length
abbrev pub changing : {T : Type 0} → ℕ → VolumeCommand → (old new : Option HeaderParts) → Result T VolumeFault → ℕ
changing n (Store name kind implementation bytes) old new answer = storing n old new bytes answer
changing n (Batch parts) old new answer = batching_all n old new parts answer
changing n (Format label slots) old new answer = mounting n old None + committing answer
changing n command old new answer = mounting n old new + committing answer

-- ---- stops

-- the tape has the volume before the command, or the one after it, which is well formed then, and no gate that is not ours
pub record HasEitherVolume (n : ℕ) (command : VolumeCommand) (t x : Tape) : Type 0 where
  pub records : length x ≡ length t
  pub volume : (volume_of x ≡ volume_of t) ⊎ (IsWellFormed command × (volume_of x ≡ (apply n command (volume_of t)).1))
  pub own_gate : is_foreign_gated x ≡ false

-- at any moment, and after the call
pub record VolumeTurns {S : Type 0} (n : ℕ) (command : VolumeCommand) (v w : RecordsView S) (t : Tape) : Type 0 where
  pub stops : RunLeaves v w (HasEitherVolume n command t)
  pub after : (u : Tape) × (w.tape ≡ Some u) × HasEitherVolume n command t u

-- ---- the list of reads and writes

-- the writes of one commit, none where there are no changes
abbrev pub writes_if_any : Version → ℕ → Bool → Changes → Changes
writes_if_any version n was_open [] = []
writes_if_any version n was_open (c ∷ cs) = commit_writes version n was_open (c ∷ cs)

-- those of the command, made of a settled tape with that volume, or none, once the file is written
abbrev pub commit_when : ℕ → VolumeCommand → Option Volume → Tape → Changes
commit_when n command volume t = writes_if_any (version_for n command volume) n
    (has_open_gate (file_when n command volume t)) (changes_filed n command volume t)

-- those that the command writes
abbrev pub file_runs : ℕ → VolumeCommand → Option Volume → List Transfer
file_runs n command volume = runs_filed (files_when n command volume)

-- the files at their places, and then reads and writes of one record each, of which the writes are exactly those of
-- the commit
pub record IsFilesAndCommit (n : ℕ) (command : VolumeCommand) (volume : Option Volume) (t : Tape) (list : List Transfer) : Type 0 where
  pub more : List Transfer
  pub are : list ≡ file_runs n command volume ++ more
  pub writes : writes_among more ≡ commit_when n command volume t
  pub single : AreSingle more

-- The list goes on by transfers that write only records that have P, and by none where the directory is kept, and then
-- by those of the files and the commit.
pub record AddsCommit (P : ℕ → Type 0) (kept : Bool) (n : ℕ) (command : VolumeCommand) (volume : Option Volume) (t : Tape)
    (old new : List Transfer → Type 0) : Type 0 where
  pub goes_on : (list : List Transfer) → old list → (first rest : List Transfer) × new (list ++ (first ++ rest))
      × WritesOnly P first × (kept ≡ true → first ≡ []) × IsFilesAndCommit n command volume t rest

-- after an Ok so; after a refusal by transfers that write only records that have P
abbrev pub AddsAsAnswered : {T : Type 0} → (ℕ → Type 0) → Bool → ℕ → VolumeCommand → Option Volume → Tape → (old new : List Transfer → Type 0) → Result T VolumeFault → Type 0
AddsAsAnswered P kept n command volume t old new (Ok _) = AddsCommit P kept n command volume t old new
AddsAsAnswered P kept n command volume t old new (Err (Refused why)) = GoesOnBy P old new
AddsAsAnswered P kept n command volume t old new (Err (Troubled _)) = Unit {0}

-- ---- what is said of a command

-- the tape after it
abbrev pub Writes : {R S T : Type 0} → VolumeCommand → (R → RecordsView S) → (old new : VolumeView R) → Result T VolumeFault → Type 0
Writes command view old new answer = (t u : Tape) → IsTold view old t → IsTold view new u
    → IsWrittenAs (view old.records).record_count command t u answer

-- of a tape that is not foreign-gated: the volume before or after, at any moment and after the call
abbrev pub TurnsVolume : {R S : Type 0} → VolumeCommand → (R → RecordsView S) → (old new : VolumeView R) → Type 0
TurnsVolume command view old new = (t : Tape) → IsTold view old t → is_foreign_gated t ≡ false
    → VolumeTurns (view old.records).record_count command (view old.records) (view new.records) t

-- of a tape whose gate record, once it is settled, a file holds that is not ours: nothing is changed but by settling, at
-- any moment and after the call
abbrev pub SettlesForeign : {R S : Type 0} → (R → RecordsView S) → (old new : VolumeView R) → Type 0
SettlesForeign view old new = (t : Tape) → IsTold view old t → is_gate_held (settled t) ≡ true
    → SettlesOnly (view old.records) (view new.records) t

-- the reads and writes go on by those of settling, by the file, and by those of one commit
abbrev pub WritesByCommit : {R S T : Type 0} → VolumeCommand → (R → RecordsView S) → (old new : VolumeView R) → Result T VolumeFault → Type 0
WritesByCommit command view old new answer = (t : Tape) → IsTold view old t
    → AddsAsAnswered (IsSettleWrite (view old.records).record_count (redo_of t)) (is_some old.kept)
    (view old.records).record_count command (volume_of t) (settled t) (view old.records).transferred (view new.records).transferred answer
