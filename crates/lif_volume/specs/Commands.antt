-- What the commands that read a volume do.
use Rattle.std.specs.Prelude.{◌≡◌, ◌≤◌, ◌<◌, ◌+◌, ◌*◌, ◌++◌, if◌then◌else◌, ℕ, Bool, List, [], ◌∷◌, true, false, length, map, max, take, Option, option_map, Some, None, Result, Ok, Err, OnOk, IfSome, is_some, unwrap_or}
use Rattle.std.specs.FinMap.{get}
use Rattle.lif_model.specs.Tape.{Tape, record_at}
use Rattle.lif_model.specs.Gate.{has_open_gate}
use Rattle.lif_model.specs.Header.{is_readable, directory_length, label_of, HeaderParts, header_of}
use Rattle.lif_model.specs.Directory.{type_of, start_of, length_of, implementation_of, slots_of}
use Rattle.lif_model.specs.Redo.{redo_of, settled}
use Rattle.lif_model.specs.Commit.{IsSettleWrite, SettlesAs}
use Rattle.lif_model.specs.Legal.{slot_named}
use Rattle.lif_model.specs.Volume.{Volume, volume_of, is_foreign_gated}
use Rattle.lif_model.specs.Apply.{VolumeCommand}
use Rattle.lif_model.specs.Transfers.{Transfer}
use Rattle.il_ports.specs.Stores.{RecordsView, IsReady, GoesOn, RunLeaves}
use Rattle.il_ports.specs.Transfers.{WritesOnly, AddsOnly}
use Rattle.lif_dir.specs.Entries.{slot_from, slot_bytes}
use Rattle.lif_dir.specs.declared.entries.Slot.{Slot}
use Rattle.lif_volume.specs.declared.fault.VolumeFault.{VolumeFault}
use Rattle.lif_volume.specs.declared.fault.VolumeFault.TheVariants.{Refused, Trouble as Troubled}
use Rattle.lif_volume.specs.declared.volume.Listing.{Listing}
use Rattle.lif_volume.specs.declared.volume.Fetched.{Fetched}
use Rattle.lif_volume.specs.Views.{VolumeView}
use Rattle.lif_volume.specs.Answers.{store_answer, keeps, Answers, IsLegalAs, IsSettledAs, HasVolumeOf}

-- ---- how many records are read and written

-- what every command of a volume on a tape of n records may ask for
abbrev pub calls_needed : ℕ → ℕ
calls_needed n = 2 * n + 40

-- the records of the directory that record 0 tells of, none where it is no header
abbrev pub directory_records : Tape → ℕ
directory_records t =
    if is_readable (length t) (record_at t 0) then directory_length (record_at t 0) else 0

-- the records of the file of that name, none where there is no such file
abbrev pub records_named : List (List ℕ) → List ℕ → ℕ
records_named slots name = unwrap_or (option_map length_of (slot_named slots name)) 0

-- So many to make the directory kept, none where it is. On a tape of n records a directory has at
-- most n - 5.
abbrev pub mounting : ℕ → Option HeaderParts → Option HeaderParts → ℕ
mounting n (Some old) new = 0
mounting n None (Some new) = 71 + new.length
mounting n None None = n + 66

-- the same on a tape that is told: those of settling, record 0 and the directory
abbrev pub mounting_on : Tape → Option HeaderParts → ℕ
mounting_on t (Some old) = 0
mounting_on t None = 71 + directory_records (settled t)

-- the records of the file of that name, none where the command is refused
abbrev pub reading : {T : Type 0} → List (List ℕ) → List ℕ → Result T VolumeFault → ℕ
reading slots name (Err (Refused why)) = 0
reading slots name (Ok _) = records_named slots name
reading slots name (Err (Troubled trouble)) = records_named slots name

-- the same as mounting, with the records of a file after them
abbrev pub fetching : {T : Type 0} → ℕ → List ℕ → Option HeaderParts → List (List ℕ) → Result T VolumeFault → ℕ
fetching n name (Some old) slots answer = reading slots name answer
fetching n name None slots answer = n + 70

abbrev pub fetching_on : {T : Type 0} → Tape → List ℕ → Option HeaderParts → Result T VolumeFault → ℕ
fetching_on t name old answer = mounting_on t old + reading (slots_of (settled t)) name answer

-- ---- every command

-- A batch may ask for more on a medium of fewer than 98 records: for those of mounting, of the files beside the directory,
-- and of its commit.
abbrev pub batch_calls_needed : ℕ → ℕ
batch_calls_needed n = max (calls_needed n) (n + 138)

-- the store is ready for a command of a volume
abbrev pub IsReadyFor : {R S : Type 0} → (R → RecordsView S) → VolumeView R → Type 0
IsReadyFor view volume = IsReady (calls_needed (view volume.records).record_count) (view volume.records)

-- and for a batch
abbrev pub IsReadyForBatch : {R S : Type 0} → (R → RecordsView S) → VolumeView R → Type 0
IsReadyForBatch view volume = IsReady (batch_calls_needed (view volume.records).record_count) (view volume.records)

-- A command that changes no volume. It reads and writes so many records at most, and on a told tape
-- so many, and where that is none the store is as it was; where the store did not fail the tape is
-- the settled one; and the directory is kept after all answers but a trouble and NotLif.
pub record Consults {R S T : Type 0} (calls : ℕ) (calls_on : Tape → ℕ) (view : R → RecordsView S)
    (old new : VolumeView R) (answer : Result T VolumeFault) : Type 0 where
  pub goes_on : GoesOn calls (view old.records) (view new.records) (store_answer answer)
  pub few : (t : Tape) → (view old.records).tape ≡ Some t
      → (view old.records).calls_left ≤ (view new.records).calls_left + calls_on t
  pub idle : calls ≡ 0 → new.records ≡ old.records
  pub settles : (t : Tape) → (view old.records).tape ≡ Some t
      → IsSettledAs t (view new.records).tape (store_answer answer)
  pub kept : is_some new.kept ≡ keeps answer

-- of a tape that is not foreign-gated: its volume stays, at any moment and after the call
pub record VolumeStays {S : Type 0} (v w : RecordsView S) (t : Tape) : Type 0 where
  pub stops : RunLeaves v w (HasVolumeOf t)
  pub after : (u : Tape) × (w.tape ≡ Some u) × HasVolumeOf t u

-- of any tape: it settles to what it settled to before, in all records but the gate, at any moment and after the call
pub record SettlesOnly {S : Type 0} (v w : RecordsView S) (t : Tape) : Type 0 where
  pub stops : RunLeaves v w (SettlesAs (settled t))
  pub after : (u : Tape) × (w.tape ≡ Some u) × SettlesAs (settled t) u

-- ---- each command

-- the header's parts and the slots are those of the tape
pub record Listed (t : Tape) (listing : Listing) (found : List Slot) : Type 0 where
  pub header : record { label = listing.label; start = listing.start; length = listing.length }
      ≡ header_of (record_at t 0)
  pub slots : found ≡ map slot_from (slots_of t)

-- The slot of the name has this type, implementation field and number of bytes, and the first bytes
-- of `into` are all bytes of the volume's file.
pub record FetchedFile (t : Tape) (name : List ℕ) (fetched : Fetched) (into : List ℕ) : Type 0 where
  pub volume : Volume
  pub of_tape : volume_of t ≡ Some volume
  pub slot : List ℕ
  pub named : slot_named volume.slots name ≡ Some slot
  pub kind : fetched.kind ≡ type_of slot
  pub implementation : fetched.implementation ≡ implementation_of slot
  pub length : fetched.length ≡ 256 * length_of slot
  pub bytes : get volume.files name ≡ Some (take fetched.length into)

-- The list of reads and writes goes on by writes of records that have P alone, and by nothing where the
-- directory is kept, and ends with a read of all these bytes from that record on.
pub record EndsWithRead (P : ℕ → Type 0) (kept : Bool) (first : ℕ) (bytes : List ℕ)
    (old new : List Transfer → Type 0) : Type 0 where
  pub goes_on : (list : List Transfer) → old list → (more : List Transfer)
      × new (list ++ (more ++ record { writes = false; first = first; bytes = bytes } ∷ []))
      × WritesOnly P more × (kept ≡ true → more ≡ [])

-- a file that has records is read by one run from its start
abbrev pub ReadsFile : (t : Tape) → ℕ → Bool → List ℕ → Fetched → List ℕ → (old new : List Transfer → Type 0) → Type 0
ReadsFile t n kept name fetched into old new =
    0 < fetched.length → IfSome (slot_named (slots_of (settled t)) name) (λ slot.
    EndsWithRead (IsSettleWrite n (redo_of t)) kept (start_of slot) (take fetched.length into) old new)

-- ---- what the clauses of a command say

-- the tape of the volume's store, where it is told
abbrev pub IsTold : {R S : Type 0} → (R → RecordsView S) → VolumeView R → Tape → Type 0
IsTold view volume t = (view volume.records).tape ≡ Some t

-- it mounts, and reads nothing else
abbrev pub Mounts : {R S T : Type 0} → (R → RecordsView S) → (old new : VolumeView R) → Result T VolumeFault → Type 0
Mounts view old new answer = Consults (mounting (view old.records).record_count old.kept new.kept)
    (λ t. mounting_on t old.kept) view old new answer

-- it mounts, and reads the records of the file of that name; of a kept directory nothing where it is
-- refused
abbrev pub MountsAndReads : {R S T : Type 0} → List ℕ → (R → RecordsView S) → (old new : VolumeView R) → Result T VolumeFault → Type 0
MountsAndReads name view old new answer =
    Consults (fetching (view old.records).record_count name old.kept (map slot_bytes old.slots) answer)
    (λ t. fetching_on t name old.kept answer) view old new answer

-- the answer and the volume after it are those of the command
abbrev pub AnswersTo : {R S T : Type 0} → VolumeCommand → (R → RecordsView S) → (old new : VolumeView R) → Result T VolumeFault → Type 0
AnswersTo command view old new answer = (t u : Tape) → IsTold view old t → IsTold view new u
    → Answers (view old.records).record_count command t u answer

-- it is refused exactly where the settled tape is not legal
abbrev pub IsRefusedExactly : {R S T : Type 0} → (R → RecordsView S) → VolumeView R → Result T VolumeFault → Type 0
IsRefusedExactly view old answer = (t : Tape) → IsTold view old t → IsLegalAs (settled t) answer

-- the volume stays, at any moment and after the call
abbrev pub KeepsVolume : {R S : Type 0} → (R → RecordsView S) → (old new : VolumeView R) → Type 0
KeepsVolume view old new = (t : Tape) → IsTold view old t → is_foreign_gated t ≡ false
    → VolumeStays (view old.records) (view new.records) t

-- nothing is changed but by settling, at any moment and after the call
abbrev pub OnlySettles : {R S : Type 0} → (R → RecordsView S) → (old new : VolumeView R) → Type 0
OnlySettles view old new = (t : Tape) → IsTold view old t → SettlesOnly (view old.records) (view new.records) t

-- the reads and writes go on by writes of settling alone
abbrev pub WritesBySettling : {R S T : Type 0} → (R → RecordsView S) → (old new : VolumeView R) → Result T VolumeFault → Type 0
WritesBySettling view old new answer = (t : Tape) → IsTold view old t
    → AddsOnly (IsSettleWrite (view old.records).record_count (redo_of t))
    (view old.records).transferred (view new.records).transferred (store_answer answer)

-- the listing and the slots are those of the settled tape
abbrev pub Lists : {R S : Type 0} → (R → RecordsView S) → (old new : VolumeView R) → Listing → Type 0
Lists view old new listing = (t : Tape) → IsTold view old t → Listed (settled t) listing new.slots

-- it is known whether the gate reads open, where the store did not fail
abbrev pub TellsGate : {R S T : Type 0} → (R → RecordsView S) → VolumeView R → Result T VolumeFault → Type 0
TellsGate view new answer = OnOk (store_answer answer) ((t : Tape) → IsTold view new t → new.is_open ≡ has_open_gate t)

-- the label is that of the settled tape
abbrev pub Labels : {R S : Type 0} → (R → RecordsView S) → VolumeView R → List ℕ → Type 0
Labels view old label = (t : Tape) → IsTold view old t → label ≡ label_of (record_at (settled t) 0)

-- the file is that of the volume
abbrev pub FetchesFile : {R S : Type 0} → List ℕ → (R → RecordsView S) → VolumeView R → Fetched → List ℕ → Type 0
FetchesFile name view old fetched into = (t : Tape) → IsTold view old t → FetchedFile t name fetched into

-- and it was read by one run
abbrev pub FetchesByRun : {R S : Type 0} → List ℕ → (R → RecordsView S) → (old new : VolumeView R) → Fetched → List ℕ → Type 0
FetchesByRun name view old new fetched into = (t : Tape) → IsTold view old t
    → ReadsFile t (view old.records).record_count (is_some old.kept) name fetched into
    (view old.records).transferred (view new.records).transferred
