-- Whether the directory of the volume is kept in memory from one item to the next, and what the log of a command then has.
use Rattle.std.specs.Prelude.{◌≡◌, ◌⊎◌, ◌==◌, ◌++◌, ℕ, Bool, true, false, if◌then◌else◌, List, [], ◌∷◌, Option, Some}
use Rattle.std.specs.FinMap.{get}
use Rattle.lif_model.specs.Tape.{Tape}
use Rattle.lif_model.specs.Directory.{start_of, length_of}
use Rattle.lif_model.specs.declared.version.Version.{Version}
use Rattle.lif_model.specs.Redo.{Changes}
use Rattle.lif_model.specs.Commit.{commit_writes}
use Rattle.lif_model.specs.Legal.{slot_named}
use Rattle.lif_model.specs.Volume.{Volume, volume_of}
use Rattle.lif_model.specs.Apply.{VolumeCommand}
use Rattle.lif_model.specs.Apply as volume
use Rattle.lif_model.specs.Transfers.{Transfer}
use Rattle.lif_model.specs.Writing.{NewFile, files_written, with_file, chosen_place, changes_of}
use Rattle.lif_redo.specs.Writing.{writes_among, AreSingle, runs_filed}
use Rattle.il_frames.specs.declared.entry.Entry.{Entry}
use Rattle.loop_model.specs.Effect.{Transferred}
use Rattle.loop_model.specs.Loops.{Loop}
use Rattle.il_script.specs.declared.reply.Code.{Code}
use Rattle.il_script.specs.declared.reply.Code.TheVariants as code
use Rattle.il_script.specs.declared.reply.Reply.{Reply}
use Rattle.il_script.specs.declared.reply.Reply.TheVariants as reply
use Rattle.host_model.specs.Requests.{OfVolume, Get, Paper, Item, Asks, NoCommand}
use Rattle.host_model.specs.LoopStates.{ring_of}
use Rattle.host_model.specs.HostStates.{HostState}

-- ---- whether it is kept

-- the code is one of a legal volume
abbrev pub has_volume : Code → Bool
has_volume code.NotLif = false
has_volume c = true

-- a command of the volume that is refused so leaves it kept, and a batch that is refused forgets it
abbrev pub kept_after_refusal : VolumeCommand → Code → Bool
kept_after_refusal (volume.Batch parts) c = false
kept_after_refusal command c = has_volume c

-- and a fault forgets it
abbrev pub kept_after_command : VolumeCommand → Reply → Bool
kept_after_command command reply.Ok = true
kept_after_command command (reply.No c) = kept_after_refusal command c
kept_after_command command reply.FaultFrame = false
kept_after_command command reply.FaultMedium = false

-- Where it was kept before or not. A medium that has no room for a new directory may have no legal volume either: `format` leaves a
-- directory kept then.
abbrev pub IsKeptBehind : VolumeCommand → Bool → Reply → Bool → Type 0
IsKeptBehind (volume.Format label slots) was (reply.No code.NoRoom) now = was ≡ true → now ≡ true
IsKeptBehind command was r now = now ≡ kept_after_command command r

-- `pack` and the commands of the loop forget it, but for the one that sends no frame, and so does no other item
abbrev pub IsKeptAfter : Item → Bool → Reply → Bool → Type 0
IsKeptAfter (Asks (OfVolume command)) was r now = IsKeptBehind command was r now
IsKeptAfter (Asks (Get name)) was r now = now ≡ kept_after_command (volume.Fetch name) r
IsKeptAfter (Asks Paper) was r now = now ≡ was
IsKeptAfter (Asks request) was r now = now ≡ false
IsKeptAfter (NoCommand c) was r now = now ≡ was

-- ---- the log of a command that finds it kept

-- the log has these transfers of records and no other exchanges that move any, or nothing where there are none
abbrev pub HasTransfers : Loop → List Entry → List Transfer → Type 0
HasTransfers l log [] = log ≡ []
HasTransfers l log (t ∷ ts) = Transferred l log (t ∷ ts)

-- a file that has records is read by one run from its start
abbrev pub run_read : Option (List ℕ) → Option (List ℕ) → List Transfer
run_read (Some slot) (Some bytes) =
    if length_of slot == 0 then [] else record { writes = false; first = start_of slot; bytes = bytes } ∷ []
run_read slot bytes = []

-- the writes of one commit of these changes, of either version, after a gate that reads open or not; none where there are no changes
abbrev pub IsCommitOf : ℕ → Changes → Changes → Type 0
IsCommitOf n [] writes = writes ≡ []
IsCommitOf n (c ∷ cs) writes = (version : Version) × (was_open : Bool) × (writes ≡ commit_writes version n was_open (c ∷ cs))

-- Each of these files is written by one run; and then records are read and written one by one, of which the writes are those of one
-- commit of these changes.
pub record AreFilesAndCommit (n : ℕ) (files : List NewFile) (changes : Changes) (list : List Transfer) : Type 0 where
  pub more : List Transfer
  pub are : list ≡ runs_filed files ++ more
  pub single : AreSingle more
  pub commit : IsCommitOf n changes (writes_among more)

-- so in the log, or nothing where there are neither files nor changes
abbrev pub HasFilesAndCommit : ℕ → Loop → List Entry → List NewFile → Changes → Type 0
HasFilesAndCommit n l log [] [] = log ≡ []
HasFilesAndCommit n l log files changes = (list : List Transfer) × Transferred l log list × AreFilesAndCommit n files changes list

-- the log of a command that replied ok, on a tape with that volume: the directory is not read, and nothing else that is not asked for
abbrev pub HasOnly : VolumeCommand → ℕ → Loop → List Entry → Volume → Tape → Type 0
HasOnly volume.Dir n l log v t = log ≡ []
HasOnly volume.Label n l log v t = log ≡ []
HasOnly (volume.Fetch name) n l log v t = HasTransfers l log (run_read (slot_named v.slots name) (get v.files name))
HasOnly command n l log v t =
    HasFilesAndCommit n l log (files_written n command v (chosen_place n command v))
    (changes_of n command v (with_file n command v (chosen_place n command v) t))

-- by the reply: a command that is refused sends nothing
abbrev pub AsksLittle : VolumeCommand → Reply → HostState → List Entry → Type 0
AsksLittle command reply.Ok s log =
    (t : Tape) (v : Volume) → s.tape ≡ Some t → volume_of t ≡ Some v → HasOnly command s.records (ring_of s.loop) log v t
AsksLittle command (reply.No c) s log = log ≡ []
AsksLittle command r s log = Unit {0}

-- a get is a fetch, and may be one too where the file is no text
abbrev pub LogOfGot : List ℕ → Reply → HostState → List Entry → Type 0
LogOfGot name (reply.No c) s log = (log ≡ []) ⊎ ((c ≡ code.NotText) × AsksLittle (volume.Fetch name) reply.Ok s log)
LogOfGot name r s log = AsksLittle (volume.Fetch name) r s log

abbrev pub LogOfKept : Item → Reply → HostState → List Entry → Type 0
LogOfKept (Asks (OfVolume command)) r s log = AsksLittle command r s log
LogOfKept (Asks (Get name)) r s log = LogOfGot name r s log
LogOfKept item r s log = Unit {0}
