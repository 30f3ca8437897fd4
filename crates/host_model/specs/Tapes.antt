-- What a command of the volume leaves of the tape, record by record, and which records it writes.
use Rattle.std.specs.Prelude.{◌≡◌, ◌++◌, ℕ, Bool, true, false, List, Option}
use Rattle.lif_model.specs.Tape.{Tape}
use Rattle.lif_model.specs.Redo.{redo_of, settled}
use Rattle.lif_model.specs.Commit.{IsSettleWrite}
use Rattle.lif_model.specs.Volume.{Volume, volume_of}
use Rattle.lif_model.specs.Packing.{has_mark}
use Rattle.lif_model.specs.Finished.{IsFinished, IsPackedFrom}
use Rattle.lif_model.specs.Changing.{IsWrittenOn, changes_filed, files_when}
use Rattle.lif_model.specs.Apply.{VolumeCommand}
use Rattle.lif_model.specs.Apply as volume
use Rattle.lif_model.specs.Transfers.{Transfer}
use Rattle.il_ports.specs.Transfers.{WritesOnly}
use Rattle.il_frames.specs.declared.entry.Entry.{Entry}
use Rattle.loop_model.specs.Effect.{Transferred}
use Rattle.loop_model.specs.Loops.{Loop}
use Rattle.il_script.specs.declared.reply.Reply.{Reply}
use Rattle.il_script.specs.declared.reply.Reply.TheVariants as reply
use Rattle.host_model.specs.Directories.{AreFilesAndCommit}
use Rattle.host_model.specs.Requests.{OfVolume, Get, Pack, Item, Asks, is_of_volume}

-- a command that changes nothing
abbrev pub only_reads : Item → Bool
only_reads (Asks (OfVolume volume.Dir)) = true
only_reads (Asks (OfVolume volume.Label)) = true
only_reads (Asks (OfVolume (volume.Fetch name))) = true
only_reads (Asks (Get name)) = true
only_reads item = false

-- by its reply, a command of the volume changed nothing: it only reads, or was refused
abbrev pub only_settles : Reply → Item → Bool
only_settles reply.Ok item = only_reads item
only_settles (reply.No c) item = is_of_volume item
only_settles reply.FaultFrame item = false
only_settles reply.FaultMedium item = false

-- Such a command settles the tape, and each one except `pack` finishes a stopped packing too.
abbrev pub IsKeptTape : Item → Tape → Tape → Type 0
IsKeptTape (Asks Pack) t u = u ≡ settled t
IsKeptTape item t u = IsFinished t u

-- A command first finishes a stopped packing of a tape with that volume, unless it is `pack`.
abbrev pub finishes_first : Item → ℕ → Option Volume → Bool
finishes_first (Asks Pack) n v = false
finishes_first item n v = has_mark n v

-- The units of the log write only records that settling this tape writes. A log of whole exchanges has one list of units.
pub record OnlySettling (n : ℕ) (l : Loop) (log : List Entry) (t : Tape) : Type 0 where
  pub list : List Transfer
  pub transferred : Transferred l log list
  pub only : WritesOnly (IsSettleWrite n (redo_of t)) list

-- The transfers of the log write only what settling this tape writes, and then there is one run for each file of the command, and the
-- reads and writes of one commit of its changes, each of one record.
pub record CommitsOnly (command : VolumeCommand) (n : ℕ) (l : Loop) (log : List Entry) (t : Tape) : Type 0 where
  pub first : List Transfer
  pub rest : List Transfer
  pub transferred : Transferred l log (first ++ rest)
  pub settles : WritesOnly (IsSettleWrite n (redo_of t)) first
  pub commits : AreFilesAndCommit n (files_when n command (volume_of t)) (changes_filed n command (volume_of t) (settled t)) rest

-- so it is of a command of the volume; of `pack` this is not said
abbrev pub CommitsFor : Item → ℕ → Loop → List Entry → Tape → Type 0
CommitsFor (Asks (OfVolume command)) n l log t = CommitsOnly command n l log t
CommitsFor item n l log t = Unit {0}

-- With ok, the tape is what the command makes of a tape that is settled, and on which a stopped packing is finished.
abbrev pub IsWritten : Reply → Item → ℕ → Tape → Tape → Type 0
IsWritten reply.Ok (Asks (OfVolume command)) n t u = (x : Tape) × IsFinished t x × IsWrittenOn n command (volume_of x) x u
IsWritten reply.Ok (Asks Pack) n t u = IsPackedFrom t u
IsWritten reply.Ok item n t u = Unit {0}
IsWritten (reply.No c) item n t u = Unit {0}
IsWritten reply.FaultFrame item n t u = Unit {0}
IsWritten reply.FaultMedium item n t u = Unit {0}
