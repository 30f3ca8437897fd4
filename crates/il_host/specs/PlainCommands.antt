-- Commands that a script can ask for.
use Rattle.std.specs.Prelude.{◌≢◌, ◌<◌, ◌≤◌, Option, Some, Result, Ok}
use Rattle.il_script.specs.declared.reply.Code.{Code}
use Rattle.il_script.specs.declared.limits.TheConstants.{MOST_FRAMES}
use Rattle.il_script.specs.declared.command.Command.{Command}
use Rattle.il_script.specs.declared.command.Command.TheVariants.{Store, Put, Get, Fetch, Rename, Purge, Format, Adopt, Upgrade, Pack, Begin, Commit, Devices, Status, Poll, Say, Paper, Lend}
use Rattle.lif_model.specs.Apply.{VolumeCommand}
use Rattle.host_model.specs.Requests.{Request, OfVolume}
use Rattle.il_host.specs.declared.running.Asked.{Asked}
use Rattle.il_host.specs.declared.running.Asked.TheVariants as asked

-- The type of a file that is stored is neither 0, a purged one, nor FFFF hex, the end of a directory; a directory that is made has a slot;
-- and control is lent for a frame or more, up to the most.
abbrev pub IsFormed : Command → Type 0
IsFormed (Store name kind implementation) = (kind ≢ 0) × (kind ≢ 0xFFFF)
IsFormed (Format label slots) = 0 < slots
IsFormed (Lend frames) = (0 < frames) × (frames ≤ MOST_FRAMES)
IsFormed command = Unit {0}

-- and a batch is not performed line by line
abbrev pub IsPlainCommand : Command → Type 0
IsPlainCommand Begin = ⊥
IsPlainCommand Commit = ⊥
IsPlainCommand command = IsFormed command

-- those of a reading
abbrev pub IsFormedRead : Result (Option Command) Code → Type 0
IsFormedRead (Ok (Some command)) = IsFormed command
IsFormedRead _ = Unit {0}

-- and so does what a line asks for, where it is a command
abbrev pub IsPlainAsked : Asked → Type 0
IsPlainAsked (asked.Command command) = IsPlainCommand command
IsPlainAsked asked.Batch = Unit {0}
IsPlainAsked (asked.NoCommand code) = Unit {0}

-- what a line by itself asks for
abbrev pub IsAlone : Asked → Type 0
IsAlone asked.Batch = ⊥
IsAlone asked = Unit {0}

-- ---- commands of the volume

-- one that is performed as it is asked, and reads no file; a text is made beside some others
abbrev pub IsOnVolume : Command → Type 0
IsOnVolume (Fetch name) = ⊥
IsOnVolume (Put name) = ⊥
IsOnVolume (Get name) = ⊥
IsOnVolume Pack = ⊥
IsOnVolume Devices = ⊥
IsOnVolume Status = ⊥
IsOnVolume Poll = ⊥
IsOnVolume Say = ⊥
IsOnVolume Paper = ⊥
IsOnVolume (Lend frames) = ⊥
IsOnVolume Begin = ⊥
IsOnVolume Commit = ⊥
IsOnVolume command = Unit {0}

-- one that changes it
abbrev pub ChangesVolume : Command → Type 0
ChangesVolume (Store name kind implementation) = Unit {0}
ChangesVolume (Rename old new) = Unit {0}
ChangesVolume (Purge name) = Unit {0}
ChangesVolume (Format label slots) = Unit {0}
ChangesVolume Adopt = Unit {0}
ChangesVolume Upgrade = Unit {0}
ChangesVolume command = ⊥

-- what is said of the command of the volume that is asked for
abbrev pub OnVolume : Request → (VolumeCommand → Type 0) → Type 0
OnVolume (OfVolume command) P = P command
OnVolume request P = Unit {0}
