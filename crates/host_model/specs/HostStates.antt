-- What stands between two items of a run.
use Rattle.std.specs.Prelude.{◌≡◌, ℕ, ◌+◌, ◌*◌, Bool, false, List, Option, option_and_then, IfSome}
use Rattle.lif_model.specs.Tape.{Tape}
use Rattle.lif_model.specs.Volume.{Volume, is_foreign_gated}
use Rattle.lif_model.specs.Packing.{finished_volume_of}
use Rattle.il_device.specs.State.{DeviceState}
use Rattle.host_model.specs.LoopStates.{LoopState, fresh_loop}

pub record HostState : Type 0 where
  -- the tape in the drive, where the medium tells it, and how many records it has
  pub tape : Option Tape
  pub records : ℕ
  -- the medium's count of faults
  pub faults : ℕ
  -- how many crossings of links there were so far; the count stays at its greatest value
  pub crossings : ℕ
  -- the devices have their addresses, since no exchange broke off after the last addressing
  pub ready : Bool
  -- records can be read and written; after a fault they cannot until the drive is cleared
  pub sound : Bool
  -- the directory of a legal volume is kept in memory; then the store is sound
  pub kept : Bool
  pub loop : LoopState

-- a host that was just opened
abbrev pub fresh_host : Option Tape → ℕ → ℕ → List DeviceState → List DeviceState → Option ℕ → HostState
fresh_host tape records faults before after guest =
    record { tape = tape; records = records; faults = faults; crossings = 0; ready = false; sound = false; kept = false; loop = fresh_loop before after guest }

-- The volume: none where the tape is not legal, or not told. A file that a stopped packing was moving stands at its new place.
abbrev pub volume_at : HostState → Option Volume
volume_at s = option_and_then finished_volume_of s.tape

-- no redo is open over a tape where a file that is not ours holds the gate record
abbrev pub HasOwnGate : HostState → Type 0
HasOwnGate s = IfSome s.tape (λ t. is_foreign_gated t ≡ false)

-- ---- room

-- how many entries the log of one command may have on a medium of so many records
abbrev pub log_room : ℕ → ℕ
log_room records = 5500 * records + 60000

-- How many bytes the text of one reply may have. An empty line of a text has two bytes on the tape and seven in a reply.
abbrev pub text_room : ℕ → ℕ
text_room records = 1000 * records + 20000
