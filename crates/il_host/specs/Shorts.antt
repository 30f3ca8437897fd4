-- Devices whose paper is short.
use Rattle.std.specs.Prelude.{◌≤◌, length}
use Rattle.std.specs.List.{All}
use Rattle.il_device.specs.State.{DeviceState}
use Rattle.host_model.specs.LoopStates.{LoopState}

-- it keeps no more bytes than it has room for, at most 8,192
pub record IsShort (d : DeviceState) : Type 0 where
  pub heard : length d.heard ≤ d.room
  pub room : d.room ≤ 8192

-- each device beside the drive
pub record AllShort (z : LoopState) : Type 0 where
  pub before : All IsShort z.before
  pub after : All IsShort z.after
