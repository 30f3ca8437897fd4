-- What contracts see of a drive.
use Rattle.std.specs.Prelude.{◌≡◌, ◌<◌, ◌≤◌, ℕ, Bool, true, false, List, [], length, replicate, Option, Some, None}
use Rattle.il_frames.specs.declared.frame.Class.TheVariants as class
use Rattle.il_frames.specs.Frames.{class_of}
use Rattle.il_device.specs.declared.interface.OwnFrame.{OwnFrame}
use Rattle.il_device.specs.State.{DeviceState}
use Rattle.il_device.specs.Interfaces.{InterfaceState, IsInterface, fresh_interface, device_on}
use Rattle.il_drive.specs.declared.mode.Mode.{Mode}
use Rattle.il_drive.specs.declared.mode.Mode.TheVariants as mode
use Rattle.il_drive.specs.declared.mode.Start.{Start}
use Rattle.il_drive.specs.declared.mode.Start.TheVariants as start

-- what every device has, its status among it; buffer 0 and buffer 1; the byte pointer; the position on the tape;
-- whether buffer 0 was filled; the mode; and by which start message it last began to send
pub record DriveState : Type 0 where
  pub interface : InterfaceState
  pub buffer_0 : List ℕ
  pub buffer_1 : List ℕ
  pub pointer : ℕ
  pub position : ℕ
  pub filled : Bool
  pub mode : Mode
  pub begun : Start

-- a drive and its medium
pub record DriveView (M : Type 0) : Type 0 where
  pub state : DriveState
  pub medium : M

-- the accessory ID of the HP 82161A
abbrev pub drive_id : ℕ
drive_id = 16

-- nothing has come yet
abbrev pub fresh_drive : DriveState
fresh_drive = record {
  interface = fresh_interface (Some drive_id);
  buffer_0 = replicate 256 0;
  buffer_1 = replicate 256 0;
  pointer = 0;
  position = 0;
  filled = false;
  mode = mode.Rest;
  begun = start.Data;
}

-- the status, 0 to 3
abbrev pub status_of : DriveState → ℕ
status_of s = s.interface.service.status

-- the device that the drive is: it keeps no bytes
abbrev pub device_of : DriveState → DeviceState
device_of s = device_on s.interface [] 0

-- a high byte is a byte
abbrev pub IsMode : Mode → Type 0
IsMode (mode.SeekLow high) = high < 256
IsMode _ = Unit {0}

-- a byte that answers SDA is one of many, a status or an accessory ID the only one
abbrev pub is_single : Start → Bool
is_single start.Data = false
is_single start.Status = true
is_single start.Identity = true

-- the drive's own frame on the loop is of class DAB, and the last one exactly where it does not answer SDA
abbrev pub IsSending : Start → Option OwnFrame → Type 0
IsSending by None = Unit {0}
IsSending by (Some own) = (class_of own.frame ≡ class.Dab) × (own.last ≡ is_single by)

-- what holds of a drive over a tape of n records at every moment
pub record IsDrive (n : ℕ) (s : DriveState) : Type 0 where
  pub standing : IsInterface s.interface
  pub accessory : s.interface.accessory ≡ Some drive_id
  pub status : status_of s ≤ 3
  pub buffer_0 : length s.buffer_0 ≡ 256
  pub buffer_1 : length s.buffer_1 ≡ 256
  pub pointer : s.pointer < 256
  pub position : s.position ≤ n
  pub mode : IsMode s.mode
  pub sending : IsSending s.begun s.interface.own
