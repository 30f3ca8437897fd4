-- What stands on the loop between two commands, and what the commands of the loop tell of it.
use Rattle.std.specs.Prelude.{ℕ, suc, ◌+◌, List, ◌∷◌, ◌++◌, length, map, Option, Some, None, option_map}
use Rattle.std.specs.List.{position}
use Rattle.il_frames.specs.declared.frame.Class.TheVariants as class
use Rattle.il_frames.specs.declared.frame.Frame.{Frame}
use Rattle.il_frames.specs.Frames.{framed}
use Rattle.il_poll.specs.Service.{wants_service, status_byte_of}
use Rattle.il_device.specs.declared.roles.Roles.{Roles}
use Rattle.il_device.specs.Roles.{no_roles}
use Rattle.il_device.specs.State.{DeviceState}
use Rattle.il_device.specs.Passing.{identified}
use Rattle.il_drive.specs.State.{drive_id}
use Rattle.il_guest.specs.Rounds.{addresses}
use Rattle.il_ring.specs.Rings.{printer_id, has_id, paper_of}
use Rattle.loop_model.specs.Loops.{Loop, host_loop}
use Rattle.loop_model.specs.Polls.{poll_place, polled_along}

-- The devices before the drive, in the order of the ring; the drive's status, 0 to 3, and its roles; the devices after it; and the last
-- address that a second controller asks, where there is one. Its device is the last of those.
pub record LoopState : Type 0 where
  pub before : List DeviceState
  pub status : ℕ
  pub drive : Roles
  pub after : List DeviceState
  pub guest : Option ℕ

-- the devices as they were handed in, with a drive to which nothing has come yet
abbrev pub fresh_loop : List DeviceState → List DeviceState → Option ℕ → LoopState
fresh_loop before after guest = record { before = before; status = 0; drive = no_roles; after = after; guest = guest }

-- ---- all devices, in the order of the ring: the first is party 1

-- the devices beside the drive
abbrev pub boxed : LoopState → List DeviceState
boxed z = z.before ++ z.after

-- the drive's party
abbrev pub drive_at : LoopState → ℕ
drive_at z = length z.before + 1

abbrev pub device_count : LoopState → ℕ
device_count z = length z.before + suc (length z.after)

-- the ring that logs are read on
abbrev pub ring_of : LoopState → Loop
ring_of z = host_loop (device_count z) (drive_at z)

abbrev pub all_roles : LoopState → List Roles
all_roles z = map (λ d. d.roles) z.before ++ z.drive ∷ map (λ d. d.roles) z.after

-- the accessory IDs by address: every device takes its address in the order of the ring
abbrev pub all_ids : LoopState → List (Option ℕ)
all_ids z = map (λ d. d.accessory) z.before ++ Some drive_id ∷ map (λ d. d.accessory) z.after

-- ---- what the drive tells of itself

-- the byte that answers a request for its status
abbrev pub status_byte : LoopState → ℕ
status_byte z = status_byte_of z.status

-- ---- the parallel poll (HP-IL Interface Specification, parallel poll)

-- The identify frame that comes back to the host, after the devices before the drive, the drive and those after it. The drive wants
-- service while its status is not 0.
abbrev pub poll_frame : LoopState → Frame
poll_frame z =
    let before = polled_along 1 z.before (framed class.Idy 0x00) in
    polled_along (drive_at z + 1) z.after (identified (poll_place (drive_at z)) (wants_service z.status) before)

-- ---- the printer

-- the lowest address at which a printer stands
abbrev pub printer_at : LoopState → Option ℕ
printer_at z = option_map suc (position (has_id printer_id) (all_ids z))

-- what the first printer beside the drive has kept, and how many bytes it has heard
abbrev pub paper_on : LoopState → Option (List ℕ × ℕ)
paper_on z = paper_of (boxed z)

-- ---- a second controller

abbrev pub last_address : Option ℕ → ℕ
last_address None = 0
last_address (Some last) = last

-- the addresses that it asks for their status in each round, of which its own is none
abbrev pub addresses_asked : LoopState → List ℕ
addresses_asked z = addresses (Some (device_count z)) (last_address z.guest)
