-- A parallel poll in which each of the first eight parties has a bit of its own. Source: HP-IL Interface
-- Specification, HP 82166-90017, the messages PPE, PPU and IDY; that the bits go by the order of the ring is
-- this project's own.
use Rattle.std.specs.Prelude.{ℕ, ◌+◌, ◌-◌, nat_le, true, if◌then◌else◌, List, [], ◌∷◌, Option, Some, None}
use Rattle.il_frames.specs.declared.frame.Frame.{Frame}
use Rattle.il_poll.specs.declared.service.Assignment.{Assignment}
use Rattle.il_device.specs.Passing.{identified}
use Rattle.il_device.specs.State.{DeviceState}
use Rattle.il_frames.specs.NamedFrames.{command}

-- parallel poll enable n
abbrev pub poll_enable : ℕ → Frame
poll_enable n = command (0x80 + n)

-- parallel poll unconfigure
abbrev pub poll_unconfigure : Frame
poll_unconfigure = command 0x15

-- The place of a party: of the first eight each has a bit of its own, from bit 0 on, and sets it where it wants service.
abbrev pub poll_place : ℕ → Option Assignment
poll_place party = if nat_le party 8 then Some (record { bit = party - 1; sense = true }) else None

-- the identify frame after devices that have these places, of which the first is that party
abbrev pub polled_along : ℕ → List DeviceState → Frame → Frame
polled_along party [] f = f
polled_along party (d ∷ ds) f = polled_along (party + 1) ds (identified (poll_place party) d.wants f)
