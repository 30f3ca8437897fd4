-- The identify frame after devices, in the order of the ring: each sets the bit of its place in the parallel poll, and the
-- service bit (HP-IL Interface Specification, parallel poll). Which messages change a place.
use Rattle.std.specs.Prelude.{◌≡◌, not, Bool, true, false, List, [], ◌∷◌}
use Rattle.il_frames.specs.declared.entry.Entry.{Entry}
use Rattle.il_frames.specs.declared.frame.Frame.{Frame}
use Rattle.il_frames.specs.declared.message.Message.{Message}
use Rattle.il_frames.specs.declared.message.Message.TheVariants as msg
use Rattle.il_frames.specs.Messages.{message_of}
use Rattle.il_device.specs.Passing.{identified}
use Rattle.il_device.specs.State.{DeviceState}

abbrev pub identified_along : List DeviceState → Frame → Frame
identified_along [] f = f
identified_along (d ∷ ds) f = identified_along ds (identified d.assignment d.wants f)

-- the message gives places in the poll, or takes them away
abbrev pub is_poll : Message → Bool
is_poll (msg.Ppe n) = true
is_poll msg.Ppd = true
is_poll msg.Ppu = true
is_poll m = false

-- the entry's frame does not
abbrev pub is_no_poll : Entry → Bool
is_no_poll e = not (is_poll (message_of e.frame))

-- the message has a device listen
abbrev pub is_listen_address : Message → Bool
is_listen_address (msg.Lad a) = true
is_listen_address m = false

-- the device has the place that it had
abbrev pub KeepsPlace : DeviceState → DeviceState → Type 0
KeepsPlace d e = e.assignment ≡ d.assignment
