-- The frame that a device passes on. Source: HP-IL Interface Specification, HP 82166-90017.
use Rattle.std.specs.Prelude.{ℕ, ◌+◌, Bool, true, false, Option}
use Rattle.il_frames.specs.declared.frame.Class.TheVariants as class
use Rattle.il_frames.specs.declared.frame.Frame.{Frame}
use Rattle.il_frames.specs.declared.message.Message.{Message}
use Rattle.il_frames.specs.declared.message.Message.TheVariants as msg
use Rattle.il_frames.specs.Frames.{class_of, byte_of, framed, with_service}
use Rattle.il_frames.specs.Messages.{message_of}
use Rattle.il_poll.specs.declared.service.Assignment.{Assignment}
use Rattle.il_poll.specs.Service.{polled}
use Rattle.il_device.specs.declared.roles.Roles.{Roles}
use Rattle.il_device.specs.Roles.{takes_address}

-- the service bit is set where service is wanted, and else stays as it came
abbrev pub served : Bool → Frame → Frame
served false f = f
served true f = with_service f

-- the identify frame after a device: the poll's bits, and the service bit
abbrev pub identified : Option Assignment → Bool → Frame → Frame
identified place wants f = served wants (framed (class_of f) (polled place wants (byte_of f)))

-- AAD, whose byte is 80 hex and the number: a device that takes the address passes the next number on;
-- after 30 this is the byte of IAA
abbrev pub counted_on : Bool → ℕ → Frame → Frame
counted_on false a f = f
counted_on true a f = framed class.Rdy (0x80 + (a + 1))

abbrev pub passed_as : Roles → Option Assignment → Bool → Frame → Message → Frame
passed_as r place wants f (msg.Dab b) = served wants f
passed_as r place wants f (msg.Dsr b) = served wants f
passed_as r place wants f (msg.End b) = served wants f
passed_as r place wants f (msg.Esr b) = served wants f
passed_as r place wants f (msg.Idy b) = identified place wants f
passed_as r place wants f (msg.Isr b) = identified place wants f
passed_as r place wants f (msg.Aad a) = counted_on (takes_address r.address a) a f
passed_as r place wants f _ = f

-- the frame that goes on after a device which had these roles as it came, and has this place in a
-- poll and wants service or not as it goes on
abbrev pub passed : Roles → Option Assignment → Bool → Frame → Frame
passed r place wants f = passed_as r place wants f (message_of f)

-- a message that asks nothing of any device, and that every device passes as it is
abbrev pub is_plain : Message → Bool
is_plain m = elim m [
  | msg.Dab b ↦ false
  | msg.Dsr b ↦ false
  | msg.End b ↦ false
  | msg.Esr b ↦ false
  | msg.Idy b ↦ false
  | msg.Isr b ↦ false
  | msg.Sda ↦ false
  | msg.Sst ↦ false
  | msg.Sdi ↦ false
  | msg.Sai ↦ false
  | msg.Aad a ↦ false
  | _ ↦ true
]
