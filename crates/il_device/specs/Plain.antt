-- What a plain device does: every choice that a device has is made by its accessory ID, its status,
-- which stays, and the room that it has for bytes.
use Rattle.std.specs.Prelude.{ℕ, ◌≡◌, if◌then◌else◌, Option, None, Some, List}
use Rattle.il_frames.specs.declared.frame.Class.TheVariants as class
use Rattle.il_frames.specs.declared.frame.Frame.{Frame}
use Rattle.il_frames.specs.declared.message.Message.{Message}
use Rattle.il_frames.specs.declared.message.Message.TheVariants as msg
use Rattle.il_frames.specs.Frames.{framed, same_but_service}
use Rattle.il_frames.specs.Messages.{message_of}
use Rattle.il_poll.specs.Service.{wants_service, status_byte_of}
use Rattle.il_device.specs.declared.device.Out.{Out}
use Rattle.il_device.specs.declared.device.Out.TheVariants.{Pass, Source}
use Rattle.il_device.specs.declared.interface.OwnFrame.{OwnFrame}
use Rattle.il_device.specs.declared.interface.Turn.{Turn}
use Rattle.il_device.specs.declared.interface.Turn.TheVariants as turn
use Rattle.il_device.specs.State.{DeviceState, fresh}
use Rattle.il_device.specs.Passing.{passed}
use Rattle.il_device.specs.Takes.{turn_of, eto, ete}

-- of the start messages SST alone is answered, by the status byte; the others pass
abbrev pub status_answer : ℕ → Message → Frame → Out
status_answer status msg.Sst f = Source (framed class.Dab (status_byte_of status))
status_answer status _ f = Pass f

-- one with an accessory ID tells it and its status, and each transmission is one byte long
abbrev pub named_answer : ℕ → ℕ → Turn → Frame → Frame → Out
named_answer id status turn.Pass f on = Pass on
named_answer id status turn.Hear f on = Pass on
named_answer id status turn.Begin f on = status_answer status (message_of f) f
named_answer id status (turn.Identify asked) f on = Source (framed class.Dab id)
named_answer id status (turn.Compare own) f on =
    Source (if same_but_service own.frame f then eto else ete)

-- one without sends nothing
abbrev pub plain_answer : Option ℕ → ℕ → Turn → Frame → Frame → Out
plain_answer None status asked f on = Pass on
plain_answer (Some id) status asked f on = named_answer id status asked f on

-- and so has no frame of its own on the loop
abbrev pub IsSilent : Option ℕ → Option OwnFrame → Type 0
IsSilent None own = own ≡ None
IsSilent (Some id) own = Unit {0}

-- a plain device of this accessory ID, this status and this room in the state s answers the frame f
-- so, and is then in the state t
pub record TakesAsPlain (id : Option ℕ) (status size : ℕ) (s : DeviceState) (f : Frame) (out : Out)
    (t : DeviceState) : Type 0 where
  pub answer : out ≡ plain_answer id status (turn_of s f) f (passed s.roles t.assignment (wants_service status) f)
  pub wants : t.wants ≡ wants_service status
  pub room : t.room ≡ size
  pub accessory : t.accessory ≡ id

-- nothing has come to it yet; it has these bytes from the start
abbrev pub fresh_plain : Option ℕ → ℕ → ℕ → List ℕ → DeviceState
fresh_plain accessory status room bytes =
    record (fresh accessory room) { wants = wants_service status; heard = bytes }
