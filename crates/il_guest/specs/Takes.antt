-- What a second controller does with a frame that comes to it.
use Rattle.std.specs.Prelude.{◌≡◌, Bool, true, false, ◌&&◌, if◌then◌else◌}
use Rattle.il_frames.specs.declared.frame.Frame.{Frame}
use Rattle.il_frames.specs.declared.message.Message.{Message}
use Rattle.il_frames.specs.declared.message.Message.TheVariants as msg
use Rattle.il_frames.specs.Messages.{message_of}
use Rattle.il_device.specs.Roles.{roles_after, own_after, assignment_after}
use Rattle.il_device.specs.State.{DeviceState, risen}
use Rattle.il_device.specs.Passing.{passed}
use Rattle.il_device.specs.Takes.{turn_of, count_after}
use Rattle.il_frames.specs.NamedFrames.{is_ifc}
use Rattle.il_guest.specs.declared.control.Command.TheVariants as command
use Rattle.il_guest.specs.declared.control.Place.{Place}
use Rattle.il_guest.specs.declared.control.Place.TheVariants as place
use Rattle.il_guest.specs.declared.control.Control.{Control}
use Rattle.il_guest.specs.declared.control.Control.TheVariants as control
use Rattle.il_guest.specs.declared.guest.GuestOut.{GuestOut}
use Rattle.il_guest.specs.declared.guest.GuestOut.TheVariants.{Pass, Stop}
use Rattle.il_guest.specs.Steps.{out_of, control_after, told_at, noted}
use Rattle.il_guest.specs.State.{GuestState, IsGuest, none_found, roles_in_lead}

-- the message hands control over
abbrev pub is_tct : Message → Bool
is_tct m = elim m [ msg.Tct ↦ true | _ ↦ false ]

-- a device that only passes frames on, after this one
abbrev pub device_after : DeviceState → Frame → DeviceState
device_after d f = record d {
  roles = roles_after d.roles (message_of f);
  own = own_after d.roles d.own (message_of f);
  assignment = assignment_after d.roles d.assignment (message_of f);
  heard_count = count_after (turn_of d f) d.heard_count;
  frames = risen d.frames;
}

-- the frame that it passes on
abbrev pub passed_by : DeviceState → Frame → Frame
passed_by d f = passed d.roles (device_after d f).assignment d.wants f

-- the device of a controller: it takes one more frame, and what goes out changes its roles at once. A
-- frame of another changes none
abbrev pub device_led : Control → DeviceState → DeviceState
device_led c d = record d { roles = roles_in_lead c d.roles; frames = risen d.frames }

-- it passes the frame as every device does, and the host controls then
abbrev pub under_host : GuestState → Frame → GuestState
under_host s f = record s { device = device_after s.device f; control = control.Host }

-- it takes control, and begins its rounds
abbrev pub taking_control : GuestState → Frame → GuestState
taking_control s f = record s {
  device = device_after s.device f;
  control = control.Rounds (place.Command command.Nop);
  found = none_found;
}

-- it goes on in its rounds
abbrev pub leading : GuestState → Place → Frame → GuestState
leading s p f = record s {
  device = device_led (control_after s.device.roles.address s.last p f) s.device;
  control = control_after s.device.roles.address s.last p f;
  found = noted (told_at p f) s.found;
}

-- control is taken by TCT while it talks
abbrev pub takes_control : GuestState → Frame → Bool
takes_control s f = is_tct (message_of f) && s.device.roles.talks

-- the state after a frame, by who controls
abbrev pub guest_under : Control → GuestState → Frame → GuestState
guest_under control.Host s f = if takes_control s f then taking_control s f else under_host s f
guest_under (control.Rounds p) s f = if is_ifc (message_of f) then under_host s f else leading s p f
guest_under control.Silent s f = if is_ifc (message_of f) then under_host s f else s

-- the state after a frame
abbrev pub guest_after : GuestState → Frame → GuestState
guest_after s f = guest_under s.control s f

-- the answer, by who controls then
abbrev pub answer_under : Control → GuestState → Frame → GuestOut
answer_under control.Host s f = Pass (passed_by s.device f)
answer_under (control.Rounds p) s f = out_of (control.Rounds p)
answer_under control.Silent s f = Stop

-- the answer to a frame: what passes where the host then controls, and else what goes out of the rounds
abbrev pub guest_answer : GuestState → Frame → GuestOut
guest_answer s f = answer_under (guest_after s f).control s f

-- in the state s a second controller answers the frame f so, and is then in the state t
pub record GuestTakes (s : GuestState) (f : Frame) (out : GuestOut) (t : GuestState) : Type 0 where
  pub before : IsGuest s
  pub after : IsGuest t
  pub state : t ≡ guest_after s f
  pub answer : out ≡ guest_answer s f
