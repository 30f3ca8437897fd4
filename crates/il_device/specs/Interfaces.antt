-- The part that every device has alike: all of its state but the bytes that it keeps.
use Rattle.std.specs.Prelude.{ℕ, ◌≡◌, Option, None, List}
use Rattle.il_frames.specs.declared.frame.Frame.{Frame}
use Rattle.il_frames.specs.declared.message.Message.{Message}
use Rattle.il_frames.specs.Messages.{message_of}
use Rattle.il_poll.specs.declared.service.Assignment.{Assignment}
use Rattle.il_poll.specs.Service.{Service, wants_service}
use Rattle.il_device.specs.declared.roles.Roles.{Roles}
use Rattle.il_device.specs.declared.interface.OwnFrame.{OwnFrame}
use Rattle.il_device.specs.declared.interface.Turn.{Turn}
use Rattle.il_device.specs.Roles.{no_roles, roles_after, own_after, assignment_after}
use Rattle.il_device.specs.State.{DeviceState, IsStanding, IsCount, risen}
use Rattle.il_device.specs.Passing.{identified, passed}
use Rattle.il_device.specs.Takes.{turn_at, count_after}

-- the roles, the own frame on the loop, the service state, how many bytes were heard and how many
-- frames were taken, and the accessory ID
pub record InterfaceState : Type 0 where
  pub roles : Roles
  pub own : Option OwnFrame
  pub service : Service
  pub heard_count : ℕ
  pub frames : ℕ
  pub accessory : Option ℕ

-- nothing has come yet
abbrev pub fresh_interface : Option ℕ → InterfaceState
fresh_interface accessory = record {
  roles = no_roles;
  own = None;
  service = record { status = 0; assignment = None };
  heard_count = 0;
  frames = 0;
  accessory = accessory;
}

-- what holds of it at every moment
pub record IsInterface (i : InterfaceState) : Type 0 where
  pub standing : IsStanding i.roles i.own i.service.assignment
  pub heard_count : IsCount i.heard_count
  pub frames : IsCount i.frames

-- no address, no role, no place in a poll and no frame of its own on the loop
abbrev pub IsIdleInterface : InterfaceState → Type 0
IsIdleInterface i = (i.roles ≡ no_roles) × (i.service.assignment ≡ None) × (i.own ≡ None)

-- what a frame asks of the device
abbrev pub turn_on : InterfaceState → Frame → Turn
turn_on i f = turn_at i.roles i.own i.accessory (message_of f)

-- with another place in the poll
abbrev pub placed : Service → Option Assignment → Service
placed service place = record service { assignment = place }

-- after what a message does to the roles, the own frame and the place in the poll. Data does nothing
-- to them
abbrev pub obeyed : InterfaceState → Message → InterfaceState
obeyed i m = record i {
  roles = roles_after i.roles m;
  own = own_after i.roles i.own m;
  service = placed i.service (assignment_after i.roles i.service.assignment m);
}

-- after the effect of a frame, and before the answer
abbrev pub interface_after : InterfaceState → Frame → InterfaceState
interface_after i f = record (obeyed i (message_of f)) {
  heard_count = count_after (turn_on i f) i.heard_count;
  frames = risen i.frames;
}

-- after a frame that the device sent, or after the end of a transmission
abbrev pub sending : InterfaceState → Option OwnFrame → InterfaceState
sending i own = record i { own = own }

-- with another status
abbrev pub with_status : InterfaceState → ℕ → InterfaceState
with_status i status = record i { service = record i.service { status = status } }

-- the frame that goes on after the effect; as it came the device had the roles `before`
abbrev pub passed_on : InterfaceState → Roles → Frame → Frame
passed_on i before f = passed before i.service.assignment (wants_service i.service.status) f

-- the identify frame that goes on
abbrev pub identified_on : InterfaceState → Frame → Frame
identified_on i f = identified i.service.assignment (wants_service i.service.status) f

-- the device that has this interface, has kept these bytes, and keeps so many at most
abbrev pub device_on : InterfaceState → List ℕ → ℕ → DeviceState
device_on i heard room = record {
  roles = i.roles;
  own = i.own;
  assignment = i.service.assignment;
  wants = wants_service i.service.status;
  heard = heard;
  room = room;
  heard_count = i.heard_count;
  frames = i.frames;
  accessory = i.accessory;
}
