-- What every device does with a frame: the relation of its state as the frame comes, the frame, its
-- answer and its state after the answer. Source: HP-IL Interface Specification, HP 82166-90017, as
-- far as roles, handshakes and polls go.
use Rattle.std.specs.Prelude.{ℕ, ◌≡◌, ◌⊎◌, ◌++◌, ◌∷◌, [], ◌||◌, Bool, true, false, if◌then◌else◌, nat_lt, Option, Some, None, List, length}
use Rattle.il_frames.specs.declared.frame.Class.TheVariants as class
use Rattle.il_frames.specs.declared.frame.Frame.{Frame}
use Rattle.il_frames.specs.declared.message.Message.{Message}
use Rattle.il_frames.specs.declared.message.Message.TheVariants as msg
use Rattle.il_frames.specs.Frames.{byte_of, framed, is_data, has_service, same_but_service}
use Rattle.il_frames.specs.Messages.{message_of}
use Rattle.il_device.specs.declared.device.Out.{Out}
use Rattle.il_device.specs.declared.device.Out.TheVariants.{Pass, Source}
use Rattle.il_device.specs.declared.interface.OwnFrame.{OwnFrame}
use Rattle.il_device.specs.declared.interface.Turn.{Turn}
use Rattle.il_device.specs.declared.interface.Turn.TheVariants as turn
use Rattle.il_device.specs.declared.roles.Roles.{Roles}
use Rattle.il_device.specs.Roles.{roles_after, own_after, assignment_after}
use Rattle.il_device.specs.State.{DeviceState, IsDevice, risen}
use Rattle.il_device.specs.Passing.{passed}

-- end of transmission, OK and error
abbrev pub eto : Frame
eto = framed class.Rdy 0x40

abbrev pub ete : Frame
ete = framed class.Rdy 0x41

-- data or end: with a frame of its own on the loop a device compares, and a listener hears
abbrev pub turn_at_data : Option OwnFrame → Bool → Turn
turn_at_data (Some own) listens = turn.Compare own
turn_at_data None true = turn.Hear
turn_at_data None false = turn.Pass

-- a start message is for a talker that has no frame of its own on the loop
abbrev pub turn_at_start : Option OwnFrame → Bool → Turn → Turn
turn_at_start (Some own) talks asked = turn.Pass
turn_at_start None true asked = asked
turn_at_start None false asked = turn.Pass

-- SAI asks for the accessory ID
abbrev pub asked_for_id : Option ℕ → Turn
asked_for_id None = turn.Pass
asked_for_id (Some id) = turn.Identify id

abbrev pub turn_at : Roles → Option OwnFrame → Option ℕ → Message → Turn
turn_at r own accessory (msg.Dab b) = turn_at_data own r.listens
turn_at r own accessory (msg.Dsr b) = turn_at_data own r.listens
turn_at r own accessory (msg.End b) = turn_at_data own r.listens
turn_at r own accessory (msg.Esr b) = turn_at_data own r.listens
turn_at r own accessory msg.Sda = turn_at_start own r.talks turn.Begin
turn_at r own accessory msg.Sst = turn_at_start own r.talks turn.Begin
turn_at r own accessory msg.Sdi = turn_at_start own r.talks turn.Begin
turn_at r own accessory msg.Sai = turn_at_start own r.talks (asked_for_id accessory)
turn_at r own accessory _ = turn.Pass

-- what the frame asks of the device
abbrev pub turn_of : DeviceState → Frame → Turn
turn_of s f = turn_at s.roles s.own s.accessory (message_of f)

-- a byte is kept while there is room
abbrev pub kept : ℕ → List ℕ → ℕ → List ℕ
kept room heard byte = if nat_lt (length heard) room then heard ++ byte ∷ [] else heard

-- the bytes that are kept after a list of bytes heard
abbrev pub kept_all : ℕ → List ℕ → List ℕ → List ℕ
kept_all room heard [] = heard
kept_all room heard (b ∷ bs) = kept_all room (kept room heard b) bs

-- the bytes that are kept, and how many were heard
abbrev pub heard_after : Turn → ℕ → List ℕ → ℕ → List ℕ
heard_after turn.Hear room heard byte = kept room heard byte
heard_after turn.Pass room heard byte = heard
heard_after turn.Begin room heard byte = heard
heard_after (turn.Identify id) room heard byte = heard
heard_after (turn.Compare own) room heard byte = heard

abbrev pub count_after : Turn → ℕ → ℕ
count_after turn.Hear count = risen count
count_after turn.Pass count = count
count_after turn.Begin count = count
count_after (turn.Identify id) count = count
count_after (turn.Compare own) count = count

-- the messages at which a device may begin to want service, or cease to
abbrev pub may_change_service : Message → Bool
may_change_service m = elim m [
  | msg.Dab b ↦ true
  | msg.Dsr b ↦ true
  | msg.End b ↦ true
  | msg.Esr b ↦ true
  | msg.Sda ↦ true
  | msg.Sst ↦ true
  | msg.Sdi ↦ true
  | msg.Sai ↦ true
  | msg.Sdc ↦ true
  | msg.Dcl ↦ true
  | msg.Ddl n ↦ true
  | msg.Ddt n ↦ true
  | _ ↦ false
]

-- the frame goes on, and nothing else happens
pub record Passes (s : DeviceState) (f : Frame) (out : Out) (t : DeviceState) : Type 0 where
  pub answer : out ≡ Pass (passed s.roles t.assignment t.wants f)
  pub still_own : t.own ≡ own_after s.roles s.own (message_of f)

-- a data or end frame of the device's own goes on in place of the frame; the service bit is set only
-- where service is wanted
pub record Sends (own : OwnFrame) (out : Out) (t : DeviceState) : Type 0 where
  pub answer : out ≡ Source own.frame
  pub on_loop : t.own ≡ Some own
  pub is_data : is_data own.frame ≡ true
  pub service : has_service own.frame ≡ true → t.wants ≡ true
  pub runs : own.stopped ≡ false

-- the transmission ends with this frame
pub record Ends (with : Frame) (out : Out) (t : DeviceState) : Type 0 where
  pub answer : out ≡ Source with
  pub off_loop : t.own ≡ None

-- a frame just sent, and whether it is the last
abbrev pub just_sent : Frame → Bool → OwnFrame
just_sent f last = record { frame = f; last = last; stopped = false }

-- the accessory ID, which alone is sent
abbrev pub identity : ℕ → OwnFrame
identity id = just_sent (framed class.Dab id) true

-- after the right echo a device that is stopped, or has nothing more to send, ends with ETO; another
-- one goes on, or ends with ETO
abbrev pub GoesOn : Bool → Out → DeviceState → Type 0
GoesOn true out t = Ends eto out t
GoesOn false out t = Ends eto out t ⊎ ((next : OwnFrame) × Sends next out t)

-- the echo is right where it equals the own frame apart from the service bit
abbrev pub AnswersEcho : Bool → OwnFrame → Out → DeviceState → Type 0
AnswersEcho false own out t = Ends ete out t
AnswersEcho true own out t = GoesOn (own.stopped || own.last) out t

-- the answer, and the own frame after it
abbrev pub Answers : Turn → DeviceState → Frame → Out → DeviceState → Type 0
Answers turn.Pass s f out t = Passes s f out t
Answers turn.Hear s f out t = Passes s f out t
Answers turn.Begin s f out t = Passes s f out t ⊎ ((first : OwnFrame) × Sends first out t)
Answers (turn.Identify id) s f out t = Sends (identity id) out t
Answers (turn.Compare own) s f out t = AnswersEcho (same_but_service own.frame f) own out t

-- in the state s a device may take the frame f with this answer, and is then in the state t
pub record Takes (s : DeviceState) (f : Frame) (out : Out) (t : DeviceState) : Type 0 where
  pub before : IsDevice s
  pub after : IsDevice t
  pub roles : t.roles ≡ roles_after s.roles (message_of f)
  pub assignment : t.assignment ≡ assignment_after s.roles s.assignment (message_of f)
  pub wants : may_change_service (message_of f) ≡ false → t.wants ≡ s.wants
  pub heard : t.heard ≡ heard_after (turn_of s f) s.room s.heard (byte_of f)
  pub room : t.room ≡ s.room
  pub heard_count : t.heard_count ≡ count_after (turn_of s f) s.heard_count
  pub frames : t.frames ≡ risen s.frames
  pub accessory : t.accessory ≡ s.accessory
  pub answer : Answers (turn_of s f) s f out t
