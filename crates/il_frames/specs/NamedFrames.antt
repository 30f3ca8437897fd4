-- Entries of a log, and the frames of controllers and talkers by name. Source: HP-IL Interface
-- Specification, HP 82166-90017, the tables of command and ready messages.
use Rattle.std.specs.Prelude.{ℕ, ◌+◌, ◌==◌, ◌&&◌, Bool, true, false, not}
use Rattle.il_frames.specs.declared.message.Message.{Message}
use Rattle.il_frames.specs.declared.message.Message.TheVariants as msg
use Rattle.il_frames.specs.declared.frame.Class.TheVariants as class
use Rattle.il_frames.specs.declared.frame.Frame.{Frame}
use Rattle.il_frames.specs.declared.entry.Entry.{Entry}
use Rattle.il_frames.specs.declared.entry.Outcome.{Outcome}
use Rattle.il_frames.specs.declared.entry.Outcome.TheVariants as outcome
use Rattle.il_frames.specs.Frames.{class_of, byte_of, framed, same_class}

-- the entry of a frame, by its source, itself and how it ended
abbrev pub entry : ℕ → Frame → Outcome → Entry
entry s f o = record { source = s; frame = f; outcome = o }

-- the command of a byte
abbrev pub command : ℕ → Frame
command byte = framed class.Cmd byte

-- the ready message of a byte
abbrev pub ready : ℕ → Frame
ready byte = framed class.Rdy byte

-- interface clear
abbrev pub ifc : Frame
ifc = command 0x90

-- auto address unconfigure
abbrev pub aau : Frame
aau = command 0x9A

-- unlisten
abbrev pub unl : Frame
unl = command 0x3F

-- untalk
abbrev pub unt : Frame
unt = command 0x5F

-- listen address a
abbrev pub lad : ℕ → Frame
lad a = command (0x20 + a)

-- talk address a
abbrev pub tad : ℕ → Frame
tad a = command (0x40 + a)

-- device dependent listener command n
abbrev pub ddl : ℕ → Frame
ddl n = command (0xA0 + n)

-- device dependent talker command n
abbrev pub ddt : ℕ → Frame
ddt n = command (0xC0 + n)

-- ready for command
abbrev pub rfc : Frame
rfc = ready 0x00

-- not ready for data
abbrev pub nrd : Frame
nrd = ready 0x42

-- auto address a; the one after address 30 is IAA, illegal auto address
abbrev pub aad : ℕ → Frame
aad a = ready (0x80 + a)

-- a frame that was lost on its way
abbrev pub is_lost : Outcome → Bool
is_lost (outcome.Back f) = false
is_lost (outcome.Taken q) = false
is_lost (outcome.Lost q) = true

-- the frames are equal
abbrev pub is_frame : Frame → Frame → Bool
is_frame f g = same_class (class_of f) (class_of g) && (byte_of f == byte_of g)

-- the entry is a lost NRD of the host
abbrev pub is_lost_nrd : Entry → Bool
is_lost_nrd e = (e.source == 0) && (is_frame e.frame nrd && is_lost e.outcome)

-- the entry's frame is no NRD
abbrev pub is_no_nrd : Entry → Bool
is_no_nrd e = not (is_frame e.frame nrd)

-- the message is an interface clear
abbrev pub is_ifc : Message → Bool
is_ifc msg.Ifc = true
is_ifc m = false
