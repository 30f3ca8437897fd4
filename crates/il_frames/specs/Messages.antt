-- The messages of command and ready frames, as the two tables of the HP-IL Interface Specification,
-- HP 82166-90017, print them.
use Rattle.std.specs.Prelude.{ℕ, ◌+◌, ◌-◌, ◌&&◌, ◌==◌, Bool, true, if◌then◌else◌, nat_lt, nat_le, List, [], ◌∷◌}
use Rattle.il_frames.specs.declared.frame.Class.{Class}
use Rattle.il_frames.specs.declared.frame.Class.TheVariants as class
use Rattle.il_frames.specs.declared.frame.Frame.{Frame}
use Rattle.il_frames.specs.declared.message.Message.{Message}
use Rattle.il_frames.specs.declared.message.Message.TheVariants as msg
use Rattle.il_frames.specs.Frames.{class_of, byte_of, framed}

-- a row of a table: a byte and its message; or a first byte, how many bytes from there on, and the
-- message of each, which carries the byte's place among them, from 0
pub data Row : Type 0 where
  One : ℕ → Message → Row
  Group : ℕ → ℕ → (ℕ → Message) → Row

-- the commands
abbrev pub commands : List Row
commands =
    One 0x00 msg.Nul
    ∷ One 0x01 msg.Gtl
    ∷ One 0x04 msg.Sdc
    ∷ One 0x05 msg.Ppd
    ∷ One 0x08 msg.Get
    ∷ One 0x0F msg.Eln
    ∷ One 0x10 msg.Nop
    ∷ One 0x11 msg.Llo
    ∷ One 0x14 msg.Dcl
    ∷ One 0x15 msg.Ppu
    ∷ One 0x18 msg.Ear
    ∷ Group 0x20 31 msg.Lad
    ∷ One 0x3F msg.Unl
    ∷ Group 0x40 31 msg.Tad
    ∷ One 0x5F msg.Unt
    ∷ Group 0x60 31 msg.Sad
    ∷ Group 0x80 16 msg.Ppe
    ∷ One 0x90 msg.Ifc
    ∷ One 0x92 msg.Ren
    ∷ One 0x93 msg.Nre
    ∷ One 0x9A msg.Aau
    ∷ One 0x9B msg.Lpd
    ∷ Group 0xA0 32 msg.Ddl
    ∷ Group 0xC0 32 msg.Ddt
    ∷ []

-- the ready messages
abbrev pub ready_messages : List Row
ready_messages =
    One 0x00 msg.Rfc
    ∷ One 0x40 msg.Eto
    ∷ One 0x41 msg.Ete
    ∷ One 0x42 msg.Nrd
    ∷ One 0x60 msg.Sda
    ∷ One 0x61 msg.Sst
    ∷ One 0x62 msg.Sdi
    ∷ One 0x63 msg.Sai
    ∷ One 0x64 msg.Tct
    ∷ Group 0x80 31 msg.Aad
    ∷ One 0x9F msg.Iaa
    ∷ []

-- the message of the row that has the byte, or the last argument at the byte where no row has it
abbrev pub message_in : List Row → ℕ → (ℕ → Message) → Message
message_in [] byte other = other byte
message_in (One at message ∷ rows) byte other =
    if byte == at then message else message_in rows byte other
message_in (Group first count message ∷ rows) byte other =
    if nat_le first byte && nat_lt byte (first + count) then message (byte - first)
    else message_in rows byte other

-- the message of a class and a byte: data and identify frames carry their byte, and so do commands
-- and ready frames that have no row
abbrev pub message_at : Class → ℕ → Message
message_at class.Dab byte = msg.Dab byte
message_at class.Dsr byte = msg.Dsr byte
message_at class.End byte = msg.End byte
message_at class.Esr byte = msg.Esr byte
message_at class.Cmd byte = message_in commands byte msg.OtherCmd
message_at class.Rdy byte = message_in ready_messages byte msg.OtherRdy
message_at class.Idy byte = msg.Idy byte
message_at class.Isr byte = msg.Isr byte

-- what a frame says
abbrev pub message_of : Frame → Message
message_of f = message_at (class_of f) (byte_of f)

-- the number that a message carries is in its range: an address is at most 30, PPE has 16 numbers, DDL
-- and DDT have 32, and every other number is a byte
abbrev pub is_in_range : Message → Bool
is_in_range (msg.Dab n) = nat_lt n 256
is_in_range (msg.Dsr n) = nat_lt n 256
is_in_range (msg.End n) = nat_lt n 256
is_in_range (msg.Esr n) = nat_lt n 256
is_in_range (msg.Idy n) = nat_lt n 256
is_in_range (msg.Isr n) = nat_lt n 256
is_in_range (msg.Lad n) = nat_le n 30
is_in_range (msg.Tad n) = nat_le n 30
is_in_range (msg.Sad n) = nat_le n 30
is_in_range (msg.Aad n) = nat_le n 30
is_in_range (msg.Ppe n) = nat_lt n 16
is_in_range (msg.Ddl n) = nat_lt n 32
is_in_range (msg.Ddt n) = nat_lt n 32
is_in_range (msg.OtherCmd n) = nat_lt n 256
is_in_range (msg.OtherRdy n) = nat_lt n 256
is_in_range m = true

-- the frame that says a message whose number is in its range
abbrev pub frame_of : Message → Frame
frame_of (msg.Dab n) = framed class.Dab n
frame_of (msg.Dsr n) = framed class.Dsr n
frame_of (msg.End n) = framed class.End n
frame_of (msg.Esr n) = framed class.Esr n
frame_of (msg.Idy n) = framed class.Idy n
frame_of (msg.Isr n) = framed class.Isr n
frame_of msg.Nul = framed class.Cmd 0x00
frame_of msg.Gtl = framed class.Cmd 0x01
frame_of msg.Sdc = framed class.Cmd 0x04
frame_of msg.Ppd = framed class.Cmd 0x05
frame_of msg.Get = framed class.Cmd 0x08
frame_of msg.Eln = framed class.Cmd 0x0F
frame_of msg.Nop = framed class.Cmd 0x10
frame_of msg.Llo = framed class.Cmd 0x11
frame_of msg.Dcl = framed class.Cmd 0x14
frame_of msg.Ppu = framed class.Cmd 0x15
frame_of msg.Ear = framed class.Cmd 0x18
frame_of (msg.Lad n) = framed class.Cmd (0x20 + n)
frame_of msg.Unl = framed class.Cmd 0x3F
frame_of (msg.Tad n) = framed class.Cmd (0x40 + n)
frame_of msg.Unt = framed class.Cmd 0x5F
frame_of (msg.Sad n) = framed class.Cmd (0x60 + n)
frame_of (msg.Ppe n) = framed class.Cmd (0x80 + n)
frame_of msg.Ifc = framed class.Cmd 0x90
frame_of msg.Ren = framed class.Cmd 0x92
frame_of msg.Nre = framed class.Cmd 0x93
frame_of msg.Aau = framed class.Cmd 0x9A
frame_of msg.Lpd = framed class.Cmd 0x9B
frame_of (msg.Ddl n) = framed class.Cmd (0xA0 + n)
frame_of (msg.Ddt n) = framed class.Cmd (0xC0 + n)
frame_of (msg.OtherCmd n) = framed class.Cmd n
frame_of msg.Rfc = framed class.Rdy 0x00
frame_of msg.Eto = framed class.Rdy 0x40
frame_of msg.Ete = framed class.Rdy 0x41
frame_of msg.Nrd = framed class.Rdy 0x42
frame_of msg.Sda = framed class.Rdy 0x60
frame_of msg.Sst = framed class.Rdy 0x61
frame_of msg.Sdi = framed class.Rdy 0x62
frame_of msg.Sai = framed class.Rdy 0x63
frame_of msg.Tct = framed class.Rdy 0x64
frame_of (msg.Aad n) = framed class.Rdy (0x80 + n)
frame_of msg.Iaa = framed class.Rdy 0x9F
frame_of (msg.OtherRdy n) = framed class.Rdy n

-- a byte that has a name says what its name says; any other message says itself
abbrev pub by_name : Message → Message
by_name (msg.OtherCmd byte) = message_in commands byte msg.OtherCmd
by_name (msg.OtherRdy byte) = message_in ready_messages byte msg.OtherRdy
by_name m = m
