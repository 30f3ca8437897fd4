-- Frames: their class, their byte and their number. Source: HP-IL Interface Specification,
-- HP 82166-90017, the coding of message frames: three control bits, then eight data bits.
use Rattle.std.specs.Prelude.{ℕ, ◌+◌, ◌*◌, ◌<◌, Bool, true, false, ◌&&◌, ◌==◌}
use Rattle.il_frames.specs.declared.frame.Class.{Class}
use Rattle.il_frames.specs.declared.frame.Class.TheVariants as class
use Rattle.il_frames.specs.declared.frame.Frame.{Frame}

-- the class of a frame
abbrev pub class_of : Frame → Class
class_of f = f.class

-- the eight data bits of a frame, as a number
abbrev pub byte_of : Frame → ℕ
byte_of f = f.byte

-- the frame of a class and a byte
abbrev pub framed : Class → ℕ → Frame
framed kind byte = record { class = kind; byte = byte }

-- the byte has eight bits: the premise of each law over all frames, for which a byte is any number
abbrev pub IsFrame : Frame → Type 0
IsFrame f = byte_of f < 256

-- the three control bits, as a number
abbrev pub number_of_class : Class → ℕ
number_of_class class.Dab = 0
number_of_class class.Dsr = 1
number_of_class class.End = 2
number_of_class class.Esr = 3
number_of_class class.Cmd = 4
number_of_class class.Rdy = 5
number_of_class class.Idy = 6
number_of_class class.Isr = 7

-- the number of a frame: its eleven bits, the control bits first
abbrev pub bits_of : Frame → ℕ
bits_of f = 256 * number_of_class (class_of f) + byte_of f

-- data and end frames: the first control bit is 0
abbrev pub is_data_class : Class → Bool
is_data_class class.Dab = true
is_data_class class.Dsr = true
is_data_class class.End = true
is_data_class class.Esr = true
is_data_class class.Cmd = false
is_data_class class.Rdy = false
is_data_class class.Idy = false
is_data_class class.Isr = false

-- the frame is a data or end frame
abbrev pub is_data : Frame → Bool
is_data f = is_data_class (class_of f)

-- the classes that request service: of the data, end and identify classes the ones whose last
-- control bit is 1. Commands and ready frames have no service bit
abbrev pub requests_service : Class → Bool
requests_service class.Dab = false
requests_service class.Dsr = true
requests_service class.End = false
requests_service class.Esr = true
requests_service class.Cmd = false
requests_service class.Rdy = false
requests_service class.Idy = false
requests_service class.Isr = true

-- the frame's service bit is set
abbrev pub has_service : Frame → Bool
has_service f = requests_service (class_of f)

-- the class with its service bit set, where it has one
abbrev pub class_with_service : Class → Class
class_with_service class.Dab = class.Dsr
class_with_service class.Dsr = class.Dsr
class_with_service class.End = class.Esr
class_with_service class.Esr = class.Esr
class_with_service class.Cmd = class.Cmd
class_with_service class.Rdy = class.Rdy
class_with_service class.Idy = class.Isr
class_with_service class.Isr = class.Isr

-- the same frame with its service bit set, where it has one
abbrev pub with_service : Frame → Frame
with_service f = framed (class_with_service (class_of f)) (byte_of f)

-- the same class
abbrev pub same_class : Class → Class → Bool
same_class k l = number_of_class k == number_of_class l

-- the two frames are equal apart from the service bit
abbrev pub same_but_service : Frame → Frame → Bool
same_but_service f g =
    same_class (class_of (with_service f)) (class_of (with_service g)) && (byte_of f == byte_of g)
