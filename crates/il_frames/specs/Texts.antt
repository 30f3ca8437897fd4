-- The texts of frames. The names are those of the HP-IL Interface Specification, HP 82166-90017;
-- the spelling of the numbers is this project's own.
use Rattle.std.specs.Prelude.{ℕ, ◌/◌, ◌%◌, Option, Some, None, List, [], ◌∷◌, ◌++◌, codes, slice_index}
use Rattle.il_frames.specs.declared.frame.Frame.{Frame}
use Rattle.il_frames.specs.declared.message.Message.{Message}
use Rattle.il_frames.specs.declared.message.Message.TheVariants as msg
use Rattle.il_frames.specs.Messages.{message_of}

-- the three letters of a message; commands and ready frames without a row have those of their class
abbrev pub name_of : Message → List ℕ
name_of (msg.Dab n) = codes "DAB"
name_of (msg.Dsr n) = codes "DSR"
name_of (msg.End n) = codes "END"
name_of (msg.Esr n) = codes "ESR"
name_of (msg.Idy n) = codes "IDY"
name_of (msg.Isr n) = codes "ISR"
name_of msg.Nul = codes "NUL"
name_of msg.Gtl = codes "GTL"
name_of msg.Sdc = codes "SDC"
name_of msg.Ppd = codes "PPD"
name_of msg.Get = codes "GET"
name_of msg.Eln = codes "ELN"
name_of msg.Nop = codes "NOP"
name_of msg.Llo = codes "LLO"
name_of msg.Dcl = codes "DCL"
name_of msg.Ppu = codes "PPU"
name_of msg.Ear = codes "EAR"
name_of (msg.Lad n) = codes "LAD"
name_of msg.Unl = codes "UNL"
name_of (msg.Tad n) = codes "TAD"
name_of msg.Unt = codes "UNT"
name_of (msg.Sad n) = codes "SAD"
name_of (msg.Ppe n) = codes "PPE"
name_of msg.Ifc = codes "IFC"
name_of msg.Ren = codes "REN"
name_of msg.Nre = codes "NRE"
name_of msg.Aau = codes "AAU"
name_of msg.Lpd = codes "LPD"
name_of (msg.Ddl n) = codes "DDL"
name_of (msg.Ddt n) = codes "DDT"
name_of (msg.OtherCmd n) = codes "CMD"
name_of msg.Rfc = codes "RFC"
name_of msg.Eto = codes "ETO"
name_of msg.Ete = codes "ETE"
name_of msg.Nrd = codes "NRD"
name_of msg.Sda = codes "SDA"
name_of msg.Sst = codes "SST"
name_of msg.Sdi = codes "SDI"
name_of msg.Sai = codes "SAI"
name_of msg.Tct = codes "TCT"
name_of (msg.Aad n) = codes "AAD"
name_of msg.Iaa = codes "IAA"
name_of (msg.OtherRdy n) = codes "RDY"

-- the number that a message carries, if it carries one
abbrev pub number_of : Message → Option ℕ
number_of (msg.Dab n) = Some n
number_of (msg.Dsr n) = Some n
number_of (msg.End n) = Some n
number_of (msg.Esr n) = Some n
number_of (msg.Idy n) = Some n
number_of (msg.Isr n) = Some n
number_of msg.Nul = None
number_of msg.Gtl = None
number_of msg.Sdc = None
number_of msg.Ppd = None
number_of msg.Get = None
number_of msg.Eln = None
number_of msg.Nop = None
number_of msg.Llo = None
number_of msg.Dcl = None
number_of msg.Ppu = None
number_of msg.Ear = None
number_of (msg.Lad n) = Some n
number_of msg.Unl = None
number_of (msg.Tad n) = Some n
number_of msg.Unt = None
number_of (msg.Sad n) = Some n
number_of (msg.Ppe n) = Some n
number_of msg.Ifc = None
number_of msg.Ren = None
number_of msg.Nre = None
number_of msg.Aau = None
number_of msg.Lpd = None
number_of (msg.Ddl n) = Some n
number_of (msg.Ddt n) = Some n
number_of (msg.OtherCmd n) = Some n
number_of msg.Rfc = None
number_of msg.Eto = None
number_of msg.Ete = None
number_of msg.Nrd = None
number_of msg.Sda = None
number_of msg.Sst = None
number_of msg.Sdi = None
number_of msg.Sai = None
number_of msg.Tct = None
number_of (msg.Aad n) = Some n
number_of msg.Iaa = None
number_of (msg.OtherRdy n) = Some n

-- the upper-case hex digit of a number below 16
abbrev pub hex_digit : ℕ → ℕ
hex_digit d = slice_index (codes "0123456789ABCDEF") d

-- a byte as two hex digits
abbrev pub hex_pair : ℕ → List ℕ
hex_pair n = hex_digit (n / 16) ∷ hex_digit (n % 16) ∷ []

-- a number is printed after one space, as two hex digits
abbrev pub number_text : Option ℕ → List ℕ
number_text None = []
number_text (Some n) = codes " " ++ hex_pair n

-- the name, and the number where there is one
abbrev pub message_text : Message → List ℕ
message_text m = name_of m ++ number_text (number_of m)

-- the text of a frame
abbrev pub text_of : Frame → List ℕ
text_of f = message_text (message_of f)
