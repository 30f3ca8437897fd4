-- The text that `why` prints of an image, and whether its volume can be listed and changed.
use Rattle.std.specs.Prelude.{◌++◌, ℕ, Bool, false, List, [], length, get_or, Option, Some, None, codes, if◌then◌else◌}
use Rattle.lif_model.specs.Tape.{Tape, record_at}
use Rattle.lif_model.specs.Shelf.{tape_of}
use Rattle.lif_model.specs.Directory.{name_of, slots_of}
use Rattle.lif_model.specs.Printed.{printed}
use Rattle.lif_model.specs.Redo.{is_settled, settled}
use Rattle.lif_model.specs.Volume.{Volume, is_adopted, volume_of}
use Rattle.lif_model.specs.Apply.{Adopt, Upgrade, is_upgraded, refusal_of}
use Rattle.lif_model.specs.declared.refusal.Refusal.{Refusal}
use Rattle.lif_model.specs.declared.refusal.Refusal.TheVariants.{Exists, InUse, NoSlot}
use Rattle.lif_header.specs.declared.header.HeaderFault.{HeaderFault}
use Rattle.lif_header.specs.declared.header.HeaderFault.TheVariants as fault
use Rattle.tape_why.specs.declared.defects.Defect.{Defect}
use Rattle.tape_why.specs.declared.defects.Defect.TheVariants as defect
use Rattle.tape_why.specs.Defects.{defect_of}

-- ---- a volume that cannot be listed

abbrev pub header_cause : HeaderFault → List ℕ
header_cause (fault.Id mark) = codes "it does not begin with 8000 hex, the mark of a LIF volume"
header_cause (fault.Start start) = codes "its directory would begin in record 0"
header_cause (fault.Length count) = codes "its directory has no record"
header_cause (fault.Past end) = codes "its directory does not end before the last 4 records of the medium"

-- the printed name of the file of a slot
abbrev pub printed_name_at : List (List ℕ) → ℕ → List ℕ
printed_name_at slots k = printed (name_of (get_or slots k []))

abbrev pub defect_cause : List (List ℕ) → Defect → List ℕ
defect_cause slots (defect.Header f) = header_cause f
defect_cause slots (defect.Outside k) = printed_name_at slots k ++ codes " has records that are not between the directory and the end of the medium"
defect_cause slots (defect.SharedRecords j k) = printed_name_at slots j ++ codes " and " ++ printed_name_at slots k ++ codes " have records in common"
defect_cause slots (defect.SharedName j k) = codes "two files have the name " ++ printed_name_at slots j

-- `it cannot be listed: ..`
abbrev pub unlisted_line : List (List ℕ) → Option Defect → List ℕ
unlisted_line slots None = []
unlisted_line slots (Some d) = codes "it cannot be listed: " ++ defect_cause slots d ++ codes "\n"

-- ---- a volume that can be listed

-- by the answer to the command that makes the redo file
abbrev pub adopt_text : Option Refusal → List ℕ
adopt_text None = codes "the command adopt of il makes one of the last 4 records"
adopt_text (Some Exists) = codes "none can be made, since another file has the name REDOFILE"
adopt_text (Some NoSlot) = codes "none can be made, since no slot is free"
adopt_text (Some InUse) = codes "none can be made, since a file has one of the last 4 records"
adopt_text (Some other) = []

-- by the answer to the command that makes it larger
abbrev pub upgrade_text : Option Refusal → List ℕ
upgrade_text None = codes "the command upgrade of il gives it 30 records more"
upgrade_text (Some InUse) = codes "it cannot have 30 records more, since the directory or a file has one of them"
upgrade_text (Some other) = []

abbrev pub listed_text : ℕ → Volume → List ℕ
listed_text n v =
    if is_upgraded n v then codes "it can be listed and changed\n"
    else if is_adopted n v.slots then codes "it can be listed and changed, but not packed, and not by a batch: its redo file has 4 records; " ++ upgrade_text (refusal_of n Upgrade (Some v)) ++ codes "\n"
    else codes "it can be listed, but not changed: it has no redo file; " ++ adopt_text (refusal_of n Adopt (Some v)) ++ codes "\n"

-- ---- the text

-- a change that a stop of the machine broke off
abbrev pub stopped_line : Tape → List ℕ
stopped_line tape = if is_settled tape then [] else codes "a change was broken off, and the next command completes it\n"

abbrev pub volume_cause : Tape → Option Volume → List ℕ
volume_cause tape None = unlisted_line (slots_of tape) (defect_of (length tape) (record_at tape 0) (slots_of tape))
volume_cause tape (Some v) = listed_text (length tape) v

-- of the tape that an image reads as
abbrev pub why_on : Tape → List ℕ
why_on tape = stopped_line tape ++ volume_cause (settled tape) (volume_of tape)

abbrev pub why_text : List ℕ → List ℕ
why_text image = why_on (tape_of image)

-- ---- whether it can be listed and changed

abbrev pub is_changeable_with : ℕ → Option Volume → Bool
is_changeable_with n None = false
is_changeable_with n (Some v) = is_adopted n v.slots

abbrev pub is_changeable : List ℕ → Bool
is_changeable image = is_changeable_with (length (tape_of image)) (volume_of (tape_of image))
