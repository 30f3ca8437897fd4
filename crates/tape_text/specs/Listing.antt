-- The text that `dir` prints: the volume's line, and a line for each file, in columns as wide as their widest entry.
use Rattle.std.specs.Prelude.{◌+◌, ◌-◌, ◌*◌, ◌/◌, ◌%◌, ◌++◌, ◌||◌, ◌==◌, ℕ, Bool, false, not, List, [], ◌∷◌, length, map, take, max, fold, sum_by, replicate, Option, Some, None, codes, decimal, if◌then◌else◌}
use Rattle.std.specs.Int.{w16, to_be_bytes}
use Rattle.std.specs.List.{flat_map}
use Rattle.hex.specs.Hex.{encode_upper}
use Rattle.lif_model.specs.Header.{HeaderParts, header_of}
use Rattle.lif_model.specs.Fit.{purged_from, redo_place}
use Rattle.lif_model.specs.Printed.{printed}
use Rattle.lif_model.specs.Volume.{Volume, is_redo_file}
use Rattle.lif_dir.specs.Entries.{name_bytes, entry_bytes, slot_bytes, slot_from}
use Rattle.lif_dir.specs.declared.entries.FileEntry.{FileEntry}
use Rattle.lif_dir.specs.declared.entries.Slot.{Slot}
use Rattle.lif_dir.specs.declared.entries.Slot.TheVariants.{Live, Purged, End}
use Rattle.tape_text.specs.declared.columns.Widths.{Widths}
use Rattle.tape_text.specs.declared.volume.Room.{Room}
use Rattle.tape_names.specs.Types.{type_name}
use Rattle.tape_names.specs.Sizes.{bytes_told}
use Rattle.tape_names.specs.declared.dates.Moment.{Moment}
use Rattle.tape_names.specs.Dates.{date_in}

-- ---- which files have a line

-- the files of a medium of n records, in the order of their slots: without the redo file, unless all are asked for
abbrev pub shown_slot : Bool → ℕ → Slot → List FileEntry
shown_slot all n (Live e) = if all || not (is_redo_file n (entry_bytes e)) then e ∷ [] else []
shown_slot all n (Purged e) = []
shown_slot all n End = []

abbrev pub shown_files : Bool → ℕ → List Slot → List FileEntry
shown_files all n slots = flat_map (shown_slot all n) slots

-- ---- cells

abbrev pub or_minus : Option (List ℕ) → List ℕ
or_minus None = codes "-"
or_minus (Some text) = text

abbrev pub number_or_minus : Option ℕ → List ℕ
number_or_minus None = codes "-"
number_or_minus (Some n) = decimal n

-- two digits of a number below 100, and four of one below 10,000
unfoldable pub digit_pair : ℕ → List ℕ
digit_pair n = (48 + n / 10) ∷ (48 + n % 10) ∷ []

unfoldable pub four_digits : ℕ → List ℕ
four_digits n = digit_pair (n / 100) ++ digit_pair (n % 100)

-- `1985-11-23`
unfoldable pub day_text : Moment → List ℕ
day_text m = four_digits m.year ++ codes "-" ++ digit_pair m.month ++ codes "-" ++ digit_pair m.day

-- `14:30`
unfoldable pub time_text : Moment → List ℕ
time_text m = digit_pair m.hour ++ codes ":" ++ digit_pair m.minute

-- `1985-11-23 14:30`, or a minus sign
abbrev pub date_text : Option Moment → List ℕ
date_text None = codes "-"
date_text (Some m) = day_text m ++ codes " " ++ time_text m

abbrev pub name_cell : FileEntry → List ℕ
name_cell e = printed (name_bytes e.name)

abbrev pub type_cell : FileEntry → List ℕ
type_cell e = encode_upper (to_be_bytes w16 e.kind)

abbrev pub type_name_cell : FileEntry → List ℕ
type_name_cell e = or_minus (type_name e.kind)

-- `E214 BASIC`
abbrev pub kind_cell : FileEntry → List ℕ
kind_cell e = type_cell e ++ codes " " ++ type_name_cell e

abbrev pub records_cell : FileEntry → List ℕ
records_cell e = decimal e.length

abbrev pub bytes_cell : FileEntry → List ℕ
bytes_cell e = number_or_minus (bytes_told e.kind e.implementation e.length)

abbrev pub date_cell : FileEntry → List ℕ
date_cell e = date_text (date_in e.date)

abbrev pub field_cell : FileEntry → List ℕ
field_cell e = encode_upper e.implementation

-- ---- columns

abbrev pub no_widths : Widths
no_widths = record { name = 0; kind = 0; records = 0; bytes = 0; date = 0 }

-- wide enough for this file too
abbrev pub wider : Widths → FileEntry → Widths
wider w e = record {
  name = max w.name (length (name_cell e));
  kind = max w.kind (length (kind_cell e));
  records = max w.records (length (records_cell e));
  bytes = max w.bytes (length (bytes_cell e));
  date = max w.date (length (date_cell e));
}

abbrev pub widths_of : List FileEntry → Widths
widths_of files = fold wider no_widths files

abbrev pub spaces : ℕ → List ℕ
spaces n = replicate n 32

-- a text at the left, and at the right, of a column
abbrev pub left : ℕ → List ℕ → List ℕ
left width text = text ++ spaces (width - length text)

abbrev pub right : ℕ → List ℕ → List ℕ
right width text = spaces (width - length text) ++ text

-- ---- lines

unfoldable pub names_of : Widths → FileEntry → List ℕ
names_of w e = left w.name (name_cell e) ++ codes "  " ++ left w.kind (kind_cell e) ++ codes "  "

unfoldable pub sizes_of : Widths → FileEntry → List ℕ
sizes_of w e = right w.records (records_cell e) ++ codes " records  " ++ right w.bytes (bytes_cell e) ++ codes " bytes  "

unfoldable pub rest_of : Widths → FileEntry → List ℕ
rest_of w e = left w.date (date_cell e) ++ codes "  " ++ field_cell e ++ codes "\n"

-- `STARTUP  E214 BASIC    4 records   777 bytes  1985-11-23 14:30  12060000`
abbrev pub listed_line : Widths → FileEntry → List ℕ
listed_line w e = names_of w e ++ sizes_of w e ++ rest_of w e

-- ---- the volume

-- the records of a slot, if it is live
abbrev pub slot_records : Slot → ℕ
slot_records (Live e) = e.length
slot_records (Purged e) = 0
slot_records End = 0

abbrev pub records_held : List Slot → ℕ
records_held slots = sum_by slot_records slots

-- how much of a volume on a medium of n records is used and free
abbrev pub room_of : ℕ → HeaderParts → List Slot → Room
room_of n h slots = record {
  files = length (shown_files false n slots);
  purged = length (purged_from 0 (map slot_bytes (take (redo_place (map slot_bytes slots)) slots)));
  slots = 8 * h.length - length slots;
  records = n - (h.start + h.length) - records_held slots;
}

-- `1 file`, `2 files`
unfoldable pub plural_of : ℕ → List ℕ → List ℕ
plural_of n noun = decimal n ++ codes " " ++ noun ++ (if n == 1 then [] else codes "s")

-- `volume HP71, 4 files, 3 purged, `
unfoldable pub used_of : HeaderParts → Room → List ℕ
used_of h room = codes "volume " ++ printed h.label ++ codes ", " ++ plural_of room.files (codes "file") ++ codes ", " ++ decimal room.purged ++ codes " purged, "

-- `9 slots free, 431 records free`
unfoldable pub free_of : Room → List ℕ
free_of room = plural_of room.slots (codes "slot") ++ codes " free, " ++ plural_of room.records (codes "record") ++ codes " free\n"

-- `volume HP71, 4 files, 3 purged, 9 slots free, 431 records free`
abbrev pub volume_summary : HeaderParts → Room → List ℕ
volume_summary h room = used_of h room ++ free_of room

-- the text of a volume on a medium of n records, with the redo file's line or without it
abbrev pub listing_of : Bool → ℕ → HeaderParts → List Slot → List ℕ
listing_of all n h slots =
    let files = shown_files all n slots in
    volume_summary h (room_of n h slots) ++ flat_map (listed_line (widths_of files)) files

-- the name of an image, as a line before its text
abbrev pub heading_of : Option (List ℕ) → List ℕ
heading_of None = []
heading_of (Some name) = name ++ codes ":\n"

abbrev pub volume_listing : Bool → ℕ → Volume → List ℕ
volume_listing all n v = listing_of all n (header_of v.header) (map slot_from v.slots)
