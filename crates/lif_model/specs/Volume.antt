-- Volumes: what a tape stands for.
use Rattle.std.specs.Prelude.{◌≡◌, ◌<◌, ◌≤◌, ◌&&◌, ◌||◌, ◌==◌, nat_lt, nat_le, not, ℕ, Bool, true, false, List, [], length, get_or, map, filter, find, codes, replicate, Option, Some, None}
use Rattle.std.specs.List.{list_any}
use Rattle.std.specs.Ordering.{nat_cmp}
use Rattle.std.specs.Cmp.Lexicographic.{slice_cmp}
use Rattle.std.specs.FinMap.{FinMap, from_entries}
use Rattle.std.specs.Str.{bytes_eq}
use Rattle.lif_model.specs.Tape.{Tape, record_at, bytes_from}
use Rattle.lif_model.specs.Gate.{gate_of}
use Rattle.lif_model.specs.Header.{directory_start, directory_end, capacity_of}
use Rattle.lif_model.specs.Directory.{name_of, type_of, start_of, length_of, is_end, slots_of}
use Rattle.lif_model.specs.Made.{new_entry, with_extent}
use Rattle.lif_model.specs.declared.version.Version.{Version}
use Rattle.lif_model.specs.declared.version.Version.TheVariants.{Two}
use Rattle.lif_model.specs.Redo.{versions, redo_length, redo_start, redo_of, is_none, settled}
use Rattle.lif_model.specs.Legal.{is_live, holds, is_legal, IsLegal}

-- ---- adopted volumes: the redo file is a file of the volume

abbrev pub redo_name : List ℕ
redo_name = codes "REDOFILE  "

abbrev pub redo_type : ℕ
redo_type = 0xE0D0

-- the entry of the redo file of that version, on a tape of n records
abbrev pub redo_entry : Version → ℕ → List ℕ
redo_entry version n = new_entry redo_name redo_type (redo_start version n) (redo_length version) (replicate 4 0)

-- the entry of a redo file as one of version 2, with an implementation field of zeros
abbrev pub upgraded_entry : ℕ → List ℕ → List ℕ
upgraded_entry n entry = with_extent (redo_start Two n) (redo_length Two) (replicate 4 0) entry

-- a slot with its name, type, start and length; the rest may be anything
abbrev pub is_redo_entry : ℕ → Version → List ℕ → Bool
is_redo_entry n version slot = bytes_eq (name_of slot) redo_name && (type_of slot == redo_type
    && (start_of slot == redo_start version n && length_of slot == redo_length version))

abbrev pub is_adopted_with : ℕ → Version → List (List ℕ) → Bool
is_adopted_with n version slots = list_any (is_redo_entry n version) slots

-- of any version
abbrev pub is_redo_file : ℕ → List ℕ → Bool
is_redo_file n slot = list_any (λ version. is_redo_entry n version slot) versions

abbrev pub is_adopted : ℕ → List (List ℕ) → Bool
is_adopted n slots = list_any (is_redo_file n) slots

-- ---- files

-- finite maps from names of ten bytes to bytes; two maps with equal look-ups are equal
abbrev pub Files : Type 0
Files = FinMap (slice_cmp nat_cmp) (List ℕ)

-- all bytes of a slot's extent
abbrev pub content_of : Tape → List ℕ → List ℕ
content_of tape slot = bytes_from tape (start_of slot) (length_of slot)

-- a live file other than the redo file
abbrev pub is_file : ℕ → List ℕ → Bool
is_file n slot = is_live slot && not (is_redo_file n slot)

-- the slot of the file of that name
abbrev pub file_named : ℕ → List (List ℕ) → List ℕ → Option (List ℕ)
file_named n slots name = find (λ slot. is_file n slot && bytes_eq name (name_of slot)) slots

abbrev pub files_of : Tape → List (List ℕ) → Files
files_of tape slots = from_entries (map (λ slot. (name_of slot, content_of tape slot)) (filter (is_file (length tape)) slots))

-- ---- the volume

pub record Volume : Type 0 where
  pub header : List ℕ
  pub slots : List (List ℕ)
  pub files : Files

-- what every volume of a tape of n records keeps: its header is a record, it is legal, its slots fit into the directory,
-- each has 32 bytes, and none ends the directory
pub record IsVolume (n : ℕ) (v : Volume) : Type 0 where
  pub header : length v.header ≡ 256
  pub legal : IsLegal n v.header v.slots
  pub room : length v.slots ≤ capacity_of v.header
  pub entries : (i : ℕ) → i < length v.slots → length (get_or v.slots i []) ≡ 32
  pub kinds : (i : ℕ) → i < length v.slots → is_end (get_or v.slots i []) ≡ false

-- the same with a redo file
pub record IsAdopted (n : ℕ) (v : Volume) : Type 0 where
  pub volume : IsVolume n v
  pub adopted : is_adopted n v.slots ≡ true

abbrev pub volume_if : Bool → Tape → Option Volume
volume_if false tape = None
volume_if true tape = Some (record { header = record_at tape 0; slots = slots_of tape; files = files_of tape (slots_of tape) })

-- of a tape that is settled
abbrev pub volume_in : Tape → Option Volume
volume_in tape = volume_if (is_legal tape) tape

-- the volume of a tape, none where the settled tape is not legal
abbrev pub volume_of : Tape → Option Volume
volume_of tape = volume_in (settled tape)

-- record k is record 0, or in the directory, or in a file: what the volume depends on
abbrev pub is_used : Tape → ℕ → Bool
is_used tape k = k == 0 || ((nat_le (directory_start (record_at tape 0)) k && nat_lt k (directory_end (record_at tape 0)))
    || list_any (λ slot. is_file (length tape) slot && holds k slot) (slots_of tape))

-- ---- a gate that is not ours

-- the tape is legal and not adopted, and a live file holds the gate record
abbrev pub is_gate_held : Tape → Bool
is_gate_held tape = is_legal tape && (not (is_adopted (length tape) (slots_of tape)) && list_any (λ slot. is_live slot && holds (gate_of (length tape)) slot) (slots_of tape))

-- a redo is open, and a file that is not ours would hold the gate record of the settled tape
abbrev pub is_foreign_gated : Tape → Bool
is_foreign_gated tape = not (is_none (redo_of tape)) && is_gate_held (settled tape)
