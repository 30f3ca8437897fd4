-- The picture of the records of a medium that `map` prints, and its legend.
use Rattle.std.specs.Prelude.{◌+◌, ◌==◌, ◌||◌, ◌%◌, ◌++◌, nat_lt, ℕ, zero, suc, Bool, List, [], ◌∷◌, get_or, codes, decimal, if◌then◌else◌}
use Rattle.std.specs.List.{list_any}
use Rattle.lif_model.specs.Header.{HeaderParts}
use Rattle.lif_model.specs.Legal.{holds}
use Rattle.lif_model.specs.Volume.{is_redo_file}
use Rattle.lif_dir.specs.Entries.{entry_bytes}
use Rattle.lif_dir.specs.declared.entries.FileEntry.{FileEntry}
use Rattle.lif_dir.specs.declared.entries.Slot.{Slot}
use Rattle.tape_text.specs.declared.columns.Widths.{Widths}
use Rattle.tape_text.specs.declared.holders.Holder.{Holder}
use Rattle.tape_text.specs.declared.holders.Holder.TheVariants as holder
use Rattle.tape_text.specs.Listing.{left, name_cell, records_cell, right, room_of, shown_files, volume_summary, widths_of}

-- ---- what a record belongs to

-- a live file holds record k
abbrev pub has_record : ℕ → FileEntry → Bool
has_record k e = holds k (entry_bytes e)

-- the first of these files that holds record k, with its number, if the first file has the number i
abbrev pub file_holding : ℕ → ℕ → List FileEntry → Holder
file_holding k i [] = holder.Nothing
file_holding k i (e ∷ files) = if has_record k e then holder.File i e else file_holding k (suc i) files

-- the redo file of a medium of n records holds record k
abbrev pub is_of_redo : ℕ → ℕ → FileEntry → Bool
is_of_redo n k e = if is_redo_file n (entry_bytes e) then has_record k e else Bool.false

-- what record k of a medium of n records belongs to; files are numbered in the order of their slots
abbrev pub holder_of : ℕ → HeaderParts → List Slot → ℕ → Holder
holder_of n h slots k =
    if k == 0 then holder.Header
    else if nat_lt k h.start then holder.Unused
    else if nat_lt k (h.start + h.length) then holder.Directory
    else if list_any (is_of_redo n k) (shown_files Bool.true n slots) then holder.Redo
    else file_holding k 0 (shown_files Bool.false n slots)

-- ---- the picture

-- the letter of the file of that number
abbrev pub letter_of : ℕ → ℕ
letter_of i = get_or (codes "abcdefghijklmnopqrstuvwxyz0123456789") (i % 36) 0

abbrev pub sign_of : Holder → ℕ
sign_of holder.Header = 72
sign_of holder.Unused = 45
sign_of holder.Directory = 68
sign_of holder.Redo = 82
sign_of (holder.File i e) = letter_of i
sign_of holder.Nothing = 46

-- a row has 64 records; before it is the number of its first record
unfoldable pub row_start : ℕ → List ℕ
row_start k = if k % 64 == 0 then right 4 (decimal k) ++ codes "  " else []

unfoldable pub row_end : ℕ → ℕ → List ℕ
row_end n k = if k % 64 == 63 || suc k == n then codes "\n" else []

-- the text for each of `count` records, from record k on
abbrev pub for_records : (ℕ → List ℕ) → ℕ → ℕ → List ℕ
for_records text k zero = []
for_records text k (suc count) = text k ++ for_records text (suc k) count

-- record k in the picture
abbrev pub record_sign : ℕ → HeaderParts → List Slot → ℕ → List ℕ
record_sign n h slots k = row_start k ++ (sign_of (holder_of n h slots k) ∷ []) ++ row_end n k

-- ---- the legend

-- `a  STARTUP   4 records from 6`
unfoldable pub legend_line : Widths → ℕ → FileEntry → List ℕ
legend_line w i e = (letter_of i ∷ codes "  ") ++ left w.name (name_cell e) ++ codes "  " ++ right w.records (records_cell e) ++ codes " records from " ++ decimal e.start ++ codes "\n"

-- the lines of these files, of which the first has the number i
abbrev pub legend_from : Widths → ℕ → List FileEntry → List ℕ
legend_from w i [] = []
legend_from w i (e ∷ files) = legend_line w i e ++ legend_from w (suc i) files

abbrev pub signs_line : List ℕ
signs_line = codes "H header, D directory, R redo file, - unused, . free\n"

-- ---- the text

abbrev pub map_text : ℕ → HeaderParts → List Slot → List ℕ
map_text n h slots =
    let files = shown_files Bool.false n slots in
    volume_summary h (room_of n h slots) ++ for_records (record_sign n h slots) 0 n ++ legend_from (widths_of files) 0 files ++ signs_line
