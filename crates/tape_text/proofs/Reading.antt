-- The rows of a table, slot by slot, and read back.
use Rattle.std.proofs.Common.{◌≡◌, ◌≤◌, ◌+◌, ◌++◌, ◌∙◌, if◌then◌else◌, ℕ, zero, suc, Bool, List, [], ◌∷◌, take, map, length, Some, ap, refl, arith}
use Rattle.std.specs.Prelude.{slice_get}
use Rattle.std.proofs.lemmas.Grind.{flat_map-append}
use Rattle.std.proofs.lemmas.List.{map-append, length-append}
use Rattle.csv.proofs.RoundTrip.{read-write}
use Rattle.csv.specs.Machine.{next_record}
use Rattle.csv.specs.Reading.{default_config, records_from, records}
use Rattle.csv.specs.Writing.{default_writer, row_body, is_blank, read_back}
use Rattle.csv.specs.declared.parser.State.TheVariants as st
use Rattle.lif_model.specs.Header.{HeaderParts}
use Rattle.lif_dir.specs.declared.entries.FileEntry.{FileEntry}
use Rattle.lif_dir.specs.declared.entries.Slot.{Slot}
use Rattle.tape_text.specs.Listing.{shown_slot, shown_files}
use Rattle.tape_text.specs.Rows.{file_row, empty_row, rows_or, rows_of, row_line, rows_text}
use Rattle.tape_text.proofs.Places.{pieces_next}

-- one slot more
pub rows_next : (image : List ℕ) (h : HeaderParts) (all : Bool) (n : ℕ) (slots : List Slot) (i : ℕ) (x : Slot) → slice_get slots i ≡ Some x
    → rows_text (map (file_row image h) (shown_files all n (take (i + 1) slots)))
    ≡ rows_text (map (file_row image h) (shown_files all n (take i slots))) ++ rows_text (map (file_row image h) (shown_slot all n x))
rows_next image h all n slots i x e =
    ap (λ (files : List FileEntry). rows_text (map (file_row image h) files)) (pieces_next (shown_slot all n) slots i x e)
    ∙ ap rows_text (map-append (file_row image h) (shown_files all n (take i slots)) (shown_slot all n x))
    ∙ flat_map-append row_line (map (file_row image h) (shown_files all n (take i slots))) (map (file_row image h) (shown_slot all n x))

-- ---- read back

-- a row has a byte at least, the line feed
text_some : (row : List (List ℕ)) → 1 ≤ length (row_line row)
text_some row =
    let blank : List ℕ = if is_blank default_writer row then 34 ∷ 34 ∷ [] else [] in
    omega (arith, length-append (row_body default_writer row) (blank ++ 10 ∷ []), length-append blank (10 ∷ []))

rows_few : (rows : List (List (List ℕ))) → length rows ≤ length (rows_text rows)
rows_few [] = omega arith
rows_few (row ∷ rows) = omega (arith, length-append (row_line row) (rows_text rows), text_some row, rows_few rows)

-- csv's reader gives back what was written, row by row, and then finds the end
read_rows : (rows : List (List (List ℕ))) (n : ℕ) → length rows ≤ n → records_from default_config n st.StartRecord (rows_text rows) ≡ map read_back rows
unfolding records_from next_record
read_rows [] zero few = refl
read_rows [] (suc n) few = refl
read_rows (row ∷ rows) zero few = absurd (omega (arith, few))
read_rows (row ∷ rows) (suc n) few = rw (read-write row (rows_text rows)) (ap (λ (t : List (List (List ℕ))). read_back row ∷ t) (read_rows rows n (omega (arith, few))))

files_back : (image : List ℕ) (h : HeaderParts) (files : List FileEntry) → map read_back (map (file_row image h) files) ≡ map (file_row image h) files
files_back image h [] = refl
files_back image h (file ∷ files) = ap (λ (t : List (List (List ℕ))). file_row image h file ∷ t) (files_back image h files)

rows_back : (image : List ℕ) (h : HeaderParts) (files : List FileEntry)
    → map read_back (rows_or (empty_row image h) (map (file_row image h) files)) ≡ rows_or (empty_row image h) (map (file_row image h) files)
rows_back image h [] = refl
rows_back image h (file ∷ files) = files_back image h (file ∷ files)

-- a reader of RFC 4180 gets the rows of an image back, and no others
pub rows_read : (all : Bool) (n : ℕ) (image : List ℕ) (h : HeaderParts) (slots : List Slot)
    → records default_config (rows_text (rows_of all n image h slots)) ≡ rows_of all n image h slots
rows_read all n image h slots =
    let rows = rows_of all n image h slots in
    read_rows rows (length (rows_text rows) + 1) (omega (arith, rows_few rows)) ∙ rows_back image h (shown_files all n slots)
