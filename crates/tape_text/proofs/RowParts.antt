-- The fields of a row that are appended to a page one after the other.
use Rattle.std.proofs.Common.{◌≡◌, ◌++◌, ◌∷◌, ◌∙◌, ℕ, List, [], codes, refl, sym, ap, replicate}
use Rattle.std.proofs.lemmas.List.{append_assoc, append-nil}
use Rattle.csv.proofs.WriteFacts.{fields-snoc}
use Rattle.csv.specs.Writing.{comma, default_writer, field_text, fields_text, is_blank, row_body}
use Rattle.il_script.specs.Sheet.{Sheet}
use Rattle.lif_model.specs.Header.{HeaderParts}
use Rattle.lif_model.specs.Printed.{printed}
use Rattle.lif_dir.specs.declared.entries.FileEntry.{FileEntry}
use Rattle.tape_text.specs.Listing.{name_cell, type_cell, type_name_cell}
use Rattle.tape_text.specs.Rows.{empty_row, file_row, names_in, numbers_in, row_line}
use Rattle.tape_text.proofs.Sheets.{append_next, with_text}

-- no field after the first
pub fields_none : (s : Sheet) → s ≡ with_text s (fields_text default_writer [])
unfolding fields_text
fields_none s = ap (λ (l : List ℕ). record s { text = l }) (sym (append-nil s.text))

-- one field more, which was made in a cell
pub field_next : (s t u : Sheet) (front : List (List ℕ)) (cell field : List ℕ) → t ≡ with_text s (fields_text default_writer front)
    → u ≡ with_text t (comma ∷ field_text default_writer cell) → cell ≡ field → u ≡ with_text s (fields_text default_writer (front ++ field ∷ []))
field_next s t u front cell field first second is =
    append_next s t u (fields_text default_writer front) (comma ∷ field_text default_writer cell) (comma ∷ field_text default_writer field) first second (ap (λ (l : List ℕ). comma ∷ field_text default_writer l) is)
    ∙ ap (with_text s) (sym (fields-snoc default_writer front field))

-- ---- rows in parts

fields_append : (xs ys : List (List ℕ)) → fields_text default_writer (xs ++ ys) ≡ fields_text default_writer xs ++ fields_text default_writer ys
unfolding fields_text
fields_append [] ys = refl
fields_append (x ∷ xs) ys =
    ap (λ (l : List ℕ). comma ∷ (field_text default_writer x ++ l)) (fields_append xs ys)
    ∙ ap (λ (l : List ℕ). comma ∷ l) (sym (append_assoc (field_text default_writer x) (fields_text default_writer xs) (fields_text default_writer ys)))

row_parts : (x y : List ℕ) (xs ys : List (List ℕ))
    → row_line (x ∷ y ∷ (xs ++ ys)) ≡ (row_body default_writer (x ∷ y ∷ xs) ++ fields_text default_writer ys) ++ codes "\n"
unfolding is_blank
row_parts x y xs ys =
    ap (λ (l : List ℕ). (field_text default_writer x ++ l) ++ codes "\n") (fields_append (y ∷ xs) ys)
    ∙ ap (λ (l : List ℕ). l ++ codes "\n") (sym (append_assoc (field_text default_writer x) (fields_text default_writer (y ∷ xs)) (fields_text default_writer ys)))

-- the row of a file is its names, its numbers and a line feed
pub file_parts : (image : List ℕ) (h : HeaderParts) (e : FileEntry)
    → (row_body default_writer (names_in image h e) ++ fields_text default_writer (numbers_in e)) ++ codes "\n" ≡ row_line (file_row image h e)
file_parts image h e = sym (row_parts image (printed h.label) (name_cell e ∷ type_cell e ∷ type_name_cell e ∷ []) (numbers_in e))

-- the row of an image without files is its name, its label, eight commas and a line feed
pub empty_parts : (image : List ℕ) (h : HeaderParts)
    → (field_text default_writer image ++ fields_text default_writer (printed h.label ∷ [])) ++ codes ",,,,,,,,\n" ≡ row_line (empty_row image h)
unfolding fields_text
empty_parts image h =
    sym (append_assoc (field_text default_writer image ++ fields_text default_writer (printed h.label ∷ [])) (codes ",,,,,,,,") (codes "\n"))
    ∙ sym (row_parts image (printed h.label) [] (replicate 8 []))
