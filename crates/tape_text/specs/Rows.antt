-- The rows that `dir --csv` prints, and their text by RFC 4180.
use Rattle.std.specs.Prelude.{◌++◌, ℕ, Bool, List, [], ◌∷◌, map, replicate, codes, decimal}
use Rattle.std.specs.List.{flat_map}
use Rattle.csv.specs.Writing.{default_writer, row_text}
use Rattle.lif_model.specs.Header.{HeaderParts}
use Rattle.lif_model.specs.Printed.{printed}
use Rattle.lif_dir.specs.declared.entries.FileEntry.{FileEntry}
use Rattle.lif_dir.specs.declared.entries.Slot.{Slot}
use Rattle.tape_text.specs.Listing.{shown_files, name_cell, type_cell, type_name_cell, records_cell, bytes_cell, date_cell, field_cell}

-- the names of the columns
abbrev pub column_names : List (List ℕ)
column_names = codes "image" ∷ codes "label" ∷ codes "name" ∷ codes "type" ∷ codes "type_name" ∷ codes "start" ∷ codes "records" ∷ codes "bytes" ∷ codes "date" ∷ codes "field" ∷ []

-- the first five fields of a file, and the other five
abbrev pub names_in : List ℕ → HeaderParts → FileEntry → List (List ℕ)
names_in image h e = image ∷ printed h.label ∷ name_cell e ∷ type_cell e ∷ type_name_cell e ∷ []

abbrev pub numbers_in : FileEntry → List (List ℕ)
numbers_in e = decimal e.start ∷ records_cell e ∷ bytes_cell e ∷ date_cell e ∷ field_cell e ∷ []

-- the row of a file
abbrev pub file_row : List ℕ → HeaderParts → FileEntry → List (List ℕ)
file_row image h e = names_in image h e ++ numbers_in e

-- the row of an image without files
abbrev pub empty_row : List ℕ → HeaderParts → List (List ℕ)
empty_row image h = image ∷ printed h.label ∷ replicate 8 []

abbrev pub rows_or : List (List ℕ) → List (List (List ℕ)) → List (List (List ℕ))
rows_or empty [] = empty ∷ []
rows_or empty (row ∷ rows) = row ∷ rows

-- a row for each file of an image that has a line, or one row if there is none
abbrev pub rows_of : Bool → ℕ → List ℕ → HeaderParts → List Slot → List (List (List ℕ))
rows_of all n image h slots = rows_or (empty_row image h) (map (file_row image h) (shown_files all n slots))

-- fields separated by commas, quoted if they hold a comma, a quote, CR or LF; a line feed ends a row
abbrev pub row_line : List (List ℕ) → List ℕ
row_line row = row_text default_writer row

abbrev pub rows_text : List (List (List ℕ)) → List ℕ
rows_text rows = flat_map row_line rows
