-- How much room a text for a volume takes.
use Rattle.std.specs.Prelude.{◌+◌, ◌*◌, ℕ, List, length, max}

-- The room of a text for a medium of n records, in bytes, without a heading: it is enough for a listing, for what is
-- free, for a map and for a picture, if the directory has at most 8 * n slots.
abbrev pub page_room : ℕ → ℕ
page_room n = 820 + 1920 * n

-- The room of a row of CSV for an image of this name, in bytes. Each byte of the name may be a quote, which is doubled, and the name may be
-- quoted. The other fields have at most 128 bytes: the label 20, the name 32, the type 4 and its name 8, the first record and the number
-- of records 10 each, the number of bytes 20, the date 16, and the implementation field 8. A label has at most six bytes and a name ten,
-- each of which is printed as at most three; only these two may be quoted. Then there are nine commas and a line feed.
abbrev pub row_room : List ℕ → ℕ
row_room image = 2 * length image + 140

-- The room of the rows of an image of this name on a medium of n records, in bytes: it is enough if the directory has at most 8 * n
-- slots. A slot has at most one row, and an image without files has one.
abbrev pub rows_room : List ℕ → ℕ → ℕ
rows_room image n = row_room image * max 1 (8 * n)
