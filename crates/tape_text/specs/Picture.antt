-- The same picture as an SVG file (Scalable Vector Graphics 1.1), which `map --svg` prints: a square for each record,
-- with its number and what it belongs to as its title.
use Rattle.std.specs.Prelude.{◌+◌, ◌*◌, ◌/◌, ◌%◌, ◌++◌, ◌==◌, ℕ, List, [], ◌∷◌, codes, decimal, if◌then◌else◌}
use Rattle.std.specs.List.{flat_map}
use Rattle.lif_model.specs.Header.{HeaderParts}
use Rattle.lif_dir.specs.declared.entries.Slot.{Slot}
use Rattle.tape_text.specs.declared.holders.Holder.{Holder}
use Rattle.tape_text.specs.declared.holders.Holder.TheVariants as holder
use Rattle.tape_text.specs.Listing.{name_cell, room_of, volume_summary}
use Rattle.tape_text.specs.Map.{for_records, holder_of}

-- a byte as XML writes it in text: `&`, `<` and `>` are escaped
abbrev pub xml_byte : ℕ → List ℕ
xml_byte byte =
    if byte == 38 then codes "&amp;"
    else if byte == 60 then codes "&lt;"
    else if byte == 62 then codes "&gt;"
    else byte ∷ []

abbrev pub xml_text : List ℕ → List ℕ
xml_text text = flat_map xml_byte text

-- files that follow each other have other colors
abbrev pub file_color : ℕ → List ℕ
file_color i =
    if i == 0 then codes "#1f77b4"
    else if i == 1 then codes "#ff7f0e"
    else if i == 2 then codes "#2ca02c"
    else if i == 3 then codes "#d62728"
    else if i == 4 then codes "#9467bd"
    else codes "#8c564b"

abbrev pub color_of : Holder → List ℕ
color_of holder.Header = codes "#222222"
color_of holder.Unused = codes "#dddddd"
color_of holder.Directory = codes "#666666"
color_of holder.Redo = codes "#aaaaaa"
color_of (holder.File i e) = file_color (i % 6)
color_of holder.Nothing = codes "#f4f4f4"

abbrev pub holder_text : Holder → List ℕ
holder_text holder.Header = codes "header"
holder_text holder.Unused = codes "unused"
holder_text holder.Directory = codes "directory"
holder_text holder.Redo = codes "redo file"
holder_text (holder.File i e) = name_cell e
holder_text holder.Nothing = codes "free"

-- the place of record k: 64 squares of 10 units are a row
unfoldable pub square_place : ℕ → List ℕ
square_place k = codes "<rect x=\"" ++ decimal (10 * (k % 64)) ++ codes "\" y=\"" ++ decimal (10 * (k / 64)) ++ codes "\" width=\"9\" height=\"9\" "

unfoldable pub square_content : ℕ → Holder → List ℕ
square_content k h = codes "fill=\"" ++ color_of h ++ codes "\"><title>" ++ decimal k ++ codes ": " ++ xml_text (holder_text h) ++ codes "</title></rect>\n"

abbrev pub record_square : ℕ → HeaderParts → List Slot → ℕ → List ℕ
record_square n h slots k = square_place k ++ square_content k (holder_of n h slots k)

-- the first line, for a medium of n records
unfoldable pub svg_start : ℕ → List ℕ
svg_start n = codes "<svg xmlns=\"http://www.w3.org/2000/svg\" width=\"640\" height=\"" ++ decimal (10 * ((n + 63) / 64)) ++ codes "\">\n"

unfoldable pub svg_title : List ℕ → List ℕ
svg_title summary = codes "<title>" ++ xml_text summary ++ codes "</title>\n"

abbrev pub picture_text : ℕ → HeaderParts → List Slot → List ℕ
picture_text n h slots =
    svg_start n ++ svg_title (volume_summary h (room_of n h slots)) ++ for_records (record_square n h slots) 0 n ++ codes "</svg>\n"
