-- Worked examples, computed by the checker, of what is free of a volume, of its map and of its picture.
use Rattle.std.proofs.Common.{◌≡◌, ℕ, List, [], ◌∷◌, ◌++◌, get_or, codes, ap, refl, arith}
use Rattle.std.specs.Prelude.{replicate, ⊤}
use Rattle.std.specs.Fmt.{digits}
use Rattle.lif_model.specs.Numbers.{two_at, four_at}
use Rattle.lif_model.specs.Directory.{name_of}
use Rattle.lif_model.specs.Header.{HeaderParts}
use Rattle.lif_model.specs.Printed.{printed}
use Rattle.lif_dir.specs.declared.entries.FileEntry.{FileEntry}
use Rattle.lif_dir.specs.declared.entries.Slot.{Slot}
use Rattle.lif_dir.specs.declared.entries.Slot.TheVariants.{Live, Purged}
use Rattle.tape_text.specs.Listing.{plural_of, used_of, free_of}
use Rattle.tape_text.specs.Free.{largest_text, free_text}
use Rattle.tape_text.specs.Map.{row_start, row_end, legend_line, map_text}
use Rattle.tape_text.specs.Picture.{square_place, square_content, svg_start, svg_title, picture_text}

unfoldable free_on_literals : ⊤
unfolding digits two_at four_at name_of printed plural_of used_of free_of largest_text
free_on_literals = tt

unfoldable map_on_literals : ⊤
unfolding row_start row_end legend_line
map_on_literals = tt

unfoldable picture_on_literals : ⊤
unfolding square_place square_content svg_start svg_title
picture_on_literals = tt

abbrev entry : List ℕ → ℕ → ℕ → ℕ → FileEntry
entry name kind start length =
    record { name = record { bytes = name }; kind = kind; start = start; length = length; date = replicate 6 0; volume = 0x8001; implementation = replicate 4 0 }

abbrev file : List ℕ → ℕ → ℕ → Slot
file name start length = Live (entry name 0xE0D5 start length)

-- ---- a medium of 70 records: a directory of one record, two files, and a redo file of version 2

abbrev header : HeaderParts
header = record { label = codes "HP71  "; start = 2; length = 1 }

abbrev redo : Slot
redo = Live (entry (codes "REDOFILE  ") 0xE0D0 36 34)

abbrev slots : List Slot
slots = file (codes "STARTUP   ") 3 4 ∷ Purged (entry (codes "GONE      ") 0 7 5) ∷ file (codes "SD        ") 20 5 ∷ redo ∷ []

-- 24 records are free: 13 of them between the files, where the purged file's slot is free, and 11 after them
free : free_text 70 header slots
    ≡ codes "volume HP71, 2 files, 1 purged, 4 slots free, 24 records free\n"
    ++ codes "the largest file that can be added: 13 records, 3328 bytes\n"
unfolding free_on_literals
free = refl

-- the same text with one record more is refused
free_not : free_text 70 header slots
    ≡ codes "volume HP71, 2 files, 1 purged, 4 slots free, 24 records free\n"
    ++ codes "the largest file that can be added: 14 records, 3584 bytes\n" → ⊥
unfolding free_on_literals
free_not = λ is. let digit : 51 ≡ 52 = ap (λ (text : List ℕ). get_or text 99 0) is in absurd (omega (arith, digit))

-- the purged file's slot is the only one that a new file can take, and no record is free for it
no_room : free_text 70 header (file (codes "A         ") 3 33 ∷ Purged (entry (codes "GONE      ") 0 36 0) ∷ redo ∷ replicate 5 (Purged (entry (codes "GONE      ") 0 0 0)))
    ≡ codes "volume HP71, 1 file, 1 purged, 0 slots free, 0 records free\n"
    ++ codes "no file can be added: no record is free where a slot is free\n"
unfolding free_on_literals
no_room = refl

-- slots are free after the redo file's, and a new file cannot take them
no_slot : free_text 70 header (redo ∷ Purged (entry (codes "GONE      ") 0 0 0) ∷ [])
    ≡ codes "volume HP71, 0 files, 0 purged, 6 slots free, 33 records free\n"
    ++ codes "no file can be added: the directory has no slot for it\n"
unfolding free_on_literals
no_slot = refl

no_redo : free_text 70 header (file (codes "A         ") 3 33 ∷ [])
    ≡ codes "volume HP71, 1 file, 0 purged, 7 slots free, 34 records free\n"
    ++ codes "no file can be added: the volume has no redo file\n"
unfolding free_on_literals
no_redo = refl

-- the purged file's records are free
mapped : map_text 70 header slots
    ≡ codes "volume HP71, 2 files, 1 purged, 4 slots free, 24 records free\n"
    ++ codes "   0  H-Daaaa.............bbbbb...........RRRRRRRRRRRRRRRRRRRRRRRRRRRR\n"
    ++ codes "  64  RRRRRR\n"
    ++ codes "a  STARTUP  4 records from 3\n"
    ++ codes "b  SD       5 records from 20\n"
    ++ codes "H header, D directory, R redo file, - unused, . free\n"
unfolding free_on_literals map_on_literals
mapped = refl

-- ---- a medium of 8 records: a directory of one record, a file, and a redo file of version 1

abbrev small_header : HeaderParts
small_header = record { label = codes "A&B   "; start = 1; length = 1 }

abbrev small_slots : List Slot
small_slots = file (codes "<C>       ") 2 1 ∷ Live (entry (codes "REDOFILE  ") 0xE0D0 4 4) ∷ []

abbrev small_line : List ℕ
small_line = codes "volume A&B, 1 file, 0 purged, 6 slots free, 1 record free\n"

small_mapped : map_text 8 small_header small_slots
    ≡ small_line ++ codes "   0  HDa.RRRR\na  <C>  1 records from 2\nH header, D directory, R redo file, - unused, . free\n"
unfolding free_on_literals map_on_literals
small_mapped = refl

-- a free record as one of the file's, and the redo file as a file, are refused
small_not : (map_text 8 small_header small_slots
    ≡ small_line ++ codes "   0  HDaaRRRR\na  <C>  1 records from 2\nH header, D directory, R redo file, - unused, . free\n" → ⊥)
    × (map_text 8 small_header small_slots
    ≡ small_line ++ codes "   0  HDa.bbbb\na  <C>  1 records from 2\nH header, D directory, R redo file, - unused, . free\n" → ⊥)
unfolding free_on_literals map_on_literals
small_not = (
  λ is. let sign : 46 ≡ 97 = ap (λ (text : List ℕ). get_or text 67 0) is in absurd (omega arith),
  λ is. let sign : 82 ≡ 98 = ap (λ (text : List ℕ). get_or text 68 0) is in absurd (omega arith),
)

-- `&`, `<` and `>` are escaped
pictured : picture_text 8 small_header small_slots
    ≡ codes "<svg xmlns=\"http://www.w3.org/2000/svg\" width=\"640\" height=\"10\">\n"
    ++ codes "<title>volume A&amp;B, 1 file, 0 purged, 6 slots free, 1 record free\n</title>\n"
    ++ codes "<rect x=\"0\" y=\"0\" width=\"9\" height=\"9\" fill=\"#222222\"><title>0: header</title></rect>\n"
    ++ codes "<rect x=\"10\" y=\"0\" width=\"9\" height=\"9\" fill=\"#666666\"><title>1: directory</title></rect>\n"
    ++ codes "<rect x=\"20\" y=\"0\" width=\"9\" height=\"9\" fill=\"#1f77b4\"><title>2: &lt;C&gt;</title></rect>\n"
    ++ codes "<rect x=\"30\" y=\"0\" width=\"9\" height=\"9\" fill=\"#f4f4f4\"><title>3: free</title></rect>\n"
    ++ codes "<rect x=\"40\" y=\"0\" width=\"9\" height=\"9\" fill=\"#aaaaaa\"><title>4: redo file</title></rect>\n"
    ++ codes "<rect x=\"50\" y=\"0\" width=\"9\" height=\"9\" fill=\"#aaaaaa\"><title>5: redo file</title></rect>\n"
    ++ codes "<rect x=\"60\" y=\"0\" width=\"9\" height=\"9\" fill=\"#aaaaaa\"><title>6: redo file</title></rect>\n"
    ++ codes "<rect x=\"70\" y=\"0\" width=\"9\" height=\"9\" fill=\"#aaaaaa\"><title>7: redo file</title></rect>\n"
    ++ codes "</svg>\n"
unfolding free_on_literals picture_on_literals
pictured = refl

-- no text that has the ampersand of the label as it is
pictured_not : (rest : List ℕ) → picture_text 8 small_header small_slots ≡ codes "<svg xmlns=\"http://www.w3.org/2000/svg\" width=\"640\" height=\"10\">\n<title>volume A&B" ++ rest → ⊥
unfolding free_on_literals picture_on_literals
pictured_not rest = λ is. let letter : 97 ≡ 66 = ap (λ (text : List ℕ). get_or text 81 0) is in absurd (omega (arith, letter))
