-- Worked examples, computed by the checker: a cassette of 512 records with four files, a redo file, and ten purged slots, of
-- which three are before the redo file's.
use Rattle.std.proofs.Common.{◌≡◌, ℕ, List, [], ◌∷◌, ◌++◌, true, false, codes, refl}
use Rattle.std.specs.Prelude.{replicate, ⊤}
use Rattle.std.specs.Fmt.{digits}
use Rattle.hex.proofs.OnLiterals.{hex_on_literals}
use Rattle.lif_model.specs.Numbers.{two_at, four_at}
use Rattle.lif_model.specs.Directory.{name_of}
use Rattle.lif_model.specs.Header.{HeaderParts}
use Rattle.lif_model.specs.Printed.{printed}
use Rattle.lif_dir.specs.declared.entries.FileEntry.{FileEntry}
use Rattle.lif_dir.specs.declared.entries.Slot.{Slot}
use Rattle.lif_dir.specs.declared.entries.Slot.TheVariants.{Live, Purged}
use Rattle.csv.specs.Writing.{is_blank, escaped, fields_text}
use Rattle.tape_text.specs.Rows.{rows_of, rows_text}
use Rattle.tape_text.specs.Listing.{digit_pair, four_digits, day_text, time_text, names_of, sizes_of, rest_of, plural_of, used_of, free_of, listing_of}

unfoldable listing_on_literals : ⊤
unfolding hex_on_literals digits two_at four_at name_of printed digit_pair four_digits day_text time_text names_of sizes_of rest_of plural_of used_of free_of
listing_on_literals = tt

unfoldable csv_on_literals : ⊤
unfolding is_blank escaped fields_text
csv_on_literals = tt

abbrev header : HeaderParts
header = record { label = codes "HP71  "; start = 2; length = 3 }

abbrev dated : List ℕ
dated = 0x85 ∷ 0x11 ∷ 0x23 ∷ 0x14 ∷ 0x30 ∷ 0 ∷ []

abbrev entry : List ℕ → ℕ → ℕ → ℕ → List ℕ → List ℕ → FileEntry
entry name kind start length date field =
    record { name = record { bytes = name }; kind = kind; start = start; length = length; date = date; volume = 0x8001; implementation = field }

abbrev startup : Slot
startup = Live (entry (codes "STARTUP   ") 0xE214 5 4 dated (0x12 ∷ 0x06 ∷ 0 ∷ 0 ∷ []))

abbrev sd : Slot
sd = Live (entry (codes "SD        ") 0xE0D0 9 4 dated (0 ∷ 0x80 ∷ 0 ∷ 0 ∷ []))

abbrev notes : Slot
notes = Live (entry (codes "NOTES     ") 0x0001 13 4 (replicate 6 0) (replicate 4 0))

abbrev games : Slot
games = Live (entry (codes "GAMES     ") 0xE0D5 17 30 dated (replicate 4 0))

abbrev redo : Slot
redo = Live (entry (codes "REDOFILE  ") 0xE0D0 478 34 (replicate 6 0) (replicate 4 0))

abbrev gone : Slot
gone = Purged (entry (codes "GONE      ") 0 60 5 dated (replicate 4 0))

abbrev slots : List Slot
slots = startup ∷ gone ∷ sd ∷ gone ∷ notes ∷ gone ∷ games ∷ redo ∷ replicate 7 gone

-- `1 file`, and not `1 files`
counts : (plural_of 1 (codes "file") ≡ codes "1 file") × (plural_of 0 (codes "file") ≡ codes "0 files") × (plural_of 2 (codes "slot") ≡ codes "2 slots")
    × (plural_of 1 (codes "file") ≡ codes "1 files" → ⊥)
unfolding plural_of digits
counts = (refl, refl, refl, λ is. cc)

-- without the redo file
listed : listing_of false 512 header slots
    ≡ codes "volume HP71, 4 files, 3 purged, 9 slots free, 431 records free\n"
    ++ codes "STARTUP  E214 BASIC    4 records   777 bytes  1985-11-23 14:30  12060000\n"
    ++ codes "SD       E0D0 SDATA    4 records  1024 bytes  1985-11-23 14:30  00800000\n"
    ++ codes "NOTES    0001 TEXT     4 records     - bytes  -                 00000000\n"
    ++ codes "GAMES    E0D5 TEXT-S  30 records     - bytes  1985-11-23 14:30  00000000\n"
unfolding listing_on_literals
listed = refl

-- with its line, which makes the column of names wider; it is not counted
all_listed : listing_of true 512 header (startup ∷ redo ∷ [])
    ≡ codes "volume HP71, 1 file, 0 purged, 22 slots free, 469 records free\n"
    ++ codes "STARTUP   E214 BASIC   4 records  777 bytes  1985-11-23 14:30  12060000\n"
    ++ codes "REDOFILE  E0D0 SDATA  34 records    - bytes  -                 00000000\n"
unfolding listing_on_literals
all_listed = refl

-- a file of that name in another place is none, and a purged slot counts if there is no redo file
unlike : listing_of false 512 header (Live (entry (codes "REDOFILE  ") 0xE0D0 5 34 (replicate 6 0) (replicate 4 0)) ∷ [])
    ≡ codes "volume HP71, 1 file, 0 purged, 23 slots free, 473 records free\n"
    ++ codes "REDOFILE  E0D0 SDATA  34 records  - bytes  -  00000000\n"
unfolding listing_on_literals
unlike = refl

-- no file: the volume's line only, with a label of spaces
none : listing_of true 512 (record { label = codes "      "; start = 2; length = 1 }) (gone ∷ []) ≡ codes "volume %20, 0 files, 1 purged, 7 slots free, 509 records free\n"
unfolding listing_on_literals
none = refl

-- ---- CSV

-- a row for each file
rows : rows_text (rows_of false 512 (codes "A.lif") header slots)
    ≡ codes "A.lif,HP71,STARTUP,E214,BASIC,5,4,777,1985-11-23 14:30,12060000\n"
    ++ codes "A.lif,HP71,SD,E0D0,SDATA,9,4,1024,1985-11-23 14:30,00800000\n"
    ++ codes "A.lif,HP71,NOTES,0001,TEXT,13,4,-,-,00000000\n"
    ++ codes "A.lif,HP71,GAMES,E0D5,TEXT-S,17,30,-,1985-11-23 14:30,00000000\n"
unfolding listing_on_literals csv_on_literals
rows = refl

-- a comma and quotes in the image's name and in a file's; a type without a name
quoted_rows : rows_text (rows_of false 512 (codes "a,\"b\"") header (Live (entry (codes "A,B       ") 0x1234 5 1 (replicate 6 0) (replicate 4 0)) ∷ []))
    ≡ codes "\"a,\"\"b\"\"\",HP71,\"A,B\",1234,-,5,1,-,-,00000000\n"
unfolding listing_on_literals csv_on_literals
quoted_rows = refl

-- one row for an image without files, unless the redo file is asked for
lone_row : (rows_text (rows_of false 512 (codes "A") header (gone ∷ redo ∷ [])) ≡ codes "A,HP71,,,,,,,,\n")
    × (rows_text (rows_of true 512 (codes "A") header (gone ∷ redo ∷ [])) ≡ codes "A,HP71,REDOFILE,E0D0,SDATA,478,34,-,-,00000000\n")
unfolding listing_on_literals csv_on_literals
lone_row = (refl, refl)
