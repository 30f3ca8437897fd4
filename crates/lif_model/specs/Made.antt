-- The bytes that are written: numbers, entries, headers, a directory's first record and the records
-- of a file.
use Rattle.std.specs.Prelude.{◌+◌, ◌-◌, ◌*◌, ◌/◌, ◌%◌, ◌++◌, ◌==◌, if◌then◌else◌, ℕ, List, [], ◌∷◌, length, take, drop, set, max, replicate}
use Rattle.lif_model.specs.Tape.{Tape}
use Rattle.lif_model.specs.Shelf.{piece, cut, disc_records}

-- ---- numbers, high byte first

abbrev pub in_two : ℕ → List ℕ
in_two k = k / 256 ∷ k % 256 ∷ []

abbrev pub in_four : ℕ → List ℕ
in_four k = in_two (k / 65536) ++ in_two (k % 65536)

-- ---- entries (the LIF directory format)

-- an entry of 32 bytes, without a date, of a file on one volume
unfoldable pub new_entry : List ℕ → ℕ → ℕ → ℕ → List ℕ → List ℕ
new_entry name kind start count implementation =
    name ++ (in_two kind ++ (in_four start ++ (in_four count ++ (replicate 6 0 ++ (in_two 0x8001 ++ implementation)))))

-- the entry under another name
unfoldable pub with_name : List ℕ → List ℕ → List ℕ
with_name name entry = name ++ drop 10 entry

-- the entry of another type
unfoldable pub with_type : ℕ → List ℕ → List ℕ
with_type kind entry = set (set entry 10 (kind / 256)) 11 (kind % 256)

-- the entry of another extent, with that implementation field; its name, type, date and volume word
-- stay
unfoldable pub with_extent : ℕ → ℕ → List ℕ → List ℕ → List ℕ
with_extent start count implementation entry =
    take 12 entry
    ++ (in_four start ++ (in_four count ++ (take 8 (drop 20 entry) ++ implementation)))

-- what `format` puts after the only slot: zeros, of the type that ends a directory
abbrev pub end_entry : List ℕ
end_entry = with_type 0xFFFF (replicate 32 0)

-- the directory's first record with that slot alone
unfoldable pub first_directory_record : List ℕ → List ℕ
first_directory_record entry = piece (entry ++ end_entry)

-- ---- headers (the LIF volume header)

-- The medium's tracks per surface, surfaces and records per track: 77, 2 and 16 of an HP 9114 disc,
-- and 2, 1 and 256 of an HP 82161A tape.
abbrev pub geometry : ℕ → List ℕ
geometry n = if n == disc_records then in_four 77 ++ (in_four 2 ++ in_four 16) else in_four 2 ++ (in_four 1 ++ in_four 256)

-- record 0 as `format` writes it for n records: a directory of so many records from record 2 on,
-- LIF version 1, no date
unfoldable pub fresh_header : ℕ → List ℕ → ℕ → List ℕ
fresh_header n label count =
    piece (in_two 0x8000 ++ (label ++ (in_four 2 ++ (in_two 0x1000 ++ (in_two 0 ++ (in_four count ++ (in_two 1 ++ (in_two 0 ++ geometry n))))))))

-- the directory's records for so many slots
abbrev pub records_for_slots : ℕ → ℕ
records_for_slots slots = (slots + 7) / 8

-- ---- files

-- a file of k bytes takes the records that hold them, and one where there are none
abbrev pub file_length : List ℕ → ℕ
file_length bytes = max 1 ((length bytes + 255) / 256)

-- the file's bytes, filled up with zeros to whole records
unfoldable pub filled : List ℕ → List ℕ
filled bytes = bytes ++ replicate (256 * file_length bytes - length bytes) 0

-- the file's records, in order
abbrev pub file_records : List ℕ → Tape
file_records bytes = cut (file_length bytes) bytes
