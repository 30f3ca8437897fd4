-- The directory of a volume: entries of 32 bytes, eight in a record (the LIF directory format).
use Rattle.std.specs.Prelude.{◌==◌, ◌*◌, ◌++◌, ℕ, zero, suc, Bool, not, List, [], ◌∷◌, take, drop, take_while}
use Rattle.lif_model.specs.Numbers.{two_at, four_at}
use Rattle.lif_model.specs.Tape.{Tape, record_at}
use Rattle.lif_model.specs.Header.{directory_start, directory_length}

-- ---- the parts of an entry

-- the name, with its spaces: bytes 0 to 9
unfoldable pub name_of : List ℕ → List ℕ
name_of entry = take 10 entry

-- the type: bytes 10 and 11
abbrev pub type_of : List ℕ → ℕ
type_of entry = two_at entry 10

-- the first record of the file: bytes 12 to 15
abbrev pub start_of : List ℕ → ℕ
start_of entry = four_at entry 12

-- the number of the file's records: bytes 16 to 19
abbrev pub length_of : List ℕ → ℕ
length_of entry = four_at entry 16

-- the date and time, in BCD: bytes 20 to 25
unfoldable pub date_of : List ℕ → List ℕ
date_of entry = take 6 (drop 20 entry)

-- the volume word: bytes 26 and 27
abbrev pub volume_word_of : List ℕ → ℕ
volume_word_of entry = two_at entry 26

-- the implementation field: bytes 28 to 31
unfoldable pub implementation_of : List ℕ → List ℕ
implementation_of entry = take 4 (drop 28 entry)

-- ---- its kind

-- the type FFFF hex ends the directory
abbrev pub is_end : List ℕ → Bool
is_end entry = type_of entry == 0xFFFF

-- the type 0 is that of a purged file
abbrev pub is_purged : List ℕ → Bool
is_purged entry = type_of entry == 0

-- ---- the entries of a directory

-- entry k of a directory record
unfoldable pub entry_at : List ℕ → ℕ → List ℕ
entry_at bytes k = take 32 (drop (32 * k) bytes)

-- the eight entries of a directory record, in order
unfoldable pub entries_of : List ℕ → List (List ℕ)
entries_of bytes = entry_at bytes 0 ∷ entry_at bytes 1 ∷ entry_at bytes 2 ∷ entry_at bytes 3
    ∷ entry_at bytes 4 ∷ entry_at bytes 5 ∷ entry_at bytes 6 ∷ entry_at bytes 7 ∷ []

-- all entries of n directory records, the first of which is record k
abbrev pub entries_from : Tape → ℕ → ℕ → List (List ℕ)
entries_from tape k zero = []
entries_from tape k (suc n) = entries_of (record_at tape k) ++ entries_from tape (suc k) n

-- the entries before the first that ends the directory
abbrev pub before_end : List (List ℕ) → List (List ℕ)
before_end entries = take_while (λ e. not (is_end e)) entries

-- the slots of a directory of n records, the first of which is record k: live and purged ones, in order
abbrev pub slots_from : Tape → ℕ → ℕ → List (List ℕ)
slots_from tape k n = before_end (entries_from tape k n)

-- the slots of the directory that record 0 of the tape tells of
abbrev pub slots_of : Tape → List (List ℕ)
slots_of tape = slots_from tape (directory_start (record_at tape 0)) (directory_length (record_at tape 0))
