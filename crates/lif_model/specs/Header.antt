-- The header of a volume, record 0 (the LIF volume header).
use Rattle.std.specs.Prelude.{◌+◌, ◌*◌, ◌==◌, ◌&&◌, nat_lt, nat_le, ℕ, Bool, List, take, drop}
use Rattle.lif_model.specs.Numbers.{two_at, four_at}
use Rattle.lif_model.specs.Gate.{gate_of}

-- bytes 0 and 1 mark a LIF volume
abbrev pub is_marked : List ℕ → Bool
is_marked header = two_at header 0 == 0x8000

-- the label, with its spaces: bytes 2 to 7
unfoldable pub label_of : List ℕ → List ℕ
label_of header = take 6 (drop 2 header)

-- the first record of the directory: bytes 8 to 11
abbrev pub directory_start : List ℕ → ℕ
directory_start header = four_at header 8

-- the number of the directory's records: bytes 16 to 19
abbrev pub directory_length : List ℕ → ℕ
directory_length header = four_at header 16

-- the first record after the directory
abbrev pub directory_end : List ℕ → ℕ
directory_end header = directory_start header + directory_length header

-- how many entries the directory has room for
abbrev pub capacity_of : List ℕ → ℕ
capacity_of header = 8 * directory_length header

-- Record 0 of a tape of n records can be read as a header: it has the mark, and the directory is not
-- empty, does not begin in record 0 and ends before the redo file's records.
abbrev pub is_readable : ℕ → List ℕ → Bool
is_readable n header = is_marked header && (nat_lt 0 (directory_start header) && (nat_lt 0 (directory_length header)
    && nat_le (directory_end header) (gate_of n)))

-- what is kept of a header
pub record HeaderParts : Type 0 where
  pub label : List ℕ
  pub start : ℕ
  pub length : ℕ

abbrev pub header_of : List ℕ → HeaderParts
header_of header = record { label = label_of header; start = directory_start header; length = directory_length header }
