-- How many bytes of its records a file has, if the implementation field states it.
use Rattle.std.specs.Prelude.{◌==◌, ◌||◌, ◌&&◌, ◌+◌, ◌-◌, ◌*◌, ◌/◌, ℕ, Bool, List, slice_index_or, Option, Some, None, if◌then◌else◌, nat_lt, nat_le}

-- two bytes of a field, high first, and low first; and three, low first
abbrev pub high_two : List ℕ → ℕ
high_two field = 256 * slice_index_or field 0 0 + slice_index_or field 1 0

abbrev pub low_two : List ℕ → ℕ → ℕ
low_two field at = slice_index_or field at 0 + 256 * slice_index_or field (at + 1) 0

abbrev pub low_three : List ℕ → ℕ
low_three field = slice_index_or field 0 0 + 256 * slice_index_or field 1 0 + 65536 * slice_index_or field 2 0

-- the types whose field counts half bytes
abbrev pub counts_halves : ℕ → Bool
counts_halves kind = kind == 0xE204 || (kind == 0xE208 || (kind == 0xE20C || (kind == 0xE214 || (kind == 0xE215
    || (kind == 0xE216 || (kind == 0xE217 || (kind == 0xE218 || kind == 0xE21C)))))))

-- what the field states, without regard to the number of records
abbrev pub said_bytes : ℕ → List ℕ → Option ℕ
said_bytes kind field =
    if kind == 0xE080 then Some (high_two field)
    else if kind == 0xE0D0 then Some (8 * high_two field)
    else if kind == 0xE0F0 || kind == 0xE0F1 then Some (low_two field 0 * low_two field 2)
    else if counts_halves kind then Some ((low_three field + 1) / 2)
    else None

-- this number of bytes ends in the last of the records
abbrev pub ends_in : ℕ → ℕ → Bool
ends_in records n = nat_lt (256 * (records - 1)) n && nat_le n (256 * records)

abbrev pub if_ends : ℕ → Option ℕ → Option ℕ
if_ends records None = None
if_ends records (Some n) = if ends_in records n then Some n else None

-- a number counts only if that many bytes end in the file's last record
abbrev pub bytes_told : ℕ → List ℕ → ℕ → Option ℕ
bytes_told kind field records = if_ends records (said_bytes kind field)
