-- Numbers in decimal, and bytes in hex digits.
use Rattle.std.specs.Prelude.{ℕ, ◌+◌, ◌-◌, ◌*◌, ◌&&◌, ◌||◌, ◌==◌, Bool, not, List, [], length, Option, Some, None, Result, Ok, Err, if◌then◌else◌, nat_le, nat_lt, slice_index, fold, codes, option_and_then}
use Rattle.std.specs.List.{list_all}
use Rattle.std.specs.Str.{bytes_eq}
use Rattle.std.specs.Int.{w16, from_be_bytes}
use Rattle.hex.specs.Hex.{decode_of, decode_sized}
use Rattle.hex.specs.declared.error.FromHexError.{FromHexError}
use Rattle.lif_dir.specs.Names.{is_digit}

-- digits, read from the left
abbrev pub value_of : List ℕ → ℕ
value_of text = fold (λ value digit. 10 * value + (digit - 48)) 0 text

-- some digits, the first of them not 0
abbrev pub is_number : List ℕ → Bool
is_number text = nat_lt 0 (length text) && (not (slice_index text 0 == 48) && list_all is_digit text)

-- a number that is not larger than this
abbrev pub number_up_to : ℕ → List ℕ → Option ℕ
number_up_to most text = if is_number text && nat_le (value_of text) most then Some (value_of text) else None

abbrev pub decoded : Result (List ℕ) FromHexError → Option (List ℕ)
decoded (Ok bytes) = Some bytes
decoded (Err e) = None

-- so many bytes in hex digits of either case, two a byte
abbrev pub hex_bytes : ℕ → List ℕ → Option (List ℕ)
hex_bytes n text = decoded (decode_sized text n)

-- no bytes are spelt as a minus sign, and others in hex digits, two a byte
abbrev pub payload_of : List ℕ → Option (List ℕ)
payload_of text = if bytes_eq text (codes "-") then Some [] else (if length text == 0 then None else decoded (decode_of text))

-- the type of a file that is there: neither 0, a purged one, nor FFFF hex, the end of a directory
abbrev pub file_type : ℕ → Option ℕ
file_type kind = if kind == 0 || kind == 0xFFFF then None else Some kind

-- a type in four hex digits, high byte first
abbrev pub type_in : List ℕ → Option ℕ
type_in text = option_and_then (λ bytes. file_type (from_be_bytes w16 bytes)) (hex_bytes 2 text)
