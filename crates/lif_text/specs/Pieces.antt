-- What is read of a text, place by place.
use Rattle.std.specs.Prelude.{◌≡◌, ◌≤◌, ◌==◌, ◌+◌, ◌-◌, ◌*◌, ◌%◌, nat_lt, ℕ, zero, suc, List, [], ◌∷◌, length, take, drop, Option, Some, None, option_map, Result, Ok, Err, if◌then◌else◌}
use Rattle.lif_text.specs.declared.pieces.Piece.{Piece}
use Rattle.lif_text.specs.declared.pieces.Piece.TheVariants.{Line, End}
use Rattle.lif_text.specs.declared.pieces.TextFault.{TextFault}
use Rattle.lif_text.specs.declared.pieces.TextFault.TheVariants.{Length, Short}

-- so many bytes with their filler: an even number
abbrev pub with_filler : ℕ → ℕ
with_filler size = size + size % 2

-- What stands at a place with this length, where so many bytes come after the length. FFFF hex ends the text, other
-- lengths from 8000 hex on are those of no line, and a line has to end, with its filler, where the bytes end or before.
abbrev pub piece_of_length : ℕ → ℕ → ℕ → Result Piece TextFault
piece_of_length at size left =
    if size == 65535 then Ok End else
    if nat_lt 32767 size then Err (Length at) else
    if nat_lt left (with_filler size) then Err (Short at) else
    Ok (Line (at + 2) (at + 2 + size) (at + 2 + with_filler size))

-- what stands at a place, by the bytes from there on
abbrev pub piece_of : ℕ → List ℕ → Result Piece TextFault
piece_of at [] = Ok End
piece_of at (x ∷ []) = Err (Short at)
piece_of at (high ∷ low ∷ rest) = piece_of_length at (256 * high + low) (length rest)

-- what stands at a place of the bytes
abbrev pub piece_at : List ℕ → ℕ → Result Piece TextFault
piece_at bytes at = piece_of at (drop at bytes)

-- a line before others, where they are lines
abbrev pub line_before : List ℕ → Option (List (List ℕ)) → Option (List (List ℕ))
line_before line lines = option_map (λ lines. line ∷ lines) lines

-- The lines by what stands at some place of the bytes, and by the lines that the bytes after a line tell. None where
-- the bytes are no text.
abbrev pub lines_by : (List ℕ → Option (List (List ℕ))) → List ℕ → Result Piece TextFault → Option (List (List ℕ))
lines_by lines_after bytes (Ok (Line from to next)) = line_before (take (to - from) (drop from bytes)) (lines_after (drop next bytes))
lines_by lines_after bytes (Ok End) = Some []
lines_by lines_after bytes (Err fault) = None

-- the lines that bytes tell, where they are fewer than this number
abbrev pub fewer_lines : ℕ → List ℕ → Option (List (List ℕ))
fewer_lines zero bytes = None
fewer_lines (suc n) bytes = lines_by (fewer_lines n) bytes (piece_of 0 bytes)

-- The lines that bytes tell; None where the bytes are no text. There are no more lines than bytes.
unfoldable pub lines_in : List ℕ → Option (List (List ℕ))
lines_in bytes = fewer_lines (suc (length bytes)) bytes

-- the lines of the bytes from a place on, by what stands there
abbrev pub lines_from : List ℕ → Result Piece TextFault → Option (List (List ℕ))
lines_from bytes piece = lines_by lines_in bytes piece

-- a piece at a place below a length: a line's bytes begin two bytes later, and the next piece stands within the length
abbrev pub IsWithin : ℕ → ℕ → Piece → Type 0
IsWithin at size (Line from to next) = (from ≡ at + 2) × (from ≤ to) × (to ≤ next) × (next ≤ size)
IsWithin at size End = Unit {0}
