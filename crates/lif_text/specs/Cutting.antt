-- A text as its lines: bytes 0A hex, line feeds, end them.
use Rattle.std.specs.Prelude.{ℕ, suc, ◌==◌, Bool, not, nat_le, List, [], ◌∷◌, length, Option, Some, None, if◌then◌else◌}

-- a byte of a line
abbrev pub is_no_feed : ℕ → Bool
is_no_feed x = not (x == 10)

-- a byte at the front of the first line
abbrev pub with_first : ℕ → List (List ℕ) → List (List ℕ)
with_first x [] = (x ∷ []) ∷ []
with_first x (line ∷ lines) = (x ∷ line) ∷ lines

-- The lines of a text, without their line feeds. The last one may have none; an empty text has no lines.
abbrev pub cut_lines : List ℕ → List (List ℕ)
cut_lines [] = []
cut_lines (x ∷ text) = if x == 10 then [] ∷ cut_lines text else with_first x (cut_lines text)

-- the first line that has more bytes than a line may have, where they are counted from this number
abbrev pub long_from : ℕ → List (List ℕ) → Option ℕ
long_from number [] = None
long_from number (line ∷ lines) = if nat_le (length line) 32767 then long_from (suc number) lines else Some number

-- the same, counted from 1
abbrev pub long_line : List (List ℕ) → Option ℕ
long_line lines = long_from 1 lines
