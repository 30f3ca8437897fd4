-- The lines of a script.
use Rattle.std.specs.Prelude.{◌≡◌, ℕ, List, [], ◌∷◌, ◌++◌, length, Option, Some, None, if◌then◌else◌, nat_le, ◌==◌}
use Rattle.il_script.specs.declared.limits.TheConstants.{LONGEST_LINE}

-- the lines that end with a line feed, without it, and what comes after the last of them
pub record LineCut : Type 0 where
  pub whole : List (List ℕ)
  pub open_line : List ℕ

-- a byte before the first line
abbrev pub byte_before : ℕ → List (List ℕ) → List ℕ → LineCut
byte_before x [] rest = record { whole = []; open_line = x ∷ rest }
byte_before x (line ∷ lines) rest = record { whole = (x ∷ line) ∷ lines; open_line = rest }

-- a line feed ends a line
abbrev pub cut_before : ℕ → LineCut → LineCut
cut_before x c = if x == 10 then record { whole = [] ∷ c.whole; open_line = c.open_line } else byte_before x c.whole c.open_line

abbrev pub line_cut : List ℕ → LineCut
line_cut [] = record { whole = []; open_line = [] }
line_cut (x ∷ xs) = cut_before x (line_cut xs)

-- what comes after the last line feed is a line, unless it is empty
abbrev pub rest_line : List ℕ → List (List ℕ)
rest_line [] = []
rest_line (x ∷ xs) = (x ∷ xs) ∷ []

-- the lines of a script
abbrev pub lines_of : List ℕ → List (List ℕ)
lines_of script = (line_cut script).whole ++ rest_line (line_cut script).open_line

-- what is told of a line: None where it has more bytes than a line may have
abbrev pub line_told : List ℕ → Option (List ℕ)
line_told line = if nat_le (length line) LONGEST_LINE then Some line else None

-- bytes that hold no line feed
pub record HasNoFeed (bytes : List ℕ) : Type 0 where
  pub is : line_cut bytes ≡ record { whole = []; open_line = bytes }
