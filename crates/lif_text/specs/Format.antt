-- Texts as bytes. The LIF format, files of type 0001 hex.
use Rattle.std.specs.Prelude.{◌≡◌, ◌≤◌, ◌==◌, ◌/◌, ◌%◌, ◌⊎◌, ℕ, List, [], ◌∷◌, ◌++◌, length, if◌then◌else◌}

-- no line has more bytes
abbrev pub IsTextLine : List ℕ → Type 0
IsTextLine line = length line ≤ 32767

-- a number in two bytes, the most significant first
abbrev pub two_bytes : ℕ → List ℕ
two_bytes n = n / 256 ∷ n % 256 ∷ []

-- what comes after a line of so many bytes: where the number is odd, one byte
abbrev pub filler_after : ℕ → ℕ → List ℕ
filler_after size filler = if size % 2 == 1 then filler ∷ [] else []

-- a line: its length, its bytes, and its filler where it has one
abbrev pub spelling : ℕ → List ℕ → List ℕ
spelling filler line = two_bytes (length line) ++ (line ++ filler_after (length line) filler)

-- a text ends with the bytes, or with FFFF hex, whatever follows
abbrev pub IsEnd : List ℕ → Type 0
IsEnd bytes = (bytes ≡ []) ⊎ ((more : List ℕ) × (bytes ≡ 255 ∷ 255 ∷ more))

-- these are the lines of the text, and these its bytes: one line after the other, with any fillers, and then the end
abbrev pub Text : List (List ℕ) → List ℕ → Type 0
Text [] bytes = IsEnd bytes
Text (line ∷ lines) bytes = (filler : ℕ) × (rest : List ℕ) × (bytes ≡ spelling filler line ++ rest) × IsTextLine line × Text lines rest

-- the lines as this project writes them: fillers are 0, and FFFF hex ends them
abbrev pub encode : List (List ℕ) → List ℕ
encode [] = 255 ∷ 255 ∷ []
encode (line ∷ lines) = spelling 0 line ++ encode lines
