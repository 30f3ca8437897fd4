-- The words of a line: the longest runs of bytes other than the space.
use Rattle.std.specs.Prelude.{◌≡◌, ℕ, ◌==◌, Bool, true, false, not, List, [], ◌∷◌, Option, Some, None, if◌then◌else◌, nat_eq, take, length, ◌-◌}
use Rattle.std.specs.List.{ends_with}

-- a line without the carriage return at its end, where there is one
abbrev pub without_return : List ℕ → List ℕ
without_return line = if ends_with nat_eq line (13 ∷ []) then take (length line - 1) line else line

abbrev pub is_space : ℕ → Bool
is_space x = x == 32

abbrev pub is_dark : ℕ → Bool
is_dark x = not (x == 32)

-- what stands before the first space, and the words after it
pub record WordCut : Type 0 where
  pub first : List ℕ
  pub more : List (List ℕ)

-- a run that is not empty is a word
abbrev pub word_before : List ℕ → List (List ℕ) → List (List ℕ)
word_before [] words = words
word_before (x ∷ word) words = (x ∷ word) ∷ words

-- a space ends a word
abbrev pub dark_before : ℕ → WordCut → WordCut
dark_before x c = if x == 32 then record { first = []; more = word_before c.first c.more } else record { first = x ∷ c.first; more = c.more }

abbrev pub word_cut : List ℕ → WordCut
word_cut [] = record { first = []; more = [] }
word_cut (x ∷ line) = dark_before x (word_cut line)

abbrev pub words_of : List ℕ → List (List ℕ)
words_of line = word_before (word_cut line).first (word_cut line).more

-- the first word and the rest of the line; an empty one where there is none
abbrev pub IsNext : List ℕ → List ℕ → List ℕ → Type 0
IsNext line [] rest = words_of line ≡ []
IsNext line (x ∷ word) rest = words_of line ≡ (x ∷ word) ∷ words_of rest

-- ---- so many words and no more

abbrev pub is_none : List (List ℕ) → Bool
is_none [] = true
is_none (a ∷ words) = false

abbrev pub only_one : List (List ℕ) → Option (List ℕ)
only_one (a ∷ []) = Some a
only_one words = None

abbrev pub only_two : List (List ℕ) → Option (List ℕ × List ℕ)
only_two (a ∷ b ∷ []) = Some (a, b)
only_two words = None

abbrev pub only_four : List (List ℕ) → Option (List ℕ × List ℕ × List ℕ × List ℕ)
only_four (a ∷ b ∷ c ∷ d ∷ []) = Some (a, b, c, d)
only_four words = None
