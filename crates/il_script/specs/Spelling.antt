-- How names are spelt in a script.
use Rattle.std.specs.Prelude.{◌≡◌, ℕ, ◌==◌, ◌<◌, ◌≤◌, List, [], ◌∷◌, ◌++◌, length, drop, Option, Some, None, if◌then◌else◌, option_map, option_and_then}
use Rattle.lif_model.specs.Printed.{is_plain}
use Rattle.il_script.specs.Digits.{hex_bytes}

-- a byte from 21 to 7E hex other than the percent sign stands for itself
abbrev pub plain : ℕ → Option (List ℕ)
plain x = if is_plain x then Some (x ∷ []) else None

-- some bytes before those of the rest
abbrev pub bytes_before : Option (List ℕ) → Option (List ℕ) → Option (List ℕ)
bytes_before first rest = option_and_then (λ a. option_map (λ b. a ++ b) rest) first

-- The bytes that a spelling stands for: a percent sign and two hex digits are one byte. None where it is no spelling.
abbrev pub spelt : List ℕ → Option (List ℕ)
spelt [] = Some []
spelt (x ∷ []) = plain x
spelt (x ∷ y ∷ []) = bytes_before (plain x) (spelt (y ∷ []))
spelt (x ∷ y ∷ z ∷ rest) = if x == 37 then bytes_before (hex_bytes 1 (y ∷ z ∷ [])) (spelt rest) else bytes_before (plain x) (spelt (y ∷ z ∷ rest))

-- the first byte of a spelling, and how many bytes spell it; none where it is no spelling
abbrev pub IsSpeltFirst : List ℕ → Option (ℕ × ℕ) → Type 0
IsSpeltFirst text (Some first) = (spelt text ≡ option_map (λ more. first.0 ∷ more) (spelt (drop first.1 text))) × (0 < first.1) × (first.1 ≤ length text)
IsSpeltFirst text None = spelt text ≡ None
