-- Texts that are read.
use Rattle.std.proofs.Common.{◌≡◌, ◌∷◌, ℕ, List, [], Some, None, Option, refl, arith}
use Rattle.std.specs.Prelude.{codes}
use Rattle.tape_input.specs.Input.{IsAll, IsTextFileOf}

-- all three bytes of a source
all_three : IsAll (codes "ABC") (Some (codes "ABC")) (Some [])
all_three = record { taken = refl; rest = refl }

-- two of them are not all
not_two : IsAll (codes "AB") (Some (codes "ABC")) (Some (codes "C")) → ⊥
not_two all = let none : codes "C" ≡ [] = all.rest in cc

-- a line, as its length in two bytes, its bytes, a filler, and the mark of the end
one_line : IsTextFileOf (codes "ABC\n") (0 ∷ 3 ∷ 65 ∷ 66 ∷ 67 ∷ 0 ∷ 255 ∷ 255 ∷ [])
one_line = record { encoded = refl; short = refl; fits = omega arith }

-- the bytes of the line alone are no text
no_text : IsTextFileOf (codes "ABC\n") (codes "ABC") → ⊥
no_text text = let same : codes "ABC" ≡ (0 ∷ 3 ∷ 65 ∷ 66 ∷ 67 ∷ 0 ∷ 255 ∷ 255 ∷ []) = text.encoded in cc
