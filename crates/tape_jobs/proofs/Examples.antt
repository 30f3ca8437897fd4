-- Worked examples of how files differ, computed by the checker.
use Rattle.std.proofs.Common.{◌≡◌, ◌∷◌, ℕ, List, [], false, true, refl, codes}
use Rattle.lif_model.specs.Printed.{printed}
use Rattle.tape_jobs.specs.Differences.{NamedFile, are_alike, differences}

abbrev file : (name : List ℕ) → ℕ → (bytes : List ℕ) → NamedFile
file name kind bytes = record { name = name; content = record { kind = kind; field = 0 ∷ 0 ∷ 0 ∷ 0 ∷ []; bytes = bytes } }

abbrev itself : NamedFile → NamedFile
itself f = f

abbrev one : List NamedFile
one = file (codes "A         ") 1 (1 ∷ []) ∷ file (codes "B         ") 1 (2 ∷ []) ∷ file (codes "C         ") 1 (3 ∷ []) ∷ []

abbrev two : List NamedFile
two = file (codes "D         ") 1 [] ∷ file (codes "C         ") 2 (3 ∷ []) ∷ file (codes "A         ") 1 (9 ∷ []) ∷ []

same_files : differences itself (codes "ONE") (codes "TWO") one one ≡ []
same_files = refl

other_files : differences itself (codes "ONE") (codes "TWO") one two ≡ codes "A: other bytes\nB: only on ONE\nC: other type or field\nD: only on TWO\n"
unfolding printed
other_files = refl

-- the order of the files is no difference, and a missing file is one
alike : (are_alike (differences itself [] [] one (file (codes "C         ") 1 (3 ∷ []) ∷ file (codes "B         ") 1 (2 ∷ []) ∷ file (codes "A         ") 1 (1 ∷ []) ∷ [])) ≡ true)
    × (are_alike (differences itself [] [] [] one) ≡ false)
unfolding printed
alike = (refl, refl)
