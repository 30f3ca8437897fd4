-- Drives that are numbers, of which contracts see a list of those given and a list of those that came back.
use Rattle.std.proofs.Common.{◌≡◌, ◌∷◌, ℕ, Bool, true, false, List, [], length, inl, inr, refl, arith}
use Rattle.std.specs.Prelude.{◌⊎◌}
use Rattle.tape_drives.specs.Lending.{Lending, Gives, ComesBack, Uses}

abbrev IsIn : ℕ → List ℕ → Type 0
IsIn n [] = ⊥
IsIn n (m ∷ rest) = (n ≡ m) ⊎ IsIn n rest

abbrev told : (given back : List ℕ) → Bool → Lending ℕ
told given back all_back = record { given = length given; all_back = all_back; gave = λ n. IsIn n given; took = λ n. IsIn n back }

-- drive 7 was given
gives_seven : Gives (told [] [] true) (told (7 ∷ []) [] false) 7
gives_seven = record { goes_on = record { gave = λ n is. inr is; took = λ n is. is }; few = omega arith; gave = inl refl }

-- drive 8 was not
gives_no_eight : Gives (told [] [] true) (told (7 ∷ []) [] false) 8 → ⊥
gives_no_eight gives = no gives.gave
  where
    no : IsIn 8 (7 ∷ []) → ⊥
    no (inl same) = cc
    no (inr none) = none

-- it came back
takes_seven : ComesBack (told (7 ∷ []) [] false) (told (7 ∷ []) (7 ∷ []) true) 7
takes_seven = record { goes_on = record { gave = λ n is. is; took = λ n is. inr is }; few = omega arith; back = refl; took = inl refl }

-- another drive that comes back is not drive 7
takes_no_seven : ComesBack (told (7 ∷ []) [] false) (told (7 ∷ []) (8 ∷ []) true) 7 → ⊥
takes_no_seven takes = no takes.took
  where
    no : IsIn 7 (8 ∷ []) → ⊥
    no (inl same) = cc
    no (inr none) = none

-- one drive was used, and not none
uses_one : Uses 1 (told [] [] true) (told (7 ∷ []) (7 ∷ []) true)
uses_one = record { goes_on = record { gave = λ n is. inr is; took = λ n is. inr is }; few = omega arith; back = refl }

uses_not_none : Uses 0 (told [] [] true) (told (7 ∷ []) (7 ∷ []) true) → ⊥
uses_not_none uses = absurd (omega (arith, uses.few))
