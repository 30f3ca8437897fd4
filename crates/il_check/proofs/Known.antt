-- Known bytes that were consumed.
use Rattle.std.proofs.Common.{◌≡◌, ℕ, List, [], ◌++◌, Option, Some, None, refl, sym, ap, subst, ◌∙◌}
use Rattle.std.specs.Io.KnownBytes.{Consumes, IsAtEnd}

-- known bytes that were consumed
pub consumed : (old new : Option (List ℕ)) (bs rest : List ℕ) → old ≡ Some rest → Consumes old new bs
    → (after : List ℕ) × (new ≡ Some after) × (rest ≡ bs ++ after)
consumed None new bs rest e h = cc
consumed (Some xs) None bs rest e h = absurd h
consumed (Some xs) (Some ys) bs rest e h = (ys, refl, sym (same xs rest e) ∙ h)
  where
    same : (a b : List ℕ) → Some a ≡ Some b → a ≡ b
    same a b e = cc

-- none is left where none came
pub whole_read : (old new : Option (List ℕ)) (bs rest : List ℕ) → old ≡ Some rest → Consumes old new bs → bs ≡ [] → IsAtEnd new → rest ≡ []
whole_read old new bs rest e h none ends =
    let found = consumed old new bs rest e h in
    found.2 ∙ ap (λ (l : List ℕ). l ++ found.0) none ∙ subst IsAtEnd found.1 ends
