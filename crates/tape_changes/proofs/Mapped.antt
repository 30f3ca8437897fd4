-- Two lists whose elements correspond, one by one.
use Rattle.std.proofs.Common.{◌≡◌, ◌<◌, ◌+◌, ◌++◌, ◌∷◌, ◌∙◌, ℕ, List, [], ap, sym, get_or, length, map, take}
use Rattle.std.proofs.lemmas.List.{map-append, map_more}

-- one more of each
pub mapped_more : {A B C : Type 0} (f : A → C) (g : B → C) (xs : List A) (ys : List B) (i : ℕ) (x : A) (y : B) → i < length ys → y ≡ get_or ys i y → f x ≡ g y
    → map f xs ≡ map g (take i ys) → map f (xs ++ x ∷ []) ≡ map g (take (i + 1) ys)
mapped_more f g xs ys i x y lt here same held =
    map-append f xs (x ∷ []) ∙ (λ j. held j ++ same j ∷ []) ∙ ap (λ z. map g (take i ys) ++ g z ∷ []) here ∙ sym (map_more g ys i y lt)
