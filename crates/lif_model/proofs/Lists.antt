-- Tests of lists, element by element.
use Rattle.std.proofs.Common.{◌≡◌, ◌<◌, ◌↔◌, ℕ, zero, suc, List, [], ◌∷◌, Bool, true, false, if◌then◌else◌, length, get_or, inl, inr, refl, sym, ◌∙◌, arith, filter}
use Rattle.std.specs.List.{list_all, list_any}
use Rattle.std.proofs.lemmas.Bool.{and_parts, and_from, or_left, or_right, or_cases, or_parts, or_from, cases_Bool}
use Rattle.lif_model.specs.Pairs.{all_pairs, all_neighbours}

module _ {X : Type 0} (d : X) where
  -- ---- list_all

  pub all_at : (test : X → Bool) (xs : List X) (i : ℕ) → list_all test xs ≡ true → i < length xs → test (get_or xs i d) ≡ true
  all_at test [] i all lt = absurd (omega arith)
  all_at test (x ∷ xs) zero all lt = (and_parts (test x) (list_all test xs) all).0
  all_at test (x ∷ xs) (suc i) all lt = all_at test xs i (and_parts (test x) (list_all test xs) all).1 (omega arith)

  pub all_from : (test : X → Bool) (xs : List X) → ((i : ℕ) → i < length xs → test (get_or xs i d) ≡ true) → list_all test xs ≡ true
  all_from test [] each = refl
  all_from test (x ∷ xs) each = and_from (test x) (list_all test xs) (each 0 (omega arith)) (all_from test xs (λ i lt. each (suc i) (omega arith)))

  -- of the elements that pass another test
  filter_all_at : (pick test : X → Bool) (xs : List X) (i : ℕ) → list_all test (filter pick xs) ≡ true → i < length xs → pick (get_or xs i d) ≡ true → test (get_or xs i d) ≡ true
  filter_all_at pick test [] i all lt here = absurd (omega arith)
  filter_all_at pick test (x ∷ xs) i all lt here = go (pick x) refl all i lt here (λ rest j. filter_all_at pick test xs j rest)
    where
      go : (b : Bool) → pick x ≡ b → list_all test (if b then x ∷ filter pick xs else filter pick xs) ≡ true → (i : ℕ) → i < length (x ∷ xs) → pick (get_or (x ∷ xs) i d) ≡ true
          → (list_all test (filter pick xs) ≡ true → (j : ℕ) → j < length xs → pick (get_or xs j d) ≡ true → test (get_or xs j d) ≡ true) → test (get_or (x ∷ xs) i d) ≡ true
      go true e all zero lt here rest = (and_parts (test x) _ all).0
      go true e all (suc i) lt here rest = rest (and_parts (test x) _ all).1 i (omega arith) here
      go false e all zero lt here rest = let both : true ≡ false = sym here ∙ e in cc
      go false e all (suc i) lt here rest = rest all i (omega arith) here

  filter_all_from : (pick test : X → Bool) (xs : List X) → ((i : ℕ) → i < length xs → pick (get_or xs i d) ≡ true → test (get_or xs i d) ≡ true) → list_all test (filter pick xs) ≡ true
  filter_all_from pick test [] each = refl
  filter_all_from pick test (x ∷ xs) each = go (pick x) refl (filter_all_from pick test xs (λ i lt here. each (suc i) (omega arith) here))
    where
      go : (b : Bool) → pick x ≡ b → list_all test (filter pick xs) ≡ true → list_all test (if b then x ∷ filter pick xs else filter pick xs) ≡ true
      go true e rest = and_from (test x) _ (each 0 (omega arith) e) rest
      go false e rest = rest

  pub filter_all_tells : (pick test : X → Bool) (xs : List X) → (list_all test (filter pick xs) ≡ true) ↔ ((i : ℕ) → i < length xs → pick (get_or xs i d) ≡ true → test (get_or xs i d) ≡ true)
  filter_all_tells pick test xs = (λ all i lt here. filter_all_at pick test xs i all lt here, filter_all_from pick test xs)

  -- ---- all_pairs

  abbrev Pairwise : (pick : X → Bool) (test : X → X → Bool) (xs : List X) → Type 0
  Pairwise pick test xs = (i j : ℕ) → i < j → j < length xs → pick (get_or xs i d) ≡ true → pick (get_or xs j d) ≡ true → test (get_or xs i d) (get_or xs j d) ≡ true

  filter_pairs_at : (pick : X → Bool) (test : X → X → Bool) (xs : List X) → all_pairs test (filter pick xs) ≡ true → Pairwise pick test xs
  filter_pairs_at pick test [] all i j lt long first second = absurd (omega arith)
  filter_pairs_at pick test (x ∷ xs) all i j lt long first second = go (pick x) refl all i j lt long first second (λ rest. filter_pairs_at pick test xs rest)
    where
      go : (b : Bool) → pick x ≡ b → all_pairs test (if b then x ∷ filter pick xs else filter pick xs) ≡ true → (i j : ℕ) → i < j → j < length (x ∷ xs)
          → pick (get_or (x ∷ xs) i d) ≡ true → pick (get_or (x ∷ xs) j d) ≡ true → (all_pairs test (filter pick xs) ≡ true → Pairwise pick test xs)
          → test (get_or (x ∷ xs) i d) (get_or (x ∷ xs) j d) ≡ true
      go b e all i zero lt long first second rest = absurd (omega arith)
      go true e all zero (suc j) lt long first second rest = filter_all_at pick (test x) xs j (and_parts (list_all (test x) (filter pick xs)) _ all).0 (omega arith) second
      go true e all (suc i) (suc j) lt long first second rest = rest (and_parts (list_all (test x) (filter pick xs)) _ all).1 i j (omega arith) (omega arith) first second
      go false e all zero (suc j) lt long first second rest = let both : true ≡ false = sym first ∙ e in cc
      go false e all (suc i) (suc j) lt long first second rest = rest all i j (omega arith) (omega arith) first second

  filter_pairs_from : (pick : X → Bool) (test : X → X → Bool) (xs : List X) → Pairwise pick test xs → all_pairs test (filter pick xs) ≡ true
  filter_pairs_from pick test [] each = refl
  filter_pairs_from pick test (x ∷ xs) each = go (pick x) refl (filter_pairs_from pick test xs (λ i j lt long. each (suc i) (suc j) (omega arith) (omega arith)))
    where
      go : (b : Bool) → pick x ≡ b → all_pairs test (filter pick xs) ≡ true → all_pairs test (if b then x ∷ filter pick xs else filter pick xs) ≡ true
      go true e rest = and_from (list_all (test x) (filter pick xs)) _ (filter_all_from pick (test x) xs (λ j lt here. each 0 (suc j) (omega arith) (omega arith) e here)) rest
      go false e rest = rest

  pub filter_pairs_tell : (pick : X → Bool) (test : X → X → Bool) (xs : List X) → (all_pairs test (filter pick xs) ≡ true)
      ↔ ((i j : ℕ) → i < j → j < length xs → pick (get_or xs i d) ≡ true → pick (get_or xs j d) ≡ true → test (get_or xs i d) (get_or xs j d) ≡ true)
  filter_pairs_tell pick test xs = (filter_pairs_at pick test xs, filter_pairs_from pick test xs)

  -- of all elements
  pub pairs_tell : (test : X → X → Bool) (xs : List X) → (all_pairs test xs ≡ true) ↔ ((i j : ℕ) → i < j → j < length xs → test (get_or xs i d) (get_or xs j d) ≡ true)
  pairs_tell test xs = (pairs_at xs, pairs_from xs)
    where
      pairs_at : (xs : List X) → all_pairs test xs ≡ true → (i j : ℕ) → i < j → j < length xs → test (get_or xs i d) (get_or xs j d) ≡ true
      pairs_at [] all i j lt long = absurd (omega arith)
      pairs_at (x ∷ xs) all zero zero lt long = absurd (omega arith)
      pairs_at (x ∷ xs) all zero (suc j) lt long = all_at (test x) xs j (and_parts (list_all (test x) xs) _ all).0 (omega arith)
      pairs_at (x ∷ xs) all (suc i) zero lt long = absurd (omega arith)
      pairs_at (x ∷ xs) all (suc i) (suc j) lt long = pairs_at xs (and_parts (list_all (test x) xs) _ all).1 i j (omega arith) (omega arith)

      pairs_from : (xs : List X) → ((i j : ℕ) → i < j → j < length xs → test (get_or xs i d) (get_or xs j d) ≡ true) → all_pairs test xs ≡ true
      pairs_from [] each = refl
      pairs_from (x ∷ xs) each = and_from (list_all (test x) xs) _ (all_from (test x) xs (λ j lt. each 0 (suc j) (omega arith) (omega arith)))
          (pairs_from xs (λ i j lt long. each (suc i) (suc j) (omega arith) (omega arith)))

  pub neighbours_tell : (test : X → X → Bool) (xs : List X) → (all_neighbours test xs ≡ true) ↔ ((i : ℕ) → suc i < length xs → test (get_or xs i d) (get_or xs (suc i) d) ≡ true)
  neighbours_tell test xs = (next_at xs, next_from xs)
    where
      next_at : (xs : List X) → all_neighbours test xs ≡ true → (i : ℕ) → suc i < length xs → test (get_or xs i d) (get_or xs (suc i) d) ≡ true
      next_at [] all i lt = absurd (omega arith)
      next_at (x ∷ []) all i lt = absurd (omega arith)
      next_at (x ∷ y ∷ xs) all zero lt = (and_parts (test x y) _ all).0
      next_at (x ∷ y ∷ xs) all (suc i) lt = next_at (y ∷ xs) (and_parts (test x y) _ all).1 i (omega arith)

      next_from : (xs : List X) → ((i : ℕ) → suc i < length xs → test (get_or xs i d) (get_or xs (suc i) d) ≡ true) → all_neighbours test xs ≡ true
      next_from [] each = refl
      next_from (x ∷ []) each = refl
      next_from (x ∷ y ∷ xs) each = and_from (test x y) _ (each 0 (omega arith)) (next_from (y ∷ xs) (λ i lt. each (suc i) (omega arith)))

  -- ---- list_any

  pub any_from : (test : X → Bool) (xs : List X) (i : ℕ) → i < length xs → test (get_or xs i d) ≡ true → list_any test xs ≡ true
  any_from test [] i lt here = absurd (omega arith)
  any_from test (x ∷ xs) zero lt here = or_left (test x) (list_any test xs) here
  any_from test (x ∷ xs) (suc i) lt here = or_right (test x) (list_any test xs) (any_from test xs i (omega arith) here)

  pub any_at : (test : X → Bool) (xs : List X) → list_any test xs ≡ true → (i : ℕ) × (i < length xs) × (test (get_or xs i d) ≡ true)
  any_at test [] any = cc
  any_at test (x ∷ xs) any = elim (or_cases (test x) (list_any test xs) any) [
    | inl here ↦ (0, omega arith, here)
    | inr rest ↦ let found = any_at test xs rest in (suc found.0, omega (arith, found.1), found.2)
  ]

  pub none_at : (test : X → Bool) (xs : List X) (i : ℕ) → list_any test xs ≡ false → i < length xs → test (get_or xs i d) ≡ false
  none_at test xs i none lt = elim (cases_Bool (test (get_or xs i d))) [
    | inl here ↦ let both : true ≡ false = sym (any_from test xs i lt here) ∙ none in cc
    | inr not_here ↦ not_here
  ]

  pub none_from : (test : X → Bool) (xs : List X) → ((i : ℕ) → i < length xs → test (get_or xs i d) ≡ false) → list_any test xs ≡ false
  none_from test [] each = refl
  none_from test (x ∷ xs) each = or_from (test x) (list_any test xs) (each 0 (omega arith)) (none_from test xs (λ i lt. each (suc i) (omega arith)))

module _ {X : Type 0} (d : X) where
  -- no element that is picked passes, where none of those picked does
  pub none_of_filter : (pick test : X → Bool) (xs : List X) (i : ℕ) → list_any test (filter pick xs) ≡ false → i < length xs → pick (get_or xs i d) ≡ true → test (get_or xs i d) ≡ false
  none_of_filter pick test [] i none lt on = absurd (omega arith)
  none_of_filter pick test (x ∷ xs) i none lt on = go (pick x) refl none i lt on (λ rest j. none_of_filter pick test xs j rest)
    where
      go : (b : Bool) → pick x ≡ b → list_any test (if b then x ∷ filter pick xs else filter pick xs) ≡ false → (i : ℕ) → i < length (x ∷ xs) → pick (get_or (x ∷ xs) i d) ≡ true
          → (list_any test (filter pick xs) ≡ false → (j : ℕ) → j < length xs → pick (get_or xs j d) ≡ true → test (get_or xs j d) ≡ false) → test (get_or (x ∷ xs) i d) ≡ false
      go true e none zero lt on rest = (or_parts (test x) _ none).0
      go true e none (suc i) lt on rest = rest (or_parts (test x) _ none).1 i (omega arith) on
      go false e none zero lt on rest = let both : true ≡ false = sym on ∙ e in cc
      go false e none (suc i) lt on rest = rest none i (omega arith) on
