-- The slots that pass a test: where each of them stood, and how many they are.
use Rattle.std.proofs.Common.{filter, ◌≡◌, ◌<◌, ◌≤◌, ◌+◌, ℕ, zero, suc, List, [], ◌∷◌, Bool, true, false, if◌then◌else◌, length, get_or, refl, sym, ◌∙◌, ap, arith}

module _ (p : List ℕ → Bool) where
  pub filter_at : (xs : List (List ℕ)) (k : ℕ) → k < length (filter p xs)
      → (j : ℕ) × (j < length xs) × (p (get_or xs j []) ≡ true) × (get_or (filter p xs) k [] ≡ get_or xs j [])
  filter_at [] k lt = absurd (omega arith)
  filter_at (x ∷ xs) k lt = go (p x) refl (λ m less. filter_at xs m less) k lt
    where
      go : (b : Bool) → p x ≡ b
          → ((m : ℕ) → m < length (filter p xs) → (j : ℕ) × (j < length xs) × (p (get_or xs j []) ≡ true) × (get_or (filter p xs) m [] ≡ get_or xs j []))
          → (k : ℕ) → k < length (if b then x ∷ filter p xs else filter p xs)
          → (j : ℕ) × (j < length (x ∷ xs)) × (p (get_or (x ∷ xs) j []) ≡ true) × (get_or (if b then x ∷ filter p xs else filter p xs) k [] ≡ get_or (x ∷ xs) j [])
      go true e rest zero lt = (0, omega arith, e, refl)
      go true e rest (suc k) lt = let found = rest k (omega arith) in (suc found.0, omega (arith, found.1), found.2, found.3)
      go false e rest k lt = let found = rest k lt in (suc found.0, omega (arith, found.1), found.2, found.3)

  -- one that passes is among them
  pub filter_has : (xs : List (List ℕ)) (j : ℕ) → j < length xs → p (get_or xs j []) ≡ true
      → (k : ℕ) × (k < length (filter p xs)) × (get_or (filter p xs) k [] ≡ get_or xs j [])
  filter_has [] j lt on = absurd (omega (arith, lt))
  filter_has (x ∷ xs) j lt on = go (p x) refl j lt on (λ m less passes. filter_has xs m less passes)
    where
      go : (b : Bool) → p x ≡ b → (j : ℕ) → j < length (x ∷ xs) → p (get_or (x ∷ xs) j []) ≡ true
          → ((m : ℕ) → m < length xs → p (get_or xs m []) ≡ true → (k : ℕ) × (k < length (filter p xs)) × (get_or (filter p xs) k [] ≡ get_or xs m []))
          → (k : ℕ) × (k < length (if b then x ∷ filter p xs else filter p xs)) × (get_or (if b then x ∷ filter p xs else filter p xs) k [] ≡ get_or (x ∷ xs) j [])
      go true e zero lt on rest = (0, omega arith, refl)
      go true e (suc j) lt on rest = let found = rest j (omega (arith, lt)) on in (suc found.0, omega (arith, found.1), found.2)
      go false e zero lt on rest = let no : true ≡ false = sym on ∙ e in cc
      go false e (suc j) lt on rest = rest j (omega (arith, lt)) on

  filter_few : (xs : List (List ℕ)) → length (filter p xs) ≤ length xs
  filter_few [] = omega arith
  filter_few (x ∷ xs) = go (p x) (filter_few xs)
    where
      go : (b : Bool) → length (filter p xs) ≤ length xs → length (if b then x ∷ filter p xs else filter p xs) ≤ length (x ∷ xs)
      go true le = omega arith
      go false le = omega arith

  -- one of them does not pass
  pub filter_fewer : (xs : List (List ℕ)) (k : ℕ) → k < length xs → p (get_or xs k []) ≡ false → length (filter p xs) + 1 ≤ length xs
  filter_fewer [] k lt off = absurd (omega arith)
  filter_fewer (x ∷ xs) k lt off = go (p x) refl k lt off (filter_few xs) (λ m less is. filter_fewer xs m less is)
    where
      go : (b : Bool) → p x ≡ b → (k : ℕ) → k < length (x ∷ xs) → p (get_or (x ∷ xs) k []) ≡ false → length (filter p xs) ≤ length xs
          → ((m : ℕ) → m < length xs → p (get_or xs m []) ≡ false → length (filter p xs) + 1 ≤ length xs)
          → length (if b then x ∷ filter p xs else filter p xs) + 1 ≤ length (x ∷ xs)
      go true e zero lt off few rest = let no : true ≡ false = sym e ∙ off in cc
      go true e (suc k) lt off few rest = omega (arith, rest k (omega arith) off)
      go false e k lt off few rest = omega (arith, few)

  -- all of them pass
  pub filter_all : (xs : List (List ℕ)) → ((k : ℕ) → k < length xs → p (get_or xs k []) ≡ true) → filter p xs ≡ xs
  filter_all [] each = refl
  filter_all (x ∷ xs) each =
      ap (λ (b : Bool). if b then x ∷ filter p xs else filter p xs) (each 0 (omega arith))
      ∙ ap (λ (l : List (List ℕ)). x ∷ l) (filter_all xs (λ k lt. each (suc k) (omega arith)))
