-- Slots that are gone through one after the other: which of them stand at their places, and which rise.
use Rattle.std.proofs.Common.{filter, ◌≡◌, ◌⊎◌, ◌<◌, ◌≤◌, ◌+◌, ◌++◌, ◌&&◌, ℕ, zero, suc, List, [], ◌∷◌, Bool, true, false, length, get_or, take, drop, get_or-drop, length-drop, inl, inr, refl, sym, ◌∙◌, ap, arith, ◌-◌}
use Rattle.std.specs.List.{list_all}
use Rattle.std.proofs.lemmas.Bool.{and_parts, false_from_ne_true, ltb-true, lt-ltb, cases_eq, not-true}
use Rattle.std.proofs.lemmas.List.{take_more, take-append-drop, take-take}
use Rattle.lif_model.specs.Pairs.{all_pairs}
use Rattle.lif_model.specs.Directory.{start_of, is_purged}
use Rattle.lif_model.specs.Legal.{is_live, occupies}
use Rattle.lif_model.proofs.Lists.{all_at, all_from, filter_pairs_tell}
use Rattle.lif_model.specs.Packing.{rises, live_length, live_records, stands_at, are_packed}

-- ---- places

pub live_append : (xs : List (List ℕ)) (x : List ℕ) → live_records (xs ++ x ∷ []) ≡ live_records xs + live_length x
live_append [] x = omega arith
live_append (y ∷ xs) x = let rest = live_append xs x in omega (arith, rest)

packed_append : (place : ℕ) (xs ys : List (List ℕ)) → are_packed place (xs ++ ys) ≡ (are_packed place xs && are_packed (place + live_records xs) ys)
packed_append place [] ys = let here : place ≡ place + 0 = omega arith in ap (λ (m : ℕ). are_packed m ys) here
packed_append place (x ∷ xs) ys =
    let sum : place + live_length x + live_records xs ≡ place + (live_length x + live_records xs) = omega arith in
    ap (λ (b : Bool). stands_at place x && b) (packed_append (place + live_length x) xs ys ∙ ap (λ (m : ℕ). are_packed (place + live_length x) xs && are_packed m ys) sum)
    ∙ and_assoc (stands_at place x) (are_packed (place + live_length x) xs) _
  where
    and_assoc : (a b c : Bool) → (a && (b && c)) ≡ ((a && b) && c)
    and_assoc true b c = refl
    and_assoc false b c = refl

-- one slot more
pub live_more : (xs : List (List ℕ)) (k : ℕ) → k < length xs → live_records (take (k + 1) xs) ≡ live_records (take k xs) + live_length (get_or xs k [])
live_more xs k lt = ap live_records (take_more xs k [] lt) ∙ live_append (take k xs) (get_or xs k [])

-- fewer files have fewer records
pub live_grows : (xs : List (List ℕ)) (k m : ℕ) → k ≤ m → live_records (take k xs) ≤ live_records (take m xs)
live_grows [] zero zero le = omega arith
live_grows [] zero (suc m) le = omega arith
live_grows [] (suc k) zero le = absurd (omega (arith, le))
live_grows [] (suc k) (suc m) le = omega arith
live_grows (x ∷ xs) zero zero le = omega arith
live_grows (x ∷ xs) zero (suc m) le = omega arith
live_grows (x ∷ xs) (suc k) zero le = absurd (omega (arith, le))
live_grows (x ∷ xs) (suc k) (suc m) le = omega (arith, live_grows xs k m (omega (arith, le)))

pub packed_more : (place : ℕ) (xs : List (List ℕ)) (k : ℕ) → k < length xs
    → are_packed place (take (k + 1) xs) ≡ (are_packed place (take k xs) && stands_at (place + live_records (take k xs)) (get_or xs k []))
packed_more place xs k lt = ap (are_packed place) (take_more xs k [] lt) ∙ packed_append place (take k xs) (get_or xs k [] ∷ [])
    ∙ ap (λ (b : Bool). are_packed place (take k xs) && b) (and_true (stands_at (place + live_records (take k xs)) (get_or xs k [])))
  where
    and_true : (b : Bool) → (b && true) ≡ b
    and_true true = refl
    and_true false = refl

-- fewer slots are packed too
packed_front : (place : ℕ) (xs ys : List (List ℕ)) → are_packed place (xs ++ ys) ≡ true → are_packed place xs ≡ true
packed_front place xs ys are = (and_parts (are_packed place xs) _ (sym (packed_append place xs ys) ∙ are)).0

-- a slot that does not stand at its place: no more of them are packed
pub packed_not : (place : ℕ) (xs : List (List ℕ)) (k count : ℕ) → k < length xs → k < count → stands_at (place + live_records (take k xs)) (get_or xs k []) ≡ false
    → are_packed place (take count xs) ≡ false
packed_not place xs k count lt under off = false_from_ne_true _ (λ are.
    let split : take (k + 1) xs ++ drop (k + 1) (take count xs) ≡ take count xs =
    ap (λ (ys : List (List ℕ)). ys ++ drop (k + 1) (take count xs)) (sym (take-take (k + 1) count xs (omega (arith, under)))) ∙ take-append-drop (k + 1) (take count xs) in
    let front : are_packed place (take (k + 1) xs) ≡ true = packed_front place (take (k + 1) xs) (drop (k + 1) (take count xs)) (ap (are_packed place) split ∙ are) in
    let here : (are_packed place (take k xs) && stands_at (place + live_records (take k xs)) (get_or xs k [])) ≡ true = sym (packed_more place xs k lt) ∙ front in
    let no : true ≡ false = sym (and_parts (are_packed place (take k xs)) _ here).1 ∙ off in
    cc)

-- ---- rising

-- the slots before slot k that have records rise, and begin below the bound, which is one past the last of them, or 0
pub record RiseTo (xs : List (List ℕ)) (k bound : ℕ) : Type 0 where
  pub pairs : (i j : ℕ) → i < j → j < k → occupies (get_or xs i []) ≡ true → occupies (get_or xs j []) ≡ true → start_of (get_or xs i []) < start_of (get_or xs j [])
  pub below : (i : ℕ) → i < k → occupies (get_or xs i []) ≡ true → start_of (get_or xs i []) < bound
  pub from : (bound ≡ 0) ⊎ ((i : ℕ) × (i < k) × (occupies (get_or xs i []) ≡ true) × (bound ≡ start_of (get_or xs i []) + 1))

pub rise_first : (xs : List (List ℕ)) → RiseTo xs 0 0
rise_first xs = record { pairs = λ i j lt under. absurd (omega arith); below = λ i lt. absurd (omega arith); from = inl refl }

pub rise_skips : (xs : List (List ℕ)) (k bound : ℕ) → RiseTo xs k bound → occupies (get_or xs k []) ≡ false → RiseTo xs (k + 1) bound
rise_skips xs k bound is off = record {
  pairs = λ i j lt under first second. elim (cases_eq j k) [
    | inl e ↦ let no : true ≡ false = sym second ∙ ap (λ (m : ℕ). occupies (get_or xs m [])) e ∙ off in cc
    | inr ne ↦ is.pairs i j lt (omega (arith, under, ne)) first second
  ];
  below = λ i lt on. elim (cases_eq i k) [
    | inl e ↦ let no : true ≡ false = sym on ∙ ap (λ (m : ℕ). occupies (get_or xs m [])) e ∙ off in cc
    | inr ne ↦ is.below i (omega (arith, lt, ne)) on
  ];
  from = elim is.from [ inl e ↦ inl e | inr found ↦ inr (found.0, omega (arith, found.1), found.2, found.3) ];
}

pub rise_goes_on : (xs : List (List ℕ)) (k bound : ℕ) → RiseTo xs k bound → occupies (get_or xs k []) ≡ true → bound ≤ start_of (get_or xs k [])
    → RiseTo xs (k + 1) (start_of (get_or xs k []) + 1)
rise_goes_on xs k bound is on le = record {
  pairs = λ i j lt under first second. elim (cases_eq j k) [
    | inl e ↦ let same : start_of (get_or xs j []) ≡ start_of (get_or xs k []) = ap (λ (m : ℕ). start_of (get_or xs m [])) e in
        omega (arith, is.below i (omega (arith, lt, e)) first, same, le)
    | inr ne ↦ is.pairs i j lt (omega (arith, under, ne)) first second
  ];
  below = λ i lt on_i. elim (cases_eq i k) [
    | inl e ↦ let same : start_of (get_or xs i []) ≡ start_of (get_or xs k []) = ap (λ (m : ℕ). start_of (get_or xs m [])) e in omega (arith, same)
    | inr ne ↦ omega (arith, is.below i (omega (arith, lt, ne)) on_i, le)
  ];
  from = inr (k, omega arith, on, refl);
}

-- all of them rise
pub rise_all : (xs : List (List ℕ)) (k bound : ℕ) → RiseTo xs k bound → length xs ≤ k → all_pairs rises (filter occupies xs) ≡ true
rise_all xs k bound is le = (filter_pairs_tell [] occupies rises xs).1 (λ i j lt long first second. lt-ltb _ _ (is.pairs i j lt (omega (arith, long, le)) first second))

-- or one begins too low
pub rise_not : (xs : List (List ℕ)) (k bound : ℕ) → RiseTo xs k bound → k < length xs → occupies (get_or xs k []) ≡ true → start_of (get_or xs k []) < bound
    → all_pairs rises (filter occupies xs) ≡ false
rise_not xs k bound is lt on under = false_from_ne_true _ (λ all. elim is.from [
  | inl e ↦ absurd (omega (arith, e, under))
  | inr found ↦
      let up = ltb-true _ _ ((filter_pairs_tell [] occupies rises xs).0 all found.0 k found.1 lt found.2 on) in
      absurd (omega (arith, up, found.3, under))
])

-- ---- purged slots

pub purged_all : (xs : List (List ℕ)) (from : ℕ) → ((j : ℕ) → from ≤ j → j < length xs → is_purged (get_or xs j []) ≡ true) → list_all is_purged (drop from xs) ≡ true
purged_all xs from each = all_from [] is_purged (drop from xs) (λ i lt.
    ap is_purged (get_or-drop from xs i []) ∙ each (from + i) (omega arith) (omega (arith, lt, length-drop from xs)))

pub purged_not : (xs : List (List ℕ)) (from k : ℕ) → from ≤ k → k < length xs → is_live (get_or xs k []) ≡ true → list_all is_purged (drop from xs) ≡ false
purged_not xs from k le lt live = false_from_ne_true _ (λ all.
    let i : ℕ = k - from in
    let at : from + i ≡ k = omega (arith, le) in
    let here : is_purged (get_or xs k []) ≡ true = sym (ap (λ (m : ℕ). is_purged (get_or xs m [])) at) ∙ sym (ap is_purged (get_or-drop from xs i []))
    ∙ all_at [] is_purged (drop from xs) i all (omega (arith, le, lt, length-drop from xs)) in
    let no : true ≡ false = sym here ∙ not-true _ live in
    cc)
