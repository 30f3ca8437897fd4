-- The test for a legal directory by sorting: where live slots are listed by their starts, and by
-- their names, it is enough to test neighbours. A disc's directory may have many thousand slots.
use Rattle.std.proofs.Common.{◌≡◌, ◌≢◌, ◌<◌, ◌≤◌, ◌&&◌, ◌||◌, ℕ, suc, List, [], Bool, true, false, length, filter, get_or, set, inl, inr, refl, sym, ◌∙◌, ap, subst, arith, nat_le, length-set, get_or-set_same, get_or-set_other, map, ◌∷◌}
use Rattle.std.specs.Prelude.{All}
use Rattle.std.specs.List.{list_all}
use Rattle.std.specs.List.Sorted.{IsPermutation, IsNonDecreasingBy}
use Rattle.std.specs.Cmp.{both_ways}
use Rattle.std.proofs.lemmas.Bool.{cases_eq, le-leb, ltb-true, leb-true, or_left, or_cases, cases_order}
use Rattle.std.proofs.lemmas.List.Edits.{swap_is}
use Rattle.std.proofs.lemmas.List.Elements.{All-get_or}
use Rattle.std.proofs.lemmas.List.Sorted.{IsPermutation-keeps, IsPermutation-sym, All-permutation}
use Rattle.lif_model.specs.Directory.{start_of, length_of}
use Rattle.lif_model.specs.Pairs.{all_pairs, all_neighbours}
use Rattle.lif_model.specs.Legal.{occupies, end_of}
use Rattle.lif_model.proofs.Lists.{all_at, pairs_tell, neighbours_tell, filter_all_tells}
use Rattle.lif_model.proofs.Slots.{occupies_tells}

-- ---- lists in another order

module _ {X : Type 0} (d : X) (test : X → X → Bool) (either_way : (a b : X) → test a b ≡ test b a) where
  -- each two elements, in either order
  abbrev EachTwo : List X → Type 0
  EachTwo xs = (i j : ℕ) → i ≢ j → i < length xs → j < length xs → test (get_or xs i d) (get_or xs j d) ≡ true

  -- where an element stands with regard to two that are exchanged
  data Where (i j k : ℕ) : Type 0 where
    first : k ≡ i → Where i j k
    second : k ≢ i → k ≡ j → Where i j k
    neither : k ≢ i → k ≢ j → Where i j k

  where_is : (i j k : ℕ) → Where i j k
  where_is i j k = elim (cases_eq k i) [
    | inl e ↦ first e
    | inr ne ↦ elim (cases_eq k j) [ inl e ↦ second ne e | inr off ↦ neither ne off ]
  ]

  abbrev exchange : List X → ℕ → ℕ → List X
  exchange xs i j = set (set xs i (get_or xs j d)) j (get_or xs i d)

  exchanged : (xs : List X) (i j : ℕ) → i < length xs → j < length xs → EachTwo xs → EachTwo (exchange xs i j)
  exchanged xs i j lt_i lt_j each a b ne lt_a lt_b = both (where_is i j a) (where_is i j b)
    where
      long : length (exchange xs i j) ≡ length xs
      long = length-set (set xs i (get_or xs j d)) j (get_or xs i d) ∙ length-set xs i (get_or xs j d)

      at_j : get_or (exchange xs i j) j d ≡ get_or xs i d
      at_j = get_or-set_same (set xs i (get_or xs j d)) j (get_or xs i d) d (omega (arith, lt_j, length-set xs i (get_or xs j d)))

      at_i : get_or (exchange xs i j) i d ≡ get_or xs j d
      at_i = elim (cases_eq i j) [
        | inl e ↦ ap (λ (k : ℕ). get_or (exchange xs i j) k d) e ∙ at_j ∙ ap (λ (k : ℕ). get_or xs k d) e
        | inr off ↦ get_or-set_other (set xs i (get_or xs j d)) j i (get_or xs i d) d off ∙ get_or-set_same xs i (get_or xs j d) d lt_i
      ]

      at_other : (k : ℕ) → k ≢ i → k ≢ j → get_or (exchange xs i j) k d ≡ get_or xs k d
      at_other k off_i off_j = get_or-set_other (set xs i (get_or xs j d)) j k (get_or xs i d) d off_j ∙ get_or-set_other xs i k (get_or xs j d) d off_i

      was : (k m : ℕ) → k ≡ m → (old : ℕ) → get_or (exchange xs i j) m d ≡ get_or xs old d → get_or (exchange xs i j) k d ≡ get_or xs old d
      was k m e old is = ap (λ (p : ℕ). get_or (exchange xs i j) p d) e ∙ is

      passes : (p q : ℕ) → get_or (exchange xs i j) a d ≡ get_or xs p d → get_or (exchange xs i j) b d ≡ get_or xs q d
          → p ≢ q → p < length xs → q < length xs → test (get_or (exchange xs i j) a d) (get_or (exchange xs i j) b d) ≡ true
      passes p q is_a is_b off lt_p lt_q = (λ t. test (is_a t) (is_b t)) ∙ each p q off lt_p lt_q

      both : Where i j a → Where i j b → test (get_or (exchange xs i j) a d) (get_or (exchange xs i j) b d) ≡ true
      both (first e) (first f) = absurd (ne (e ∙ sym f))
      both (first e) (second off f) = passes j i (was a i e j at_i) (was b j f i at_j) (λ same. off (f ∙ same)) lt_j lt_i
      both (first e) (neither off_i off_j) = passes j b (was a i e j at_i) (at_other b off_i off_j) (λ same. off_j (sym same)) lt_j (omega (arith, lt_b, long))
      both (second off e) (first f) = passes i j (was a j e i at_j) (was b i f j at_i) (λ same. off (e ∙ sym same)) lt_i lt_j
      both (second off e) (second off_b f) = absurd (ne (e ∙ sym f))
      both (second off e) (neither off_i off_j) = passes i b (was a j e i at_j) (at_other b off_i off_j) (λ same. off_i (sym same)) lt_i (omega (arith, lt_b, long))
      both (neither off_i off_j) (first f) = passes a j (at_other a off_i off_j) (was b i f j at_i) off_j (omega (arith, lt_a, long)) lt_j
      both (neither off_i off_j) (second off f) = passes a i (at_other a off_i off_j) (was b j f i at_j) off_i (omega (arith, lt_a, long)) lt_i
      both (neither off_i off_j) (neither off_ib off_jb) = passes a b (at_other a off_i off_j) (at_other b off_ib off_jb) ne (omega (arith, lt_a, long)) (omega (arith, lt_b, long))

  two_from : (xs : List X) → all_pairs test xs ≡ true → EachTwo xs
  two_from xs all i j ne lt_i lt_j = elim (cases_order i j) [
    | inl e ↦ absurd (ne e)
    | inr (inl less) ↦ (pairs_tell d test xs).0 all i j less lt_j
    | inr (inr more) ↦ either_way (get_or xs i d) (get_or xs j d) ∙ (pairs_tell d test xs).0 all j i more lt_i
  ]

  two_tell : (xs : List X) → EachTwo xs → all_pairs test xs ≡ true
  two_tell xs each = (pairs_tell d test xs).1 (λ i j lt long. each i j (λ e. absurd (omega (arith, e, lt))) (omega (arith, lt, long)) long)

  carried_over : (xs ys : List X) → IsPermutation xs ys → all_pairs test xs ≡ true → all_pairs test ys ≡ true
  carried_over xs ys same all = two_tell ys (IsPermutation-keeps xs EachTwo (two_from xs all)
      (λ l i j lt_i lt_j each. subst EachTwo (swap_is l i j d lt_i lt_j) (exchanged l i j lt_i lt_j each)) ys same)

  -- a test that does not look at the order of two gives the same of a list in any order
  pub pairs_permuted : (xs ys : List X) → IsPermutation xs ys → all_pairs test xs ≡ all_pairs test ys
  pairs_permuted xs ys same = both_ways (all_pairs test xs) (all_pairs test ys) (carried_over xs ys same) (carried_over ys xs (IsPermutation-sym xs ys same))

-- a test of pairs of what a list's values stand for
pub pairs_mapped : {X Y : Type 0} (f : X → Y) (test : Y → Y → Bool) (xs : List X) → all_pairs test (map f xs) ≡ all_pairs (λ a b. test (f a) (f b)) xs
pairs_mapped {X} f test [] = refl
pairs_mapped {X} f test (x ∷ xs) = let rest = pairs_mapped f test xs in λ i. one xs i && rest i
  where
    one : (ys : List X) → list_all (test (f x)) (map f ys) ≡ list_all (λ b. test (f x) (f b)) ys
    one [] = refl
    one (y ∷ ys) = ap (λ (b : Bool). test (f x) (f y) && b) (one ys)

-- ---- neighbours

module _ {X : Type 0} (d : X) where
  -- where an element that passes with the next one passes with all after that, neighbours tell of
  -- all pairs
  by_neighbours : (test : X → X → Bool) (xs : List X)
      → ((i k : ℕ) → suc i < k → k < length xs → test (get_or xs i d) (get_or xs (suc i) d) ≡ true → test (get_or xs i d) (get_or xs k d) ≡ true) → all_pairs test xs ≡ all_neighbours test xs
  by_neighbours test xs further = both_ways (all_pairs test xs) (all_neighbours test xs)
      (λ all. (neighbours_tell d test xs).1 (λ i lt. (pairs_tell d test xs).0 all i (suc i) (omega arith) lt))
      (λ next. (pairs_tell d test xs).1 (λ i k lt long.
      let here : test (get_or xs i d) (get_or xs (suc i) d) ≡ true = (neighbours_tell d test xs).0 next i (omega (arith, lt, long)) in
      elim (cases_eq k (suc i)) [
        | inl e ↦ ap (λ (m : ℕ). test (get_or xs i d) (get_or xs m d)) e ∙ here
        | inr ne ↦ further i k (omega (arith, lt, ne)) long here
      ]))

  neighbours_same : (test other : X → X → Bool) (xs : List X) → ((i : ℕ) → suc i < length xs → test (get_or xs i d) (get_or xs (suc i) d) ≡ other (get_or xs i d) (get_or xs (suc i) d))
      → all_neighbours test xs ≡ all_neighbours other xs
  neighbours_same test other xs same = both_ways (all_neighbours test xs) (all_neighbours other xs)
      (λ all. (neighbours_tell d other xs).1 (λ i lt. sym (same i lt) ∙ (neighbours_tell d test xs).0 all i lt))
      (λ all. (neighbours_tell d test xs).1 (λ i lt. same i lt ∙ (neighbours_tell d other xs).0 all i lt))

  -- Extents that are not empty, in any order and by their starts: no two overlap exactly where each
  -- ends at or before the start of the next.
  pub apart_by_starts : (start end : X → ℕ) (xs by_start : List X) → IsPermutation xs by_start → IsNonDecreasingBy start by_start → All (λ x. start x < end x) xs
      → all_pairs (λ a b. nat_le (end a) (start b) || nat_le (end b) (start a)) xs ≡ all_neighbours (λ a b. nat_le (end a) (start b)) by_start
  apart_by_starts start end xs ys same rising filled =
      pairs_permuted d apart (λ a b. or_comm (nat_le (end a) (start b)) (nat_le (end b) (start a))) xs ys same
      ∙ by_neighbours apart ys (λ i k lt long next.
      or_left _ _ (le-leb (end (get_or ys i d)) (start (get_or ys k d)) (omega (arith, before i (suc i) (omega arith) (omega (arith, lt, long)) next, rising (suc i) k d (omega (arith, lt)) long))))
      ∙ neighbours_same apart (λ a b. nat_le (end a) (start b)) ys (λ i lt. both_ways (apart (get_or ys i d) (get_or ys (suc i) d)) (nat_le (end (get_or ys i d)) (start (get_or ys (suc i) d)))
      (λ next. le-leb (end (get_or ys i d)) (start (get_or ys (suc i) d)) (before i (suc i) (omega arith) lt next)) (λ on. or_left _ _ on))
    where
      apart : X → X → Bool
      apart a b = nat_le (end a) (start b) || nat_le (end b) (start a)

      or_comm : (a b : Bool) → (a || b) ≡ (b || a)
      or_comm true true = refl
      or_comm true false = refl
      or_comm false true = refl
      or_comm false false = refl

      -- of two extents that are apart the one with the lower start ends first
      before : (i j : ℕ) → i ≤ j → j < length ys → apart (get_or ys i d) (get_or ys j d) ≡ true → end (get_or ys i d) ≤ start (get_or ys j d)
      before i j le lt on =
          let some : start (get_or ys j d) < end (get_or ys j d) = All-get_or (λ x. start x < end x) ys j d lt (All-permutation (λ x. start x < end x) xs ys same filled) in
          elim (or_cases _ _ on) [
            | inl e ↦ leb-true (end (get_or ys i d)) (start (get_or ys j d)) e
            | inr e ↦ absurd (omega (arith, leb-true (end (get_or ys j d)) (start (get_or ys i d)) e, some, rising i j d le lt))
          ]

-- ---- legal directories

-- a live slot that has records ends after its start

pub picked_filled : (slots : List (List ℕ)) (i : ℕ) → i < length (filter occupies slots) → start_of (get_or (filter occupies slots) i []) < end_of (get_or (filter occupies slots) i [])
picked_filled slots i lt =
    let on : occupies (get_or (filter occupies slots) i []) ≡ true = all_at [] occupies (filter occupies slots) i ((filter_all_tells [] occupies occupies slots).1 (λ j less here. here)) lt in
    omega (arith, ltb-true 0 (length_of (get_or (filter occupies slots) i [])) (occupies_tells (get_or (filter occupies slots) i []) on).1)
