-- The index of live names as slots change.
use Rattle.std.proofs.Common.{◌≡◌, ◌≢◌, ◌⊎◌, ◌<◌, ◌≤◌, ◌+◌, ◌-◌, ◌++◌, ℕ, zero, suc, min, Bool, true, false, List, [], ◌∷◌, if◌then◌else◌, length, get_or, set, filter, inl, inr, refl, sym, ◌∙◌, ap, subst, arith, get_or-set_other, get_or-set_same}
use Rattle.std.specs.List.{insert, remove}
use Rattle.std.proofs.lemmas.Bool.{cases_eq, cases_lt, cases_Bool}
use Rattle.std.specs.Ordering.{nat_cmp, is_gt}
use Rattle.std.specs.Cmp.Lexicographic.{slice_cmp}
use Rattle.std.proofs.lemmas.List.{get_or_past, get_or_append_left, length_push}
use Rattle.std.proofs.lemmas.List.Sums.{length-filter, count_by-le-length}
use Rattle.std.proofs.lemmas.List.Edits.{length-insert, get_or-insert_below, get_or-insert_at, get_or-insert_above, length-remove, get_or-remove_below, get_or-remove_above}
use Rattle.lif_model.specs.Numbers.{two_at}
use Rattle.lif_model.specs.Directory.{name_of}
use Rattle.lif_model.specs.Legal.{is_live}
use Rattle.lif_dir.specs.Indexes.{is_live_at, name_at, IsUpTo, IsIndex}

-- slots that are the same but for one place
abbrev pub SameElse : List (List ℕ) → List (List ℕ) → ℕ → Type 0
SameElse before after k = (i : ℕ) → i ≢ k → get_or after i [] ≡ get_or before i []

pub kept_order : (before after : List (List ℕ)) (a b x y : ℕ) → name_at after x ≡ name_at before x → name_at after y ≡ name_at before y → a ≡ x → b ≡ y
    → IsUpTo (name_at before x) (name_at before y) → IsUpTo (name_at after a) (name_at after b)
kept_order before after a b x y one next is_x is_y up = (λ i. is_gt (slice_cmp nat_cmp ((ap (name_at after) is_x ∙ one) i) ((ap (name_at after) is_y ∙ next) i))) ∙ up

-- ---- one place more

-- where an element stood before one was put in at p
abbrev before_insert : ℕ → ℕ → ℕ
before_insert p j = j - min 1 (j - p)

insert_other : (places : List ℕ) (p k j : ℕ) → p ≤ length places → j < length (insert places p k) → j ≢ p
    → (before_insert p j < length places) × (get_or (insert places p k) j 0 ≡ get_or places (before_insert p j) 0)
insert_other places p k j le long ne = (
  omega (arith, length-insert places p k le),
  elim (cases_lt j p) [
    | inl lt ↦ get_or-insert_below places p k 0 j lt le ∙ ap (λ (m : ℕ). get_or places m 0) (omega arith)
    | inr ge ↦
        let down : j - 1 + 1 ≡ j = omega arith in
        let same : j - 1 ≡ before_insert p j = omega arith in
        sym (ap (λ (m : ℕ). get_or (insert places p k) m 0) down) ∙ get_or-insert_above places p k 0 (j - 1) (omega arith) le ∙ ap (λ (m : ℕ). get_or places m 0) same
  ],
)

module _ (before after : List (List ℕ)) (places : List ℕ) (p k : ℕ) (index : IsIndex before places) (same : SameElse before after k) (new : is_live_at before k ≡ false) where
  pub other : (j : ℕ) → j < length places → get_or places j 0 ≢ k
  other j lt e = let both : true ≡ false = sym (index.live j lt) ∙ ap (is_live_at before) e ∙ new in cc

  pub inserted : is_live_at after k ≡ true → p ≤ length places
      → ((j : ℕ) → j < p → IsUpTo (name_at after (get_or places j 0)) (name_at after k))
      → ((j : ℕ) → p ≤ j → j < length places → IsUpTo (name_at after k) (name_at after (get_or places j 0)))
      → IsIndex after (insert places p k)
  inserted on le below above = record {
    live = λ j lt. elim (cases_eq j p) [
      | inl e ↦ ap (λ (m : ℕ). is_live_at after (get_or (insert places p k) m 0)) e ∙ ap (is_live_at after) at_p ∙ on
      | inr ne ↦
          let old = insert_other places p k j le lt ne in
          ap (is_live_at after) old.1 ∙ ap is_live (same _ (other _ old.0)) ∙ index.live _ old.0
    ];
    all = λ i live. elim (cases_eq i k) [
      | inl e ↦ (p, omega (arith, length-insert places p k le), at_p ∙ sym e)
      | inr ne ↦ moved i (index.all i (sym (ap is_live (same i ne)) ∙ live))
    ];
    once = λ j m less lt e. two j m less lt e (cases_eq j p) (cases_eq m p);
    sorted = λ j m less lt. order j m less lt (cases_eq j p) (cases_eq m p);
  }
    where
      at_p : get_or (insert places p k) p 0 ≡ k
      at_p = get_or-insert_at places p k 0 le

      moved : (i : ℕ) → (j : ℕ) × (j < length places) × (get_or places j 0 ≡ i) → (j : ℕ) × (j < length (insert places p k)) × (get_or (insert places p k) j 0 ≡ i)
      moved i (j, lt, is) = elim (cases_lt j p) [
        | inl less ↦ (j, omega (arith, length-insert places p k le), get_or-insert_below places p k 0 j less le ∙ is)
        | inr ge ↦ (j + 1, omega (arith, length-insert places p k le), get_or-insert_above places p k 0 j ge le ∙ is)
      ]

      two : (j m : ℕ) → j < m → m < length (insert places p k) → get_or (insert places p k) j 0 ≡ get_or (insert places p k) m 0 → (j ≡ p) ⊎ (j ≡ p → ⊥) → (m ≡ p) ⊎ (m ≡ p → ⊥) → ⊥
      two j m less lt e (inl a) (inl b) = omega arith
      two j m less lt e (inl a) (inr b) =
          let old = insert_other places p k m le lt b in
          other _ old.0 (sym old.1 ∙ sym e ∙ ap (λ (i : ℕ). get_or (insert places p k) i 0) a ∙ at_p)
      two j m less lt e (inr a) (inl b) =
          let old = insert_other places p k j le (omega (arith, less, lt)) a in
          other _ old.0 (sym old.1 ∙ e ∙ ap (λ (i : ℕ). get_or (insert places p k) i 0) b ∙ at_p)
      two j m less lt e (inr a) (inr b) =
          let one = insert_other places p k j le (omega (arith, less, lt)) a in
          let next = insert_other places p k m le lt b in
          index.once (before_insert p j) (before_insert p m) (omega arith) next.0 (sym one.1 ∙ e ∙ next.1)

      order : (j m : ℕ) → j < m → m < length (insert places p k) → (j ≡ p) ⊎ (j ≡ p → ⊥) → (m ≡ p) ⊎ (m ≡ p → ⊥)
          → IsUpTo (name_at after (get_or (insert places p k) j 0)) (name_at after (get_or (insert places p k) m 0))
      order j m less lt (inl a) (inl b) = absurd (omega arith)
      order j m less lt (inl a) (inr b) =
          let old = insert_other places p k m le lt b in
          subst (λ (i : ℕ). IsUpTo (name_at after i) (name_at after (get_or (insert places p k) m 0))) (sym (ap (λ (i : ℕ). get_or (insert places p k) i 0) a ∙ at_p))
          (subst (λ (i : ℕ). IsUpTo (name_at after k) (name_at after i)) (sym old.1) (above (before_insert p m) (omega arith) old.0))
      order j m less lt (inr a) (inl b) =
          let old = insert_other places p k j le (omega (arith, less, lt)) a in
          subst (λ (i : ℕ). IsUpTo (name_at after (get_or (insert places p k) j 0)) (name_at after i)) (sym (ap (λ (i : ℕ). get_or (insert places p k) i 0) b ∙ at_p))
          (subst (λ (i : ℕ). IsUpTo (name_at after i) (name_at after k)) (sym old.1) (below (before_insert p j) (omega arith)))
      order j m less lt (inr a) (inr b) =
          let one = insert_other places p k j le (omega (arith, less, lt)) a in
          let next = insert_other places p k m le lt b in
          kept_order before after _ _ _ _ (ap name_of (same _ (other _ one.0))) (ap name_of (same _ (other _ next.0))) one.1 next.1
          (index.sorted (before_insert p j) (before_insert p m) (omega arith) next.0)

-- ---- one place less

-- where an element stands before the one at p is taken out
abbrev before_remove : ℕ → ℕ → ℕ
before_remove p j = j + min 1 (suc j - p)

remove_other : (places : List ℕ) (p j : ℕ) → p < length places → j < length (remove places p)
    → (before_remove p j < length places) × (get_or (remove places p) j 0 ≡ get_or places (before_remove p j) 0) × (before_remove p j ≢ p)
remove_other places p j lt long = (
  omega (arith, length-remove places p lt),
  elim (cases_lt j p) [
    | inl less ↦ get_or-remove_below places p 0 j less lt ∙ ap (λ (m : ℕ). get_or places m 0) (omega arith)
    | inr ge ↦ get_or-remove_above places p 0 j ge lt ∙ ap (λ (m : ℕ). get_or places m 0) (omega arith)
  ],
  (λ e. omega (arith, e)),
)

module _ (before after : List (List ℕ)) (places : List ℕ) (p k : ℕ) (index : IsIndex before places) (same : SameElse before after k) where
  pub removed : p < length places → get_or places p 0 ≡ k → is_live_at after k ≡ false → IsIndex after (remove places p)
  removed lt at gone = record {
    live = λ j long.
        let old = remove_other places p j lt long in
        ap (is_live_at after) old.1 ∙ ap is_live (same _ (others (before_remove p j) old.0 old.2)) ∙ index.live _ old.0;
    all = λ i on. elim (cases_eq i k) [
      | inl e ↦ let both : true ≡ false = sym on ∙ ap (is_live_at after) e ∙ gone in cc
      | inr ne ↦ moved i ne (index.all i (sym (ap is_live (same i ne)) ∙ on))
    ];
    once = λ j m less long e.
        let one = remove_other places p j lt (omega (arith, less, long)) in
        let next = remove_other places p m lt long in
        index.once (before_remove p j) (before_remove p m) (omega arith) next.0 (sym one.1 ∙ e ∙ next.1);
    sorted = λ j m less long.
        let one = remove_other places p j lt (omega (arith, less, long)) in
        let next = remove_other places p m lt long in
        kept_order before after _ _ _ _ (ap name_of (same _ (others (before_remove p j) one.0 one.2))) (ap name_of (same _ (others (before_remove p m) next.0 next.2))) one.1 next.1
        (index.sorted (before_remove p j) (before_remove p m) (omega arith) next.0);
  }
    where
      others : (j : ℕ) → j < length places → j ≢ p → get_or places j 0 ≢ k
      others j long ne e = elim (cases_lt j p) [
        | inl less ↦ index.once j p less lt (e ∙ sym at)
        | inr ge ↦ index.once p j (omega arith) long (at ∙ sym e)
      ]

      moved : (i : ℕ) → i ≢ k → (j : ℕ) × (j < length places) × (get_or places j 0 ≡ i) → (j : ℕ) × (j < length (remove places p)) × (get_or (remove places p) j 0 ≡ i)
      moved i ne (j, long, is) = elim (cases_lt j p) [
        | inl less ↦ (j, omega (arith, length-remove places p lt), get_or-remove_below places p 0 j less lt ∙ is)
        | inr ge ↦
            let apart : j ≢ p = λ e. ne (sym is ∙ ap (λ (m : ℕ). get_or places m 0) e ∙ at) in
            (j - 1, omega (arith, length-remove places p lt), get_or-remove_above places p 0 (j - 1) (omega arith) lt ∙ ap (λ (m : ℕ). get_or places m 0) (omega arith) ∙ is)
      ]

  -- a slot that is live neither before nor after
  pub unchanged : is_live_at before k ≡ false → is_live_at after k ≡ false → IsIndex after places
  unchanged was is = record {
    live = λ j lt. ap is_live (same _ (others j lt)) ∙ index.live j lt;
    all = λ i on. elim (cases_eq i k) [
      | inl e ↦ let both : true ≡ false = sym on ∙ ap (is_live_at after) e ∙ is in cc
      | inr ne ↦ index.all i (sym (ap is_live (same i ne)) ∙ on)
    ];
    once = index.once;
    sorted = λ j m less lt.
        kept_order before after _ _ _ _ (ap name_of (same _ (others j (omega (arith, less, lt))))) (ap name_of (same _ (others m lt))) refl refl (index.sorted j m less lt);
  }
    where
      others : (j : ℕ) → j < length places → get_or places j 0 ≢ k
      others j lt e = let both : true ≡ false = sym (index.live j lt) ∙ ap (is_live_at before) e ∙ was in cc

-- ---- slots that change

pub no_slot : is_live [] ≡ false
unfolding two_at
no_slot = refl

pub set_same : (slots : List (List ℕ)) (k : ℕ) (slot : List ℕ) → SameElse slots (set slots k slot) k
set_same slots k slot i ne = get_or-set_other slots k i slot [] ne

pub same_back : (before after : List (List ℕ)) (k : ℕ) → SameElse before after k → SameElse after before k
same_back before after k same i ne = sym (same i ne)

pub push_same : (slots : List (List ℕ)) (slot : List ℕ) → SameElse slots (slots ++ slot ∷ []) (length slots)
push_same slots slot i ne = elim (cases_lt i (length slots)) [
  | inl lt ↦ get_or_append_left slots (slot ∷ []) [] i lt
  | inr ge ↦ get_or_past (slots ++ slot ∷ []) i [] (omega (arith, length_push slots slot)) ∙ sym (get_or_past slots i [] ge)
]

abbrev pub one_if : Bool → ℕ
one_if b = if b then 1 else 0

-- how many slots are live, with another one at place k
pub count_set : (slots : List (List ℕ)) (k : ℕ) (slot : List ℕ) → k < length slots
    → length (filter is_live (set slots k slot)) + (if is_live (get_or slots k []) then 1 else 0) ≡ length (filter is_live slots) + (if is_live slot then 1 else 0)
count_set [] k slot lt = absurd (omega arith)
count_set (x ∷ slots) zero slot lt = go (is_live slot) (is_live x)
  where
    go : (a b : Bool) → length (if a then slot ∷ filter is_live slots else filter is_live slots) + (if b then 1 else 0) ≡ length (if b then x ∷ filter is_live slots else filter is_live slots) + (if a then 1 else 0)
    go true true = refl
    go true false = omega arith
    go false true = omega arith
    go false false = refl
count_set (x ∷ slots) (suc k) slot lt = go (is_live x) (count_set slots k slot (omega arith))
  where
    go : (b : Bool) → length (filter is_live (set slots k slot)) + (if is_live (get_or slots k []) then 1 else 0) ≡ length (filter is_live slots) + (if is_live slot then 1 else 0)
        → length (if b then x ∷ filter is_live (set slots k slot) else filter is_live (set slots k slot)) + (if is_live (get_or slots k []) then 1 else 0)
        ≡ length (if b then x ∷ filter is_live slots else filter is_live slots) + (if is_live slot then 1 else 0)
    go true rest = omega (arith, rest)
    go false rest = rest

-- ---- a slot taken out

pub out_dead : (slots : List (List ℕ)) (k : ℕ) → k < length slots → is_live_at (set slots k []) k ≡ false
out_dead slots k lt = ap is_live (get_or-set_same slots k [] [] lt) ∙ no_slot

pub count_live : (slots : List (List ℕ)) (k : ℕ) → k < length slots → is_live_at slots k ≡ true → length (filter is_live (set slots k [])) + 1 ≡ length (filter is_live slots)
count_live slots k lt on =
    omega (arith, count_set slots k [] lt, ap one_if on, ap one_if no_slot)

pub count_dead : (slots : List (List ℕ)) (k : ℕ) → k < length slots → is_live_at slots k ≡ false → length (filter is_live (set slots k [])) ≡ length (filter is_live slots)
count_dead slots k lt off =
    omega (arith, count_set slots k [] lt, ap one_if off, ap one_if no_slot)

pub count_within : (slots : List (List ℕ)) → length (filter is_live slots) ≤ length slots
count_within slots = omega (arith, length-filter is_live slots, count_by-le-length is_live slots)

-- no place of an index is that of a slot that is not live
pub absent : (slots : List (List ℕ)) (places : List ℕ) (k : ℕ) → IsIndex slots places → ((j : ℕ) → j < length places → get_or places j 0 ≢ k) → is_live_at slots k ≡ false
absent slots places k index none = elim (cases_Bool (is_live_at slots k)) [
  | inl on ↦ let found = index.all k on in absurd (none found.0 found.1 found.2)
  | inr off ↦ off
]
