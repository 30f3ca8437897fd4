-- What a search of an index tells.
use Rattle.std.proofs.Common.{◌≡◌, ◌≢◌, ◌⊎◌, ◌<◌, ◌≤◌, ◌+◌, ◌*◌, ◌^◌, ℕ, true, false, List, [], length, get_or, inl, inr, refl, sym, ◌∙◌, ap, subst, arith}
use Rattle.std.specs.Ordering.{nat_cmp, is_gt, is_eq, ordering_reverse}
use Rattle.std.specs.Cmp.Lexicographic.{slice_cmp}
use Rattle.std.specs.declared.cmp.Ordering.{Ordering}
use Rattle.std.specs.declared.cmp.Ordering.TheVariants.{Less, Equal, Greater}
use Rattle.std.proofs.Math.Nat.{mul-le-mul_left}
use Rattle.std.proofs.lemmas.Nat.{pow-add}
use Rattle.std.proofs.lemmas.Bool.{cases_eq, cases_lt}
use Rattle.std.proofs.lemmas.Cmp.{nat_list_cmp_total, upto, tied_itself}
use Rattle.std.proofs.lemmas.List.{get_or_past}
use Rattle.std.proofs.lemmas.Map.Text.{is_eq-slice_cmp}
use Rattle.std.proofs.lemmas.Slice.Eq.{bytes_eq-Decides}
use Rattle.lif_model.specs.Directory.{name_of}
use Rattle.lif_model.specs.Legal.{is_live}
use Rattle.lif_dir.specs.Indexes.{is_live_at, name_at, IsUpTo, AreSorted, IsIndex}
use Rattle.lif_dir.proofs.Indexing.{SameElse, no_slot, kept_order, other}

-- ---- the order of names

abbrev order : List ℕ → List ℕ → Ordering
order = slice_cmp nat_cmp

-- of two names one is up to the other
pub turned : (a b : List ℕ) → is_gt (order a b) ≡ true → IsUpTo b a
turned a b is = ap is_gt (nat_list_cmp_total.antisymm b a) ∙ go (order a b) is
  where
    go : (r : Ordering) → is_gt r ≡ true → is_gt (ordering_reverse r) ≡ false
    go Less is = cc
    go Equal is = cc
    go Greater is = refl

pub same_name : (a b : List ℕ) → order a b ≡ Equal → a ≡ b
same_name a b is = (bytes_eq-Decides a b).0 (sym (is_eq-slice_cmp a b) ∙ ap is_eq is)

less_not : (a b : List ℕ) → order a b ≡ Less → is_gt (order b a) ≡ true
less_not a b is = ap is_gt (nat_list_cmp_total.antisymm b a ∙ ap ordering_reverse is)

both_ways : (a b : List ℕ) → IsUpTo a b → IsUpTo b a → a ≡ b
both_ways a b up down = same_name a b (go (order a b) refl)
  where
    go : (r : Ordering) → order a b ≡ r → order a b ≡ Equal
    go Less is = let both : true ≡ false = sym (less_not a b is) ∙ down in cc
    go Equal is = is
    go Greater is = let both : true ≡ false = sym (ap is_gt is) ∙ up in cc

reflexive : (a b : List ℕ) → a ≡ b → IsUpTo a b
reflexive a b is = ap (λ (x : List ℕ). is_gt (order a x)) (sym is) ∙ ap is_gt (tied_itself nat_list_cmp_total a)

-- ---- searches of a sorted index

module _ (slots : List (List ℕ)) (places : List ℕ) (sorted : AreSorted slots places) (name : List ℕ) (m : ℕ) (within : m < length places) where
  abbrev at : ℕ → List ℕ
  at j = name_at slots (get_or places j 0)

  pub rank_up : IsUpTo (at m) name → (j : ℕ) → j < m + 1 → IsUpTo (at j) name
  rank_up up j lt = elim (cases_eq j m) [
    | inl e ↦ subst (λ (i : ℕ). IsUpTo (at i) name) (sym e) up
    | inr ne ↦ upto nat_list_cmp_total (at j) (at m) name (sorted.order j m (omega arith) within) up
  ]

  pub rank_down : IsUpTo name (at m) → (j : ℕ) → m ≤ j → j < length places → IsUpTo name (at j)
  rank_down up j le lt = elim (cases_eq j m) [
    | inl e ↦ subst (λ (i : ℕ). IsUpTo name (at i)) (sym e) up
    | inr ne ↦ upto nat_list_cmp_total name (at m) (at j) up (sorted.order m j (omega arith) lt)
  ]

  up_at : (j k : ℕ) → j ≤ k → k < length places → IsUpTo (at j) (at k)
  up_at j k le lt = elim (cases_eq j k) [
    | inl e ↦ reflexive (at j) (at k) (ap at e)
    | inr ne ↦ sorted.order j k (omega arith) lt
  ]

  pub less_up : order (at m) name ≡ Less → (j : ℕ) → j < m + 1 → at j ≢ name
  less_up is j lt same =
      let both : true ≡ false = sym (less_not (at m) name is) ∙ ap (λ (x : List ℕ). is_gt (order x (at m))) (sym same) ∙ up_at j m (omega arith) within in cc

  pub greater_down : order (at m) name ≡ Greater → (j : ℕ) → m ≤ j → j < length places → at j ≢ name
  greater_down is j le lt same =
      let both : true ≡ false = sym (ap is_gt is) ∙ ap (λ (x : List ℕ). is_gt (order (at m) x)) (sym same) ∙ up_at m j le lt in cc

-- all names of a sorted index are apart where neighbours are
pub all_apart : (slots : List (List ℕ)) (places : List ℕ) → AreSorted slots places
    → ((i : ℕ) → i + 1 < length places → name_at slots (get_or places i 0) ≢ name_at slots (get_or places (i + 1) 0))
    → (j k : ℕ) → j < k → k < length places → name_at slots (get_or places j 0) ≢ name_at slots (get_or places k 0)
all_apart slots places sorted apart j k less lt same =
    let first : IsUpTo (name_at slots (get_or places j 0)) (name_at slots (get_or places (j + 1) 0)) = sorted.order j (j + 1) (omega arith) (omega (arith, less, lt)) in
    apart j (omega (arith, less, lt)) (both_ways _ _ first (back (cases_eq (j + 1) k)))
  where
    back : (j + 1 ≡ k) ⊎ (j + 1 ≡ k → ⊥) → IsUpTo (name_at slots (get_or places (j + 1) 0)) (name_at slots (get_or places j 0))
    back (inl e) = reflexive _ _ (ap (λ (i : ℕ). name_at slots (get_or places i 0)) e ∙ sym same)
    back (inr ne) = ap (λ (x : List ℕ). is_gt (order (name_at slots (get_or places (j + 1) 0)) x)) same ∙ sorted.order (j + 1) k (omega arith) lt

-- ---- the count of steps

-- a step more, of a search that has m places left of n, leaves half of them
pub halves : (t m rest n : ℕ) → 2 ^ t * m ≤ n → 0 < m → 2 * rest ≤ m → (2 ^ (t + 1) * rest ≤ n) × (2 ^ (t + 1) ≤ 2 * n + 1)
halves t m rest n left some half =
    let twice : 2 ^ (t + 1) ≡ 2 ^ t * 2 = pow-add 2 t 1 in
    let one : 2 ^ t * 1 ≤ 2 ^ t * m = mul-le-mul_left (2 ^ t) some in
    let rests : 2 ^ t * (2 * rest) ≤ 2 ^ t * m = mul-le-mul_left (2 ^ t) half in
    let joined : 2 ^ (t + 1) * rest ≡ 2 ^ t * (2 * rest) = ap (λ (p : ℕ). p * rest) twice ∙ omega arith in
    (omega (arith, joined, rests, left), omega (arith, twice, one, left))

-- ---- from an index

pub live_within : (slots : List (List ℕ)) (i : ℕ) → is_live_at slots i ≡ true → i < length slots
live_within slots i on = elim (cases_lt i (length slots)) [
  | inl lt ↦ lt
  | inr ge ↦ let both : true ≡ false = sym on ∙ ap is_live (get_or_past slots i [] ge) ∙ no_slot in cc
]

pub sorted_here : (slots : List (List ℕ)) (places : List ℕ) → IsIndex slots places → AreSorted slots places
sorted_here slots places index = record { within = λ j lt. live_within slots _ (index.live j lt); order = index.sorted }

pub sorted_else : (before after : List (List ℕ)) (places : List ℕ) (k : ℕ) → IsIndex before places → SameElse before after k → is_live_at before k ≡ false → AreSorted after places
sorted_else before after places k index same new = record {
  within = λ j lt. live_within after _ (ap is_live (same _ (other before after places 0 k index same new j lt)) ∙ index.live j lt);
  order = λ j m less lt.
      let one = same _ (other before after places 0 k index same new j (omega (arith, less, lt))) in
      let next = same _ (other before after places 0 k index same new m lt) in
      kept_order before after _ _ _ _ (ap name_of one) (ap name_of next) refl refl (index.sorted j m less lt);
}
