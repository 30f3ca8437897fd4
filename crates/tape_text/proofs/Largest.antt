-- The largest file that can be added: each smaller one can be added too, and no larger one.
use Rattle.std.proofs.Common.{◌≡◌, ◌↔◌, ◌<◌, ◌≤◌, ◌+◌, ◌*◌, ℕ, zero, suc, Bool, true, false, List, [], ◌∷◌, if◌then◌else◌, map, inl, inr, refl, sym, ◌∙◌, ap, nat_le, arith}
use Rattle.std.proofs.lemmas.Bool.{cases_lt, leb-true, le-leb}
use Rattle.lif_model.specs.Header.{HeaderParts}
use Rattle.lif_model.specs.Fit.{At, low_of, high_of, first_fit, fit_among, candidates}
use Rattle.lif_dir.specs.Entries.{slot_bytes}
use Rattle.lif_dir.specs.declared.entries.Slot.{Slot}
use Rattle.tape_text.specs.Free.{place_for, is_placed, largest_until, largest_new}

-- ---- a smaller file

-- if there is room for a file in one of these slots, there is room for a smaller one
first_fit_below : (n low : ℕ) (slots : List (List ℕ)) (few count : ℕ) → few ≤ count → (cs : List ℕ) → is_placed (first_fit n low slots count cs) ≡ true → is_placed (first_fit n low slots few cs) ≡ true
first_fit_below n low slots few count le [] is = is
first_fit_below n low slots few count le (c ∷ cs) is =
    go (nat_le (low_of low slots c + few) (high_of n slots c)) refl (nat_le (low_of low slots c + count) (high_of n slots c)) refl is
    (first_fit_below n low slots few count le cs)
  where
    go : (b : Bool) → nat_le (low_of low slots c + few) (high_of n slots c) ≡ b → (d : Bool) → nat_le (low_of low slots c + count) (high_of n slots c) ≡ d
        → is_placed (if d then At c (low_of low slots c) else first_fit n low slots count cs) ≡ true
        → (is_placed (first_fit n low slots count cs) ≡ true → is_placed (first_fit n low slots few cs) ≡ true)
        → is_placed (if b then At c (low_of low slots c) else first_fit n low slots few cs) ≡ true
    go true e d f is rest = refl
    go false e false f is rest = rest is
    go false e true f is rest =
        let fits : low_of low slots c + count ≤ high_of n slots c = leb-true (low_of low slots c + count) (high_of n slots c) f in
        let both : true ≡ false = sym (le-leb (low_of low slots c + few) (high_of n slots c) (omega arith)) ∙ e in
        cc

among_below : (n low : ℕ) (slots : List (List ℕ)) (few count : ℕ) → few ≤ count → (cs : List ℕ) → is_placed (fit_among n low slots count cs) ≡ true → is_placed (fit_among n low slots few cs) ≡ true
among_below n low slots few count le [] is = is
among_below n low slots few count le (c ∷ cs) is = first_fit_below n low slots few count le (c ∷ cs) is

-- if a file can be added, each smaller one can be added
pub placed_below : (n : ℕ) (h : HeaderParts) (slots : List Slot) (few count : ℕ) → few ≤ count → is_placed (place_for n h slots count) ≡ true → is_placed (place_for n h slots few) ≡ true
placed_below n h slots few count le is =
    among_below n (h.start + h.length) (map slot_bytes slots) few count le (candidates (8 * h.length) (map slot_bytes slots)) is

-- ---- the largest number

-- What holds of a number holds of each smaller one. So it holds of each number from 1 up to the largest, and of no other one up to k.
module _ (holds : ℕ → Bool) (below : (few count : ℕ) → few ≤ count → holds count ≡ true → holds few ≡ true) where
  largest_within : (k : ℕ) → largest_until holds k ≤ k
  largest_within zero = omega arith
  largest_within (suc k) = go (holds (suc k)) (largest_within k)
    where
      go : (b : Bool) → largest_until holds k ≤ k → (if b then suc k else largest_until holds k) ≤ suc k
      go true le = omega arith
      go false le = omega (arith, le)

  holds_within : (k count : ℕ) → 0 < count → count ≤ largest_until holds k → holds count ≡ true
  holds_within zero count some le = absurd (omega arith)
  holds_within (suc k) count some le = go (holds (suc k)) refl le (holds_within k count some)
    where
      go : (b : Bool) → holds (suc k) ≡ b → count ≤ (if b then suc k else largest_until holds k) → (count ≤ largest_until holds k → holds count ≡ true) → holds count ≡ true
      go true e le rest = below count (suc k) le e
      go false e le rest = rest le

  within_holds : (k count : ℕ) → count ≤ k → holds count ≡ true → count ≤ largest_until holds k
  within_holds zero count le is = le
  within_holds (suc k) count le is = go (holds (suc k)) refl (within_holds k count)
    where
      go : (b : Bool) → holds (suc k) ≡ b → (count ≤ k → holds count ≡ true → count ≤ largest_until holds k) → count ≤ (if b then suc k else largest_until holds k)
      go true e rest = le
      go false e rest = elim (cases_lt k count) [
        | inl over ↦
            let same : count ≡ suc k = omega arith in
            let both : true ≡ false = sym is ∙ ap holds same ∙ e in
            cc
        | inr under ↦ rest under is
      ]

-- ---- the law

pub largest_few : (n : ℕ) (h : HeaderParts) (slots : List Slot) → largest_new n h slots ≤ n
largest_few n h slots = largest_within (λ count. is_placed (place_for n h slots count)) (placed_below n h slots) n

-- a file of some records, at most as many as the medium has, can be added if and only if it is not larger than the largest one
pub fits_up_to_largest : (n : ℕ) (h : HeaderParts) (slots : List Slot) (count : ℕ) → 0 < count → count ≤ n → (is_placed (place_for n h slots count) ≡ true) ↔ (count ≤ largest_new n h slots)
fits_up_to_largest n h slots count some few = (
  within_holds (λ count. is_placed (place_for n h slots count)) (placed_below n h slots) n count few,
  holds_within (λ count. is_placed (place_for n h slots count)) (placed_below n h slots) n count some,
)

-- one that cannot be added is larger
pub larger_than_largest : (n : ℕ) (h : HeaderParts) (slots : List Slot) (count : ℕ) → 0 < count → is_placed (place_for n h slots count) ≡ false → largest_new n h slots < count
larger_than_largest n h slots count some fails = elim (cases_lt (largest_new n h slots) count) [
  | inl over ↦ over
  | inr under ↦
      let is : is_placed (place_for n h slots count) ≡ true = holds_within (λ count. is_placed (place_for n h slots count)) (placed_below n h slots) n count some under in
      let both : true ≡ false = sym is ∙ fails in
      cc
]
