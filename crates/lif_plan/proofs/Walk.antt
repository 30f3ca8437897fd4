-- A directory walked slot by slot.
use Rattle.std.proofs.Common.{◌≡◌, ◌<◌, ◌≤◌, ◌+◌, ◌^◌, ◌++◌, ◌&&◌, if◌then◌else◌, max, nat_lt, nat_le, nat_eq, not, ℕ, suc, List, [], ◌∷◌, Bool, true, false, length, get_or, take, drop, filter, inl, inr, refl, sym, ◌∙◌, ap, arith}
use Rattle.std.specs.List.{list_any}
use Rattle.std.proofs.lemmas.Bool.{cases_Bool, and_cases, lt-leb, leb-true, eq-eqb, ne_eqb}
use Rattle.std.proofs.lemmas.List.{take_more}
use Rattle.lif_model.specs.Directory.{is_purged}
use Rattle.lif_model.specs.Legal.{is_live, has_records, end_of}
use Rattle.lif_model.specs.Fit.{Place, purged_from, redo_place, can_append, greatest_end, least_start, high_of, low_of}
use Rattle.lif_model.specs.Gate.{gate_of}
use Rattle.lif_model.proofs.Fit.{high_below}
use Rattle.lif_model.proofs.Plain.{fit_after, fit_skips, fit_passes}

-- ---- the records before the slots after

-- no file may end after the gate
pub free_past : (end gate : ℕ) (slots : List (List ℕ)) → gate < end → nat_le end (least_start gate slots) ≡ false
free_past end gate slots lt = lt-leb end (least_start gate slots) (omega (arith, high_below gate slots))

-- ---- the ends of the slots before

max_flips : (a : Bool) (e low rest : ℕ) → (if a then max e (max rest low) else max rest low) ≡ max (if a then max e rest else rest) low
max_flips true e low rest = omega arith
max_flips false e low rest = refl

-- a slot more at the end
greatest_push : (low : ℕ) (slots : List (List ℕ)) (slot : List ℕ)
    → greatest_end low (slots ++ slot ∷ []) ≡ (if has_records slot then max (greatest_end low slots) (end_of slot) else greatest_end low slots)
greatest_push low slots slot = go (has_records slot) refl slots
  where
    go : (b : Bool) → has_records slot ≡ b → (slots : List (List ℕ)) → greatest_end low (slots ++ slot ∷ []) ≡ (if b then max (greatest_end low slots) (end_of slot) else greatest_end low slots)
    go true is [] = ap (λ (b : Bool). if b then max (end_of slot) low else low) is ∙ omega arith
    go false is [] = ap (λ (b : Bool). if b then max (end_of slot) low else low) is
    go true is (x ∷ slots) = ap (λ (n : ℕ). if has_records x then max (end_of x) n else n) (go true is slots) ∙ max_flips (has_records x) (end_of x) (end_of slot) (greatest_end low slots)
    go false is (x ∷ slots) = ap (λ (n : ℕ). if has_records x then max (end_of x) n else n) (go false is slots)

pub greatest_next : (low k : ℕ) (slots : List (List ℕ)) (slot : List ℕ) → k < length slots → slot ≡ get_or slots k []
    → greatest_end low (take (k + 1) slots) ≡ (if has_records slot then max (greatest_end low (take k slots)) (end_of slot) else greatest_end low (take k slots))
greatest_next low k slots slot lt is =
    ap (greatest_end low) (take_more slots k [] lt ∙ ap (λ (s : List ℕ). take k slots ++ s ∷ []) (sym is)) ∙ greatest_push low (take k slots) slot

-- ---- what is after a candidate

pub behind_other : (n k : ℕ) (slots : List (List ℕ)) → k < redo_place slots → high_of n slots k ≡ least_start (gate_of n) (drop (k + 1) slots)
behind_other n k slots lt =
    ap (λ (b : Bool). least_start (gate_of n) (if b then drop k slots else drop (suc k) slots)) (ne_eqb k (redo_place slots) (omega arith))
    ∙ (let next : suc k ≡ k + 1 = omega arith in ap (λ (m : ℕ). least_start (gate_of n) (drop m slots)) next)

-- a candidate has room where the file ends before the slots after it
pub room_before : (n low count end gate k : ℕ) (slots : List (List ℕ)) → k < redo_place slots → end ≡ low_of low slots k + count → gate ≡ gate_of n
    → nat_le end (least_start gate (drop (k + 1) slots)) ≡ nat_le (low_of low slots k + count) (high_of n slots k)
room_before n low count end gate k slots lt ends is = (λ i. nat_le (ends i) (least_start (is i) (drop (k + 1) slots))) ∙ ap (nat_le (low_of low slots k + count)) (sym (behind_other n k slots lt))

-- a file that ends before all of them begins below 2 ^ 32
pub starts_low : (low count gate : ℕ) (slots : List (List ℕ)) → gate < 2 ^ 16 → nat_le (low + count) (least_start gate slots) ≡ true → low < 2 ^ 32
starts_low low count gate slots small is = omega (arith, leb-true (low + count) (least_start gate slots) is, high_below gate slots)

pub purged_is : (b : Bool) → not b ≡ false → b ≡ true
purged_is true is = refl
purged_is false is = cc

pub append_is : (capacity count redo : ℕ) (slots : List (List ℕ)) → redo ≡ redo_place slots → count ≡ length slots → redo + 1 ≡ count
    → nat_lt count capacity ≡ can_append capacity slots
append_is capacity count redo slots is long last =
    (λ i. sym (eq-eqb (suc (redo_place slots)) (length slots) (omega arith)) i && nat_lt (long i) capacity)

-- a slot that is not barred may be taken
abbrev pub may_take : List ℕ → ℕ → Bool
may_take barred i = not (list_any (nat_eq i) barred)

-- a slot that is live, or that may not be taken, is passed over
pub not_taken : (n low : ℕ) (slots : List (List ℕ)) (barred : List ℕ) (count r i : ℕ) (tail : List ℕ) (whole : Place) (seen : Bool) → i < r → r ≤ length slots
    → (not (is_live (get_or slots i [])) && may_take barred i) ≡ false
    → fit_after seen n low slots count (filter (may_take barred) (purged_from i (drop i (take r slots)) ++ tail)) ≡ whole
    → fit_after seen n low slots count (filter (may_take barred) (purged_from (i + 1) (drop (i + 1) (take r slots)) ++ tail)) ≡ whole
not_taken n low slots barred count r i tail whole seen lt le off so_far = elim (cases_Bool (is_purged (get_or slots i []))) [
  | inl on ↦ elim (and_cases (not (is_live (get_or slots i []))) (may_take barred i) off) [
    | inl dead ↦ let both : true ≡ false = sym (ap (λ (b : Bool). not (not b)) on) ∙ dead in cc
    | inr free ↦ fit_passes n low slots (may_take barred) count r i tail whole seen lt le on free so_far
  ]
  | inr live ↦ fit_skips n low slots (may_take barred) count r i tail whole seen lt le live so_far
]
