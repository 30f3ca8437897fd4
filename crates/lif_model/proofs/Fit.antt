-- What is known of a place that was chosen.
use Rattle.std.proofs.Common.{filter, nat_eq, not, ◌≡◌, ◌⊎◌, ◌<◌, ◌≤◌, ◌+◌, ◌-◌, ◌++◌, ◌==◌, ℕ, zero, suc, max, min, List, [], ◌∷◌, Bool, true, false, if◌then◌else◌, length, get_or, take, drop, inl, inr, refl, sym, ◌∙◌, ap, subst, arith, nat_le, length-take, length-drop, get_or-take, get_or-drop}
use Rattle.std.specs.List.{list_any}
use Rattle.std.proofs.lemmas.Bool.{cases_eq, cases_lt, cases_Bool, leb-true, eq-eqb, not-true}
use Rattle.lif_model.specs.Gate.{gate_of}
use Rattle.lif_model.specs.Header.{directory_end, capacity_of}
use Rattle.lif_model.specs.Directory.{start_of, is_purged}
use Rattle.lif_model.specs.Legal.{end_of, has_records}
use Rattle.lif_model.specs.Volume.{Volume}
use Rattle.lif_model.specs.Fit.{At, redo_place, purged_from, can_append, candidates, greatest_end, least_start, slots_behind, low_of, high_of, first_fit, fit_among, fit, fit_beside}

-- ---- the bounds

pub low_above : (low : ℕ) (slots : List (List ℕ)) → low ≤ greatest_end low slots
low_above low [] = omega arith
low_above low (slot ∷ slots) = go (has_records slot) (low_above low slots)
  where
    go : (b : Bool) → low ≤ greatest_end low slots → low ≤ (if b then max (end_of slot) (greatest_end low slots) else greatest_end low slots)
    go true rest = omega arith
    go false rest = rest

each_end : (low : ℕ) (slots : List (List ℕ)) (i : ℕ) → i < length slots → has_records (get_or slots i []) ≡ true → end_of (get_or slots i []) ≤ greatest_end low slots
each_end low [] i lt on = absurd (omega arith)
each_end low (slot ∷ slots) i lt on = go (has_records slot) refl i lt on (each_end low slots)
  where
    go : (b : Bool) → has_records slot ≡ b → (i : ℕ) → i < length (slot ∷ slots) → has_records (get_or (slot ∷ slots) i []) ≡ true
        → ((j : ℕ) → j < length slots → has_records (get_or slots j []) ≡ true → end_of (get_or slots j []) ≤ greatest_end low slots)
        → end_of (get_or (slot ∷ slots) i []) ≤ (if b then max (end_of slot) (greatest_end low slots) else greatest_end low slots)
    go true e zero lt on rest = omega arith
    go true e (suc i) lt on rest = omega (arith, rest i (omega arith) on)
    go false e zero lt on rest = let both : true ≡ false = sym on ∙ e in cc
    go false e (suc i) lt on rest = rest i (omega arith) on

pub high_below : (high : ℕ) (slots : List (List ℕ)) → least_start high slots ≤ high
high_below high [] = omega arith
high_below high (slot ∷ slots) = go (has_records slot) (high_below high slots)
  where
    go : (b : Bool) → least_start high slots ≤ high → (if b then min (start_of slot) (least_start high slots) else least_start high slots) ≤ high
    go true rest = omega arith
    go false rest = rest

each_start : (high : ℕ) (slots : List (List ℕ)) (i : ℕ) → i < length slots → has_records (get_or slots i []) ≡ true → least_start high slots ≤ start_of (get_or slots i [])
each_start high [] i lt on = absurd (omega arith)
each_start high (slot ∷ slots) i lt on = go (has_records slot) refl i lt on (each_start high slots)
  where
    go : (b : Bool) → has_records slot ≡ b → (i : ℕ) → i < length (slot ∷ slots) → has_records (get_or (slot ∷ slots) i []) ≡ true
        → ((j : ℕ) → j < length slots → has_records (get_or slots j []) ≡ true → least_start high slots ≤ start_of (get_or slots j []))
        → (if b then min (start_of slot) (least_start high slots) else least_start high slots) ≤ start_of (get_or (slot ∷ slots) i [])
    go true e zero lt on rest = omega arith
    go true e (suc i) lt on rest = omega (arith, rest i (omega arith) on)
    go false e zero lt on rest = let both : true ≡ false = sym on ∙ e in cc
    go false e (suc i) lt on rest = rest i (omega arith) on

-- ---- candidates

-- a purged slot before the redo entry, or the redo entry's own where a slot more fits
abbrev pub IsCandidate : ℕ → List (List ℕ) → ℕ → Type 0
IsCandidate capacity slots i = ((i < redo_place slots) × (i < length slots) × (is_purged (get_or slots i []) ≡ true)) ⊎ ((i ≡ redo_place slots) × (can_append capacity slots ≡ true))

abbrev Each : (ℕ → Type 0) → List ℕ → Type 0
Each P [] = Unit {0}
Each P (i ∷ rest) = P i × Each P rest

each_append : (P : ℕ → Type 0) (is js : List ℕ) → Each P is → Each P js → Each P (is ++ js)
each_append P [] js first second = second
each_append P (i ∷ is) js first second = (first.0, each_append P is js first.1 second)

each_purged : (P : ℕ → Type 0) (k : ℕ) (slots : List (List ℕ)) → ((j : ℕ) → j < length slots → is_purged (get_or slots j []) ≡ true → P (k + j)) → Each P (purged_from k slots)
each_purged P k [] here = tt
each_purged P k (slot ∷ slots) here =
    go (is_purged slot) refl (each_purged P (suc k) slots (λ j lt on. subst P (omega arith) (here (suc j) (omega arith) on)))
  where
    go : (b : Bool) → is_purged slot ≡ b → Each P (purged_from (suc k) slots) → Each P (if b then k ∷ purged_from (suc k) slots else purged_from (suc k) slots)
    go true e rest = (subst P (omega arith) (here 0 (omega arith) e), rest)
    go false e rest = rest

candidates_are : (capacity : ℕ) (slots : List (List ℕ)) → Each (IsCandidate capacity slots) (candidates capacity slots)
candidates_are capacity slots =
    let r = redo_place slots in
    each_append (IsCandidate capacity slots) (purged_from 0 (take r slots)) _
    (each_purged (IsCandidate capacity slots) 0 (take r slots) (λ j lt on.
    let under : j < r = omega (arith, length-take r slots) in
    inl (omega (arith, under), omega (arith, length-take r slots), subst (λ (i : ℕ). is_purged (get_or slots i []) ≡ true) (omega arith) (sym (ap is_purged (get_or-take r slots j [] under)) ∙ on))))
    (last (can_append capacity slots) refl)
  where
    last : (b : Bool) → can_append capacity slots ≡ b → Each (IsCandidate capacity slots) (if b then redo_place slots ∷ [] else [])
    last true e = (inr (refl, e), tt)
    last false e = tt

-- ---- the choice

first_tells : (P : ℕ → Type 0) (n low : ℕ) (slots : List (List ℕ)) (count : ℕ) (cs : List ℕ) (i start : ℕ) → Each P cs → first_fit n low slots count cs ≡ At i start
    → P i × (start ≡ low_of low slots i) × (start + count ≤ high_of n slots i)
first_tells P n low slots count [] i start each is = cc
first_tells P n low slots count (c ∷ cs) i start each is = go (nat_le (low_of low slots c + count) (high_of n slots c)) refl is (λ rest. first_tells P n low slots count cs i start each.1 rest)
  where
    go : (b : Bool) → nat_le (low_of low slots c + count) (high_of n slots c) ≡ b → (if b then At c (low_of low slots c) else first_fit n low slots count cs) ≡ At i start
        → (first_fit n low slots count cs ≡ At i start → P i × (start ≡ low_of low slots i) × (start + count ≤ high_of n slots i))
        → P i × (start ≡ low_of low slots i) × (start + count ≤ high_of n slots i)
    go false e is rest = rest is
    go true e is rest =
        let same : c ≡ i = cc in
        let from : low_of low slots c ≡ start = cc in (
          subst P same each.0,
          sym from ∙ ap (low_of low slots) same,
          subst (λ (j : ℕ). start + count ≤ high_of n slots j) same (omega (arith, leb-true (low_of low slots c + count) (high_of n slots c) e, from)),
        )

among_tells : (P : ℕ → Type 0) (n low : ℕ) (slots : List (List ℕ)) (count : ℕ) (cs : List ℕ) (i start : ℕ) → Each P cs → fit_among n low slots count cs ≡ At i start
    → P i × (start ≡ low_of low slots i) × (start + count ≤ high_of n slots i)
among_tells P n low slots count [] i start each is = cc
among_tells P n low slots count (c ∷ cs) i start each is = first_tells P n low slots count (c ∷ cs) i start each is

-- A place for so many records on a tape of n records: it lies between the directory's end and the
-- gate and meets no slot that has records.
pub record IsPlace (n directory_end capacity : ℕ) (slots : List (List ℕ)) (count i start : ℕ) : Type 0 where
  pub candidate : IsCandidate capacity slots i
  pub low : directory_end ≤ start
  pub high : start + count ≤ gate_of n
  pub before : (k : ℕ) → k < i → k < length slots → has_records (get_or slots k []) ≡ true → end_of (get_or slots k []) ≤ start
  pub behind : (k : ℕ) → i < k → k < length slots → has_records (get_or slots k []) ≡ true → start + count ≤ start_of (get_or slots k [])
  -- where the file takes the redo entry's slot
  pub own : i ≡ redo_place slots → i < length slots → has_records (get_or slots i []) ≡ true → start + count ≤ start_of (get_or slots i [])

-- the same in the directory of a volume
abbrev pub IsPlaceIn : ℕ → Volume → ℕ → ℕ → ℕ → Type 0
IsPlaceIn n v count i start = IsPlace n (directory_end v.header) (capacity_of v.header) v.slots count i start

behind_drop : (slots : List (List ℕ)) (high m k : ℕ) → m ≤ k → k < length slots → has_records (get_or slots k []) ≡ true → least_start high (drop m slots) ≤ start_of (get_or slots k [])
behind_drop slots high m k le lt on =
    let at : get_or (drop m slots) (k - m) [] ≡ get_or slots k [] = get_or-drop m slots (k - m) [] ∙ ap (λ (j : ℕ). get_or slots j []) (omega arith) in
    omega (arith, each_start high (drop m slots) (k - m) (omega (arith, length-drop m slots)) (ap has_records at ∙ on), ap start_of at)

-- what is known of a candidate with room
candidate_tells : (n directory_end capacity : ℕ) (slots : List (List ℕ)) (count i start : ℕ) → IsCandidate capacity slots i → start ≡ low_of directory_end slots i
    → start + count ≤ high_of n slots i → IsPlace n directory_end capacity slots count i start
candidate_tells n low capacity slots count i start candidate from below =
    record {
      candidate = candidate;
      low = omega (arith, from, low_above low (take i slots));
      high = omega (arith, below, high_below (gate_of n) (slots_behind slots i));
      before = λ k lt long on.
          let at : get_or (take i slots) k [] ≡ get_or slots k [] = get_or-take i slots k [] lt in
          omega (arith, from, each_end low (take i slots) k (omega (arith, length-take i slots)) (ap has_records at ∙ on), ap end_of at);
      behind = λ k lt long on. omega (arith, below, high_at k lt long on (cases_Bool (i == redo_place slots)));
      own = λ e long on. omega (arith, below, ap (λ (b : Bool). least_start (gate_of n) (if b then drop i slots else drop (suc i) slots)) (eq-eqb i (redo_place slots) e), behind_drop slots (gate_of n) i i (omega arith) long on);
    }
  where
    high_at : (k : ℕ) → i < k → k < length slots → has_records (get_or slots k []) ≡ true → (i == redo_place slots ≡ true) ⊎ (i == redo_place slots ≡ false) → high_of n slots i ≤ start_of (get_or slots k [])
    high_at k lt long on (inl e) = omega (arith, ap (λ (b : Bool). least_start (gate_of n) (if b then drop i slots else drop (suc i) slots)) e, behind_drop slots (gate_of n) i k (omega arith) long on)
    high_at k lt long on (inr e) = omega (arith, ap (λ (b : Bool). least_start (gate_of n) (if b then drop i slots else drop (suc i) slots)) e, behind_drop slots (gate_of n) (suc i) k (omega arith) long on)

pub fit_tells : (n directory_end capacity : ℕ) (slots : List (List ℕ)) (count i start : ℕ) → fit n directory_end capacity slots count ≡ At i start → IsPlace n directory_end capacity slots count i start
fit_tells n low capacity slots count i start is =
    let found = among_tells (IsCandidate capacity slots) n low slots count (candidates capacity slots) i start (candidates_are capacity slots) is in
    candidate_tells n low capacity slots count i start found.0 found.1 found.2

-- ---- a choice that leaves slots out

each_filter : (P : ℕ → Type 0) (keep : ℕ → Bool) (is : List ℕ) → Each P is → Each (λ i. P i × (keep i ≡ true)) (filter keep is)
each_filter P keep [] each = tt
each_filter P keep (i ∷ is) each = go (keep i) refl (each_filter P keep is each.1)
  where
    go : (b : Bool) → keep i ≡ b → Each (λ i. P i × (keep i ≡ true)) (filter keep is)
        → Each (λ i. P i × (keep i ≡ true)) (if b then i ∷ filter keep is else filter keep is)
    go true e rest = ((each.0, e), rest)
    go false e rest = rest

-- it gives a place as well, and none in a slot that is barred
pub fit_beside_tells : (n directory_end capacity : ℕ) (slots : List (List ℕ)) (barred : List ℕ) (count i start : ℕ)
    → fit_beside n directory_end capacity slots barred count ≡ At i start
    → IsPlace n directory_end capacity slots count i start × (list_any (nat_eq i) barred ≡ false)
fit_beside_tells n low capacity slots barred count i start is =
    let keep : ℕ → Bool = λ i. not (list_any (nat_eq i) barred) in
    let found = among_tells (λ i. IsCandidate capacity slots i × (keep i ≡ true)) n low slots count (filter keep (candidates capacity slots)) i start
    (each_filter (IsCandidate capacity slots) keep (candidates capacity slots) (candidates_are capacity slots)) is in
    (candidate_tells n low capacity slots count i start found.0.0 found.1 found.2, not-true (list_any (nat_eq i) barred) found.0.1)

filter_none : (is : List ℕ) → filter (λ i. not (list_any (nat_eq i) [])) is ≡ is
filter_none [] = refl
filter_none (i ∷ is) = ap (λ (js : List ℕ). i ∷ js) (filter_none is)

-- with none barred it is the choice itself
pub fit_beside_none : (n directory_end capacity : ℕ) (slots : List (List ℕ)) (count : ℕ)
    → fit_beside n directory_end capacity slots [] count ≡ fit n directory_end capacity slots count
fit_beside_none n low capacity slots count = ap (fit_among n low slots count) (filter_none (candidates capacity slots))

-- a place meets no file: neither a live nor a purged slot that has records, other than the slot
-- that it replaces
pub place_is_free : (n directory_end capacity : ℕ) (slots : List (List ℕ)) (count i start k : ℕ) → IsPlace n directory_end capacity slots count i start → k < length slots → (k ≡ i → i ≡ redo_place slots)
    → has_records (get_or slots k []) ≡ true → (end_of (get_or slots k []) ≤ start) ⊎ (start + count ≤ start_of (get_or slots k []))
place_is_free n low capacity slots count i start k place lt other on = elim (cases_eq k i) [
  | inl e ↦ inr (subst (λ (j : ℕ). start + count ≤ start_of (get_or slots j [])) (sym e) (place.own (other e) (omega (arith, e, lt)) (subst (λ (j : ℕ). has_records (get_or slots j []) ≡ true) e on)))
  | inr ne ↦ elim (cases_lt k i) [
    | inl under ↦ inl (place.before k under lt on)
    | inr over ↦ inr (place.behind k (omega (arith, ne, over)) lt on)
  ]
]
