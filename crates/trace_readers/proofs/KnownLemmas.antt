-- Pieces of 256 bytes, and a list of which one part is replaced.
use Rattle.std.proofs.Common.{◌≡◌, ◌<◌, ◌≤◌, ◌∙◌, ◌+◌, ◌-◌, ◌*◌, ◌/◌, ◌%◌, ◌++◌, ◌⊎◌, inl, inr, ℕ, suc, zero, false, List, [], ◌∷◌, Option, Some, length, take, drop, get_or, set, map, nat_le, append_assoc, refl, sym, ap, subst, arith}
use Rattle.std.proofs.lemmas.List.{take_more_set, nil_from_length, length-take-le, length-append, length-drop, take-append-drop, get_or-take, get_or-drop, get_or-append-add, get_or_append_left, get_or-append_right}
use Rattle.std.proofs.lemmas.Bool.{cases_lt}
use Rattle.std.proofs.lemmas.Bool.Decides.{nat_tests}
use Rattle.lif_model.specs.Transfers.{records_of, cut_up, full_pieces}
use Rattle.trace_readers.specs.declared.expected.UnitFault.TheVariants as fault
use Rattle.trace_readers.specs.Expected.{write_fault}

-- ---- pieces

pub length-cut : (n : ℕ) (bytes : List ℕ) → length (cut_up n bytes) ≡ n
length-cut zero bytes = refl
length-cut (suc n) bytes = ap suc (length-cut n (drop 256 bytes))

pub length-full : (bytes : List ℕ) → length (full_pieces bytes) ≡ length bytes / 256
length-full bytes = length-cut (length bytes / 256) bytes

-- whole records are as many pieces
pub whole_count : (bytes : List ℕ) → length bytes % 256 ≡ 0 → records_of bytes ≡ length bytes / 256
whole_count bytes whole = omega (arith, whole)

-- two pieces were sent whole
pub unclear : (size first : ℕ) (bytes : List ℕ) → 2 ≤ length bytes / 256 →
    Some fault.Unclear ≡ write_fault size first bytes false
unclear size first bytes two =
    let count = length-full bytes in
    let many : nat_le (length (full_pieces bytes)) 1 ≡ false = grind (arith, nat_tests, count, two) in
    rw many refl

-- ---- records that become known

learned_step : (n i : ℕ) (records : List (Option (List ℕ))) (rest : List ℕ) (all : List (Option (List ℕ))) →
    i < length records → i < n → take i records ++ map Some (cut_up (n - i) rest) ≡ all →
    take (i + 1) (set records i (Some (take 256 rest))) ++ map Some (cut_up (n - (i + 1)) (drop 256 rest)) ≡ all
learned_step n i records rest all within more so_far =
    let one : n - i ≡ suc (n - (i + 1)) = omega (arith, more) in
    ap (λ (l : List (Option (List ℕ))). l ++ map Some (cut_up (n - (i + 1)) (drop 256 rest)))
    (take_more_set records i (Some (take 256 rest)) within)
    ∙ append_assoc (take i records) (Some (take 256 rest) ∷ []) _
    ∙ sym (ap (λ (m : ℕ). take i records ++ map Some (cut_up m rest)) one)
    ∙ so_far

-- one record more is known
pub learned_next : (n i : ℕ) (records : List (Option (List ℕ))) (rest rest₂ next : List ℕ)
    (all : List (Option (List ℕ))) → next ≡ take 256 rest → rest₂ ≡ drop 256 rest → i < length records → i < n →
    take i records ++ map Some (cut_up (n - i) rest) ≡ all →
    take (i + 1) (set records i (Some next)) ++ map Some (cut_up (n - (i + 1)) rest₂) ≡ all
learned_next n i records rest rest₂ next all is_first is_rest within more so_far =
    rw (is_first, is_rest) (learned_step n i records rest all within more so_far)

-- ---- one part replaced

-- the list zs is ys with other elements at m places from `first` on
pub record Laid {A : Type 0} (first m : ℕ) (at : ℕ → A) (d : A) (ys zs : List A) : Type 0 where
  pub size : length zs ≡ length ys
  pub within : (i : ℕ) → i < m → get_or zs (first + i) d ≡ at i
  pub before : (k : ℕ) → k < first → get_or zs k d ≡ get_or ys k d
  pub after : (k : ℕ) → first + m ≤ k → get_or zs k d ≡ get_or ys k d

module _
    {A : Type 0}
    (first m : ℕ)
    (at : ℕ → A)
    (d : A)
    (xs ys : List A)
    (long : length xs ≡ m)
    (are : (i : ℕ) → i < m → get_or xs i d ≡ at i)
  where
    laid_none : m ≡ 0 → Laid first m at d ys ys
    laid_none none = record {
      size = refl;
      within = λ i lt. absurd (omega (arith, lt, none));
      before = λ k lt. refl;
      after = λ k le. refl;
    }

    same_list : m ≡ 0 → ys ≡ take first ys ++ (xs ++ drop (first + m) ys)
    same_list none =
        let empty : xs ≡ [] = nil_from_length xs (long ∙ none) in
        let here : first + m ≡ first = omega (arith, none) in
        sym (take-append-drop first ys) ∙ (λ i. take first ys ++ (sym empty i ++ drop (sym here i) ys))

    laid_some : first + m ≤ length ys → Laid first m at d ys (take first ys ++ (xs ++ drop (first + m) ys))
    laid_some fits =
        let front : length (take first ys) ≡ first = length-take-le first ys (omega (arith, fits)) in
        let back = drop (first + m) ys in
        record {
          size =
              let all = length-append (take first ys) (xs ++ back) in
              omega (arith, fits, front, long, all, length-append xs back, length-drop (first + m) ys);
          within = λ i lt.
              ap (λ (n : ℕ). get_or (take first ys ++ (xs ++ back)) (n + i) d) (sym front)
              ∙ get_or-append-add (take first ys) (xs ++ back) i d
              ∙ get_or_append_left xs back d i (omega (arith, lt, long))
              ∙ are i lt;
          before = λ k lt.
              get_or_append_left (take first ys) (xs ++ back) d k (omega (arith, lt, front))
              ∙ get_or-take first ys k d lt;
          after = λ k le.
              let there : (first + m) + ((k - first) - m) ≡ k = omega (arith, le) in
              get_or-append_right (take first ys) (xs ++ back) first k d front (omega (arith, le))
              ∙ get_or-append_right xs back m (k - first) d long (omega (arith, le))
              ∙ get_or-drop (first + m) ys ((k - first) - m) d
              ∙ ap (λ (n : ℕ). get_or ys n d) there;
        }

    laid_right : (m ≡ 0) ⊎ (first + m ≤ length ys) → Laid first m at d ys (take first ys ++ (xs ++ drop (first + m) ys))
    laid_right (inl none) = subst (λ (zs : List A). Laid first m at d ys zs) (same_list none) (laid_none none)
    laid_right (inr fits) = laid_some fits

    pub laid_in : (m ≡ 0) ⊎ (first + m ≤ length ys) → Laid first m at d ys (take first ys ++ xs ++ drop (first + m) ys)
    laid_in fits =
        subst (λ (zs : List A). Laid first m at d ys zs)
        (sym (append_assoc (take first ys) xs (drop (first + m) ys))) (laid_right fits)

-- a place lies before the part, within it, or after it
pub by_place : (P : ℕ → Type 0) (first m : ℕ) → ((k : ℕ) → k < first → P k) → ((i : ℕ) → i < m → P (first + i)) →
    ((k : ℕ) → first + m ≤ k → P k) → (k : ℕ) → P k
by_place P first m before within after k = elim (cases_lt k first) [
  | inl less ↦ before k less
  | inr more ↦ elim (cases_lt k (first + m)) [
    | inl less ↦
        let there : first + (k - first) ≡ k = omega (arith, more) in
        subst P there (within (k - first) (omega (arith, more, less)))
    | inr past ↦ after k (omega (arith, past))
  ]
]

-- the pieces of so many bytes have 256 each
pub pieces_whole : (n : ℕ) (bytes : List ℕ) → 256 * n ≤ length bytes → (i : ℕ) → i < n →
    length (get_or (cut_up n bytes) i []) ≡ 256
pieces_whole zero bytes long i lt = absurd (omega (arith, lt))
pieces_whole (suc n) bytes long zero lt = length-take-le 256 bytes (omega (arith, long))
pieces_whole (suc n) bytes long (suc i) lt =
    pieces_whole n (drop 256 bytes) (omega (arith, long, length-drop 256 bytes)) i (omega (arith, lt))
