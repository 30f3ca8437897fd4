-- The changes of one commit of a move: which records they are, and what they leave.
use Rattle.std.proofs.Common.{◌≡◌, ◌≢◌, ◌<◌, ◌≤◌, ◌+◌, ◌++◌, ◌&&◌, ℕ, zero, suc, List, [], ◌∷◌, true, not, length, set, refl, sym, ◌∙◌, ap, arith, append_assoc}
use Rattle.std.specs.Prelude.{nat_lt, nat_le, nat_eq}
use Rattle.std.specs.List.{list_all}
use Rattle.lif_model.specs.Tape.{Tape, record_at}
use Rattle.lif_model.specs.Pairs.{all_pairs}
use Rattle.lif_model.specs.declared.version.Version.TheVariants.{Two}
use Rattle.lif_model.specs.Redo.{Changes, targets_in, are_targets, redo_start, changed}
use Rattle.lif_model.specs.Writing.{with_records}
use Rattle.lif_model.specs.Packing.{records_from}
use Rattle.lif_pack.specs.Moving.{numbers_from, numbered_from}
use Rattle.lif_pack.proofs.Pointwise.{length_from}
use Rattle.std.proofs.lemmas.Bool.{and_from, lt-ltb, le-leb, ne_eqb, not_from_false}

-- ---- one more

pub numbers_more : (k count : ℕ) → numbers_from k (count + 1) ≡ numbers_from k count ++ (k + count) ∷ []
numbers_more k zero = let here : k ≡ k + 0 = omega arith in ap (λ (m : ℕ). m ∷ []) here
numbers_more k (suc count) =
    let one : suc count + 1 ≡ suc (count + 1) = omega arith in
    let next : suc k + count ≡ k + suc count = omega arith in
    ap (numbers_from k) one ∙ ap (λ (ks : List ℕ). k ∷ ks) (numbers_more (suc k) count ∙ ap (λ (m : ℕ). numbers_from (suc k) count ++ m ∷ []) next)

pub records_more : (t : Tape) (k count : ℕ) → records_from t k (count + 1) ≡ records_from t k count ++ record_at t (k + count) ∷ []
records_more t k zero = let here : k ≡ k + 0 = omega arith in ap (λ (m : ℕ). record_at t m ∷ []) here
records_more t k (suc count) =
    let one : suc count + 1 ≡ suc (count + 1) = omega arith in
    let next : suc k + count ≡ k + suc count = omega arith in
    ap (records_from t k) one ∙ ap (λ (rs : List (List ℕ)). record_at t k ∷ rs) (records_more t (suc k) count ∙ ap (λ (m : ℕ). records_from t (suc k) count ++ record_at t m ∷ []) next)

pub numbered_more : (k : ℕ) (rs : List (List ℕ)) (r : List ℕ) → numbered_from k (rs ++ r ∷ []) ≡ numbered_from k rs ++ (k + length rs, r) ∷ []
numbered_more k [] r = let here : k ≡ k + 0 = omega arith in ap (λ (m : ℕ). (m, r) ∷ []) here
numbered_more k (s ∷ rs) r =
    let next : suc k + length rs ≡ k + suc (length rs) = omega arith in
    ap (λ (cs : Changes). (k, s) ∷ cs) (numbered_more (suc k) rs r ∙ ap (λ (m : ℕ). numbered_from (suc k) rs ++ (m, r) ∷ []) next)

pub targets_append : (xs ys : Changes) → targets_in (xs ++ ys) ≡ targets_in xs ++ targets_in ys
targets_append [] ys = refl
targets_append (x ∷ xs) ys = ap (λ (ks : List ℕ). x.0 ∷ ks) (targets_append xs ys)

-- one record more is read
pub targets_more : (old : List ℕ) (cs : Changes) (k i : ℕ) (r : List ℕ) → targets_in cs ≡ old ++ numbers_from k i
    → targets_in (cs ++ (k + i, r) ∷ []) ≡ old ++ numbers_from k (i + 1)
targets_more old cs k i r so_far =
    targets_append cs ((k + i, r) ∷ []) ∙ ap (λ (ks : List ℕ). ks ++ (k + i) ∷ []) so_far ∙ append_assoc old (numbers_from k i) ((k + i) ∷ [])
    ∙ ap (λ (ks : List ℕ). old ++ ks) (sym (numbers_more k i))

pub told_more : (t : Tape) (old cs : Changes) (from to i : ℕ) (r : List ℕ) → cs ≡ old ++ numbered_from to (records_from t from i) → r ≡ record_at t (from + i)
    → cs ++ (to + i, r) ∷ [] ≡ old ++ numbered_from to (records_from t from (i + 1))
told_more t old cs from to i r so_far read =
    (λ q. so_far q ++ (to + i, read q) ∷ []) ∙ append_assoc old (numbered_from to (records_from t from i)) ((to + i, record_at t (from + i)) ∷ [])
    ∙ ap (λ (ds : Changes). old ++ ds) (ap (λ (m : ℕ). numbered_from to (records_from t from i) ++ (to + m, record_at t (from + i)) ∷ []) (sym (length_from t from i))
    ∙ sym (numbered_more to (records_from t from i) (record_at t (from + i))) ∙ ap (numbered_from to) (sym (records_more t from i)))

-- ---- what they leave

pub changed_append : (xs ys : Changes) (t : Tape) → changed (xs ++ ys) t ≡ changed ys (changed xs t)
changed_append [] ys t = refl
changed_append (x ∷ xs) ys t = changed_append xs ys (set t x.0 x.1)

pub changed_numbered : (k : ℕ) (rs : List (List ℕ)) (t : Tape) → changed (numbered_from k rs) t ≡ with_records k rs t
changed_numbered k [] t = refl
changed_numbered k (r ∷ rs) t = changed_numbered (suc k) rs (set t k r)

-- ---- they may be the targets of a commit

-- numbers below a place
abbrev AllUnder : ℕ → List ℕ → Type 0
AllUnder high [] = Unit {0}
AllUnder high (k ∷ ks) = (k < high) × AllUnder high ks

pub length_numbers : (k count : ℕ) → length (numbers_from k count) ≡ count
length_numbers k zero = refl
length_numbers k (suc count) = ap suc (length_numbers (suc k) count)

below_numbers : (limit k count : ℕ) → k + count ≤ limit → list_all (λ m. nat_lt m limit) (numbers_from k count) ≡ true
below_numbers limit k zero le = refl
below_numbers limit k (suc count) le = and_from (nat_lt k limit) _ (lt-ltb k limit (omega (arith, le))) (below_numbers limit (suc k) count (omega (arith, le)))

-- a lower number is none of them
other_numbers : (j k count : ℕ) → j < k → list_all (λ m. not (nat_eq j m)) (numbers_from k count) ≡ true
other_numbers j k zero lt = refl
other_numbers j k (suc count) lt = and_from (not (nat_eq j k)) _ (not_from_false _ (ne_eqb j k (λ e. absurd (omega (arith, e, lt))))) (other_numbers j (suc k) count (omega (arith, lt)))

apart_numbers : (k count : ℕ) → all_pairs (λ j m. not (nat_eq j m)) (numbers_from k count) ≡ true
apart_numbers k zero = refl
apart_numbers k (suc count) = and_from (list_all (λ m. not (nat_eq k m)) (numbers_from (suc k) count)) _ (other_numbers k (suc k) count (omega arith)) (apart_numbers (suc k) count)

-- one record of the directory and records after it
pub one_and_numbers : (n j k count : ℕ) → j < k → k + count ≤ redo_start Two n → count ≤ 31 → are_targets Two n (j ∷ numbers_from k count) ≡ true
one_and_numbers n j k count lt below few =
    and_from (nat_lt 0 (suc (length (numbers_from k count)))) _ (lt-ltb 0 _ (omega arith))
    (and_from (nat_le (suc (length (numbers_from k count))) 32) _ (le-leb _ _ (omega (arith, few, length_numbers k count)))
    (and_from (nat_lt j (redo_start Two n) && list_all (λ m. nat_lt m (redo_start Two n)) (numbers_from k count)) _
    (and_from (nat_lt j (redo_start Two n)) _ (lt-ltb j (redo_start Two n) (omega (arith, lt, below))) (below_numbers (redo_start Two n) k count below))
    (and_from (list_all (λ m. not (nat_eq j m)) (numbers_from k count)) _ (other_numbers j k count lt) (apart_numbers k count))))

-- two of them
pub two_and_numbers : (n i j k count : ℕ) → i ≢ j → i < k → j < k → k + count ≤ redo_start Two n → count ≤ 30 → are_targets Two n (i ∷ j ∷ numbers_from k count) ≡ true
two_and_numbers n i j k count other lt_i lt below few =
    let start : ℕ = redo_start Two n in
    and_from (nat_lt 0 (suc (suc (length (numbers_from k count))))) _ (lt-ltb 0 _ (omega arith))
    (and_from (nat_le (suc (suc (length (numbers_from k count)))) 32) _ (le-leb _ _ (omega (arith, few, length_numbers k count)))
    (and_from (nat_lt i start && (nat_lt j start && list_all (λ m. nat_lt m start) (numbers_from k count))) _
    (and_from (nat_lt i start) _ (lt-ltb i start (omega (arith, lt_i, below))) (and_from (nat_lt j start) _ (lt-ltb j start (omega (arith, lt, below))) (below_numbers start k count below)))
    (and_from (not (nat_eq i j) && list_all (λ m. not (nat_eq i m)) (numbers_from k count)) _
    (and_from (not (nat_eq i j)) _ (not_from_false _ (ne_eqb i j other)) (other_numbers i k count lt_i))
    (and_from (list_all (λ m. not (nat_eq j m)) (numbers_from k count)) _ (other_numbers j k count lt) (apart_numbers k count)))))
