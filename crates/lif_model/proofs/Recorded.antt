-- A file's records written one after the other.
use Rattle.std.proofs.Common.{◌≡◌, ◌<◌, ◌≤◌, ◌+◌, ◌-◌, ◌*◌, ℕ, zero, suc, List, [], ◌∷◌, inl, inr, length, get_or, set, drop, refl, sym, ◌∙◌, ap, arith, length-set, get_or-set_same, get_or-set_other}
use Rattle.std.proofs.lemmas.Bool.{cases_lt}
use Rattle.std.proofs.lemmas.List.{ext_get_or}
use Rattle.lif_model.specs.Tape.{Tape, IsTape, record_at}
use Rattle.lif_model.specs.Made.{file_length, file_records}
use Rattle.lif_model.specs.Transfers.{Replaced}
use Rattle.lif_model.specs.Writing.{with_records}
use Rattle.lif_model.proofs.Made.{length_cut, piece_size}
use Rattle.lif_model.proofs.Runs.{piece_at}
use Rattle.lif_model.proofs.Directory.{set_shape}

pub length_records : (first : ℕ) (rs : List (List ℕ)) (t : Tape) → length (with_records first rs t) ≡ length t
length_records first [] t = refl
length_records first (r ∷ rs) t = length_records (suc first) rs (set t first r) ∙ length-set t first r

pub records_before : (first : ℕ) (rs : List (List ℕ)) (t : Tape) (k : ℕ) → k < first → record_at (with_records first rs t) k ≡ record_at t k
records_before first [] t k lt = refl
records_before first (r ∷ rs) t k lt = records_before (suc first) rs (set t first r) k (omega (arith, lt)) ∙ get_or-set_other t first k r [] (λ e. absurd (omega (arith, e, lt)))

pub records_behind : (first : ℕ) (rs : List (List ℕ)) (t : Tape) (k : ℕ) → first + length rs ≤ k
    → record_at (with_records first rs t) k ≡ record_at t k
records_behind first [] t k le = refl
records_behind first (r ∷ rs) t k le = records_behind (suc first) rs (set t first r) k (omega (arith, le)) ∙ get_or-set_other t first k r [] (λ e. absurd (omega (arith, e, le)))

records_within : (first : ℕ) (rs : List (List ℕ)) (t : Tape) (i : ℕ) → first + length rs ≤ length t → i < length rs
    → record_at (with_records first rs t) (first + i) ≡ get_or rs i []
records_within first [] t i le lt = absurd (omega (arith, lt))
records_within first (r ∷ rs) t zero le lt =
    let here : first + 0 ≡ first = omega arith in
    ap (record_at (with_records (suc first) rs (set t first r))) here ∙ records_before (suc first) rs (set t first r) first (omega arith) ∙ get_or-set_same t first r [] (omega (arith, le))
records_within first (r ∷ rs) t (suc i) le lt =
    let here : first + suc i ≡ suc first + i = omega arith in
    ap (record_at (with_records (suc first) rs (set t first r))) here ∙ records_within (suc first) rs (set t first r) i (omega (arith, le, length-set t first r)) (omega (arith, lt))

-- what a run leaves
pub records_replaced : (first : ℕ) (rs : List (List ℕ)) (t : Tape) → first + length rs ≤ length t → Replaced first rs t (with_records first rs t)
records_replaced first rs t le = record {
  records = length_records first rs t;
  within = λ i lt. records_within first rs t i le lt;
  before = λ k lt. records_before first rs t k lt;
  behind = λ k le. records_behind first rs t k le;
}

-- A run that wrote these pieces made this very tape.
pub replaced_is : (first : ℕ) (rs : List (List ℕ)) (t x : Tape) → first + length rs ≤ length t → Replaced first rs t x → x ≡ with_records first rs t
replaced_is first rs t x le done = ext_get_or [] x (with_records first rs t) (done.records ∙ sym (length_records first rs t)) (λ k lt. elim (cases_lt k first) [
  | inl under ↦ done.before k under ∙ sym (records_before first rs t k under)
  | inr over ↦ elim (cases_lt k (first + length rs)) [
    | inl within ↦
        let at : k ≡ first + (k - first) = omega (arith, over) in
        let less : k - first < length rs = omega (arith, over, within) in
        ap (record_at x) at ∙ done.within (k - first) less ∙ sym (records_within first rs t (k - first) le less) ∙ sym (ap (record_at (with_records first rs t)) at)
    | inr past ↦ done.behind k past ∙ sym (records_behind first rs t k past)
  ]
])

-- ---- a file's records

pub records_count : (bytes : List ℕ) → length (file_records bytes) ≡ file_length bytes
records_count bytes = length_cut (file_length bytes) bytes

record_size : (bytes : List ℕ) (i : ℕ) → i < file_length bytes → length (get_or (file_records bytes) i []) ≡ 256
record_size bytes i lt = ap (λ (r : List ℕ). length r) (piece_at (file_length bytes) i bytes lt) ∙ piece_size (drop (256 * i) bytes)

-- a tape stays a tape
records_shape : (n first : ℕ) (rs : List (List ℕ)) (t : Tape) → IsTape n t → ((i : ℕ) → i < length rs → length (get_or rs i []) ≡ 256)
    → IsTape n (with_records first rs t)
records_shape n first [] t is whole = is
records_shape n first (r ∷ rs) t is whole = records_shape n (suc first) rs (set t first r) (set_shape n t first r is (whole 0 (omega arith))) (λ i lt. whole (suc i) (omega (arith, lt)))

pub file_shape : (n first : ℕ) (bytes : List ℕ) (t : Tape) → IsTape n t → IsTape n (with_records first (file_records bytes) t)
file_shape n first bytes t is = records_shape n first (file_records bytes) t is (λ i lt. record_size bytes i (omega (arith, lt, records_count bytes)))
