-- Reading an image as the records of a tape.
use Rattle.std.proofs.Common.{◌≡◌, ◌<◌, ◌+◌, ◌-◌, ◌++◌, ℕ, suc, List, [], ◌∷◌, length, get_or, get_or-set_same, get_or-set_other, set, take, drop, sym, ◌∙◌, ap, arith, append_assoc, below_more}
use Rattle.std.proofs.lemmas.List.{take_more_set, take_all, append-nil}
use Rattle.lif_model.specs.Tape.{Tape}
use Rattle.lif_model.specs.Shelf.{piece, cut}

-- one more record is laid in
pub cut_step : (n i : ℕ) (xs : Tape) (rest : List ℕ) (whole : Tape) → i < length xs → i < n
    → take i xs ++ cut (n - i) rest ≡ whole → take (i + 1) (set xs i (piece rest)) ++ cut (n - (i + 1)) (drop 256 rest) ≡ whole
cut_step n i xs rest whole within lt so_far =
    let more : n - i ≡ suc (n - (i + 1)) = omega arith in
    let first : cut (n - i) rest ≡ piece rest ∷ cut (n - (i + 1)) (drop 256 rest) = ap (λ (m : ℕ). cut m rest) more in
    ap (λ (l : Tape). l ++ cut (n - (i + 1)) (drop 256 rest)) (take_more_set xs i (piece rest) within)
    ∙ append_assoc (take i xs) (piece rest ∷ []) (cut (n - (i + 1)) (drop 256 rest)) ∙ ap (λ (l : Tape). take i xs ++ l) (sym first) ∙ so_far

-- the same, where the record and the rest are known by equations
pub cut_next : (n i : ℕ) (xs : Tape) (rest rest₂ next : List ℕ) (whole : Tape) → next ≡ piece rest → rest₂ ≡ drop 256 rest → i < length xs → i < n
    → take i xs ++ cut (n - i) rest ≡ whole → take (i + 1) (set xs i next) ++ cut (n - (i + 1)) rest₂ ≡ whole
cut_next n i xs rest rest₂ next whole is_piece is_rest within lt so_far = rw (is_piece, is_rest) (cut_step n i xs rest whole within lt so_far)

-- each record so far has 256 bytes
pub shaped_next : (i : ℕ) (xs : Tape) (next : List ℕ) → i < length xs → length next ≡ 256
    → ((k : ℕ) → k < i → length (get_or xs k []) ≡ 256) → (k : ℕ) → k < i + 1 → length (get_or (set xs i next) k []) ≡ 256
shaped_next i xs next within whole so_far = below_more _ _
    (λ k h. let ne : k ≡ i → ⊥ = omega arith in ap (λ (r : List ℕ). length r) (get_or-set_other xs i k next [] ne) ∙ so_far k h)
    (ap (λ (r : List ℕ). length r) (get_or-set_same xs i next [] within) ∙ whole)

-- all records are laid in
pub cut_end : (n i : ℕ) (xs : Tape) (rest : List ℕ) (whole : Tape) → i ≡ n → length xs ≡ n → take i xs ++ cut (n - i) rest ≡ whole → xs ≡ whole
cut_end n i xs rest whole last size so_far =
    let none : n - i ≡ 0 = omega arith in
    sym (append-nil xs) ∙ ap (λ (l : Tape). l ++ []) (sym (take_all i xs (omega arith))) ∙ sym (ap (λ (m : ℕ). take i xs ++ cut m rest) none) ∙ so_far
