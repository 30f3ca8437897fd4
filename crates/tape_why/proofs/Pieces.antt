-- The records of an image, one by one.
use Rattle.std.proofs.Common.{◌≡◌, ◌<◌, ◌+◌, ◌-◌, ◌++◌, ◌∙◌, ℕ, suc, List, [], ◌∷◌, drop, ap, sym, arith, append_assoc}
use Rattle.lif_model.specs.Tape.{Tape}
use Rattle.lif_model.specs.Shelf.{piece, cut}

-- one record more
pub piece_more : (n i : ℕ) (xs : Tape) (rest rest₂ next : List ℕ) (whole : Tape) → next ≡ piece rest → rest₂ ≡ drop 256 rest → i < n
    → xs ++ cut (n - i) rest ≡ whole → (xs ++ next ∷ []) ++ cut (n - (i + 1)) rest₂ ≡ whole
piece_more n i xs rest rest₂ next whole is_piece is_rest lt so_far =
    let more : n - i ≡ suc (n - (i + 1)) = omega arith in
    (λ j. (xs ++ is_piece j ∷ []) ++ cut (n - (i + 1)) (is_rest j))
    ∙ append_assoc xs (piece rest ∷ []) (cut (n - (i + 1)) (drop 256 rest))
    ∙ ap (λ (l : Tape). xs ++ l) (sym (ap (λ (m : ℕ). cut m rest) more)) ∙ so_far
