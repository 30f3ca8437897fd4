-- An entry directly before the last one of a log.
use Rattle.std.proofs.Common.{◌≡◌, ◌<◌, ◌+◌, ◌++◌, ℕ, List, [], ◌∷◌, length, take, drop, set, get_or, sym, ap, ◌∙◌, arith}
use Rattle.std.specs.Prelude.{◌-◌}
use Rattle.std.proofs.lemmas.List.{append_assoc, drop_all, drop_more, length-set, take_all, take_more_set}
use Rattle.il_frames.specs.declared.entry.Entry.{Entry}
use Rattle.il_ring.specs.Lending.{before_last}

-- it takes the last one's place, which follows
pub put_before_last : (log : List Entry) (e d : Entry) (i : ℕ) → i ≡ length log - 1 → 0 < length log → set log i e ++ get_or log i d ∷ [] ≡ before_last e log
put_before_last log e d i at some =
    let below : i < length log = omega (arith, at, some) in
    let whole = length-set log i e in
    let front : set log i e ≡ take i log ++ e ∷ [] = sym (take_all (i + 1) (set log i e) (omega (arith, whole, at, some))) ∙ take_more_set log i e below in
    let back : drop i log ≡ get_or log i d ∷ [] = drop_more log i d below ∙ ap (λ rest. get_or log i d ∷ rest) (drop_all (i + 1) log (omega (arith, at, some))) in
    ap (λ xs. xs ++ get_or log i d ∷ []) front
    ∙ append_assoc (take i log) (e ∷ []) (get_or log i d ∷ [])
    ∙ ap (λ rest. take i log ++ e ∷ rest) (sym back)
    ∙ ap (λ j. take j log ++ e ∷ drop j log) at
