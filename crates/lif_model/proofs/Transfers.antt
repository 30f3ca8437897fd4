-- Laws of what transfers leave of a tape and of what they carry.
use Rattle.std.proofs.Common.{◌≡◌, ◌∙◌, ◌+◌, ◌++◌, ◌==◌, ℕ, List, [], ◌∷◌, Bool, true, false, not, nat_eq, refl, ap, length, drop, eq-eqb}
use Rattle.std.specs.Cmp.Lexicographic.{pointwise}
use Rattle.std.specs.List.{list_any, starts_with}
use Rattle.std.proofs.Math.Seq.{drop-append_seam, take-append_seam}
use Rattle.std.proofs.lemmas.Bool.{and_from, or_left, or_right}
use Rattle.lif_model.specs.Tape.{Tape}
use Rattle.lif_model.specs.Transfers.{Transfer, records_of, PartlyReplaced, is_overwritten_by, carries}
use Rattle.lif_model.proofs.Runs.{replaced_none, partly_replaced}

-- ---- what a run leaves

-- a tape that is as it was
pub PartlyReplaced-nothing : (n : ℕ) (pieces : List (List ℕ)) (t : Tape) → PartlyReplaced n pieces t t
PartlyReplaced-nothing n pieces t = partly_replaced n 0 pieces t t (replaced_none n t)

-- ---- what transfers carry

-- no bytes need no transfer
pub carries-nothing : {X : Type 0} (transfer : X → Transfer) (test : X → Bool) (xs : List X) (n : ℕ) → carries transfer test xs n [] ≡ true
carries-nothing transfer test [] n = refl
carries-nothing transfer test (x ∷ xs) n = or_right _ _ (carries-nothing transfer test xs n)

-- those before a transfer do not matter
pub carries-later : {X : Type 0} (transfer : X → Transfer) (test : X → Bool) (us xs : List X) (n : ℕ) (bytes : List ℕ) →
    carries transfer test xs n bytes ≡ true → carries transfer test (us ++ xs) n bytes ≡ true
carries-later transfer test [] xs n bytes e = e
carries-later transfer test (u ∷ us) xs n bytes e = or_right _ _ (carries-later transfer test us xs n bytes e)

same_list : (bytes : List ℕ) → pointwise nat_eq bytes bytes ≡ true
same_list [] = refl
same_list (b ∷ bytes) = and_from (nat_eq b b) _ (eq-eqb b b refl) (same_list bytes)

same_start : (bytes rest : List ℕ) → starts_with nat_eq (bytes ++ rest) bytes ≡ true
same_start bytes rest = ap (pointwise nat_eq bytes) (take-append_seam bytes rest) ∙ same_list bytes

-- one that passes the test carries its bytes, and what follows carries the rest, if nothing writes over them
pub carries-first : {X : Type 0} (transfer : X → Transfer) (test : X → Bool) (x : X) (xs : List X) (rest : List ℕ) → test x ≡ true →
    list_any (λ y. is_overwritten_by (transfer x) (transfer y)) xs ≡ false →
    carries transfer test xs ((transfer x).first + records_of (transfer x).bytes) rest ≡ true →
    carries transfer test (x ∷ xs) (transfer x).first ((transfer x).bytes ++ rest) ≡ true
carries-first transfer test x xs rest passes kept e =
    let t = transfer x in
    let rest_is : carries transfer test xs (t.first + records_of t.bytes) (drop (length t.bytes) (t.bytes ++ rest)) ≡ true = rw (drop-append_seam t.bytes rest) e in
    or_left _ _ (and_from (test x) _ passes (and_from (t.first == t.first) _ (eq-eqb t.first t.first refl)
    (and_from (starts_with nat_eq (t.bytes ++ rest) t.bytes) _ (same_start t.bytes rest)
    (and_from (not (list_any (λ y. is_overwritten_by t (transfer y)) xs)) _ (ap not kept) rest_is))))
