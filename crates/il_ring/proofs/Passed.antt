-- The next of the faults that are still to come lies further on than the next crossing.
use Rattle.std.proofs.Common.{◌≡◌, ◌≢◌, ◌≤◌, ◌<◌, ◌+◌, ◌^◌, ◌==◌, ◌&&◌, ℕ, Bool, true, false, List, [], ◌∷◌, Option, Some, None, length, refl, sym, ap, ◌∙◌, arith, nat_lt, drop}
use Rattle.std.specs.Prelude.{◌-◌, if◌then◌else◌, slice_index_or}
use Rattle.std.proofs.lemmas.List.{drop_more}
use Rattle.std.proofs.lemmas.Bool.{and_parts, and_from, lt-ltb, ltb-true}
use Rattle.std.proofs.lemmas.Bool.Decides.{nat_tests}
use Rattle.il_ring.specs.declared.plan.Planned.{Planned}
use Rattle.il_ring.specs.declared.plan.PlanFault.{PlanFault}
use Rattle.il_ring.specs.Plans.{fault_at, next_fault, last_crossing, is_fault, rises_from}
use Rattle.il_ring.specs.Books.{IsClear, IsPassed, IsUnplanned}

skipped : (test : Bool) (fault : PlanFault) (rest : Option PlanFault) → test ≡ false → (if test then Some fault else rest) ≡ rest
skipped true fault rest e = cc
skipped false fault rest e = refl

is_other : (hop n : ℕ) → n < hop → (hop == n) ≡ false
is_other hop n lt = grind (arith, nat_tests)

front_of : (p : Planned) (plan : List Planned) (low : ℕ) → rises_from low (p ∷ plan) ≡ true → (low < p.hop) × (rises_from p.hop plan ≡ true)
front_of p plan low rises =
    let parts = and_parts (nat_lt low p.hop) (is_fault p.fault && rises_from p.hop plan) rises in
    (ltb-true low p.hop parts.0, (and_parts (is_fault p.fault) (rises_from p.hop plan) parts.1).1)

rises_on : (p : Planned) (plan : List Planned) (low n : ℕ) → n < p.hop → rises_from low (p ∷ plan) ≡ true → rises_from n (p ∷ plan) ≡ true
rises_on p plan low n lt rises =
    let parts = and_parts (nat_lt low p.hop) (is_fault p.fault && rises_from p.hop plan) rises in
    and_from (nat_lt n p.hop) (is_fault p.fault && rises_from p.hop plan) (lt-ltb n p.hop lt) parts.1

-- nothing is planned at a crossing that the plan begins after
none_before : (plan : List Planned) (low n : ℕ) → n ≤ low → rises_from low plan ≡ true → fault_at plan n ≡ None
none_before [] low n le rises = refl
none_before (p ∷ plan) low n le rises =
    let front = front_of p plan low rises in
    skipped (p.hop == n) p.fault (fault_at plan n) (is_other p.hop n (omega (arith, le, front.0)))
    ∙ none_before plan p.hop n (omega (arith, le, front.0)) front.1

pub nothing_planned : (plan : List Planned) (n passed : ℕ) (p : Planned) → n + 1 < 2 ^ 64 → passed < length plan → p ≡ slice_index_or plan passed p
    → p.hop ≢ n + 1 → IsPassed plan n passed → next_fault plan n ≡ None
nothing_planned plan n passed p counted within look other at =
    let rest = drop (passed + 1) plan in
    let coming : drop passed plan ≡ p ∷ rest = drop_more plan passed p within ∙ ap (λ x. x ∷ rest) (sym look) in
    let rises : rises_from n (p ∷ rest) ≡ true = sym (ap (rises_from n) coming) ∙ at.coming in
    let again = rises_on p rest n (n + 1) (omega (arith, (front_of p rest n rises).0, other)) rises in
    ap (λ test. if test then fault_at plan (n + 1) else None) (lt-ltb n last_crossing (omega (arith, counted)))
    ∙ at.later (n + 1) (omega arith) ∙ ap (λ xs. fault_at xs (n + 1)) coming
    ∙ none_before (p ∷ rest) (n + 1) (n + 1) (omega arith) again

-- ---- crossings at which nothing is planned

-- the head of what is still to come lies further on than the next crossing, if nothing is planned there
head_on : (p : Planned) (plan : List Planned) (n : ℕ) → fault_at (p ∷ plan) n ≡ None → p.hop ≢ n
head_on p plan n none same = let found : fault_at (p ∷ plan) n ≡ Some p.fault = grind (arith, nat_tests, same) in cc

rises_over : (plan : List Planned) (n : ℕ) → fault_at plan (n + 1) ≡ None → rises_from n plan ≡ true → rises_from (n + 1) plan ≡ true
rises_over [] n none rises = refl
rises_over (p ∷ plan) n none rises =
    let other = head_on p plan (n + 1) none in
    let above = (front_of p plan n rises).0 in
    rises_on p plan n (n + 1) (omega (arith, above, other)) rises

-- one crossing further on, if nothing is planned
pub passed_over : (plan : List Planned) (n passed : ℕ) → fault_at plan (n + 1) ≡ None → IsPassed plan n passed → IsPassed plan (n + 1) passed
passed_over plan n passed none at = record {
  later = λ m above. at.later m (omega (arith, above));
  coming = rises_over (drop passed plan) n (sym (at.later (n + 1) (omega arith)) ∙ none) at.coming;
}

-- up to the one before the next of those that are still to come
pub unplanned_before : (plan : List Planned) (n passed : ℕ) (p : Planned) → passed < length plan → p ≡ slice_index_or plan passed p → IsPassed plan n passed → IsUnplanned plan n (p.hop - 1)
unplanned_before plan n passed p within look at m above below =
    let rest = drop (passed + 1) plan in
    let coming : drop passed plan ≡ p ∷ rest = drop_more plan passed p within ∙ ap (λ x. x ∷ rest) (sym look) in
    let rises : rises_from n (p ∷ rest) ≡ true = sym (ap (rises_from n) coming) ∙ at.coming in
    let front = (front_of p rest n rises).0 in
    let again = rises_on p rest n (p.hop - 1) (omega (arith, front)) rises in
    at.later m above ∙ ap (λ xs. fault_at xs m) coming ∙ none_before (p ∷ rest) (p.hop - 1) m below again

-- fewer of them, or the ones after some of them
pub clear_on : (plan : List Planned) (n m some more : ℕ) → n ≤ m → m + more ≤ n + some → IsClear plan n some → IsClear plan m more
clear_on plan n m some more from to clear = record {
  counted = omega (arith, to, clear.counted);
  free = λ k above below. clear.free k (omega (arith, from, above)) (omega (arith, to, below));
}

pub clear_next : (plan : List Planned) (n some : ℕ) → 1 ≤ some → IsClear plan n some → next_fault plan n ≡ None
clear_next plan n some one clear =
    ap (λ test. if test then fault_at plan (n + 1) else None) (lt-ltb n last_crossing (omega (arith, one, clear.counted)))
    ∙ clear.free (n + 1) (omega arith) (omega (arith, one))
