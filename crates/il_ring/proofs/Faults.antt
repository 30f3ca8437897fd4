-- Planned hops that are reached, link by link.
use Rattle.std.proofs.Common.{◌≡◌, ◌≢◌, ◌≤◌, ◌<◌, ◌+◌, ◌↔◌, ◌==◌, ◌&&◌, ⊎_elim, ℕ, zero, suc, Bool, true, false, List, [], ◌∷◌, Option, Some, None, refl, sym, ap, subst, ◌∙◌, arith, nat_lt, nat_le}
use Rattle.std.specs.Prelude.{if◌then◌else◌}
use Rattle.std.proofs.lemmas.Bool.{lt-ltb}
use Rattle.std.proofs.lemmas.Bool.Decides.{nat_tests}
use Rattle.std.proofs.Math.Nat.{eq-or-lt_of_le}
use Rattle.il_device.specs.State.{risen, risen_by}
use Rattle.loop_model.specs.Reach.{met}
use Rattle.loop_model.proofs.ReachLaws.{met-split}
use Rattle.il_ring.specs.declared.plan.Planned.{Planned}
use Rattle.il_ring.specs.declared.plan.PlanFault.{PlanFault}
use Rattle.il_ring.specs.Plans.{hops_of, fault_at, next_fault, last_crossing}

-- nothing is planned at the next n crossings
abbrev pub IsClear : List Planned → ℕ → ℕ → Type 0
IsClear plan n zero = Unit {0}
IsClear plan n (suc m) = (next_fault plan n ≡ None) × IsClear plan (risen n) m

-- ---- the next crossing

pub kept_none : (test : Bool) (hop : ℕ) (hops : List ℕ) → (if test then hop ∷ hops else hops) ≡ [] → (test ≡ false) × (hops ≡ [])
kept_none true hop hops e = cc
kept_none false hop hops e = (refl, e)

pub none_kept : (test : Bool) (hop : ℕ) (hops : List ℕ) → test ≡ false → hops ≡ [] → (if test then hop ∷ hops else hops) ≡ []
none_kept test hop hops e f = rw e f

is_next : (n hop : ℕ) → (nat_lt n hop && nat_le hop (n + 1)) ≡ (hop == n + 1)
is_next n hop = grind (arith, nat_tests)

is_none_yet : (n hop : ℕ) → (nat_lt n hop && nat_le hop n) ≡ false
is_none_yet n hop = grind (arith, nat_tests)

none_here : (test : Bool) (fault : PlanFault) (rest : Option PlanFault) → (if test then Some fault else rest) ≡ None → (test ≡ false) × (rest ≡ None)
none_here true fault rest e = cc
none_here false fault rest e = (refl, e)

here_none : (test : Bool) (fault : PlanFault) (rest : Option PlanFault) → test ≡ false → rest ≡ None → (if test then Some fault else rest) ≡ None
here_none test fault rest e f = rw e f

met_next : (plan : List Planned) (n : ℕ) → (met (hops_of plan) n (n + 1) ≡ []) ↔ (fault_at plan (n + 1) ≡ None)
met_next [] n = ((λ e. refl), (λ e. refl))
met_next (p ∷ plan) n =
    let rest = met_next plan n in
    let same = is_next n p.hop in (
      (λ e. let parts = kept_none (nat_lt n p.hop && nat_le p.hop (n + 1)) p.hop (met (hops_of plan) n (n + 1)) e in here_none (p.hop == n + 1) p.fault (fault_at plan (n + 1)) (sym same ∙ parts.0) (rest.0 parts.1)),
      (λ e. let parts = none_here (p.hop == n + 1) p.fault (fault_at plan (n + 1)) e in none_kept (nat_lt n p.hop && nat_le p.hop (n + 1)) p.hop (met (hops_of plan) n (n + 1)) (same ∙ parts.0) (rest.1 parts.1)),
    )

pub met_nowhere : (hops : List ℕ) (n : ℕ) → met hops n n ≡ []
met_nowhere [] n = refl
met_nowhere (hop ∷ hops) n = none_kept (nat_lt n hop && nat_le hop n) hop (met hops n n) (is_none_yet n hop) (met_nowhere hops n)

-- ---- this many crossings

one_more : (plan : List Planned) (n : ℕ) → n ≤ last_crossing → (met (hops_of plan) n (risen n) ≡ []) ↔ (next_fault plan n ≡ None)
one_more plan n within =
    ⊎_elim
    (λ (e : n ≡ last_crossing).
    let stays : risen n ≡ n = omega (arith, e) in
    let none : next_fault plan n ≡ None = ap (λ test. if test then fault_at plan (n + 1) else None) (last_test n e) in
    ((λ _. none), (λ _. ap (met (hops_of plan) n) stays ∙ met_nowhere (hops_of plan) n)))
    (λ (lt : n < last_crossing).
    let up : risen n ≡ n + 1 = omega (arith, lt) in
    let next = met_next plan n in
    let says : next_fault plan n ≡ fault_at plan (n + 1) = ap (λ test. if test then fault_at plan (n + 1) else None) (lt-ltb n last_crossing lt) in
    ((λ e. says ∙ next.0 (sym (ap (met (hops_of plan) n) up) ∙ e)), (λ e. ap (met (hops_of plan) n) up ∙ next.1 (sym says ∙ e))))
    (eq-or-lt_of_le within)
  where
    last_test : (n : ℕ) → n ≡ last_crossing → nat_lt n last_crossing ≡ false
    last_test n e = grind (arith, nat_tests)

pub risen_within : (n : ℕ) → risen n ≤ last_crossing
risen_within n = omega arith

pub risen_later : (n : ℕ) → n ≤ last_crossing → n ≤ risen n
risen_later n within = omega (arith, within)

pub risen_by_later : (m n : ℕ) → n ≤ last_crossing → n ≤ risen_by m n
risen_by_later zero n within = omega arith
risen_by_later (suc m) n within = omega (arith, risen_by_later m (risen n) (risen_within n), risen_later n within)

-- no planned hop is reached if and only if nothing is planned at these crossings
pub clear_met : (plan : List Planned) (m n : ℕ) → n ≤ last_crossing → (met (hops_of plan) n (risen_by m n) ≡ []) ↔ IsClear plan n m
clear_met plan zero n within = ((λ _. tt), (λ _. met_nowhere (hops_of plan) n))
clear_met plan (suc m) n within =
    let split = met-split (hops_of plan) n (risen n) (risen_by m (risen n)) (risen_later n within) (risen_by_later m (risen n) (risen_within n)) in
    let one = one_more plan n within in
    let more = clear_met plan m (risen n) (risen_within n) in (
      (λ e. let parts = split.0 e in (one.0 parts.0, more.0 parts.1)),
      (λ e. split.1 (one.1 e.0, more.1 e.1)),
    )

-- ---- sums

pub clear_more : (plan : List Planned) (m j n : ℕ) → IsClear plan n m → IsClear plan (risen_by m n) j → IsClear plan n (m + j)
clear_more plan zero j n first more = let sum : 0 + j ≡ j = omega arith in subst (IsClear plan n) (sym sum) more
clear_more plan (suc m) j n first more = let sum : suc m + j ≡ suc (m + j) = omega arith in subst (IsClear plan n) (sym sum) (first.0, clear_more plan m j (risen n) first.1 more)

-- if something is planned at one of the crossings, a planned hop is reached
pub clear_at : (plan : List Planned) (j m n : ℕ) → j < m → IsClear plan n m → next_fault plan (risen_by j n) ≡ None
clear_at plan j zero n lt clear = absurd (omega (arith, lt))
clear_at plan zero (suc m) n lt clear = clear.0
clear_at plan (suc j) (suc m) n lt clear = clear_at plan j m (risen n) (omega (arith, lt)) clear.1

pub met_at : (plan : List Planned) (j m n : ℕ) → n ≤ last_crossing → j < m → next_fault plan (risen_by j n) ≢ None → met (hops_of plan) n (risen_by m n) ≢ []
met_at plan j m n within lt planned none = planned (clear_at plan j m n lt ((clear_met plan m n within).0 none))

-- one crossing more
pub risen_by_last : (m n : ℕ) → risen (risen_by m n) ≡ risen_by (suc m) n
risen_by_last zero n = refl
risen_by_last (suc m) n = risen_by_last m (risen n)

pub clear_last : (plan : List Planned) (m n : ℕ) → IsClear plan n m → next_fault plan (risen_by m n) ≡ None → IsClear plan n (suc m)
clear_last plan zero n clear none = (none, tt)
clear_last plan (suc m) n clear none = (clear.0, clear_last plan m (risen n) clear.1 none)
