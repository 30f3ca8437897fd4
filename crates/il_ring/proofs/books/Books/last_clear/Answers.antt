use Rattle.std.proofs.Common.{◌≡◌, ◌+◌, ◌<◌, ap, sym, ◌∙◌, subst, length, slice_index_or, arith}
use Rattle.il_ring.specs.Plans.{fault_at}
use Rattle.il_ring.proofs.Passed.{unplanned_before}
use Rattle.il_ring.proofs.books.Books.last_clear.Goals as goal

pub returns-in-Some : goal.returns-in-Some
returns-in-Some c before =
    let look = c.in-Some.ensures.lookup in
    let plan = c.deref.ensures.value in
    let planned = c.in-Some.planned.now in
    let inside = c.self.inside in
    let hop : c.rounds_before.result + 31 ≡ planned.hop = c.rounds_before.ensures.before (omega (arith, before)) in (
      omega (arith, c.rounds_before.ensures.counted),
      λ n above below.
          ap (λ v. fault_at v.plan n) (sym c.self.view_is) ∙ unplanned_before inside.plan.items inside.crossings inside.passed planned
          (subst (λ xs. inside.passed < length xs) plan look.3.0) (subst (λ xs. planned ≡ slice_index_or xs inside.passed planned) plan look.1)
          c.self.invariant.1 n (subst (λ v. v.crossings < n) (sym c.self.view_is) above) (omega (arith, below, hop)),
    )
