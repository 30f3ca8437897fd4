use Rattle.std.proofs.Common.{◌≡◌, ◌<◌, sym, ap, ◌∙◌, subst, length, slice_index_or}
use Rattle.il_ring.specs.Plans.{next_fault}
use Rattle.il_ring.proofs.Passed.{nothing_planned}
use Rattle.il_ring.proofs.books.Books.count_crossing.Goals as goal

pub returns-then-planned-self-clause-planned : goal.returns-then-planned-self-clause-planned
returns-then-planned-self-clause-planned c =
    let look = c.in_ok-planned.ensures.lookup in
    let counted = c.in_ok-self-inside.ensures in
    let plan = c.deref.ensures.value in
    let planned = c.in_ok-planned.planned.now in
    sym (ap (λ v. next_fault v.plan v.crossings) (sym c.self.view_is) ∙ nothing_planned c.self.inside.plan.items c.self.inside.crossings c.self.inside.passed planned counted.0
    (subst (λ xs. c.self.inside.passed < length xs) plan look.3.0) (subst (λ xs. planned ≡ slice_index_or xs c.self.inside.passed planned) plan look.1)
    (λ same. c.if-planned-self.true (same ∙ sym counted.1)) c.self.invariant.1)
