use Rattle.std.proofs.Common.{◌+◌, arith, sym, subst}
use Rattle.il_ring.specs.Books.{IsClear}
use Rattle.il_ring.proofs.Passed.{passed_over}
use Rattle.il_ring.proofs.books.Books.cross_clear.Goals as goal

pub invariant_of-self : goal.invariant_of-self
invariant_of-self c =
    let inside = c.self.inside in
    let now = c.self.invariant in
    let clear : IsClear inside.plan.items inside.crossings 1 = subst (λ v. IsClear v.plan v.crossings 1) (sym c.self.view_is) c.requires in (
      record { within = now.0.within; reserved = now.0.reserved; crossings = clear.counted; held = now.0.held },
      passed_over inside.plan.items inside.crossings inside.passed (clear.free (inside.crossings + 1) (omega arith) (omega arith)) now.1,
      λ before. let clear_yet = now.2 (omega (arith, before)) in (clear_yet.0, λ n above below. clear_yet.1 n (omega (arith, above)) below),
    )
