use Rattle.std.proofs.Common.{◌≡◌, ◌∙◌, true, false, sym}
use Rattle.il_check.proofs.EndLemmas.{read, said_within, said_not_made, said_fine}
use Rattle.il_check.proofs.tracing.Tracing.verdict.Goals as goal

pub returns-then-not-may_end : goal.returns-then-not-may_end
returns-then-not-may_end c = λ k d old lines has shape.
    let known = read k d old c.args.after.now lines c.args.self.now has shape c.in_default.is in
    said_within k d old c.args.after.now lines c.args.self.now has shape c.in_default.is
    (λ whole. let bad : true ≡ false = sym ((c.may_end.ensures k _ known.exchanges d).1 whole) ∙ c.if-not-may_end.true in cc)

pub returns-in-Some-first_not_made : goal.returns-in-Some-first_not_made
returns-in-Some-first_not_made c = λ k d old lines has shape.
    let known = read k d old c.args.after.now lines c.args.self.now has shape c.in_default.is in
    let whole = (c.may_end.ensures k _ known.exchanges d).0 c.if-not-may_end.false in
    rw c.from.ensures
    (said_not_made k d old c.args.after.now lines c.args.self.now has shape c.in_default.is whole c.in-Some-first_not_made.place
    (c.in-Some-first_not_made.ensures k d old _ known.effect whole))

pub returns-in-None : goal.returns-in-None
returns-in-None c = λ k d old lines has shape.
    let known = read k d old c.args.after.now lines c.args.self.now has shape c.in_default.is in
    let whole = (c.may_end.ensures k _ known.exchanges d).0 c.if-not-may_end.false in
    said_fine k d old c.args.after.now lines c.args.self.now has shape c.in_default.is whole (c.in-None.ensures k d old _ known.effect whole)
