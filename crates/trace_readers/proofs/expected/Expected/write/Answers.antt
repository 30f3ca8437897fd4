-- Both kinds of units answer by the same clauses.
use Rattle.std.proofs.Common.{Bool, true, false, sym, subst}
use Rattle.std.specs.Prelude.{IfOk}
use Rattle.trace_readers.specs.Expected.{IsToldBy}
use Rattle.trace_readers.proofs.ExpectedLemmas.{told_size, told_tapes}
use Rattle.trace_readers.proofs.expected.Expected.write.Goals as goal

pub returns-then-is_good-clause-size : goal.returns-then-is_good-clause-size
returns-then-is_good-clause-size c =
    told_size c.args.first c.args.bytes.now true c.args.self.now.records c.keep.new.self.records c.keep.result
    c.keep.ensures.fault c.keep.ensures.records

pub returns-then-is_good-clause-tapes : goal.returns-then-is_good-clause-tapes
returns-then-is_good-clause-tapes c =
    let before = c.args.self.now.records in
    let after = c.keep.new.self.records in
    subst (λ (good : Bool). IfOk c.keep.result (λ _. IsToldBy c.args.first c.args.bytes.now good before after))
    (sym c.if-is_good.true)
    (told_tapes c.args.first c.args.bytes.now true before after c.keep.result c.keep.ensures.fault
    c.keep.ensures.records)

pub returns-else-is_good-clause-tapes : goal.returns-else-is_good-clause-tapes
returns-else-is_good-clause-tapes c =
    let before = c.args.self.now.records in
    let after = c.free.new.self.records in
    subst (λ (good : Bool). IfOk c.free.result (λ _. IsToldBy c.args.first c.args.bytes.now good before after))
    (sym c.if-is_good.false)
    (told_tapes c.args.first c.args.bytes.now false before after c.free.result c.free.ensures.fault
    c.free.ensures.records)
