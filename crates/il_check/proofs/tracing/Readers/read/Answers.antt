use Rattle.std.proofs.Common.{◌∙◌, sym}
use Rattle.il_check.proofs.StepLemmas.{reads_none, reads_talk, reads_exchange, reads_unit, reads_fine}
use Rattle.il_check.proofs.tracing.Readers.read.Goals as goal

pub returns-in_default-clause-reads : goal.returns-in_default-clause-reads
returns-in_default-clause-reads c = λ k d old log whole front read. reads_none k d old log c.args.line.now whole c.args.self.now front c.in_default.ensures.none

pub returns-then-not-take-clause-reads : goal.returns-then-not-take-clause-reads
returns-then-not-take-clause-reads c = λ k d old log whole front read.
    reads_talk k d old log c.args.line.now whole c.in-Some.entry (record { talkers = c.take.new.self; exchanges = c.args.self.now.exchanges; effects = c.args.self.now.effects }) front c.in-Some.ensures.range c.in-Some.ensures.found
    (c.take.ensures.known k log read.talk) (sym c.take.ensures.answer ∙ c.if-not-take.true)

pub returns-then-not-take-2-clause-reads : goal.returns-then-not-take-2-clause-reads
returns-then-not-take-2-clause-reads c = λ k d old log whole front read.
    reads_exchange k d old log c.args.line.now whole c.in-Some.entry (record { talkers = c.take.new.self; exchanges = c.take-2.new.self; effects = c.args.self.now.effects }) front c.in-Some.ensures.range c.in-Some.ensures.found
    (c.take.ensures.known k log read.talk) (sym c.take.ensures.answer ∙ c.if-not-take.false) c.take-2.result c.if-not-take-2.true
    (c.take-2.ensures.answer k log read.exchanges d)

pub returns-in-Ok-clause-reads : goal.returns-in-Ok-clause-reads
returns-in-Ok-clause-reads c = λ k d old log whole front read.
    let prefix = (c.take-2.ensures.answer k log read.exchanges d).0 c.if-not-take-2.false in
    reads_fine k d old log c.args.line.now whole c.in-Some.entry _ front c.in-Some.ensures.range c.in-Some.ensures.found
    (c.take.ensures.known k log read.talk) (sym c.take.ensures.answer ∙ c.if-not-take.false) prefix _ c.take-3.result
    (c.take-3.ensures.fault k d old log read.effect prefix) c.in-Ok.field-0 c.in-Ok.is (c.take-2.ensures.known k log read.exchanges)
    (c.in-Ok.ensures.known d old log read.effect)

pub returns-in-Err-clause-reads : goal.returns-in-Err-clause-reads
returns-in-Err-clause-reads c = λ k d old log whole front read.
    let prefix = (c.take-2.ensures.answer k log read.exchanges d).0 c.if-not-take-2.false in
    rw c.fault_of_unit.ensures
    (reads_unit k d old log c.args.line.now whole c.in-Some.entry (record { talkers = c.take.new.self; exchanges = c.take-2.new.self; effects = c.take-3.new.self }) front c.in-Some.ensures.range c.in-Some.ensures.found
    (c.take.ensures.known k log read.talk) (sym c.take.ensures.answer ∙ c.if-not-take.false) prefix _ c.take-3.result
    (c.take-3.ensures.fault k d old log read.effect prefix) c.in-Err.fault c.in-Err.is)
