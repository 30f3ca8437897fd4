use Rattle.std.proofs.Common.{arith, rules, refl, ap, None, false}
use Rattle.il_ports.specs.Sizes.{records_of_size}
use Rattle.il_ports.proofs.FileTapes.{wrote, failed, reaches}
use Rattle.il_ports.proofs.file_tape.FileTape.write.Goals as goal

pub returns-in-Ok-clause-did : goal.returns-in-Ok-clause-did
returns-in-Ok-clause-did g c = λ images.
    let v = c.self.inside in
    rw (← c.self.view_is)
    (wrote g.F.TapeFile.view images v.file c.store.new.file v.size v.access v.is_broken false v.faults v.faults _ c.args.n c.args.from.now
    (omega (arith, c.requires, ap (λ s. records_of_size s.size) c.self.view_is)) (search rules) (search rules) (c.self.invariant.clean c.if-self.false).synced c.store.ensures.answers.named _ _ refl c.in-Ok.ensures)

pub returns-in-Err-clause-did : goal.returns-in-Err-clause-did
returns-in-Err-clause-did g c = λ images.
    let v = c.self.inside in
    rw (← c.self.view_is)
    (failed g.F.TapeFile.view images v.file c.store.new.file v.size v.access v.is_broken c.eq-self-inside.result v.faults c.faulted-in-Err.new.faults _ c.args.n c.args.from.now
    (omega (arith, c.requires, ap (λ s. records_of_size s.size) c.self.view_is)) (search rules) (search rules) (c.self.invariant.clean c.if-self.false).synced c.store.ensures.answers.named _ _ c.faulted-in-Err.ensures.rose c.in-Err.ensures)

pub returns-in-Err-clause-size : goal.returns-in-Err-clause-size
returns-in-Err-clause-size g c =
    let v = c.self.inside in
    rw (← c.self.view_is)
    (λ sound b kept. reaches g.F.TapeFile.view None v.file c.store.new.file v.size v.access v.is_broken v.is_broken v.faults v.faults _ c.args.n c.args.from.now
    (omega (arith, c.requires, ap (λ s. records_of_size s.size) c.self.view_is)) (search rules) (search rules) (c.self.invariant.clean c.if-self.false).synced c.store.ensures.answers.named c.store.ensures.time b kept)
