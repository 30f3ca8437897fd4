use Rattle.std.proofs.Common.{arith, rules, refl, ap}
use Rattle.il_ports.specs.Sizes.{records_of_size}
use Rattle.il_ports.proofs.FileTapes.{did_read}
use Rattle.il_ports.proofs.file_tape.FileTape.read.Goals as goal

pub returns-in-Ok-clause-did : goal.returns-in-Ok-clause-did
returns-in-Ok-clause-did g c = λ images.
    let v = c.self.inside in
    rw (← c.self.view_is)
    (did_read g.F.TapeFile.view images v.file c.fetch.new.file v.size v.access v.is_broken v.is_broken v.faults v.faults _ c.args.n c.fetch.new.into
    (omega (arith, c.requires, ap (λ s. records_of_size s.size) c.self.view_is)) (search rules) (search rules) (c.self.invariant.clean c.if-self.false).synced c.fetch.ensures.answers.named _ refl c.fetch.ensures.rests c.in-Ok.ensures.fills)
