use Rattle.std.proofs.Common.{List, [], ℕ, subst}
use Rattle.il_ports.specs.Writing.{WritesAll}
use Rattle.tape_volumes.specs.Endings.{told_line}
use Rattle.tape_incoming.proofs.messages.write_one.Goals as goal

pub returns-clause-parts : goal.returns-clause-parts
returns-clause-parts g c =
    subst (λ (cause : List ℕ). WritesAll (g.E.Sink.written c.args.to.now) (g.E.Sink.written c.write_line.new.to) (told_line c.args.file.now.path.now cause []) c.write_line.result)
    c.not_stored_cause.ensures c.write_line.ensures.parts
