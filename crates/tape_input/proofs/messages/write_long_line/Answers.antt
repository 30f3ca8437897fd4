use Rattle.std.proofs.Common.{◌∙◌, List, ℕ, subst}
use Rattle.il_ports.specs.Writing.{WritesAll}
use Rattle.tape_input.proofs.Lines.{long_line_parts}
use Rattle.tape_input.proofs.messages.write_long_line.Goals as goal

pub returns-clause-parts : goal.returns-clause-parts
returns-clause-parts g c =
    subst (λ (text : List ℕ). WritesAll (g.E.Sink.written c.args.to.now) (g.E.Sink.written c.write_parts.new.to) text c.write_parts.result)
    (long_line_parts c.args.name.now c.args.number c.as_bytes.result.now c.as_bytes-2.result.now c.as_bytes.ensures.value (c.as_bytes-2.ensures.value ∙ c.format-digits.ensures.text)) c.write_parts.ensures.parts
