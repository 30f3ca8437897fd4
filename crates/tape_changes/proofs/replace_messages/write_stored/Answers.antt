use Rattle.std.proofs.Common.{◌∙◌, ap, codes, subst, sym}
use Rattle.il_ports.specs.Writing.{WritesAll}
use Rattle.tape_volumes.specs.Endings.{of_image, told_line}
use Rattle.tape_changes.specs.ReplaceMessages.{stored_message}
use Rattle.tape_changes.proofs.replace_messages.write_stored.Goals as goal

pub returns-in-OtherType-clause-parts : goal.returns-in-OtherType-clause-parts
returns-in-OtherType-clause-parts g c =
    let image = c.args.image.now in
    subst (λ text. WritesAll (g.K.Sink.written c.args.to.now) (g.K.Sink.written c.write_told_of.new.to) text c.write_told_of.result)
    ((λ i. told_line (of_image image (c.as_bytes-name.ensures.value i)) (c.other_type.ensures i) (codes ": purge it first"))
    ∙ ap (stored_message image c.args.text.now c.args.file.now) (sym c.in-OtherType.is)) c.write_told_of.ensures.parts
