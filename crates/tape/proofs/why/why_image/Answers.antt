use Rattle.std.proofs.Common.{inr, subst}
use Rattle.tape_volumes.specs.Outputs.{written}
use Rattle.tape.specs.Whys.{TellsWhy}
use Rattle.tape.proofs.why.why_image.Goals as goal

pub returns-in-Ok-clause-explained : goal.returns-in-Ok-clause-explained
returns-in-Ok-clause-explained g c =
    let old = written (g.K.Sink.written c.args.out.now) (g.K.Sink.faults c.args.out.now) (g.E.Sink.written c.args.error.now) (g.E.Sink.faults c.args.error.now) in
    let now = written (g.K.Sink.written c.tell_why.new.out) (g.K.Sink.faults c.tell_why.new.out) (g.E.Sink.written c.tell_why.new.error) (g.E.Sink.faults c.tell_why.new.error) in
    inr (c.in-Ok.bytes.items, c.in-Ok.ensures.read, subst (λ bytes. TellsWhy bytes c.tell_why.result old now) c.deref.ensures.value c.tell_why.ensures)
