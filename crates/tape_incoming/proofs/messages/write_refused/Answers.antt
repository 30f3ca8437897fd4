use Rattle.std.proofs.Common.{rules, List, ℕ, subst, sym}
use Rattle.std.specs.List.{flat_map}
use Rattle.std.proofs.lemmas.List.Folds.{flat_map-map}
use Rattle.tape_incoming.specs.Incoming.{refused_file}
use Rattle.tape_incoming.specs.Messages.{refused_line}
use Rattle.tape_volumes.specs.Messages.{WritesMessage}
use Rattle.tape_incoming.proofs.messages.write_refused.Goals as goal

pub returns : goal.returns
returns g c =
    let lines : WritesMessage (flat_map (λ file. refused_line (refused_file file)) c.args.refused.now) (g.E.Sink.written c.args.to.now) (g.E.Sink.written c.write_lines.new.to) (g.E.Sink.faults c.args.to.now) (g.E.Sink.faults c.write_lines.new.to) = search rules in
    subst (λ (text : List ℕ). WritesMessage text (g.E.Sink.written c.args.to.now) (g.E.Sink.written c.write_lines.new.to) (g.E.Sink.faults c.args.to.now) (g.E.Sink.faults c.write_lines.new.to))
    (sym (flat_map-map refused_line refused_file c.args.refused.now)) lines
