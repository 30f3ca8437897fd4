use Rattle.std.proofs.Common.{rules}
use Rattle.tape_incoming.specs.Incoming.{refused_file}
use Rattle.tape_incoming.specs.Messages.{refused_line}
use Rattle.tape_volumes.proofs.Fronts.{front_among, front_of, next_among}
use Rattle.tape_incoming.proofs.messages.write_lines.Goals as goal

pub returns-in_err-write_one-clause-parts : goal.returns-in_err-write_one-clause-parts
returns-in_err-write_one-clause-parts g c =
    front_of _ _ _ c.from_residual.result c.from_residual.ensures.0
    (front_among (λ file. refused_line (refused_file file)) c.args.refused.now c.lines.file-index _ _ _ _ c.lines-test.true c.lines.invariant.written c.in_err-write_one.ensures.parts)

pub lines-preserved : goal.lines-preserved
lines-preserved g c = record {
  written = next_among (λ file. refused_line (refused_file file)) c.args.refused.now c.lines.file-index _ _ _ _ c.lines-test.true c.lines.invariant.written c.in_ok-write_one.ensures.parts;
  faults = search rules;
}
