use Rattle.std.proofs.Common.{rules}
use Rattle.tape_jobs.specs.CopyMessages.{end_message}
use Rattle.tape_volumes.proofs.Fronts.{front_among, front_of, next_among}
use Rattle.tape_jobs.proofs.copy_messages.write_ends.Goals as goal

pub returns-in_err-write_end-clause-parts : goal.returns-in_err-write_end-clause-parts
returns-in_err-write_end-clause-parts g c =
    front_of _ _ _ c.from_residual.result c.from_residual.ensures.0
    (front_among (end_message c.args.image.now) c.args.ends.now c.ends.taken-index _ _ _ _ c.ends-test.true c.ends.invariant.written c.in_err-write_end.ensures.parts)

pub ends-preserved : goal.ends-preserved
ends-preserved g c = record {
  written = next_among (end_message c.args.image.now) c.args.ends.now c.ends.taken-index _ _ _ _ c.ends-test.true c.ends.invariant.written c.in_ok-write_end.ensures.parts;
  faults = search rules;
  room = search rules;
}
