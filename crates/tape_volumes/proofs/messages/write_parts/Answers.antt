use Rattle.tape_volumes.proofs.Fronts.{front_among, front_of}
use Rattle.tape_volumes.proofs.messages.write_parts.Goals as goal

pub returns-in_err-write_all-clause-parts : goal.returns-in_err-write_all-clause-parts
returns-in_err-write_all-clause-parts g c =
    front_of _ _ _ c.from_residual.result c.from_residual.ensures.0
    (front_among (λ part. part.now) c.args.parts.now c.parts.part-index _ _ _ _ c.parts-test.true c.parts.invariant.written c.in_err-write_all.ensures.bytes)
