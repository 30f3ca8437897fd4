use Rattle.std.proofs.Common.{refl}
use Rattle.tape_volumes.proofs.Said.{as_told, told_parts}
use Rattle.tape_volumes.proofs.messages.write_told.Goals as goal

pub returns-clause-parts : goal.returns-clause-parts
returns-clause-parts g c =
    as_told _ _ c.write_parts.result _ _ (told_parts c.args.subject.now c.args.cause.now c.args.advice.now c.as_bytes.result.now c.args.cause.now c.args.advice.now c.as_bytes.ensures.value refl refl)
    c.write_parts.ensures.parts
