use Rattle.tape_volumes.specs.Endings.{told_line}
use Rattle.tape_volumes.proofs.Said.{as_told}
use Rattle.tape_volumes.proofs.messages.write_ending_of.Goals as goal

pub returns-clause-parts : goal.returns-clause-parts
returns-clause-parts g c = as_told _ _ c.write_told.result _ _ (λ i. told_line c.args.subject.now (c.cause.ensures i) (c.advice.ensures i)) c.write_told.ensures.parts
