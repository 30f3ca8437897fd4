use Rattle.tape_changes.proofs.Composed.{replaced_size}
use Rattle.tape_changes.proofs.replacing.ReplacingVolumeJob.work.Goals as goal

pub returns-clause-size : goal.returns-clause-size
returns-clause-size g c = replaced_size _ _ _ _ _ _ _ _ c.replace.ensures.did
