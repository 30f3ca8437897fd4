use Rattle.tape_changes.proofs.Joined.{size_kept}
use Rattle.tape_changes.proofs.changing.ChangingVolumeJob.work.Goals as goal

pub returns-clause-size : goal.returns-clause-size
returns-clause-size g c = size_kept _ _ _ _ _ _ _ _ c.make_changes.ensures.did.taken
