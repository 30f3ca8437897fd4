use Rattle.tape_jobs.proofs.Rooms.{beside_still}
use Rattle.tape_jobs.proofs.listing.dir.Goals as goal

pub returns-in_default-clause-beside : goal.returns-in_default-clause-beside
returns-in_default-clause-beside g c = beside_still (g.V.Volumes.seen c.args.volumes.now) (g.met.V.Volumes.is_mounted c.args.volumes.now c.requires.valid)
