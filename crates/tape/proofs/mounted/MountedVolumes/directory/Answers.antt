use Rattle.tape.proofs.Mounts.{kept_directory}
use Rattle.tape.proofs.mounted.MountedVolumes.directory.Goals as goal

pub returns-clause-known : goal.returns-clause-known
returns-clause-known g c = kept_directory (g.P.Performer.view c.args.self.now.host) c.directory.result c.directory.ensures.told
