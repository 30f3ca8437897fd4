use Rattle.lif_dir.specs.Entries.{name_bytes}
use Rattle.lif_model.specs.Apply.{Fetch}
use Rattle.tape.proofs.Mounts.{did_mounted, kept_ok, read_mounted}
use Rattle.tape.proofs.mounted.MountedVolumes.fetch.Goals as goal

pub returns-clause-commanded : goal.returns-clause-commanded
returns-clause-commanded g c =
    let v = g.P.Performer.view c.args.self.now.host in
    let w = g.P.Performer.view c.fetch.new.self in
    let did = c.fetch.ensures.performed in
    did_mounted (Fetch (name_bytes c.args.name.now)) c.fetch.result v w did c.requires.valid.1 (kept_ok (Fetch (name_bytes c.args.name.now)) v.state.kept c.fetch.result _ did.step.directory.kept)

pub returns-clause-read : goal.returns-clause-read
returns-clause-read g c = λ ok. read_mounted (g.P.Performer.view c.args.self.now.host) (name_bytes c.args.name.now) (g.P.Performer.file c.fetch.new.self) (c.fetch.ensures.read ok)
