use Rattle.std.proofs.Common.{rules}
use Rattle.lif_dir.specs.Entries.{name_bytes}
use Rattle.tape_volumes.specs.Volumes.{content_in}
use Rattle.tape_jobs.proofs.Copies.{beside_fetch, took_fault, took_file, took_refused}
use Rattle.tape_jobs.proofs.copying.take_file.Goals as goal

pub returns-in-Ok-clause-copied : goal.returns-in-Ok-clause-copied
returns-in-Ok-clause-copied g c =
    let v = g.V.Volumes.seen in
    let f = g.F.Folder.view in
    took_file c.args.name.now (v c.args.volumes.now).mounted (v c.fetch.new.self).mounted (content_in c.file.result) c.keep_file.result (f c.args.folder.now) (f c.keep_file.new.folder)
    c.in-Ok.ensures.commanded.did (search rules) c.keep_file.ensures.plain c.keep_file.ensures.kept

pub returns-in-Ok-clause-beside : goal.returns-in-Ok-clause-beside
returns-in-Ok-clause-beside g c = beside_fetch _ _ (name_bytes c.args.name.now) c.in-Ok.ensures.commanded.beside

pub returns-in-No-clause-copied : goal.returns-in-No-clause-copied
returns-in-No-clause-copied g c =
    let v = g.V.Volumes.seen in
    took_refused c.args.name.now (v c.args.volumes.now).mounted (v c.fetch.new.self).mounted c.in-No.code (g.F.Folder.view c.args.folder.now) c.requires.closed c.in-No.ensures.commanded.did

pub returns-in-No-clause-beside : goal.returns-in-No-clause-beside
returns-in-No-clause-beside g c = beside_fetch _ _ (name_bytes c.args.name.now) c.in-No.ensures.commanded.beside

pub returns-in-FaultFrame-clause-copied : goal.returns-in-FaultFrame-clause-copied
returns-in-FaultFrame-clause-copied g c =
    let v = g.V.Volumes.seen in
    took_fault c.args.name.now (v c.args.volumes.now).mounted (v c.fetch.new.self).mounted c.fetch.result (g.F.Folder.view c.args.folder.now) c.requires.closed (search rules) c.fetch.ensures.commanded.did

pub returns-in-FaultFrame-clause-beside : goal.returns-in-FaultFrame-clause-beside
returns-in-FaultFrame-clause-beside g c = beside_fetch _ _ (name_bytes c.args.name.now) c.fetch.ensures.commanded.beside
