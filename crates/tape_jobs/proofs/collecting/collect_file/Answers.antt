use Rattle.std.proofs.Common.{rules}
use Rattle.lif_dir.specs.Entries.{name_bytes}
use Rattle.tape_volumes.specs.Volumes.{content_in}
use Rattle.tape_jobs.proofs.Copies.{beside_fetch}
use Rattle.tape_jobs.proofs.Gathered.{collected_fault, collected_file, collected_refused, collected_unable}
use Rattle.tape_jobs.proofs.collecting.collect_file.Goals as goal

pub returns-in-Ok-add_copy-clause-collected : goal.returns-in-Ok-add_copy-clause-collected
returns-in-Ok-add_copy-clause-collected g c =
    let v = g.V.Volumes.seen in
    collected_file c.args.name.now c.args.files.now.items (v c.args.volumes.now).mounted (v c.fetch.new.self).mounted (content_in c.file.result) c.add_copy.new.files.items
    c.in-Ok.ensures.commanded.did (search rules) (search rules)

pub returns-in-Ok-add_copy-clause-beside : goal.returns-in-Ok-add_copy-clause-beside
returns-in-Ok-add_copy-clause-beside g c = beside_fetch _ _ (name_bytes c.args.name.now) c.in-Ok.ensures.commanded.beside

pub returns-in-Err-clause-collected : goal.returns-in-Err-clause-collected
returns-in-Err-clause-collected g c =
    let v = g.V.Volumes.seen in
    collected_unable c.args.name.now c.args.files.now.items (v c.args.volumes.now).mounted (v c.fetch.new.self).mounted c.add_copy.new.files.items c.in-Ok.ensures.commanded.did

pub returns-in-Err-clause-beside : goal.returns-in-Err-clause-beside
returns-in-Err-clause-beside g c = beside_fetch _ _ (name_bytes c.args.name.now) c.in-Ok.ensures.commanded.beside

pub returns-in-No-clause-collected : goal.returns-in-No-clause-collected
returns-in-No-clause-collected g c =
    let v = g.V.Volumes.seen in
    collected_refused c.args.name.now c.args.files.now.items (v c.args.volumes.now).mounted (v c.fetch.new.self).mounted c.in-No.code c.args.files.now.items c.in-No.ensures.commanded.did

pub returns-in-No-clause-beside : goal.returns-in-No-clause-beside
returns-in-No-clause-beside g c = beside_fetch _ _ (name_bytes c.args.name.now) c.in-No.ensures.commanded.beside

pub returns-in-FaultFrame-clause-collected : goal.returns-in-FaultFrame-clause-collected
returns-in-FaultFrame-clause-collected g c =
    let v = g.V.Volumes.seen in
    collected_fault c.args.name.now c.args.files.now.items (v c.args.volumes.now).mounted (v c.fetch.new.self).mounted c.fetch.result c.args.files.now.items (search rules) c.fetch.ensures.commanded.did

pub returns-in-FaultFrame-clause-beside : goal.returns-in-FaultFrame-clause-beside
returns-in-FaultFrame-clause-beside g c = beside_fetch _ _ (name_bytes c.args.name.now) c.fetch.ensures.commanded.beside
