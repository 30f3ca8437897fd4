use Rattle.std.proofs.Common.{rules}
use Rattle.tape_jobs.proofs.Copies.{beside_listed}
use Rattle.tape_jobs.proofs.Gathered.{collects_fault, collects_listed, collects_refused}
use Rattle.tape_jobs.proofs.collecting.collect.Goals as goal

pub returns-in-Ok-clause-collects : goal.returns-in-Ok-clause-collects
returns-in-Ok-clause-collects g c =
    let v = g.V.Volumes.seen in
    collects_listed c.collect_listed.result c.collect_listed.new.files.items (v c.args.volumes.now).mounted (v c.list.new.self).mounted (v c.collect_listed.new.volumes).mounted c.in-Ok.ensures.did c.collect_listed.ensures.collects

pub returns-in-Ok-clause-beside : goal.returns-in-Ok-clause-beside
returns-in-Ok-clause-beside g c =
    let v = g.V.Volumes.seen in
    beside_listed (v c.args.volumes.now) (v c.list.new.self) (v c.collect_listed.new.volumes) c.in-Ok.ensures.did c.in-Ok.ensures.beside c.collect_listed.ensures.beside

pub returns-in-No-clause-collects : goal.returns-in-No-clause-collects
returns-in-No-clause-collects g c =
    let v = g.V.Volumes.seen in
    collects_refused c.in-No.code c.args.files.now.items (v c.args.volumes.now).mounted (v c.list.new.self).mounted c.in-No.ensures.did

pub returns-in-FaultFrame-clause-collects : goal.returns-in-FaultFrame-clause-collects
returns-in-FaultFrame-clause-collects g c =
    let v = g.V.Volumes.seen in
    collects_fault c.list.result c.args.files.now.items (v c.args.volumes.now).mounted (v c.list.new.self).mounted (search rules) c.list.ensures.did
