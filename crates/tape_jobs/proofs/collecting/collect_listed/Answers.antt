use Rattle.std.proofs.Common.{◌∙◌, refl}
use Rattle.tape_jobs.proofs.Copies.{beside_none}
use Rattle.tape_jobs.proofs.Gathered.{collects_named, collects_unable}
use Rattle.tape_jobs.proofs.collecting.collect_listed.Goals as goal

pub returns-in-Ok-clause-collects : goal.returns-in-Ok-clause-collects
returns-in-Ok-clause-collects g c =
    let v = g.V.Volumes.seen in
    collects_named c.collect_files.result c.deref.result.now c.collect_files.new.files.items (v c.args.volumes.now).mounted (v c.collect_files.new.volumes).mounted (λ u here. c.deref.ensures.value ∙ c.in-Ok.ensures.names u here) (c.in-Ok.ensures.exact refl) c.collect_files.ensures.collected

pub returns-in-Err-clause-collects : goal.returns-in-Err-clause-collects
returns-in-Err-clause-collects g c = collects_unable c.args.files.now.items (g.V.Volumes.seen c.args.volumes.now).mounted

pub returns-in-Err-clause-beside : goal.returns-in-Err-clause-beside
returns-in-Err-clause-beside g c = beside_none _ (g.V.Volumes.seen c.args.volumes.now)
