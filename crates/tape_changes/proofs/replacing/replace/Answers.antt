use Rattle.std.proofs.Common.{rules}
use Rattle.tape_changes.proofs.Composed.{beside_changing, beside_listing}
use Rattle.tape_changes.proofs.replacing.replace.Goals as goal

pub returns-then-ne-clause-beside : goal.returns-then-ne-clause-beside
returns-then-ne-clause-beside g c =
    beside_listing c.args.file.now c.list-listed.result (g.V.Volumes.seen c.args.volumes.now) (g.V.Volumes.seen c.list-listed.new.self) c.list-listed.ensures.did c.list-listed.ensures.beside

pub returns-in-Ok-clause-beside : goal.returns-in-Ok-clause-beside
returns-in-Ok-clause-beside g c =
    beside_changing c.args.file.now c.list-listed.result (g.V.Volumes.seen c.args.volumes.now) (g.V.Volumes.seen c.list-listed.new.self) c.list-listed.ensures.did c.list-listed.ensures.beside
    (search rules) c.kind_listed.result c.kind_listed.ensures _ c.in-Ok.ensures.command (g.V.Volumes.seen c.change-reply.new.self) c.change-reply.ensures.beside

pub returns-in-Err-clause-beside : goal.returns-in-Err-clause-beside
returns-in-Err-clause-beside g c =
    beside_listing c.args.file.now c.list-listed.result (g.V.Volumes.seen c.args.volumes.now) (g.V.Volumes.seen c.list-listed.new.self) c.list-listed.ensures.did c.list-listed.ensures.beside
