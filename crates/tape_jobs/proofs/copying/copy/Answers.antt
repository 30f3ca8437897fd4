use Rattle.std.proofs.Common.{List, inr, sym, subst, rules}
use Rattle.tape_jobs.specs.Out.{CopiedSo}
use Rattle.tape_jobs.specs.declared.copying.Taken.{Taken}
use Rattle.tape_volumes.specs.declared.went.Went.TheVariants as went
use Rattle.tape_jobs.proofs.Copies.{beside_listed, out_fault, out_listed, out_refused}
use Rattle.tape_jobs.proofs.Rooms.{beside_still}
use Rattle.tape_jobs.proofs.copying.copy.Goals as goal

pub returns-in-Ok-list-clause-copies : goal.returns-in-Ok-list-clause-copies
returns-in-Ok-list-clause-copies g c =
    let v = g.V.Volumes.seen in
    let f = g.F.Folder.view in
    inr (out_listed c.copy_listed.result c.args.asked.now c.copy_listed.new.ends.items (v c.args.volumes.now).mounted (v c.list.new.self).mounted (v c.copy_listed.new.volumes).mounted
    (f c.args.folder.now) (f c.copy_listed.new.folder) c.requires.closed c.in-Ok-list.ensures.did c.copy_listed.ensures.copies)

pub returns-in-Ok-list-clause-beside : goal.returns-in-Ok-list-clause-beside
returns-in-Ok-list-clause-beside g c =
    let v = g.V.Volumes.seen in
    beside_listed (v c.args.volumes.now) (v c.list.new.self) (v c.copy_listed.new.volumes) c.in-Ok-list.ensures.did c.in-Ok-list.ensures.beside c.copy_listed.ensures.beside

pub returns-in-No-clause-copies : goal.returns-in-No-clause-copies
returns-in-No-clause-copies g c =
    let s = (g.V.Volumes.seen c.args.volumes.now).mounted in
    let t = (g.V.Volumes.seen c.list.new.self).mounted in
    let f = g.F.Folder.view c.args.folder.now in
    inr (subst (λ (ends : List Taken). CopiedSo (went.Refused c.in-No.code) c.args.asked.now ends s t f f) (sym c.take_room.ensures.empty) (out_refused c.in-No.code c.args.asked.now s t f c.requires.closed c.in-No.ensures.did))

pub returns-in-FaultFrame-clause-copies : goal.returns-in-FaultFrame-clause-copies
returns-in-FaultFrame-clause-copies g c =
    let s = (g.V.Volumes.seen c.args.volumes.now).mounted in
    let t = (g.V.Volumes.seen c.list.new.self).mounted in
    let f = g.F.Folder.view c.args.folder.now in
    inr (subst (λ (ends : List Taken). CopiedSo went.Fault c.args.asked.now ends s t f f) (sym c.take_room.ensures.empty) (out_fault c.list.result c.args.asked.now s t f c.requires.closed (search rules) c.list.ensures.did))

pub returns-in_default-clause-beside : goal.returns-in_default-clause-beside
returns-in_default-clause-beside g c = beside_still (g.V.Volumes.seen c.args.volumes.now) (g.met.V.Volumes.is_mounted c.args.volumes.now c.requires.valid)
