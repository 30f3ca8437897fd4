use Rattle.std.proofs.Common.{List, sym, subst, rules}
use Rattle.tape_jobs.specs.Out.{CopyDid}
use Rattle.tape_jobs.specs.declared.copying.Taken.{Taken}
use Rattle.tape_volumes.specs.declared.went.Went.TheVariants as went
use Rattle.tape_jobs.proofs.Copies.{copy_unable}
use Rattle.tape_jobs.proofs.copying.copy_listed.Goals as goal

pub returns-then-not-put_names-clause-copies : goal.returns-then-not-put_names-clause-copies
returns-then-not-put_names-clause-copies g c =
    let s = (g.V.Volumes.seen c.args.volumes.now).mounted in
    let f = g.F.Folder.view c.args.folder.now in
    subst (λ (ends : List Taken). CopyDid went.OutOfMemory c.args.asked.now ends s s f f) (sym c.requires.empty) (copy_unable c.args.asked.now s f c.requires.closed (c.put_names.ensures.lacks (search rules)))
