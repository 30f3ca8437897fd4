use Rattle.std.proofs.Common.{◌∙◌, List, sym, subst}
use Rattle.tape_jobs.specs.Out.{Copied, has_fault}
use Rattle.tape_jobs.specs.declared.copying.Taken.{Taken}
use Rattle.tape_jobs.proofs.Copies.{copied_around, copied_quiet}
use Rattle.tape_jobs.proofs.copying.copy_files.Goals as goal

pub returns-then-is_err-clause-copied : goal.returns-then-is_err-clause-copied
returns-then-is_err-clause-copied g c =
    let v = g.V.Volumes.seen c.args.volumes.now in
    let f = g.F.Folder.view in
    subst (λ (ends : List Taken). Copied (has_fault ends) ends v.mounted v.mounted (f c.args.folder.now) (f c.prepare.new.self)) (sym c.requires.empty)
    (copied_quiet v.mounted _ _ (g.met.F.Folder.is_folder c.args.folder.now) (c.prepare.ensures.part.part ∙ c.requires.closed) c.prepare.ensures.goes_on)

pub returns-then-is_err-2-clause-copied : goal.returns-then-is_err-2-clause-copied
returns-then-is_err-2-clause-copied g c =
    let v = g.V.Volumes.seen in
    let f = g.F.Folder.view in
    let closed = c.take_files.ensures.copied.keeps.closed in
    copied_around _ _ (v c.args.volumes.now).mounted (v c.take_files.new.volumes).mounted (f c.args.folder.now) (f c.prepare.new.self) (f c.take_files.new.folder) (f c.settle.new.self)
    (copied_quiet _ _ _ (g.met.F.Folder.is_folder c.args.folder.now) (c.prepare.ensures.part.part ∙ c.requires.closed) c.prepare.ensures.goes_on) c.take_files.ensures.copied
    (copied_quiet _ _ _ (g.met.F.Folder.is_folder c.take_files.new.folder) (c.settle.ensures.part.part ∙ closed) c.settle.ensures.goes_on)

pub returns-clause-copied : goal.returns-clause-copied
returns-clause-copied g c =
    let v = g.V.Volumes.seen in
    let f = g.F.Folder.view in
    let closed = c.take_files.ensures.copied.keeps.closed in
    copied_around _ _ (v c.args.volumes.now).mounted (v c.take_files.new.volumes).mounted (f c.args.folder.now) (f c.prepare.new.self) (f c.take_files.new.folder) (f c.settle.new.self)
    (copied_quiet _ _ _ (g.met.F.Folder.is_folder c.args.folder.now) (c.prepare.ensures.part.part ∙ c.requires.closed) c.prepare.ensures.goes_on) c.take_files.ensures.copied
    (copied_quiet _ _ _ (g.met.F.Folder.is_folder c.take_files.new.folder) (c.settle.ensures.part.part ∙ closed) c.settle.ensures.goes_on)
