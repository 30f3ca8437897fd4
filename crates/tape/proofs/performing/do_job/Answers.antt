use Rattle.std.proofs.Common.{Some, ap, subst, sym}
use Rattle.tape.specs.Copies.{folder_sight}
use Rattle.tape.specs.Images.{sight}
use Rattle.tape.specs.Incoming.{host_sight}
use Rattle.tape.specs.Lent.{drives_for, makers_for}
use Rattle.tape.specs.New.{maker_sight}
use Rattle.tape.specs.Texts.{input_of}
use Rattle.tape_drives.specs.Lending.{Uses}
use Rattle.tape_words.specs.Asked.{job_asked}
use Rattle.tape.proofs.Performed.{as_asked}
use Rattle.tape.proofs.performing.do_job.Goals as goal

pub returns-in-Diff-clause-done : goal.returns-in-Diff-clause-done
returns-in-Diff-clause-done g c =
    as_asked (sight g.M.Medium.view g.M.Medium.refuses (g.D.Drives.lent c.args.drives.now) (g.D.Drives.lent c.args.drives.now)) _ _
    (folder_sight g.F.Folder.view (g.G.Folders.lent c.args.folders.now) (g.G.Folders.lent c.args.folders.now))
    (maker_sight g.O.Medium.view (g.W.Makers.making c.args.makers.now) (g.W.Makers.making c.args.makers.now)) (host_sight g.H.TapeFile.view g.I.Images.view c.args.host.now c.args.host.now) (input_of (g.S.Source.left c.args.input.now) (g.S.Source.faults c.args.input.now)) (input_of (g.S.Source.left c.args.input.now) (g.S.Source.faults c.args.input.now)) _ _ _ _ _ (ap job_asked c.in-Diff.is) c.compare_images.ensures.compared

pub returns-in-Rename-clause-drives : goal.returns-in-Rename-clause-drives
returns-in-Rename-clause-drives g c =
    subst (λ wanted. Uses (drives_for (Some wanted)) (g.D.Drives.lent c.args.drives.now) (g.D.Drives.lent c.rename_file.new.drives))
    (sym (ap job_asked c.in-Rename.is)) c.rename_file.ensures.drives

pub returns-in-New-clause-makers : goal.returns-in-New-clause-makers
returns-in-New-clause-makers g c =
    subst (λ wanted. Uses (makers_for (Some wanted)) (g.W.Makers.making c.args.makers.now).lending (g.W.Makers.making c.new_image.new.makers).lending)
    (sym (ap job_asked c.in-New.is)) c.new_image.ensures.drives
