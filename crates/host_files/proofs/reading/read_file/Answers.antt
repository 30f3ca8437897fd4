use Rattle.std.proofs.Common.{subst}
use Rattle.host_files.specs.HostFiles.{FoundRead}
use Rattle.host_files.proofs.Whole.{content_found, larger_found}
use Rattle.host_files.proofs.reading.read_file.Goals as goal

pub returns-in-Ok-File-clause-content : goal.returns-in-Ok-File-clause-content
returns-in-Ok-File-clause-content g c =
    content_found g.F.TapeFile.view g.I.Images.view c.args.name.now c.args.most c.look.new.self c.read_found.new.files c.read_found.result c.read_found.ensures

pub returns-in-Ok-File-clause-larger : goal.returns-in-Ok-File-clause-larger
returns-in-Ok-File-clause-larger g c = λ too_large.
    larger_found g.F.TapeFile.view g.I.Images.view c.args.name.now c.args.most c.look.new.self c.read_found.new.files
    (subst (λ answer. FoundRead g.F.TapeFile.view g.I.Images.view c.args.name.now c.args.most c.look.new.self c.read_found.new.files answer) too_large c.read_found.ensures)
