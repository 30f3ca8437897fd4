use Rattle.tape_folder.proofs.Steps.{kept_since}
use Rattle.tape_folder.proofs.keeping.keep.Goals as goal

pub returns-in-Ok-File : goal.returns-in-Ok-File
returns-in-Ok-File g c =
    let v = g.F.Folder.view in
    kept_since c.args.name.now c.args.bytes.now (v c.args.folder.now) (v c.look.new.self) (v c.compare.new.folder) (g.met.F.Folder.is_folder c.args.folder.now) c.look.ensures.goes_on c.compare.result c.compare.ensures
