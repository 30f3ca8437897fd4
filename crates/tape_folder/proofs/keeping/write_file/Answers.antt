use Rattle.tape_folder.proofs.Steps.{kept_by_part}
use Rattle.tape_folder.proofs.keeping.write_file.Goals as goal

pub returns-in-Ok : goal.returns-in-Ok
returns-in-Ok g c =
    let v = g.F.Folder.view in
    kept_by_part c.args.name.now c.args.bytes.now (v c.args.folder.now) (v c.open_part.new.folder) (v c.use_part.new.folder) (g.met.F.Folder.is_folder c.args.folder.now)
    c.requires.plain c.requires.free c.in-Ok.ensures c.use_part.result c.use_part.ensures
