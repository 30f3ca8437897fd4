use Rattle.std.proofs.Common.{Some, refl}
use Rattle.tape_folder.proofs.Steps.{ends_after, ends_unfilled}
use Rattle.tape_folder.proofs.keeping.use_part.Goals as goal

pub returns-in-Ok : goal.returns-in-Ok
returns-in-Ok g c =
    let v = g.F.Folder.view in
    record {
      text = (v c.fill_part.new.folder).written;
      text_is = c.in-Ok.ensures.answer_is.1;
      ends = ends_after c.args.name.now _ (v c.args.folder.now) (v c.fill_part.new.folder) (v c.name_part.new.folder) c.name_part.result (g.met.F.Folder.is_folder c.args.folder.now) c.requires.plain c.fill_part.ensures.part c.fill_part.ensures.steps c.name_part.ensures;
    }

pub returns-in-Err : goal.returns-in-Err
returns-in-Err g c =
    let v = g.F.Folder.view in
    record {
      text = Some c.args.bytes.now;
      text_is = λ known empty. refl;
      ends = ends_unfilled c.args.name.now _ (v c.args.folder.now) (v c.fill_part.new.folder) (v c.close_part.new.folder) c.fill_part.ensures.part c.fill_part.ensures.steps c.in-Err.ensures.answer_is c.close_part.ensures;
    }
