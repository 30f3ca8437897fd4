use Rattle.std.specs.Prelude.{Result, Ok, Err, OnErr}
use Rattle.il_ports.proofs.InsertFaults.{insert_since}
use Rattle.il_ports.proofs.file_medium.find.Goals as goal

on_err : {T E : Type 0} {P Q : Type 0} (answer : Result T E) → (P → Q) → OnErr answer P → OnErr answer Q
on_err (Ok x) then on = on
on_err (Err x) then on = then on

pub returns-in-Missing-clause-fails : goal.returns-in-Missing-clause-fails
returns-in-Missing-clause-fails g c =
    on_err c.make_file.result
    (insert_since g.F.TapeFile.view (g.I.Images.view c.args.images.now) (g.I.Images.view c.look.new.self) (g.I.Images.view c.make_file.new.images) c.look.ensures.goes_on _ _ _ c.look.ensures.unmade) c.make_file.ensures.fails

pub returns-in-File-clause-fails : goal.returns-in-File-clause-fails
returns-in-File-clause-fails g c =
    on_err c.find_file.result
    (insert_since g.F.TapeFile.view (g.I.Images.view c.args.images.now) (g.I.Images.view c.look.new.self) (g.I.Images.view c.find_file.new.images) c.look.ensures.goes_on _ _ _ c.look.ensures.unmade) c.find_file.ensures.fails
