use Rattle.std.proofs.Common.{subst}
use Rattle.std.specs.Prelude.{Ok}
use Rattle.il_ports.specs.Media.{DidInsert}
use Rattle.il_ports.specs.declared.medium.New.TheVariants as making
use Rattle.tape.proofs.Inserts.{works_on_image}
use Rattle.tape.proofs.images.work_in.Goals as goal

pub returns-in-Ok-Tape : goal.returns-in-Ok-Tape
returns-in-Ok-Tape g c =
    let v = g.M.Medium.view c.args.medium in
    let m = g.M.Medium.view c.insert.new.self in
    let did = subst (λ a. DidInsert c.args.name.now making.No v m (Ok a)) c.in-Ok-Tape.field-0-is c.in-Ok-Tape.ensures.did in
    works_on_image _ _ c.args.name.now v m (g.M.Medium.view c.work_on_tape-went.result.1.medium) (g.met.M.Medium.is_medium _) did c.work_on_tape-went.ensures
