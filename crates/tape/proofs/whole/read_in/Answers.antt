use Rattle.std.proofs.Common.{subst}
use Rattle.std.specs.Prelude.{None, Ok}
use Rattle.il_ports.specs.Media.{DidInsert}
use Rattle.il_ports.specs.declared.medium.New.TheVariants as making
use Rattle.tape.proofs.Wholes.{not_read, read_whole}
use Rattle.tape.proofs.whole.read_in.Goals as goal

pub returns-in-Ok : goal.returns-in-Ok
returns-in-Ok g c =
    let v = g.M.Medium.view c.args.medium.now in
    let m = g.M.Medium.view c.insert.new.self in
    let did = subst (λ a. DidInsert c.args.name.now making.No v m (Ok a)) c.in-Ok-Tape.field-0-is c.in-Ok-Tape.ensures.did in
    read_whole c.args.name.now c.in-Ok.bytes.items v m (g.M.Medium.view c.read_tape.new.medium) did c.in-Ok.ensures

pub returns-in-Err-read_tape : goal.returns-in-Err-read_tape
returns-in-Err-read_tape g c =
    let v = g.M.Medium.view c.args.medium.now in
    let m = g.M.Medium.view c.insert.new.self in
    let did = subst (λ a. DidInsert c.args.name.now making.No v m (Ok a)) c.in-Ok-Tape.field-0-is c.in-Ok-Tape.ensures.did in
    not_read c.args.name.now v m (g.M.Medium.view c.read_tape.new.medium) did (g.M.Medium.refuses c.args.medium.now c.read_tape.new.medium c.args.name.now None) c.in-Err-read_tape.went c.in-Err-read_tape.ensures
