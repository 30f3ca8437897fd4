use Rattle.std.proofs.Common.{subst}
use Rattle.il_ports.specs.Files.{Synced}
use Rattle.il_ports.specs.Storing.{Put}
use Rattle.il_ports.proofs.FileCalls.{stored, stored_not, unsynced}
use Rattle.il_ports.proofs.file_tape.store.Goals as goal

pub returns-in-Ok-Ok : goal.returns-in-Ok-Ok
returns-in-Ok-Ok g c =
    stored c.args.from c.args.bytes.now _ _ _ _ _
    (subst (Put c.args.from c.args.bytes.now (g.F.TapeFile.view c.args.file.now) (g.F.TapeFile.view c.put-wrote.new.file)) c.in-Ok-Ok.is-1 c.put-wrote.ensures)
    (subst (Synced (g.F.TapeFile.view c.put-wrote.new.file) (g.F.TapeFile.view c.sync.new.self)) c.in-Ok-Ok.is-0 c.sync.ensures)

pub returns-in-Ok-Err : goal.returns-in-Ok-Err
returns-in-Ok-Err g c =
    stored_not c.args.from c.args.bytes.now _ _ _ _ _
    (subst (Put c.args.from c.args.bytes.now (g.F.TapeFile.view c.args.file.now) (g.F.TapeFile.view c.put-wrote.new.file)) c.in-Ok-Err.is-1 c.put-wrote.ensures)
    (subst (Synced (g.F.TapeFile.view c.put-wrote.new.file) (g.F.TapeFile.view c.sync.new.self)) c.in-Ok-Err.is-0 c.sync.ensures)

pub returns-in-Err-default : goal.returns-in-Err-default
returns-in-Err-default g c =
    unsynced c.args.from c.args.bytes.now _ _ _ c.put-wrote.result _ c.put-wrote.ensures
    (subst (Synced (g.F.TapeFile.view c.put-wrote.new.file) (g.F.TapeFile.view c.sync.new.self)) c.in-Err-default.is-0 c.sync.ensures)
