use Rattle.std.proofs.Common.{◌≡◌, subst, sym}
use Rattle.il_ports.specs.FileDrives.{drive_view, IsFoundFile}
use Rattle.il_ports.specs.declared.file_medium.Found.TheVariants as found
use Rattle.il_ports.proofs.FoundFiles.{did_insert, is_new}
use Rattle.il_ports.proofs.file_medium.FileMediumMedium.insert.Goals as goal

pub returns-in-Ok-Tape-clause-did : goal.returns-in-Ok-Tape-clause-did
returns-in-Ok-Tape-clause-did g c =
    rw (← c.self.view_is, c.new.ensures, c.in-Ok-Tape.ensures.goes_on.shelf)
    (did_insert g.F.TapeFile.view c.args.name.now c.args.new (g.I.Images.view c.self.inside.images).shelf c.self.inside.faults c.in-Ok-Tape.file c.in-Ok-Tape.size c.in-Ok-Tape.access c.self.inside.tape
    (subst (λ s. (drive_view g.F.TapeFile.view (g.I.Images.view s.images).shelf s.tape s.faults).record_count ≡ 0) (sym c.self.view_is) c.requires)
    (subst (λ s. IsFoundFile g.F.TapeFile.view c.args.name.now c.args.new s (found.Tape c.in-Ok-Tape.file c.in-Ok-Tape.size c.in-Ok-Tape.access)) c.in-Ok-Tape.ensures.goes_on.shelf
    (subst (IsFoundFile g.F.TapeFile.view c.args.name.now c.args.new (g.I.Images.view c.find.new.images).shelf) c.in-Ok-Tape.field-0-is c.in-Ok-Tape.ensures.did)))

pub returns-in-Ok-Tape-clause-file : goal.returns-in-Ok-Tape-clause-file
returns-in-Ok-Tape-clause-file g c =
    rw (← c.self.view_is, c.new.ensures)
    (is_new g.F.TapeFile.view c.args.name.now c.args.new (g.I.Images.view c.self.inside.images).shelf c.self.inside.faults c.in-Ok-Tape.file c.in-Ok-Tape.size c.in-Ok-Tape.access c.self.inside.faults
    (subst (λ s. IsFoundFile g.F.TapeFile.view c.args.name.now c.args.new s (found.Tape c.in-Ok-Tape.file c.in-Ok-Tape.size c.in-Ok-Tape.access)) c.in-Ok-Tape.ensures.goes_on.shelf
    (subst (IsFoundFile g.F.TapeFile.view c.args.name.now c.args.new (g.I.Images.view c.find.new.images).shelf) c.in-Ok-Tape.field-0-is c.in-Ok-Tape.ensures.did)))

pub returns-in-Err-clause-cause : goal.returns-in-Err-clause-cause
returns-in-Err-clause-cause g c = rw (← c.self.view_is, ← c.access.ensures) c.in-Err.ensures.fails
