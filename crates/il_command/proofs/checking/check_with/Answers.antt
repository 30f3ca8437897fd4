use Rattle.il_ports.specs.FileDrives.{drive_of}
use Rattle.il_ports.specs.FindingFiles.{InsertFails}
use Rattle.il_ports.specs.declared.tape_file.Access.TheVariants.{Read}
use Rattle.std.proofs.Common.{None}
use Rattle.il_command.proofs.Runs.{checked_by}
use Rattle.il_command.specs.Performing.{fresh_drive}
use Rattle.il_command.proofs.checking.check_with.Goals as goal

pub returns : goal.returns
returns g c = (
  checked_by (drive_of g.F.TapeFile.view g.I.Images.view) (λ d w name. InsertFails g.F.TapeFile.view name None Read (g.I.Images.view d.images) (g.I.Images.view w.images)) _ _ c.run_check-status.new.before c.run_check-status.new.after _ _ _ _
      (fresh_drive g.F.TapeFile.view g.I.Images.view c.args.images.0) _ (fresh_drive g.F.TapeFile.view g.I.Images.view c.args.images.1) _ _ _ _ _ _ _
      c.run_check-status.ensures c.to_read-before.ensures c.to_read-after.ensures c.new-trace.ensures.told c.new-out.ensures.told c.new-trace.ensures.faults c.new-out.ensures.faults,
  c.file.ensures.used,
  c.file-2.ensures.used,
)
