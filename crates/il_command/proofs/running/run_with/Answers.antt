use Rattle.std.proofs.Common.{rules, ap, ◌∙◌}
use Rattle.il_ports.specs.FileDrives.{drive_of}
use Rattle.il_ports.specs.FindingFiles.{InsertFails}
use Rattle.il_ports.specs.declared.tape_file.Access.TheVariants.{Change}
use Rattle.il_command.proofs.Runs.{ran_by}
use Rattle.il_command.specs.Performing.{fresh_drive}
use Rattle.il_command.proofs.running.run_with.Goals as goal

pub returns : goal.returns
returns g c = (
  ran_by (drive_of g.F.TapeFile.view g.I.Images.view) (λ d w name made. InsertFails g.F.TapeFile.view name made Change (g.I.Images.view d.images) (g.I.Images.view w.images)) _ _ c.run_il-status.result.rig.medium _ _ _ _ _ _ _ _ _ _ (fresh_drive g.F.TapeFile.view g.I.Images.view c.args.images) _ _ _ _ _ _ _ _ _ _ c.run_il-status.ensures.leaves c.new.ensures c.new-script.ensures.told c.new-out.ensures.told (search rules) c.new-script.ensures.faults c.new-out.ensures.faults
      (λ u. (ap (λ s. g.R.Read.remaining s.reader) u.0 ∙ c.new-script.ensures.told, ap (λ s. g.W.Write.contents s.writer) u.1 ∙ c.new-out.ensures.told)),
  c.file.ensures.used,
)
