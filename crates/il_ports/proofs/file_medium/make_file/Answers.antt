use Rattle.std.proofs.Common.{◌≡◌, rules, subst, sym}
use Rattle.il_ports.specs.FileDrives.{IsFoundFile}
use Rattle.il_ports.specs.declared.tape_file.Access.TheVariants.{Change}
use Rattle.il_ports.specs.declared.file_medium.Found.TheVariants as found
use Rattle.il_ports.specs.FindingFiles.{NotMade}
use Rattle.il_ports.proofs.FoundFiles.{found_made}
use Rattle.il_ports.proofs.InsertFaults.{fails_by}
use Rattle.il_ports.proofs.file_medium.make_file.Goals as goal

pub returns-clause-did : goal.returns-clause-did
returns-clause-did g c =
    let changed : c.args.access ≡ Change = search rules in
    subst (λ a. IsFoundFile g.F.TapeFile.view c.args.name.now c.args.new (g.I.Images.view c.make_image.new.images).shelf (found.Tape c.in_ok-make_image.field-0 c.in-Some.size a)) (sym changed)
    (found_made g.F.TapeFile.view c.args.name.now c.args.new (g.I.Images.view c.make_image.new.images).shelf c.in-Some.size c.in_ok-make_image.field-0 c.in_ok-make_image.ensures.did (search rules))

pub returns-in_err-make_image-clause-fails : goal.returns-in_err-make_image-clause-fails
returns-in_err-make_image-clause-fails g c = fails_by _ (NotMade (search rules) (search rules) (search rules) c.in_err-make_image.ensures.fails)
