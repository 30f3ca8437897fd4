use Rattle.std.proofs.Common.{rules}
use Rattle.il_ports.specs.FindingFiles.{HeldByAnother}
use Rattle.il_ports.proofs.InsertFaults.{not_laid_out}
use Rattle.il_ports.proofs.file_medium.make_image.Goals as goal

pub returns-then-not-claim-clause-fails : goal.returns-then-not-claim-clause-fails
returns-then-not-claim-clause-fails g c = HeldByAnother c.claim.new.self (c.claim.ensures.itself.made c.in_ok-file.ensures.answer_is.made) (c.claim.ensures.refused (search rules))

pub returns-in-Err-clause-fails : goal.returns-in-Err-clause-fails
returns-in-Err-clause-fails g c =
    not_laid_out g.F.TapeFile.view (g.I.Images.view c.args.images.now) (g.I.Images.view c.make.new.self) (g.I.Images.view c.lay_out.new.images) (g.I.Images.view c.remove.new.self) c.claim.new.self c.lay_out.new.file _
    c.make.ensures.goes_on (search rules) (c.claim.ensures.itself.made c.in_ok-file.ensures.answer_is.made) c.in-Err.ensures.did c.in-Err.ensures.fails c.remove.ensures
