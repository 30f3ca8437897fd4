use Rattle.std.proofs.Common.{rules}
use Rattle.il_ports.specs.FindingFiles.{NotTaken}
use Rattle.il_ports.proofs.FoundFiles.{found_there, too_large}
use Rattle.il_ports.proofs.InsertFaults.{fails_by}
use Rattle.il_ports.proofs.file_medium.find_file.Goals as goal

pub returns-in-Some-clause-did : goal.returns-in-Some-clause-did
returns-in-Some-clause-did g c =
    found_there g.F.TapeFile.view c.args.name.now c.args.new (g.I.Images.view c.open.new.images).shelf c.in-Some.size c.in_ok-file.file c.take.new.file c.in_ok-file.used c.in_ok-length.length c.in_ok-file.ensures.did.bears c.in_ok-length.ensures (search rules) (search rules)

pub returns-in-None-clause-did : goal.returns-in-None-clause-did
returns-in-None-clause-did g c =
    too_large g.F.TapeFile.view c.args.name.now c.args.new (g.I.Images.view c.open.new.images).shelf c.in_ok-file.file c.take.new.file c.in_ok-file.used c.in_ok-length.length c.in_ok-file.ensures.did.bears c.in_ok-length.ensures c.in-None.ensures

pub returns-in_err-length-clause-fails : goal.returns-in_err-length-clause-fails
returns-in_err-length-clause-fails g c = fails_by _ (NotTaken c.open.ensures.unmade (search rules) c.in_ok-file.used c.in_ok-file.file c.take.new.file c.in_ok-file.ensures.did c.in_err-length.ensures.0 c.in_err-length.ensures.1 c.in_err-length.ensures.2)
