use Rattle.std.proofs.Common.{rules}
use Rattle.host_files.specs.HostFiles.{NotMeasured}
use Rattle.host_files.proofs.reading.measure.Goals as goal

pub returns-in-Err : goal.returns-in-Err
returns-in-Err g c = NotMeasured c.claim.new.self c.in-Err.field-0 (search rules) (search rules)
