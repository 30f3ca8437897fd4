use Rattle.std.proofs.Common.{rules}
use Rattle.host_files.specs.HostFiles.{Unmeasured, Unsettled, Broke}
use Rattle.host_files.proofs.reading.read_opened.Goals as goal

pub returns-in_default : goal.returns-in_default
returns-in_default g c = Unmeasured (search rules)

pub returns-in_default-settle : goal.returns-in_default-settle
returns-in_default-settle g c = Unsettled c.measure.new.file c.in-Ok.count c.in_default-settle.field-0 c.in-Ok.ensures c.in_default-settle.ensures

pub returns-in-Err : goal.returns-in-Err
returns-in-Err g c = Broke c.settle.new.self c.in-Ok.count (record { measured = c.measure.new.file; size = c.in-Ok.ensures; settled = c.in-Ok-settle.ensures }) c.in-Err.ensures
