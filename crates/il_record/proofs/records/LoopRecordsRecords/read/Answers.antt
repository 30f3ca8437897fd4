use Rattle.std.proofs.Common.{arith}
use Rattle.il_record.proofs.StoreAnswers.{fetched_one}
use Rattle.il_record.proofs.records.LoopRecordsRecords.read.Goals as goal

pub returns : goal.returns
returns g c = fetched_one _ _ _ _ _ _ (omega arith) c.read_run.ensures
