use Rattle.std.proofs.Common.{arith}
use Rattle.il_record.specs.IsStore.{is_store_of}
use Rattle.il_record.proofs.StoreAnswers.{stored_one}
use Rattle.il_record.proofs.records.LoopRecordsRecords.write.Goals as goal

pub returns : goal.returns
returns g c = stored_one _ _ _ _ _ (is_store_of g.M.Medium.view _ _ _ g.met.M.Medium.is_medium) c.requires.within (omega arith) c.write_run.ensures
