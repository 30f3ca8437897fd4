use Rattle.std.proofs.Common.{refl}
use Rattle.il_record.proofs.StoreStarts.{begun}
use Rattle.il_record.proofs.records.LoopRecords.clear_log.Goals as goal

pub returns-clause-begun : goal.returns-clause-begun
returns-clause-begun g c = begun g.M.Medium.view _ _ _ _ _ c.requires.valid refl refl c.clear_log.ensures
