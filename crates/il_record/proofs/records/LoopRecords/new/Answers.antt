use Rattle.il_record.proofs.StoreStarts.{fresh}
use Rattle.il_record.proofs.records.LoopRecords.new.Goals as goal

pub returns-clause-fresh : goal.returns-clause-fresh
returns-clause-fresh g c = fresh g.M.Medium.view _ _ _ c.requires.lost c.requires.places c.requires.empty c.into_ring.ensures
