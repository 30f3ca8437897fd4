use Rattle.std.proofs.Common.{refl}
use Rattle.il_record.proofs.Calling.{calls, stands}
use Rattle.il_record.proofs.Lending.{lend_leaves}
use Rattle.il_record.proofs.records.LoopRecords.lend.Goals as goal

pub lend-answer-requires-clause-idle : goal.lend-answer-requires-clause-idle
lend-answer-requires-clause-idle g c = (stands _ _ _ _ c.requires.ready c.requires.valid).0

pub returns-clause-lent : goal.returns-clause-lent
returns-clause-lent g c = calls _ _ _ _ _ _ _ _ c.requires.ready refl _ _ c.ended.ensures c.lend-answer.ensures.made c.lend-answer.ensures.broken

pub returns-clause-leaves : goal.returns-clause-leaves
returns-clause-leaves g c = lend_leaves g.M.Medium.view _ _ _ _ _ _ c.requires.valid c.requires.ready _ _ _ _ c.ended.ensures c.lend-answer.ensures.made c.lend-answer.ensures.broken
