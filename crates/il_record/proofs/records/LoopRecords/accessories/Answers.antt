use Rattle.std.proofs.Common.{arith, refl}
use Rattle.il_record.proofs.Calling.{calls, leaves, names_mild, not_named_mild, stands}
use Rattle.il_record.proofs.Sends.{err_as, ok_as}
use Rattle.il_record.proofs.records.LoopRecords.accessories.Goals as goal

pub accessories-answer-requires-clause-idle : goal.accessories-answer-requires-clause-idle
accessories-answer-requires-clause-idle g c = (stands _ _ _ _ c.requires.ready c.requires.valid).0

pub returns-clause-named : goal.returns-clause-named
returns-clause-named g c = calls _ _ _ _ _ _ _ _ c.requires.ready refl _ _ c.ended.ensures c.accessories-answer.ensures.named c.accessories-answer.ensures.broken

pub returns-clause-leaves : goal.returns-clause-leaves
returns-clause-leaves g c =
    leaves g.M.Medium.view _ _ _ _ _ refl _ _ _ c.requires.ready c.requires.valid _ _ _ c.accessories-answer.ensures.used (omega arith) (stands _ _ _ _ c.requires.ready c.requires.valid).2 _ _ c.ended.ensures
    (ok_as _ _ _ (λ done named. names_mild g.M.Medium.view _ _ _ _ named) c.accessories-answer.ensures.named) (err_as _ _ _ (λ e not. not_named_mild g.M.Medium.view _ _ _ _ not) c.accessories-answer.ensures.broken)
