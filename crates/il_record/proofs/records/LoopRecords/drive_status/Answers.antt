use Rattle.std.proofs.Common.{arith, refl}
use Rattle.il_record.proofs.Calling.{calls, leaves, not_told_mild, stands, status_mild}
use Rattle.il_record.proofs.Sends.{err_as, ok_as}
use Rattle.il_record.proofs.records.LoopRecords.drive_status.Goals as goal

pub status-answer-requires-clause-idle : goal.status-answer-requires-clause-idle
status-answer-requires-clause-idle g c = (stands _ _ _ _ c.requires.ready c.requires.valid).0

pub returns-clause-told : goal.returns-clause-told
returns-clause-told g c = calls _ _ _ _ _ _ _ _ c.requires.ready refl _ _ c.ended.ensures c.status-answer.ensures.told c.status-answer.ensures.broken

pub returns-clause-leaves : goal.returns-clause-leaves
returns-clause-leaves g c =
    leaves g.M.Medium.view _ _ _ _ _ refl _ _ _ c.requires.ready c.requires.valid _ _ _ c.status-answer.ensures.used (omega arith) (stands _ _ _ _ c.requires.ready c.requires.valid).2 _ _ c.ended.ensures
    (ok_as _ _ _ (λ byte told. status_mild g.M.Medium.view _ _ _ byte c.status-answer.ensures.places told) c.status-answer.ensures.told) (err_as _ _ _ (λ e not. not_told_mild g.M.Medium.view _ _ _ c.status-answer.ensures.places not) c.status-answer.ensures.broken)
