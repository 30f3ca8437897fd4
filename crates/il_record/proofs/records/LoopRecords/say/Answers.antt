use Rattle.std.proofs.Common.{arith}
use Rattle.il_record.proofs.Calling.{calls, leaves, not_said_mild, said_alive, said_mild, stands}
use Rattle.il_record.proofs.Sends.{err_as, ok_as}
use Rattle.il_record.proofs.records.LoopRecords.say.Goals as goal

pub say-answer-requires-clause-idle : goal.say-answer-requires-clause-idle
say-answer-requires-clause-idle g c = (stands _ _ _ _ c.requires.ready c.requires.valid).0

pub returns-clause-said : goal.returns-clause-said
returns-clause-said g c = calls _ _ _ _ _ _ _ _ c.requires.ready c.said-self.ensures _ _ c.ended.ensures c.say-answer.ensures.said c.say-answer.ensures.broken

pub returns-clause-leaves : goal.returns-clause-leaves
returns-clause-leaves g c =
    leaves g.M.Medium.view _ _ _ _ _ c.said-self.ensures _ _ _ c.requires.ready c.requires.valid _ _ _ c.say-answer.ensures.used (omega arith) (said_alive _) _ _ c.ended.ensures
    (ok_as _ _ _ (λ done said. said_mild g.M.Medium.view _ _ _ _ _ said) c.say-answer.ensures.said) (err_as _ _ _ (λ e not. not_said_mild g.M.Medium.view _ _ _ _ _ not) c.say-answer.ensures.broken)
