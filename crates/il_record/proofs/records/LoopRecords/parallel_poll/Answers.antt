use Rattle.std.proofs.Common.{arith, refl}
use Rattle.il_record.proofs.Calling.{calls, leaves, not_polled_mild, poll_mild, poll_used, stands}
use Rattle.il_record.proofs.Sends.{err_as, ok_as}
use Rattle.il_record.proofs.records.LoopRecords.parallel_poll.Goals as goal

pub parallel_poll-answer-requires-clause-idle : goal.parallel_poll-answer-requires-clause-idle
parallel_poll-answer-requires-clause-idle g c = (stands _ _ _ _ c.requires.ready c.requires.valid).0

pub parallel_poll-answer-requires-clause-places : goal.parallel_poll-answer-requires-clause-places
parallel_poll-answer-requires-clause-places g c = (stands _ _ _ _ c.requires.ready c.requires.valid).3

pub returns-clause-polled : goal.returns-clause-polled
returns-clause-polled g c = calls _ _ _ _ _ _ _ _ c.requires.ready refl _ _ c.ended.ensures c.parallel_poll-answer.ensures.polled c.parallel_poll-answer.ensures.broken

pub returns-clause-leaves : goal.returns-clause-leaves
returns-clause-leaves g c =
    let used = poll_used g.M.Medium.view _ _ _ _ c.parallel_poll-answer.ensures.polled c.parallel_poll-answer.ensures.broken in
    leaves g.M.Medium.view _ _ _ _ _ refl _ _ _ c.requires.ready c.requires.valid _ _ _ used (omega arith) (stands _ _ _ _ c.requires.ready c.requires.valid).2 _ _ c.ended.ensures
    (ok_as _ _ _ (λ f polled. poll_mild g.M.Medium.view _ _ _ f polled) c.parallel_poll-answer.ensures.polled) (err_as _ _ _ (λ e not. not_polled_mild g.M.Medium.view _ _ _ _ _ not) c.parallel_poll-answer.ensures.broken)
