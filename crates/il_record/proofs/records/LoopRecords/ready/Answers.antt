use Rattle.il_record.proofs.StoreStarts.{addressed, not_addressed, ready_leaves}
use Rattle.il_record.proofs.records.LoopRecords.ready.Goals as goal

pub returns-in_err-ended-clause-addresses : goal.returns-in_err-ended-clause-addresses
returns-in_err-ended-clause-addresses g c = not_addressed g.M.Medium.view _ _ c.if-self.false c.requires.valid c.resume-answer.ensures.stays _ _ _ _ c.in_err-ended.ensures c.resume-answer.ensures.not_resumed c.from_residual.ensures

pub returns-in_err-ended-clause-leaves : goal.returns-in_err-ended-clause-leaves
returns-in_err-ended-clause-leaves g c = ready_leaves g.M.Medium.view _ _ _ _ _ c.requires.valid _ (returns-in_err-ended-clause-addresses g c)

pub returns-clause-addresses : goal.returns-clause-addresses
returns-clause-addresses g c = addressed g.M.Medium.view _ _ c.if-self.false c.requires.valid c.resume-answer.ensures.stays _ _ _ (λ n. n) _ _ c.in_ok-ended.ensures c.resume-answer.ensures.resumed c.more-self.ensures

pub returns-clause-leaves : goal.returns-clause-leaves
returns-clause-leaves g c = ready_leaves g.M.Medium.view _ _ _ _ _ c.requires.valid _ (returns-clause-addresses g c)
