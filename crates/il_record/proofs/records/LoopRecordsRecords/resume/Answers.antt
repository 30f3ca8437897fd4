use Rattle.il_record.proofs.StoreResumes.{resumed_by, resumes_broke, resumes_done, resumes_not_ready}
use Rattle.il_record.proofs.records.LoopRecordsRecords.resume.Goals as goal

pub returns-in_err-ready-clause-resumes : goal.returns-in_err-ready-clause-resumes
returns-in_err-ready-clause-resumes g c = resumes_not_ready _ g.M.Medium.view _ _ c.saturating_add-self.ensures c.if-self.false _ _ _ c.in_err-ready.ensures.addresses c.from_residual.ensures

pub returns-in_err-ready-clause-resumed : goal.returns-in_err-ready-clause-resumed
returns-in_err-ready-clause-resumed g c = resumed_by g.M.Medium.view _ _ _ _ c.requires.valid _ _ (returns-in_err-ready-clause-resumes g c)

pub returns-in_err-ended-clause-resumes : goal.returns-in_err-ended-clause-resumes
returns-in_err-ended-clause-resumes g c =
    resumes_broke _ g.M.Medium.view _ _ c.saturating_add-self.ensures c.if-self.false _ _ c.in_ok-ready.ensures.addresses _ c.clear-answer.ensures.used _ _ _ _ c.in_err-ended.ensures c.clear-answer.ensures.broken c.from_residual-in_err-ended.ensures

pub returns-in_err-ended-clause-resumed : goal.returns-in_err-ended-clause-resumed
returns-in_err-ended-clause-resumed g c = resumed_by g.M.Medium.view _ _ _ _ c.requires.valid _ _ (returns-in_err-ended-clause-resumes g c)

pub returns-clause-resumes : goal.returns-clause-resumes
returns-clause-resumes g c =
    resumes_done _ g.M.Medium.view _ _ c.saturating_add-self.ensures c.if-self.false _ _ c.in_ok-ready.ensures.addresses _ c.clear-answer.ensures.used _ _ _ _ c.in_ok-ended.ensures c.clear-answer.ensures.cleared

pub returns-clause-resumed : goal.returns-clause-resumed
returns-clause-resumed g c = resumed_by g.M.Medium.view _ _ _ _ c.requires.valid _ _ (returns-clause-resumes g c)
