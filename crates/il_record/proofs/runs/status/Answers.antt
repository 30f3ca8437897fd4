use Rattle.std.proofs.Common.{arith, refl}
use Rattle.il_record.proofs.Places.{kept_received, kept_not_received}
use Rattle.il_record.proofs.Polling.{polled, not_polled}
use Rattle.il_record.proofs.Readings.{idle_silent}
use Rattle.il_record.proofs.Sends.{if_err}
use Rattle.il_record.proofs.Used.{not_received_used, received_used}
use Rattle.il_record.proofs.runs.status.Goals as goal

pub returns-in_err-receive-clause-broken : goal.returns-in_err-receive-clause-broken
returns-in_err-receive-clause-broken g c = if_err _ _ _ c.from_residual.ensures (not_polled g.M.Medium.view _ _ _ _ c.party-drive.ensures.range c.party-drive.ensures.party (idle_silent _ c.requires.idle) c.in_err-receive.ensures.not_received)

pub returns-clause-told : goal.returns-clause-told
returns-clause-told g c = polled g.M.Medium.view _ _ _ _ _ _ c.party-drive.ensures.range c.party-drive.ensures.party c.requires.idle refl c.in_ok-receive.ensures.received

pub returns-in_err-receive-clause-places : goal.returns-in_err-receive-clause-places
returns-in_err-receive-clause-places g c = kept_not_received g.M.Medium.view _ _ _ _ _ _ c.in_err-receive.ensures.not_received

pub returns-clause-places : goal.returns-clause-places
returns-clause-places g c = kept_received g.M.Medium.view _ _ _ _ _ _ _ _ c.in_ok-receive.ensures.received

pub returns-in_err-receive-clause-used : goal.returns-in_err-receive-clause-used
returns-in_err-receive-clause-used g c = not_received_used g.M.Medium.view _ _ _ _ _ _ c.in_err-receive.ensures.not_received

pub returns-clause-used : goal.returns-clause-used
returns-clause-used g c = let used = received_used g.M.Medium.view _ _ _ _ _ _ _ _ c.in_ok-receive.ensures.received in omega (arith, used)
