use Rattle.std.proofs.Common.{arith, refl}
use Rattle.il_record.proofs.Naming.{named, not_named}
use Rattle.il_record.proofs.Sends.{if_err}
use Rattle.il_record.proofs.Used.{not_received_used, received_used}
use Rattle.il_record.proofs.calls.accessory.Goals as goal

pub returns-in_err-count-clause-broken : goal.returns-in_err-count-clause-broken
returns-in_err-count-clause-broken g c = if_err _ _ _ c.from_residual.ensures (not_named g.M.Medium.view _ _ _ c.requires.address.1 c.requires.silent _ c.in_err-count.ensures.not_received)

pub returns-clause-named : goal.returns-clause-named
returns-clause-named g c = named g.M.Medium.view _ _ _ c.requires.address.1 c.requires.silent _ _ _ _ refl c.requires.room c.told_id.ensures c.in_ok-count.ensures.received

pub returns-in_err-count-clause-used : goal.returns-in_err-count-clause-used
returns-in_err-count-clause-used g c = not_received_used g.M.Medium.view _ _ _ _ _ _ c.in_err-count.ensures.not_received

pub returns-clause-used : goal.returns-clause-used
returns-clause-used g c = let used = received_used g.M.Medium.view _ _ _ _ _ _ _ _ c.in_ok-count.ensures.received in omega (arith, used)
