use Rattle.std.proofs.Common.{refl}
use Rattle.il_record.proofs.Readings.{idle_silent}
use Rattle.il_record.proofs.Saying.{said, not_said}
use Rattle.il_record.proofs.Sends.{ok_as, err_as}
use Rattle.il_record.proofs.calls.say.Goals as goal

pub returns-clause-said : goal.returns-clause-said
returns-clause-said g c = ok_as _ _ _ (λ s so. said g.M.Medium.view _ _ _ _ c.requires.address.1 (idle_silent _ c.requires.idle) _ refl so) c.send.ensures.sent

pub returns-clause-broken : goal.returns-clause-broken
returns-clause-broken g c = err_as _ _ _ (λ s not. not_said g.M.Medium.view _ _ _ _ c.requires.address.1 (idle_silent _ c.requires.idle) _ refl not) c.send.ensures.broken
