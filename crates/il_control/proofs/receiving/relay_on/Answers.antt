use Rattle.std.proofs.Common.{refl}
use Rattle.il_control.proofs.Relaying.{relay_done}
use Rattle.il_control.proofs.receiving.relay_on.Goals as goal

pub returns-clause-went : goal.returns-clause-went
returns-clause-went g c = relay_done g.M.Medium.view _ _ _ _ _ c.relay.ensures.round refl c.onward_of.ensures
