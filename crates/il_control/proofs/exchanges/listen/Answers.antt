use Rattle.il_control.proofs.Telling.{listening, listen_made, listen_broken}
use Rattle.il_control.proofs.exchanges.listen.Goals as goal

pub returns-then-tell-clause-made : goal.returns-then-tell-clause-made
returns-then-tell-clause-made g c = listen_made g.M.Medium.view _ _ _ _ c.requires.idle c.requires.address.1 c.requires.number c.if-tell.ensures.done

pub returns-then-tell-clause-told : goal.returns-then-tell-clause-told
returns-then-tell-clause-told g c = listening g.M.Medium.view _ _ _ _ c.requires.idle c.requires.address.0 c.requires.address.1 c.requires.number c.if-tell.ensures.done

pub returns-else-tell-clause-broken : goal.returns-else-tell-clause-broken
returns-else-tell-clause-broken g c = listen_broken g.M.Medium.view _ _ _ _ c.requires.idle c.requires.address.1 c.requires.number c.if-tell.ensures.done
