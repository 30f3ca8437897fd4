use Rattle.std.proofs.Common.{ap}
use Rattle.il_guest.specs.Frames.{tct}
use Rattle.il_frames.specs.NamedFrames.{is_frame}
use Rattle.il_ring.proofs.ControlledRounds.{host_keeps}
use Rattle.il_control.proofs.Places.{identify_stay}
use Rattle.il_control.proofs.Polls.{identify_call}
use Rattle.il_control.proofs.exchanges.identify.Goals as goal

pub returns-in-Frame-clause-made : goal.returns-in-Frame-clause-made
returns-in-Frame-clause-made g c = (identify_call g.M.Medium.view _ _ _ _ _ (c.in-Frame.ensures.round (host_keeps _ c.of.result c.requires.idle.host (ap (λ f. is_frame f tct) c.of.ensures.value))) c.of.ensures.value c.requires.idle.free.held c.requires.idle).0

pub returns-in-Frame-clause-poll : goal.returns-in-Frame-clause-poll
returns-in-Frame-clause-poll g c = (identify_call g.M.Medium.view _ _ _ _ _ (c.in-Frame.ensures.round (host_keeps _ c.of.result c.requires.idle.host (ap (λ f. is_frame f tct) c.of.ensures.value))) c.of.ensures.value c.requires.idle.free.held c.requires.idle).1

pub returns-in-Lost-clause-broken : goal.returns-in-Lost-clause-broken
returns-in-Lost-clause-broken g c = identify_call g.M.Medium.view _ _ _ _ _ (c.in-Lost.ensures.round (host_keeps _ c.of.result c.requires.idle.host (ap (λ f. is_frame f tct) c.of.ensures.value))) c.of.ensures.value c.requires.idle.free.held c.requires.idle

pub returns-in-Frame-clause-stays : goal.returns-in-Frame-clause-stays
returns-in-Frame-clause-stays g c = identify_stay g.M.Medium.view _ _ _ _ _ (c.in-Frame.ensures.round (host_keeps _ c.of.result c.requires.idle.host (ap (λ f. is_frame f tct) c.of.ensures.value))) c.of.ensures.value c.requires.idle

pub returns-in-Lost-clause-stays : goal.returns-in-Lost-clause-stays
returns-in-Lost-clause-stays g c = identify_stay g.M.Medium.view _ _ _ _ _ (c.in-Lost.ensures.round (host_keeps _ c.of.result c.requires.idle.host (ap (λ f. is_frame f tct) c.of.ensures.value))) c.of.ensures.value c.requires.idle
