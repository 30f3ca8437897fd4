use Rattle.std.proofs.Common.{refl, ap}
use Rattle.il_guest.specs.Frames.{tct}
use Rattle.il_frames.specs.NamedFrames.{is_frame}
use Rattle.il_ring.proofs.ControlledRounds.{host_keeps}
use Rattle.il_control.proofs.Stopping.{stop_lost, stop_held, stop_ended, stop_broke}
use Rattle.il_control.proofs.receiving.stop.Goals as goal

pub returns-in-Lost : goal.returns-in-Lost
returns-in-Lost g c = stop_lost g.M.Medium.view _ _ _ _ _ (c.in-Lost.ensures.round (host_keeps _ c.of.result c.requires.holding.host (ap (λ f. is_frame f tct) c.of.ensures.value))) c.of.ensures.value refl refl

pub relay-requires-clause-held : goal.relay-requires-clause-held
relay-requires-clause-held g c = stop_held g.M.Medium.view _ _ c.requires.holding _ _ _ _ (c.in-Frame.ensures.round (host_keeps _ c.of.result c.requires.holding.host (ap (λ f. is_frame f tct) c.of.ensures.value))) c.of.ensures.value refl refl

pub returns-in-Ended : goal.returns-in-Ended
returns-in-Ended g c = stop_ended g.M.Medium.view _ _ _ _ _ _ _ (c.in-Frame.ensures.round (host_keeps _ c.of.result c.requires.holding.host (ap (λ f. is_frame f tct) c.of.ensures.value))) c.of.ensures.value refl refl c.in-Ended.ensures

pub returns-in_default : goal.returns-in_default
returns-in_default g c = stop_broke g.M.Medium.view _ _ _ _ _ _ _ _ (c.in-Frame.ensures.round (host_keeps _ c.of.result c.requires.holding.host (ap (λ f. is_frame f tct) c.of.ensures.value))) c.of.ensures.value refl refl c.relay.ensures c.in_default.not-Ended
