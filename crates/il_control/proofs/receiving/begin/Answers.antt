use Rattle.std.proofs.Common.{◌∙◌, ap, refl}
use Rattle.il_guest.specs.Frames.{tct}
use Rattle.il_frames.specs.NamedFrames.{is_frame}
use Rattle.il_ring.proofs.ControlledRounds.{host_keeps}
use Rattle.il_control.specs.Receives.{start_of}
use Rattle.il_control.proofs.Beginning.{start_hands, start_call, passed_begins, taken_begins, lost_begins, none_held, some_held}
use Rattle.il_control.proofs.receiving.begin.Goals as goal

pub returns-in-Lost : goal.returns-in-Lost
returns-in-Lost g c = lost_begins g.M.Medium.view _ _ _ _ (start_call g.M.Medium.view _ _ _ _ _ _ (c.in-Lost.ensures.round (host_keeps _ c.frame.result c.requires.host (ap (λ f. is_frame f tct) c.frame.ensures ∙ start_hands (start_of c.args.start)))) c.frame.ensures c.requires.free.held c.requires.free c.requires.host c.requires.one c.requires.calm) refl

pub returns-then-is_none : goal.returns-then-is_none
returns-then-is_none g c = passed_begins g.M.Medium.view _ _ _ _ _ (start_call g.M.Medium.view _ _ _ _ _ _ (c.in-Frame.ensures.round (host_keeps _ c.frame.result c.requires.host (ap (λ f. is_frame f tct) c.frame.ensures ∙ start_hands (start_of c.args.start)))) c.frame.ensures c.requires.free.held c.requires.free c.requires.host c.requires.one c.requires.calm) refl (none_held _ _ c.held.ensures c.if-is_none.ensures)

pub returns-else-is_none : goal.returns-else-is_none
returns-else-is_none g c = taken_begins g.M.Medium.view _ _ _ _ _ (start_call g.M.Medium.view _ _ _ _ _ _ (c.in-Frame.ensures.round (host_keeps _ c.frame.result c.requires.host (ap (λ f. is_frame f tct) c.frame.ensures ∙ start_hands (start_of c.args.start)))) c.frame.ensures c.requires.free.held c.requires.free c.requires.host c.requires.one c.requires.calm) refl (some_held _ _ c.held.ensures c.if-is_none.ensures)
