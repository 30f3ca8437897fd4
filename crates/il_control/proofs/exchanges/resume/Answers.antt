use Rattle.std.proofs.Common.{◌∙◌, ap, refl}
use Rattle.il_frames.specs.Frames.{byte_of}
use Rattle.il_guest.specs.Frames.{tct}
use Rattle.il_frames.specs.NamedFrames.{is_frame}
use Rattle.il_ring.proofs.ControlledRounds.{host_keeps}
use Rattle.il_control.proofs.Addressing.{address_call, count_of, not_cleared}
use Rattle.il_control.proofs.Places.{address_stay}
use Rattle.il_control.proofs.exchanges.resume.Goals as goal

pub returns-then-not-clear-clause-not_resumed : goal.returns-then-not-clear-clause-not_resumed
returns-then-not-clear-clause-not_resumed g c = not_cleared g.M.Medium.view _ c.requires.lost _ c.if-not-clear.ensures.done

pub overflow_sub-result : goal.overflow_sub-result
overflow_sub-result g c = (count_of g.M.Medium.view _ _ c.in-Frame.back _ _ c.byte.ensures (c.byte-in-Frame.ensures ∙ ap byte_of c.of-first.ensures.value) (address_call g.M.Medium.view _ c.requires.lost _ _ _ _ _ (c.if-not-clear.ensures.host refl) c.if-not-clear.ensures.done (c.in-Frame.ensures.round (host_keeps _ c.of-first.result (c.if-not-clear.ensures.host refl) (ap (λ f. is_frame f tct) c.of-first.ensures.value))) c.of-first.ensures.value c.if-not-clear.ensures.done.held)).0

pub returns-in-Frame-clause-resumed : goal.returns-in-Frame-clause-resumed
returns-in-Frame-clause-resumed g c = (count_of g.M.Medium.view _ _ c.in-Frame.back _ _ c.byte.ensures (c.byte-in-Frame.ensures ∙ ap byte_of c.of-first.ensures.value) (address_call g.M.Medium.view _ c.requires.lost _ _ _ _ _ (c.if-not-clear.ensures.host refl) c.if-not-clear.ensures.done (c.in-Frame.ensures.round (host_keeps _ c.of-first.result (c.if-not-clear.ensures.host refl) (ap (λ f. is_frame f tct) c.of-first.ensures.value))) c.of-first.ensures.value c.if-not-clear.ensures.done.held)).1

pub returns-in-Lost-clause-not_resumed : goal.returns-in-Lost-clause-not_resumed
returns-in-Lost-clause-not_resumed g c = address_call g.M.Medium.view _ c.requires.lost _ _ _ _ _ (c.if-not-clear.ensures.host refl) c.if-not-clear.ensures.done (c.in-Lost.ensures.round (host_keeps _ c.of-first.result (c.if-not-clear.ensures.host refl) (ap (λ f. is_frame f tct) c.of-first.ensures.value))) c.of-first.ensures.value c.if-not-clear.ensures.done.held

pub returns-in-Frame-clause-stays : goal.returns-in-Frame-clause-stays
returns-in-Frame-clause-stays g c = address_stay g.M.Medium.view _ _ _ _ _ _ c.requires.lost c.if-not-clear.ensures.done c.if-not-clear.ensures.stays (c.in-Frame.ensures.round (host_keeps _ c.of-first.result (c.if-not-clear.ensures.host refl) (ap (λ f. is_frame f tct) c.of-first.ensures.value))) c.of-first.ensures.value

pub returns-in-Lost-clause-stays : goal.returns-in-Lost-clause-stays
returns-in-Lost-clause-stays g c = address_stay g.M.Medium.view _ _ _ _ _ _ c.requires.lost c.if-not-clear.ensures.done c.if-not-clear.ensures.stays (c.in-Lost.ensures.round (host_keeps _ c.of-first.result (c.if-not-clear.ensures.host refl) (ap (λ f. is_frame f tct) c.of-first.ensures.value))) c.of-first.ensures.value
