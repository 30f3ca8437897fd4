use Rattle.std.proofs.Common.{◌≡◌, ◌∙◌, true, ap, sym, subst}
use Rattle.std.specs.Prelude.{◌⊎◌}
use Rattle.il_frames.specs.declared.frame.Frame.{Frame}
use Rattle.il_frames.specs.Messages.{message_of}
use Rattle.il_device.specs.Interfaces.{InterfaceState, passed_on}
use Rattle.il_device.specs.State.{DeviceState}
use Rattle.il_device.specs.declared.roles.Roles.{Roles}
use Rattle.il_guest.specs.State.{GuestState}
use Rattle.il_frames.specs.NamedFrames.{is_ifc}
use Rattle.il_guest.specs.declared.guest.GuestOut.TheVariants.{Pass}
use Rattle.il_guest.specs.declared.control.Control.TheVariants as control
use Rattle.il_guest.proofs.StepLemmas.{device-passed, frame-passed}
use Rattle.il_guest.proofs.guest.Guest.pass.Goals as goal

pub returns-clause-answer : goal.returns-clause-answer
returns-clause-answer c =
    let f = c.args.frame in
    let i = c.self.inside.interface in
    let k = c.effect.new.self in
    let passes = subst (λ (s : GuestState). (s.control ≡ control.Host) ⊎ (is_ifc (message_of f) ≡ true)) (sym c.self.view_is) c.requires.passes in
    rw (← c.self.view_is)
    (ap (λ (g : Frame). Pass g)
    (c.passed.ensures ∙ ap (λ (r : Roles). passed_on k r f) c.roles-before.ensures.value
    ∙ ap (λ (x : InterfaceState). passed_on x i.roles f) c.effect.ensures.state
    ∙ frame-passed i c.self.inside.control f passes))

pub returns-clause-state : goal.returns-clause-state
returns-clause-state c =
    let f = c.args.frame in
    let passes = subst (λ (s : GuestState). (s.control ≡ control.Host) ⊎ (is_ifc (message_of f) ≡ true)) (sym c.self.view_is) c.requires.passes in
    let at = c.self.invariant.5 in
    rw (← c.self.view_is, c.effect.ensures.state)
    (ap (λ (d : DeviceState). record { device = d; last = c.self.inside.last; control = control.Host; found = c.self.inside.found })
    (device-passed c.self.inside.interface c.self.inside.control f at passes))
