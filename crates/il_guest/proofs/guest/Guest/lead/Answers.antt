use Rattle.std.proofs.Common.{◌≡◌, ◌∙◌, ap, sym, subst}
use Rattle.il_frames.specs.declared.frame.Frame.{Frame}
use Rattle.il_device.specs.Interfaces.{interface_after}
use Rattle.il_guest.specs.State.{GuestState}
use Rattle.il_guest.specs.Steps.{IsControl, IsRoundPlace, noted}
use Rattle.il_guest.specs.declared.control.Control.TheVariants as control
use Rattle.il_guest.proofs.StepLemmas.{lead-view, IsGuest-lead}
use Rattle.il_guest.proofs.guest.Guest.lead.Goals as goal

pub returns-clause-state : goal.returns-clause-state
returns-clause-state c =
    let i = c.self.inside.interface in
    let rounds = subst (λ (s : GuestState). s.control ≡ control.Rounds c.args.place) (sym c.self.view_is) c.requires.rounds in
    let at : IsRoundPlace c.args.place = subst IsControl rounds c.self.invariant.5 in
    let stepped = c.effect.ensures.state ∙ ap (λ (f : Frame). interface_after i f) c.sent.ensures in
    let own = ap (λ r. r.address) c.roles-own.ensures.value in
    rw (← c.self.view_is)
    (lead-view i c.effect.new.self c.self.inside.last c.self.inside.control c.args.place c.self.inside.found c.note.new.found c.after-self-inside.result c.args.frame c.roles-own.result.address at rounds c.self.invariant.1 c.self.invariant.2 stepped own c.after-self-inside.ensures.value
    (c.note.ensures ∙ ap (λ told. noted told c.self.inside.found) c.told.ensures.value))

pub returns-clause-guest : goal.returns-clause-guest
returns-clause-guest c =
    let i = c.self.inside.interface in
    let rounds = subst (λ (s : GuestState). s.control ≡ control.Rounds c.args.place) (sym c.self.view_is) c.requires.rounds in
    let at : IsRoundPlace c.args.place = subst IsControl rounds c.self.invariant.5 in
    let stepped = c.effect.ensures.state ∙ ap (λ (f : Frame). interface_after i f) c.sent.ensures in
    IsGuest-lead i c.effect.new.self c.self.inside.last c.after-self-inside.result c.args.place c.self.inside.found c.note.new.found c.args.frame at c.self.invariant.1 c.self.invariant.2 c.self.invariant.3 c.effect.ensures.standing stepped c.self.invariant.4 c.after-self-inside.ensures.range c.self.invariant.6
    (c.note.ensures ∙ ap (λ told. noted told c.self.inside.found) c.told.ensures.value)
