use Rattle.std.proofs.Common.{◌∙◌, ap, sym, subst}
use Rattle.il_guest.specs.State.{GuestState, IsGuest, guest_device}
use Rattle.il_guest.specs.Takes.{passed_by, under_host, GuestTakes}
use Rattle.il_guest.specs.declared.guest.GuestOut.TheVariants.{Pass}
use Rattle.il_guest.proofs.StepLemmas.{IsGuest-view, DoesPass, passes-silent, passes-other, takes-lead, takes-pass}
use Rattle.il_device.specs.declared.roles.Roles.{Roles}
use Rattle.il_guest.proofs.guest.Guest.take.Goals as goal
use Rattle.il_guest.proofs.guest.Guest.take.Goals.{in_default-via-in-Host+then-is_tct+else-roles, in_default-via-in-Host+else-is_tct, in_default-via-in-Rounds+else-not-is_ifc, in_default-via-in-Silent+else-not-is_ifc-2}

pub returns-in-Rounds : goal.returns-in-Rounds
returns-in-Rounds c =
    let i = c.self.invariant in
    let before = subst IsGuest c.self.view_is (IsGuest-view c.self.inside.interface c.self.inside.last c.self.inside.control c.self.inside.found i.0 i.1 i.2 i.3 i.4 i.5 i.6) in
    let rounds = sym (ap (λ (s : GuestState). s.control) c.self.view_is) ∙ c.in-Rounds.is in
    takes-lead c.args.self.now c.lead.new.self c.in-Rounds.place c.args.frame c.lead.result before c.lead.ensures.guest rounds (sym c.is_ifc.ensures ∙ c.if-not-is_ifc.true) c.lead.ensures.state c.lead.ensures.answer

pub returns-in_default : goal.returns-in_default
returns-in_default c =
    let f = c.args.frame in
    let i = c.self.invariant in
    let inside = c.self.inside in
    let seen : GuestState = record { device = guest_device inside.interface inside.control; last = inside.last; control = inside.control; found = inside.found } in
    let before = IsGuest-view inside.interface inside.last inside.control inside.found i.0 i.1 i.2 i.3 i.4 i.5 i.6 in
    let passes : DoesPass inside.control seen f = elim c.in_default.branch [
      | in_default-via-in-Host+then-is_tct+else-roles w ↦
          passes-silent inside.control seen f w.in-Host.is (rw w.in-Host.is (sym (ap (λ (r : Roles). r.talks) w.roles.ensures.value) ∙ w.if-roles.false))
      | in_default-via-in-Host+else-is_tct w ↦
          passes-other inside.control seen f w.in-Host.is (sym w.is_tct.ensures ∙ w.if-is_tct.false)
      | in_default-via-in-Rounds+else-not-is_ifc w ↦
          rw w.in-Rounds.is (sym w.is_ifc.ensures ∙ w.if-not-is_ifc.false)
      | in_default-via-in-Silent+else-not-is_ifc-2 w ↦
          rw w.in-Silent.is (sym w.if-not-is_ifc-2.ensures)
    ] in
    subst (λ (s : GuestState). GuestTakes s f c.pass.result c.pass.new.self) c.self.view_is
    (takes-pass seen c.pass.new.self f c.pass.result before c.pass.ensures.guest passes
    (c.pass.ensures.state ∙ ap (λ (s : GuestState). under_host s f) (sym c.self.view_is))
    (c.pass.ensures.answer ∙ ap (λ (s : GuestState). Pass (passed_by s.device f)) (sym c.self.view_is)))
