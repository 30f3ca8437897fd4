use Rattle.std.proofs.Common.{◌≡◌, refl, sym, subst}
use Rattle.il_guest.specs.State.{GuestState}
use Rattle.il_guest.specs.declared.control.Control.TheVariants as control
use Rattle.il_guest.proofs.guest.Guest.take_control.Goals as goal

pub returns-clause-state : goal.returns-clause-state
returns-clause-state c =
    let host = subst (λ (s : GuestState). s.control ≡ control.Host) (sym c.self.view_is) c.requires.host in
    rw (← c.self.view_is, c.effect.ensures.state, host) refl
