use Rattle.std.proofs.Common.{None, ap, subst, sym}
use Rattle.std.specs.List.{All}
use Rattle.std.proofs.lemmas.List.Elements.{All-append}
use Rattle.il_ring.specs.Rings.{MayStand}
use Rattle.il_ring.proofs.Guests.{guest_stands}
use Rattle.il_control.proofs.Fresh.{new_lost}
use Rattle.il_record.proofs.Places.{all_mapped, new_may_poll}
use Rattle.loop_rows.proofs.tools.controller_of.Goals as goal

pub lost_of-requires-clause-lost : goal.lost_of-requires-clause-lost
lost_of-requires-clause-lost g c =
    let fit = c.fits-fits.ensures.stands c.if-fits.true in
    new_lost _ _ _ c.in-Ok.ensures.ring c.in-Ok.ensures.books (ap (λ d. d.state) c.in-Ok.ensures.drive) (subst (All MayStand) (sym c.in-Ok.ensures.before) (all_mapped MayStand _ _ fit.1))
    (subst (All MayStand) (sym c.in-Ok.ensures.after) (All-append MayStand _ _ (all_mapped MayStand _ _ fit.2) (guest_stands _ fit.3 fit.4)))

pub lost_of-requires-clause-places : goal.lost_of-requires-clause-places
lost_of-requires-clause-places g c =
    let fit = c.fits-fits.ensures.stands c.if-fits.true in
    new_may_poll _ c.in-Ok.ensures.ring (ap (λ d. d.state) c.in-Ok.ensures.drive) (subst (All MayStand) (sym c.in-Ok.ensures.before) (all_mapped MayStand _ _ fit.1))
    (subst (All MayStand) (sym c.in-Ok.ensures.after) (All-append MayStand _ _ (all_mapped MayStand _ _ fit.2) (guest_stands _ fit.3 fit.4)))
