-- If TCT was lost before the last party took it, its round was one of the host's, as on a ring without a second controller.
use Rattle.std.proofs.Common.{◌≡◌, ◌∙◌, ◌⊎◌, inl, inr, ⊎_elim, true, false, Option, Some, None, refl, sym, ap, subst}
use Rattle.il_frames.specs.Frames.{is_data}
use Rattle.il_ports.specs.Media.{MediumView}
use Rattle.il_guest.specs.declared.control.Control.TheVariants as control
use Rattle.il_guest.specs.declared.guest.GuestOut.{GuestOut}
use Rattle.il_guest.specs.Frames.{tct}
use Rattle.il_guest.specs.State.{GuestState, is_leading}
use Rattle.il_guest.specs.Takes.{GuestTakes}
use Rattle.il_guest.proofs.GuestLaws.{takes-it}
use Rattle.il_ring.specs.declared.plan.PlanFault.{PlanFault}
use Rattle.il_ring.specs.declared.plan.Arrival.{Arrival}
use Rattle.il_ring.specs.declared.flight.Flight.{Flight}
use Rattle.il_ring.specs.Flights.{hit, sourced}
use Rattle.il_ring.specs.Guests.{IsUnderHost, guest_mind}
use Rattle.il_ring.specs.HandedOver.{HandLost, HandedOver}
use Rattle.il_ring.specs.Lending.{ControlledRound, hands_over, leads}
use Rattle.il_ring.specs.Rings.{IsRing, RingView, Round}
use Rattle.il_ring.proofs.HandedOver.{comes_so, handed_over, host, talks}
use Rattle.il_ring.proofs.Handing.{OnWay}
use Rattle.il_ring.proofs.ControlledRounds.{controlled_host_round}
use Rattle.il_ring.proofs.Lendings.{EndPasses, PassesAll}
use Rattle.il_ring.proofs.Passes.{plain_hit}

-- after a link it comes as it was, or not at all
stays_tct : (fault : Option PlanFault) (f : Flight) (o : Option Flight) → f.now ≡ tct → hit fault f ≡ o → OnWay (λ f. f ≡ tct) o
stays_tct None f o is hits = subst (OnWay (λ f. f ≡ tct)) hits is
stays_tct (Some fault) f o is hits = subst (OnWay (λ f. f ≡ tct)) (sym (plain_hit fault f (ap is_data is)) ∙ hits) tt

module _ {M : Type 0} (view : M → MediumView) (r s : RingView M) (answer : Arrival) (round : ControlledRound view r (sourced 0 tct) answer s) (ring : IsRing r) (under : IsUnderHost r.guest) (over : hands_over r tct ≡ true) where
  -- TCT comes to the last party as it was sent, or nothing comes
  comes_tct : OnWay (λ f. f ≡ tct) round.at_last.flight
  comes_tct = by round.at_last.flight refl
    where
      by : (o : Option Flight) → round.at_last.flight ≡ o → OnWay (λ f. f ≡ tct) o
      by None is = tt
      by (Some y) is = ap (λ (f : Flight). f.now) (comes_so view r s answer round ring under over y is)

  -- a party that has the same in mind has not taken it
  not_taken : (g h : GuestState) → round.guest ≡ Some g → round.guest_then ≡ Some h → s.guest ≡ r.guest → PassesAll (λ f. f ≡ tct) g h
  not_taken g h is next same = record { rule = λ f out at takes. absurd (clash out (subst (λ f. GuestTakes g f out h) at takes)); stays = stays_tct }
    where
      clash : (out : GuestOut) → GuestTakes g tct out h → ⊥
      clash out takes =
          let controls : g.control ≡ control.Host = host view r s answer round ring under over g h is next in
          let it = takes-it g h tct out controls (talks view r s answer round ring under over g h is next) takes in
          let minds : leads (guest_mind (Some h)) ≡ leads (guest_mind (Some g)) = ap (λ guest. leads (guest_mind guest)) (sym next) ∙ ap leads (sym round.mind_then ∙ same ∙ round.mind) ∙ ap (λ guest. leads (guest_mind guest)) is in
          let clash : true ≡ false = sym (ap is_leading it.control) ∙ minds ∙ ap is_leading controls in
          cc

  none_taken : s.guest ≡ r.guest → EndPasses (λ f. f ≡ tct) round.guest round.guest_then
  none_taken same = by round.guest round.guest_then refl refl
    where
      by : (guest later : Option GuestState) → round.guest ≡ guest → round.guest_then ≡ later → EndPasses (λ f. f ≡ tct) guest later
      by None later is next = tt
      by (Some g) None is next = tt
      by (Some g) (Some h) is next = not_taken g h is next same

  pub lost_round : HandLost r answer s → Round view r r.books.held (sourced 0 tct) answer s
  lost_round lost = controlled_host_round view r s (sourced 0 tct) answer round (λ f. f ≡ tct) (none_taken lost.guest_is) comes_tct under

-- it was lost so, or that party took it
pub hand_sent : {M : Type 0} (view : M → MediumView) (r s : RingView M) (answer : Arrival) → ControlledRound view r (sourced 0 tct) answer s → IsRing r → IsUnderHost r.guest → hands_over r tct ≡ true → (HandLost r answer s × Round view r r.books.held (sourced 0 tct) answer s) ⊎ HandedOver r answer s
hand_sent view r s answer round ring under over = ⊎_elim (λ lost. inl (lost, lost_round view r s answer round ring under over lost)) inr (handed_over view r s answer round ring under over)
