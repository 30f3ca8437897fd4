-- What the host's TCT adds to the counts as it hands control over: links, and frames that came to each device.
use Rattle.std.proofs.Common.{◌≡◌, ◌⊎◌, inl, inr, ℕ, true, false, Option, Some, None, length, refl, sym, ap, ap₂, subst, ◌∙◌, arith}
use Rattle.std.specs.Prelude.{is_some, ◌&&◌}
use Rattle.std.proofs.lemmas.Bool.{and_parts}
use Rattle.il_frames.specs.NamedFrames.{is_frame}
use Rattle.il_ports.specs.Media.{MediumView}
use Rattle.il_guest.specs.declared.guest.GuestOut.{GuestOut}
use Rattle.il_guest.specs.Frames.{tct}
use Rattle.il_guest.specs.State.{GuestState, is_leading}
use Rattle.il_guest.specs.Takes.{GuestTakes, takes_control}
use Rattle.il_guest.proofs.GuestLaws.{TakesIt, takes-it}
use Rattle.il_ring.specs.declared.flight.Flight.{Flight}
use Rattle.il_ring.specs.declared.plan.Arrival.{Arrival}
use Rattle.il_ring.specs.Flights.{hit, sourced}
use Rattle.il_ring.specs.Guests.{IsUnderHost, guest_mind}
use Rattle.il_ring.specs.ControlledAdds.{ControlledCounts}
use Rattle.il_ring.specs.Lending.{GuestMeets, GuestReaches, LastPassage, ControlledRound, ControlledTrip, books_controlled, hands_over, last_talks, leads, controlled_home, lent_home}
use Rattle.il_ring.specs.Plans.{next_fault}
use Rattle.il_ring.specs.Rings.{IsRing, RingView, devices_of}
use Rattle.il_ring.proofs.HandedOver.{comes_so, host, passage, talks, tct_hit}
use Rattle.il_ring.proofs.ControlledCounts.{EndsAlone, counts_by}

module _ {M : Type 0} (view : M → MediumView) (r s : RingView M) (answer : Arrival) (round : ControlledRound view r (sourced 0 tct) answer s) (ring : IsRing r) (under : IsUnderHost r.guest) (over : hands_over r tct ≡ true) where
  abbrev k : ℕ
  k = length (devices_of r)

  module _ (g h : GuestState) (is : round.guest ≡ Some g) (next : round.guest_then ≡ Some h) where
    takes_so : (y at : Flight) → round.at_last.flight ≡ Some y → hit (next_fault r.books.plan round.at_last.crossings) y ≡ Some at → (out : GuestOut) → GuestTakes g at.now out h → TakesIt g tct out h
    takes_so y at came hits out takes =
        let same : at ≡ sourced 0 tct = tct_hit (next_fault r.books.plan round.at_last.crossings) at (ap (hit (next_fault r.books.plan round.at_last.crossings)) (sym (comes_so view r s answer round ring under over y came)) ∙ hits) in
        let asked : takes_control g tct ≡ true = talks view r s answer round ring under over g h is next in
        takes-it g h tct out (host view r s answer round ring under over g h is next) asked (subst (λ (f : Flight). GuestTakes g f.now out h) same takes)

    -- nothing came to it: the host controls still
    alone : h ≡ g → round.past_all.trip.flight ≡ None → round.past_all.kept ≡ r.books.kept → EndsAlone r s round.past_all
    alone same none kept =
        let lead : leads s.guest ≡ false =
        ap leads (round.mind_then ∙ ap guest_mind next) ∙ ap (λ (g : GuestState). is_leading g.control) same ∙ ap is_leading (host view r s answer round ring under over g h is next) in
        record {
          none = none;
          unkept = kept ∙ ring.kept;
          unlent = ring.lent;
          books = round.books ∙ ap₂ (λ lead flight. controlled_home lead k (books_controlled r.books round.past_all) flight) lead none;
        }

    abbrev Ends : Type 0
    Ends = (s.books ≡ lent_home k (books_controlled r.books round.past_all) round.past_all.trip.flight) ⊎ EndsAlone r s round.past_all

    met_ends : (y : Flight) (after : Option Flight) → round.at_last.flight ≡ Some y → hit (next_fault r.books.plan round.at_last.crossings) y ≡ after → GuestMeets k round.at_last r.books.kept y after g round.past_all h → Ends
    met_ends y None came hits met = inr (alone met.1 (ap (λ (u : ControlledTrip). u.trip.flight) met.0) (ap (λ (u : ControlledTrip). u.kept) met.0))
    met_ends y (Some at) came hits met =
        let it = takes_so y at came hits met.0 met.1 in
        let lead : leads s.guest ≡ true = ap leads (round.mind_then ∙ ap guest_mind next) ∙ ap is_leading it.control in
        inl (round.books ∙ ap (λ lead. controlled_home lead k (books_controlled r.books round.past_all) round.past_all.trip.flight) lead)

    reached_ends : (after : Option Flight) → round.at_last.flight ≡ after → GuestReaches r.books.plan k round.at_last r.books.kept after g round.past_all h → Ends
    reached_ends None came reached = inr (alone reached.1 (ap (λ (u : ControlledTrip). u.trip.flight) reached.0 ∙ came) (ap (λ (u : ControlledTrip). u.kept) reached.0))
    reached_ends (Some y) came reached = met_ends y (hit (next_fault r.books.plan round.at_last.crossings) y) came refl reached

    handed_by : ControlledCounts r s
    handed_by = counts_by view r.books.lent r s (sourced 0 tct) answer round g h is next (inl (omega arith)) (inr (refl, ring.lent, ring.kept)) (λ y kept. let clash : None ≡ Some y = sym ring.kept ∙ kept in cc)
        (λ y at came hits out takes.
        let it = takes_so y at came hits out takes in
        record { no_passing = λ x passes. let clash = sym it.answer ∙ passes in cc; unkept = λ x sends. ring.kept; rises = it.device.frames })
        (reached_ends round.at_last.flight refl (passage view r s answer round ring under over g h is next))

  -- The host's TCT went round a ring that is not lent.
  handed : ControlledCounts r s
  handed = by round.guest round.guest_then refl refl
    where
      by : (guest later : Option GuestState) → round.guest ≡ guest → round.guest_then ≡ later → ControlledCounts r s
      by None later is next =
          let some = (and_parts (is_some r.guest) (last_talks r.after) (and_parts (is_frame tct tct) (is_some r.guest && last_talks r.after) over).1).0 in
          let clash = sym (ap is_some (round.mind ∙ ap guest_mind is)) ∙ some in cc
      by (Some g) None is next = absurd (subst (λ later. LastPassage r.books.plan k round.at_last r.books.kept (Some g) round.past_all later) next (subst (λ guest. LastPassage r.books.plan k round.at_last r.books.kept guest round.past_all round.guest_then) is round.past_last))
      by (Some g) (Some h) is next = handed_by g h is next

-- The host's TCT went round a ring that is not lent: it was lost, or the last party took it and sent its NOP.
pub handed_counts : {M : Type 0} (view : M → MediumView) (r s : RingView M) (answer : Arrival) → ControlledRound view r (sourced 0 tct) answer s → IsRing r → IsUnderHost r.guest → hands_over r tct ≡ true → ControlledCounts r s
handed_counts view r s answer round ring under over = handed view r s answer round ring under over
