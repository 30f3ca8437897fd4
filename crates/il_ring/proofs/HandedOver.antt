-- The host hands control over by TCT: it was lost before the last party, or that one takes it and sends the first frame of its rounds.
use Rattle.std.proofs.Common.{◌≡◌, ◌∙◌, ◌⊎◌, inl, inr, ⊎_elim, ◌≤◌, ◌+◌, ◌++◌, ◌==◌, ◌&&◌, ℕ, true, false, List, [], ◌∷◌, Option, Some, None, length, refl, sym, ap, ap₂, subst, arith, length-append}
use Rattle.std.specs.Prelude.{if◌then◌else◌, is_some}
use Rattle.std.proofs.lemmas.Bool.{and_parts, ne_eqb}
use Rattle.il_frames.specs.declared.entry.Outcome.TheVariants as outcome
use Rattle.il_frames.specs.declared.frame.Frame.{Frame}
use Rattle.il_frames.specs.Messages.{message_of}
use Rattle.il_frames.specs.NamedFrames.{entry, is_frame}
use Rattle.il_device.specs.State.{DeviceState, risen, risen_by}
use Rattle.il_drive.specs.State.{device_of}
use Rattle.il_ports.specs.Media.{MediumView}
use Rattle.il_guest.specs.declared.control.Control.TheVariants as control
use Rattle.il_guest.specs.declared.guest.GuestOut.{GuestOut}
use Rattle.il_guest.specs.Frames.{nop, tct}
use Rattle.il_guest.specs.State.{GuestState, is_leading}
use Rattle.il_guest.specs.Takes.{GuestTakes, takes_control}
use Rattle.il_guest.proofs.GuestLaws.{takes-it}
use Rattle.il_ring.specs.declared.plan.PlanFault.{PlanFault}
use Rattle.il_ring.specs.declared.plan.Arrival.{Arrival}
use Rattle.il_ring.specs.declared.flight.Flight.{Flight}
use Rattle.il_ring.specs.Plans.{next_fault}
use Rattle.il_ring.specs.Flights.{ended_at, hit, sourced}
use Rattle.il_ring.specs.Books.{BooksView}
use Rattle.il_ring.specs.HandedOver.{HandLost, HandedOver}
use Rattle.il_ring.specs.Guests.{IsUnderHost, guest_devices, guest_mind, mind_of}
use Rattle.il_ring.specs.Journeys.{Trip, trip}
use Rattle.il_ring.specs.Lending.{LastPassage, GuestMeets, GuestReaches, ControlledRound, ControlledTrip, books_controlled, hands_over, last_talks, leads, controlled, controlled_answers, controlled_home}
use Rattle.il_ring.specs.Lists.{First}
use Rattle.il_ring.specs.Outcomes.{Obeys}
use Rattle.il_ring.specs.Rings.{RingView, IsRing, arrived, arriving, devices_of}
use Rattle.il_ring.proofs.EndsHome.{any_each}
use Rattle.il_ring.proofs.ControlledAltered.{after_later}
use Rattle.il_ring.proofs.ControlledRounds.{controlled_party, controlled_to_last}
use Rattle.il_ring.proofs.PassKinds.{Is, Any, plain_passes}
use Rattle.il_ring.proofs.PassSteps.{goes_home}
use Rattle.il_ring.proofs.Turnings.{some_flight}
use Rattle.il_ring.proofs.Passes.{Goes, LostAfter, Through, goes_past, plain_hit}

-- ---- the last of the devices

last_of : (ds : List DeviceState) (d : DeviceState) → last_talks (ds ++ d ∷ []) ≡ d.roles.talks
last_of [] d = refl
last_of (x ∷ []) d = refl
last_of (x ∷ y ∷ ds) d = last_of (y ∷ ds) d

pub tct_hit : (fault : Option PlanFault) (at : Flight) → hit fault (sourced 0 tct) ≡ Some at → at ≡ sourced 0 tct
tct_hit None at came = sym (ap (λ o. elim o [ Some g ↦ g | None ↦ at ]) came)
tct_hit (Some fault) at came = let clash = sym (plain_hit fault (sourced 0 tct) refl) ∙ came in cc

-- ---- the round

module _ {M : Type 0} (view : M → MediumView) (r s : RingView M) (answer : Arrival) (round : ControlledRound view r (sourced 0 tct) answer s) (ring : IsRing r) (under : IsUnderHost r.guest) (over : hands_over r tct ≡ true) where
  abbrev k : ℕ
  k = length (devices_of r)

  abbrev front : List DeviceState
  front = r.before ++ device_of r.drive.state ∷ round.boxed

  abbrev front_then : List DeviceState
  front_then = s.before ++ device_of s.drive.state ∷ round.boxed_then

  went : Goes (Is tct) Any (Obeys (message_of tct)) r.books.plan 1 r.books.crossings r.books.log (sourced 0 tct) front round.at_last front_then
  went = goes_past (Is tct) Any (Obeys (message_of tct)) (plain_passes tct refl) r.books.plan 1 r.books.crossings r.books.log (sourced 0 tct) front front_then round.at_last (any_each 1 front) refl (controlled_to_last view r s (sourced 0 tct) answer round)

  -- TCT comes to the last party as it was sent
  pub comes_so : (y : Flight) → round.at_last.flight ≡ Some y → y ≡ sourced 0 tct
  comes_so y came = ⊎_elim
      (λ (on : Through (Is tct) Any (Obeys (message_of tct)) r.books.plan 1 r.books.crossings r.books.log (sourced 0 tct) front round.at_last front_then).
      some_flight y (sourced 0 tct) (sym came ∙ ap (λ (t : Trip). t.flight) on.trip_is ∙ ap (λ now. Some (record (sourced 0 tct) { now = now })) on.is_now))
      (λ (lost : LostAfter (Is tct) Any (Obeys (message_of tct)) r.books.plan 1 r.books.crossings r.books.log (sourced 0 tct) front round.at_last front_then).
      let clash : Some y ≡ None = sym came ∙ ap (λ (t : Trip). t.flight) lost.trip_is in cc)
      went

  module _ (g h : GuestState) (is : round.guest ≡ Some g) (next : round.guest_then ≡ Some h) where
    pub passage : GuestReaches r.books.plan k round.at_last r.books.kept round.at_last.flight g round.past_all h
    passage = subst (λ later. LastPassage r.books.plan k round.at_last r.books.kept (Some g) round.past_all later) next (subst (λ guest. LastPassage r.books.plan k round.at_last r.books.kept guest round.past_all round.guest_then) is round.past_last)

    pub host : g.control ≡ control.Host
    host = subst IsUnderHost (round.mind ∙ ap guest_mind is) under

    pub talks : g.device.roles.talks ≡ true
    talks =
        let after = round.after ∙ ap (λ guest. round.boxed ++ guest_devices guest) is in
        sym (last_of round.boxed g.device) ∙ ap last_talks (sym after) ∙ (and_parts (is_some r.guest) (last_talks r.after) (and_parts (is_frame tct tct) (is_some r.guest && last_talks r.after) over).1).1

    pub many : k ≡ length front + 1
    many =
        let all = controlled_party view r s (sourced 0 tct) answer round g is in
        let own = length-append r.before (device_of r.drive.state ∷ round.boxed) in
        omega (arith, all, own)

    -- nothing came to the last party
    lost_so : (party : ℕ) → 1 ≤ party → party ≤ k → h ≡ g → round.past_all.trip.flight ≡ None → round.past_all.trip.log ≡ r.books.log ++ entry 0 tct (outcome.Lost party) ∷ [] → HandLost r answer s
    lost_so party some on same none log =
        let guest_is : s.guest ≡ r.guest = round.mind_then ∙ ap guest_mind next ∙ ap (λ g. Some (mind_of g)) same ∙ sym (ap guest_mind is) ∙ sym round.mind in
        let lead : leads s.guest ≡ false = ap leads (round.mind_then ∙ ap guest_mind next) ∙ ap (λ (g : GuestState). is_leading g.control) same ∙ ap is_leading host in
        record {
          party = party;
          some = some;
          on_ring = on;
          answer_is = round.answer_is ∙ ap (λ o. arrived (arriving r.books.plan round.past_all.trip.crossings o)) none;
          log_is = ap (λ (b : BooksView). b.log) (round.books ∙ ap₂ (λ lead o. controlled_home lead k (books_controlled r.books round.past_all) o) lead none) ∙ log;
          guest_is = guest_is;
        }

    -- it came there
    taken_so : (n : ℕ) (at : Flight) → at ≡ sourced 0 tct → (out : GuestOut) → GuestTakes g at.now out h → round.past_all ≡ controlled_answers n r.books.log k at r.books.kept out → First (Obeys (message_of tct)) (length front) front front_then → HandedOver r answer s
    taken_so n at same out takes past_is obeyed =
        let asked : takes_control g tct ≡ true = talks in
        let it = takes-it g h tct out host asked (subst (λ (f : Flight). GuestTakes g f.now out h) same takes) in
        let other : (0 == k) ≡ false = ne_eqb 0 k (λ e. omega (arith, e, many)) in
        let ended : ended_at (sourced 0 tct) k ≡ entry 0 tct (outcome.Taken k) = ap (λ own. entry 0 tct (if own then outcome.Back tct else outcome.Taken k)) other in
        let goes : round.past_all ≡ controlled (trip n (r.books.log ++ entry 0 tct (outcome.Taken k) ∷ []) (Some (sourced k nop))) r.books.kept =
        past_is ∙ ap₂ (λ at out. controlled_answers n r.books.log k at r.books.kept out) same it.answer ∙ ap (λ e. controlled (trip n (r.books.log ++ e ∷ []) (Some (sourced k nop))) r.books.kept) ended in
        let lead : leads s.guest ≡ true = ap leads (round.mind_then ∙ ap guest_mind next) ∙ ap is_leading it.control in
        record {
          boxed = round.boxed;
          boxed_then = round.boxed_then;
          g = g;
          h = h;
          after = round.after ∙ ap (λ guest. round.boxed ++ guest_devices guest) is;
          after_then = round.after_then ∙ ap (λ guest. round.boxed_then ++ guest_devices guest) next;
          mind = round.mind ∙ ap guest_mind is;
          mind_then = round.mind_then ∙ ap guest_mind next;
          control = it.control;
          last = it.last;
          roles = it.device.roles;
          obeyed = obeyed;
          out = (
            round.past_all.trip.crossings,
            goes_home r s answer round.past_all (entry 0 tct (outcome.Taken k) ∷ []) None (round.books ∙ ap (λ lead. controlled_home lead k (books_controlled r.books round.past_all) round.past_all.trip.flight) lead) round.answer_is
                (ap (λ (l : ControlledTrip). l.kept) goes ∙ ring.kept) (sourced k nop) (ap (λ (l : ControlledTrip). l.trip.flight) goes) (ap (λ (l : ControlledTrip). l.trip.log) goes),
          );
          later = after_later view r s (sourced 0 tct) answer round ring.crossings;
        }

    by_hit : (n : ℕ) (o : Option Flight) → hit (next_fault r.books.plan n) (sourced 0 tct) ≡ o → First (Obeys (message_of tct)) (length front) front front_then
        → GuestMeets k (trip n r.books.log (Some (sourced 0 tct))) r.books.kept (sourced 0 tct) o g round.past_all h → HandLost r answer s ⊎ HandedOver r answer s
    by_hit n None came obeyed met = inl (lost_so k (omega (arith, many)) (omega arith) met.1 (ap (λ (l : ControlledTrip). l.trip.flight) met.0) (ap (λ (l : ControlledTrip). l.trip.log) met.0))
    by_hit n (Some at) came obeyed met = inr (taken_so (risen n) at (tct_hit (next_fault r.books.plan n) at came) met.0 met.1 met.2 obeyed)

    pub handed_over_by : HandLost r answer s ⊎ HandedOver r answer s
    handed_over_by = ⊎_elim
        (λ (on : Through (Is tct) Any (Obeys (message_of tct)) r.books.plan 1 r.books.crossings r.books.log (sourced 0 tct) front round.at_last front_then).
        let n = risen_by (length front) r.books.crossings in
        let at : round.at_last ≡ trip n r.books.log (Some (sourced 0 tct)) = on.trip_is ∙ ap (λ now. trip n r.books.log (Some (record (sourced 0 tct) { now = now }))) on.is_now in
        by_hit n (hit (next_fault r.books.plan n) (sourced 0 tct)) refl on.took (subst (λ (t : Trip). GuestReaches r.books.plan k t r.books.kept t.flight g round.past_all h) at passage))
        (λ (lost : LostAfter (Is tct) Any (Obeys (message_of tct)) r.books.plan 1 r.books.crossings r.books.log (sourced 0 tct) front round.at_last front_then).
        let reached = subst (λ (t : Trip). GuestReaches r.books.plan k t r.books.kept t.flight g round.past_all h) lost.trip_is passage in
        inl (lost_so (1 + lost.reached) (omega arith) (omega (arith, lost.within, many)) reached.1 (ap (λ (l : ControlledTrip). l.trip.flight) reached.0) (ap (λ (l : ControlledTrip). l.trip.log) reached.0)))
        went

  pub handed_over : HandLost r answer s ⊎ HandedOver r answer s
  handed_over = by round.guest round.guest_then refl refl
    where
      by : (guest later : Option GuestState) → round.guest ≡ guest → round.guest_then ≡ later → HandLost r answer s ⊎ HandedOver r answer s
      by None later is next =
          let some = (and_parts (is_some r.guest) (last_talks r.after) (and_parts (is_frame tct tct) (is_some r.guest && last_talks r.after) over).1).0 in
          let clash = sym (ap is_some (round.mind ∙ ap guest_mind is)) ∙ some in cc
      by (Some g) None is next = absurd (subst (λ later. LastPassage r.books.plan k round.at_last r.books.kept (Some g) round.past_all later) next (subst (λ guest. LastPassage r.books.plan k round.at_last r.books.kept guest round.past_all round.guest_then) is round.past_last))
      by (Some g) (Some h) is next = handed_over_by g h is next

-- by name
pub over_sent : {M : Type 0} (view : M → MediumView) (r s : RingView M) (f : Frame) (answer : Arrival) → f ≡ tct → (hands_over r f ≡ true → ControlledRound view r (sourced 0 f) answer s) → IsRing r → IsUnderHost r.guest → hands_over r tct ≡ true → HandLost r answer s ⊎ HandedOver r answer s
over_sent view r s f answer is round ring under over =
    handed_over view r s answer (subst (λ f. ControlledRound view r (sourced 0 f) answer s) is (round (ap (hands_over r) is ∙ over))) ring under over
