-- What holds at every moment of a ring that a second controller controls.
use Rattle.std.specs.List.{All}
use Rattle.std.proofs.lemmas.Bool.{and_parts}
use Rattle.std.proofs.lemmas.List.Elements.{All-append, All-cons, All-nil}
use Rattle.std.proofs.Common.{◌≡◌, ◌⊎◌, inl, inr, ⊎_elim, ◌≤◌, ◌+◌, ◌++◌, ℕ, Bool, true, false, not, List, [], ◌∷◌, Option, Some, None, option_map, length, refl, sym, ap, subst, ◌∙◌, arith, length-append}
use Rattle.std.specs.Prelude.{if◌then◌else◌}
use Rattle.il_frames.specs.declared.frame.Frame.{Frame}
use Rattle.il_frames.specs.Messages.{message_of}
use Rattle.il_device.specs.State.{risen}
use Rattle.il_ports.specs.Media.{MediumView}
use Rattle.il_drive.specs.State.{IsDrive, device_of}
use Rattle.il_frames.specs.NamedFrames.{ifc, is_ifc}
use Rattle.il_guest.specs.declared.control.Control.{Control}
use Rattle.il_guest.specs.declared.control.Control.TheVariants as control
use Rattle.il_guest.specs.declared.control.Place.{Place}
use Rattle.il_guest.specs.declared.control.Place.TheVariants as place
use Rattle.il_guest.specs.declared.guest.GuestOut.{GuestOut}
use Rattle.il_guest.specs.Steps.{IsControl, IsRoundPlace, control_after, out_of}
use Rattle.il_guest.specs.State.{GuestState, is_leading}
use Rattle.il_guest.specs.Courses.{control_next, first_control}
use Rattle.il_guest.specs.Takes.{GuestTakes, is_tct, takes_control}
use Rattle.il_guest.proofs.GuestLaws.{goes-on, leads-until-ifc, takes-it}
use Rattle.il_guest.specs.declared.control.Command.TheVariants as command
use Rattle.il_device.specs.Passing.{is_plain}
use Rattle.il_ring.specs.declared.plan.Planned.{Planned}
use Rattle.il_ring.specs.declared.plan.Arrival.{Arrival}
use Rattle.il_ring.specs.declared.plan.Arrival.TheVariants as arrival
use Rattle.il_ring.specs.declared.flight.Flight.{Flight}
use Rattle.il_ring.specs.Plans.{next_fault, last_crossing, IsPlan}
use Rattle.il_ring.specs.Flights.{ended_at, hit, sourced}
use Rattle.il_ring.specs.Books.{BooksView, IsHeld}
use Rattle.il_ring.specs.Fates.{IsByPlan, GoesByPlan, HoldsByPlan, ShowsPlan}
use Rattle.il_ring.specs.Guests.{GuestMind, IsUnderHost, guest_devices, guest_mind, mind_of}
use Rattle.il_ring.specs.Journeys.{Trip, trip_of}
use Rattle.il_ring.specs.Lending.{IsControlled, ControlledRound, ControlledTrip, GuestReaches, LastPassage, StandsAt, StandsNow, StandsLent, StandsUnder, TakesBack, as_host, books_controlled, entry_of_kept, going_on, leads, lending_ended, taken_back, host_leads, controlled_answers, controlled_home, lent_home, over_lent_link}
use Rattle.il_ring.specs.Rings.{RingView, IsRing, Round, arrived, arriving, devices_of, ring_emptied}
use Rattle.il_ring.proofs.Fates.{ended_so, journey_so, sourced_way, told_cleared, starts_so}
use Rattle.il_ring.proofs.Faults.{risen_within}
use Rattle.il_ring.proofs.Journeys.{past_guest}
use Rattle.il_ring.proofs.Handing.{OnWay, data_no_ifc, hit_lacks, ifc_never, journey_lacks, tct_never}
use Rattle.il_ring.proofs.MessageKinds.{no_data_of}
use Rattle.il_ring.proofs.ControlledFates.{TellsControlled, last_known, leads_not, controlled_home_told, passes_under}
use Rattle.il_ring.proofs.ControlledKeeps.{controlled_keeps}
use Rattle.il_ring.proofs.ControlledRounds.{controlled_host_round, controlled_to_last, controlled_under, on_way_any}
use Rattle.il_ring.proofs.Lendings.{EndPasses}
use Rattle.il_ring.proofs.ControlledSteps.{Stood, home_stands, own_goes, sent_no_ifc, stands_on}
use Rattle.il_ring.proofs.Rings.{IsRing-send, Journey-length, Passage-drive}
use Rattle.il_ring.proofs.SendLaws.{plain_sent}

-- ---- the books after a round

-- the crossings stay below their greatest count, and no frame is held
over_keeps : (k : ℕ) (b : BooksView) (f : Flight) (o : Option Flight) → b.crossings ≤ last_crossing → ((over_lent_link k b f o).crossings ≤ last_crossing) × ((over_lent_link k b f o).held ≡ None)
over_keeps k b f None within = (within, refl)
over_keeps k b f (Some g) within = (within, refl)

home_keeps : (k : ℕ) (b : BooksView) (flight : Option Flight) → b.crossings ≤ last_crossing → ((lent_home k b flight).crossings ≤ last_crossing) × ((lent_home k b flight).held ≡ None)
home_keeps k b None within = (within, refl)
home_keeps k b (Some f) within = over_keeps k (record b { crossings = risen b.crossings }) f (hit (next_fault b.plan b.crossings) f) (risen_within b.crossings)

-- ---- a frame of its rounds, or of another, comes to it

-- it controls on, and what goes on is what is at the host where it then is
record GoesOnControlled (k : ℕ) (h : GuestState) (u : ControlledTrip) : Type 0 where
  leads : is_leading h.control ≡ true
  stood : Stood k h.control u.trip.flight u.kept

abbrev NoIfc : Frame → Type 0
NoIfc f = is_ifc (message_of f) ≡ false

module _ (k : ℕ) (t : Trip) (kept : Option Flight) (f : Flight) (g : GuestState) where
  at_place : (p : Place) → g.control ≡ control.Rounds p → StandsAt k p f kept → (n : ℕ) (at : Flight) (out : GuestOut) (h : GuestState) → NoIfc at.now → GuestTakes g at.now out h → GoesOnControlled k h (controlled_answers n t.log k at kept out)
  at_place p rounds stands n at out h other takes =
      let lead : is_leading g.control ≡ true = ap is_leading rounds in
      let on = goes-on g h at.now out lead other takes in
      let to : h.control ≡ control_after g.device.roles.address g.last p at.now = on.control ∙ ap (λ c. control_next g.device.roles.address g.last c at.now) rounds in
      let stood = stands_on k n t.log at kept g.device.roles.address g.last p f stands (subst IsControl rounds takes.before.control) in
      let here : Stood k h.control (controlled_answers n t.log k at kept (out_of h.control)).trip.flight (controlled_answers n t.log k at kept (out_of h.control)).kept =
      subst (λ c. Stood k c (controlled_answers n t.log k at kept (out_of c)).trip.flight (controlled_answers n t.log k at kept (out_of c)).kept) (sym to) stood in
      record {
        leads = leads-until-ifc g h at.now out takes ∙ rw (lead, other) refl;
        stood = subst (λ out. Stood k h.control (controlled_answers n t.log k at kept out).trip.flight (controlled_answers n t.log k at kept out).kept) (sym on.answer) here;
      }

  -- if what comes to it is no IFC
  goes_controlled : (plan : List Planned) (u : ControlledTrip) (h : GuestState) → StandsUnder k g.control f kept → is_leading g.control ≡ true → ((p : Place) → IsRoundPlace p → StandsAt k p f kept → OnWay NoIfc t.flight)
      → GuestReaches plan k t kept t.flight g u h → GoesOnControlled k h u
  goes_controlled plan u h stands lead calm reached = past_guest plan k t kept g (λ u h. GoesOnControlled k h u) (λ none. record { leads = lead; stood = subst (λ o. Stood k g.control o kept) (sym none) tt }) (λ one is gone. record { leads = lead; stood = tt })
      (λ one at out h is came takes. by_control g.control refl stands one at out h is came takes) u h reached
    where
      by_control : (c : Control) → g.control ≡ c → StandsUnder k c f kept → (one at : Flight) (out : GuestOut) (h : GuestState) → t.flight ≡ Some one → hit (next_fault plan t.crossings) one ≡ Some at → GuestTakes g at.now out h
          → GoesOnControlled k h (controlled_answers (risen t.crossings) t.log k at kept out)
      by_control control.Host in_ stands one at out h is came takes = absurd stands
      by_control control.Silent in_ stands one at out h is came takes = absurd stands
      by_control (control.Rounds p) in_ stands one at out h is came takes =
          at_place p in_ stands (risen t.crossings) at out h (hit_lacks is_ifc ifc_never (next_fault plan t.crossings) one (Some at) (subst (OnWay NoIfc) is (calm p (subst IsControl in_ takes.before.control) stands)) came) takes

-- the same of the last party, whoever it is
record LastControlled (k : ℕ) (later : Option GuestState) (u : ControlledTrip) : Type 0 where
  leads : leads (guest_mind later) ≡ true
  stands : (b : BooksView) → b.kept ≡ u.kept → StandsLent k (guest_mind later) (lent_home k b u.trip.flight).lent (lent_home k b u.trip.flight).kept

last_goes : (plan : List Planned) (k : ℕ) (t : Trip) (kept : Option Flight) (guest : Option GuestState) (u : ControlledTrip) (later : Option GuestState) → LastPassage plan k t kept guest u later → (guest ≡ None → later ≡ None → ⊥)
    → ((g h : GuestState) → guest ≡ Some g → later ≡ Some h → GuestReaches plan k t kept t.flight g u h → GoesOnControlled k h u) → LastControlled k later u
last_goes plan k t kept None u None passage some goes = absurd (some refl refl)
last_goes plan k t kept None u (Some h) passage some goes = absurd passage
last_goes plan k t kept (Some g) u None passage some goes = absurd passage
last_goes plan k t kept (Some g) u (Some h) passage some goes =
    let on = goes g h refl refl passage in
    record {
      leads = on.leads;
      stands = λ b same. home_stands k b u.trip.flight (mind_of h) (subst (λ kept. Stood k h.control u.trip.flight kept) (sym same) on.stood);
    }

-- ---- every round of a ring with a second controller

guests-length : (plan : List Planned) (k : ℕ) (t : Trip) (kept : Option Flight) (guest : Option GuestState) (u : ControlledTrip) (later : Option GuestState) → LastPassage plan k t kept guest u later → length (guest_devices later) ≡ length (guest_devices guest)
guests-length plan k t kept None u None passage = refl
guests-length plan k t kept None u (Some h) passage = absurd passage
guests-length plan k t kept (Some g) u None passage = absurd passage
guests-length plan k t kept (Some g) u (Some h) passage = refl

module _ {M : Type 0} (view : M → MediumView) (r s : RingView M) (f : Flight) (answer : Arrival) (round : ControlledRound view r f answer s) where
  before-controlled : length s.before ≡ length r.before
  before-controlled = Journey-length r.books.plan 1 (trip_of r.books (Some f)) round.at_drive r.before s.before round.to_drive

  after-controlled : length s.after ≡ length r.after
  after-controlled =
      let boxed = Journey-length r.books.plan (length r.before + 2) round.past_drive round.at_last round.boxed round.boxed_then round.from_drive in
      let guests = guests-length r.books.plan (length (devices_of r)) round.at_last r.books.kept round.guest round.past_all round.guest_then round.past_last in
      let old = ap length round.after ∙ length-append round.boxed (guest_devices round.guest) in
      let new = ap length round.after_then ∙ length-append round.boxed_then (guest_devices round.guest_then) in
      omega (arith, boxed, guests, old, new)

  devices-controlled : length (devices_of s) ≡ length (devices_of r)
  devices-controlled =
      let old = length-append r.before (device_of r.drive.state ∷ r.after) in
      let new = length-append s.before (device_of s.drive.state ∷ s.after) in
      omega (arith, old, new, before-controlled, after-controlled)

  drive-controlled : (n : ℕ) × IsDrive n r.drive.state → (n : ℕ) × IsDrive n s.drive.state
  drive-controlled is = Passage-drive view r.books.plan (length r.before + 1) round.at_drive round.past_drive r.drive s.drive is round.at

  tells-controlled : r.books.crossings ≤ last_crossing → GoesByPlan r.books.plan r.books.begun r.books.crossings f → ShowsPlan r.books → TellsControlled r.books round.past_all
  tells-controlled within way told =
      let sets = starts_so r.books r.books.held f within told.held way told in
      let last = journey_so r.books 1 (trip_of r.books (Some f)) round.at_last (r.before ++ device_of r.drive.state ∷ round.boxed) (s.before ++ device_of s.drive.state ∷ round.boxed_then) sets (controlled_to_last view r s f answer round) in
      last_known r.books (length (devices_of r)) round.at_last r.books.kept round.guest round.guest_then round.past_all (record { told = last.told; within = last.within; way = last.way }) round.past_last

  -- if a second controller controls then
  controlled_stays : r.books.crossings ≤ last_crossing → GoesByPlan r.books.plan r.books.begun r.books.crossings f → ShowsPlan r.books → LastControlled (length (devices_of r)) round.guest_then round.past_all
      → length r.before + length r.after ≤ 29 → IsPlan r.books.plan → (n : ℕ) × IsDrive n r.drive.state → IsControlled s
  controlled_stays within way told on few plan drive =
      let k = length (devices_of r) in
      let b = books_controlled r.books round.past_all in
      let lead : leads s.guest ≡ true = ap leads round.mind_then ∙ on.leads in
      let home : s.books ≡ lent_home k b round.past_all.trip.flight = round.books ∙ ap (λ lead. controlled_home lead k b round.past_all.trip.flight) lead in
      let stands : StandsLent k s.guest s.books.lent s.books.kept =
      subst (λ (b : BooksView). StandsLent k s.guest b.lent b.kept) (sym home) (subst (λ mind. StandsLent k mind (lent_home k b round.past_all.trip.flight).lent (lent_home k b round.past_all.trip.flight).kept) (sym round.mind_then) (on.stands b refl)) in
      let tells = tells-controlled within way told in
      let keeps = subst (λ (c : BooksView). (c.crossings ≤ last_crossing) × (c.held ≡ None)) (sym home) (home_keeps k b round.past_all.trip.flight tells.within) in
      record {
        few = omega (arith, few, before-controlled, after-controlled);
        plan = subst IsPlan (sym (controlled_keeps view r s f answer round).plan) plan;
        crossings = keeps.0;
        held = keeps.1;
        drive = drive-controlled drive;
        leads = lead;
        stands = subst (λ k. StandsLent k s.guest s.books.lent s.books.kept) (sym devices-controlled) stands;
        told = subst ShowsPlan (sym round.books) (controlled_home_told (leads s.guest) k r.books round.past_all tells);
      }

-- ---- the frame that is at the host goes on

calm_stands : (k : ℕ) (p : Place) (f : Flight) (kept : Option Flight) → IsRoundPlace p → StandsAt k p f kept → NoIfc f.now
calm_stands k (place.Command c) f kept is stands = ap (λ (f : Flight). is_ifc (message_of f.now)) stands.0 ∙ sent_no_ifc (place.Command c) is
calm_stands k (place.Ready c) f kept is stands = ap (λ (f : Flight). is_ifc (message_of f.now)) stands.0 ∙ sent_no_ifc (place.Ready c) is
calm_stands k (place.Start a) f kept is stands = ap (λ (f : Flight). is_ifc (message_of f.now)) stands.0 ∙ sent_no_ifc (place.Start a) is
calm_stands k (place.Held a d) f kept is stands = ap (λ (f : Flight). is_ifc (message_of f.now)) stands.0 ∙ sent_no_ifc (place.Held a d) is
calm_stands k (place.Relayed a d) f kept is stands = data_no_ifc f.now stands.0

-- a second controller controls on
pub IsControlled-pass : {M : Type 0} (view : M → MediumView) (r s : RingView M) (f : Flight) (answer : Arrival) → ControlledRound view (going_on r) f answer s → IsControlled r → r.books.lent ≡ Some f → IsControlled s
IsControlled-pass view r s f answer round is lent =
    let k = length (devices_of r) in
    let at : StandsLent k (guest_mind round.guest) (Some f) r.books.kept = subst (λ mind. StandsLent k mind (Some f) r.books.kept) round.mind (subst (λ lent. StandsLent k r.guest lent r.books.kept) lent is.stands) in
    let calm : (p : Place) → IsRoundPlace p → StandsAt k p f r.books.kept → OnWay NoIfc round.at_last.flight =
    λ p place stands. journey_lacks is_ifc ifc_never r.books.plan 1 (trip_of r.books (Some f)) round.at_last (r.before ++ device_of r.drive.state ∷ round.boxed) (s.before ++ device_of s.drive.state ∷ round.boxed_then) (omega arith) (calm_stands k p f r.books.kept place stands) (controlled_to_last view (going_on r) s f answer round) in
    let lead = ap leads (sym round.mind) ∙ is.leads in
    let on = last_goes r.books.plan k round.at_last r.books.kept round.guest round.past_all round.guest_then round.past_last (λ alone none. let clash : false ≡ true = sym (ap (λ guest. leads (guest_mind guest)) alone) ∙ lead in cc)
    (λ g h there next reached. goes_controlled k round.at_last r.books.kept f g r.books.plan round.past_all h (subst (λ guest. StandsLent k (guest_mind guest) (Some f) r.books.kept) there at) (subst (λ guest. leads (guest_mind guest) ≡ true) there lead) calm reached) in
    let way : GoesByPlan r.books.plan r.books.begun r.books.crossings f = subst (HoldsByPlan r.books.plan r.books.begun r.books.crossings) lent is.told.lent in
    let told : ShowsPlan (going_on r).books = record { begun = is.told.begun; entries = is.told.entries; held = is.told.held; lent = tt; kept = is.told.kept } in
    controlled_stays view (going_on r) s f answer round is.crossings way told on is.few is.plan is.drive

-- ---- what arrived stands

over_now : (k : ℕ) (b : BooksView) (f : Flight) (o : Option Flight) → StandsNow (arrived o) (over_lent_link k b f o).lent
over_now k b f None = refl
over_now k b f (Some g) = (g, refl, refl)

home_now : (k : ℕ) (b : BooksView) (flight : Option Flight) → StandsNow (arrived (arriving b.plan b.crossings flight)) (lent_home k b flight).lent
home_now k b None = refl
home_now k b (Some f) = over_now k (record b { crossings = risen b.crossings }) f (hit (next_fault b.plan b.crossings) f)

pub stands_now : {M : Type 0} (view : M → MediumView) (r s : RingView M) (f : Flight) (answer : Arrival) → ControlledRound view r f answer s → leads s.guest ≡ true → StandsNow answer s.books.lent
stands_now view r s f answer round lead =
    let k = length (devices_of r) in
    let home : s.books ≡ lent_home k (books_controlled r.books round.past_all) round.past_all.trip.flight = round.books ∙ ap (λ lead. controlled_home lead k (books_controlled r.books round.past_all) round.past_all.trip.flight) lead in
    subst (λ answer. StandsNow answer s.books.lent) (sym round.answer_is) (subst (λ (b : BooksView). StandsNow (arrived (arriving r.books.plan round.past_all.trip.crossings round.past_all.trip.flight)) b.lent) (sym home) (home_now k (books_controlled r.books round.past_all) round.past_all.trip.flight))

-- ---- the host hands control over

-- if the host controls then the round was one like every other
ends_host : (guest later : Option GuestState) → leads (guest_mind later) ≡ false → EndPasses (λ f. Unit {0}) guest later
ends_host None later none = tt
ends_host (Some g) None none = tt
ends_host (Some g) (Some h) none = record { rule = λ f out any takes. passes_under g h f out (leads_not h.control none) takes; stays = λ fault f o any is. on_way_any o }

not_taken : {M : Type 0} (view : M → MediumView) (r s : RingView M) (f : Flight) (answer : Arrival) → ControlledRound view r f answer s → IsUnderHost r.guest → leads s.guest ≡ false → Round view r r.books.held f answer s
not_taken view r s f answer round under none =
    controlled_host_round view r s f answer round (λ f. Unit {0}) (ends_host round.guest round.guest_then (ap leads (sym round.mind_then) ∙ none)) (on_way_any round.at_last.flight) under

-- it was taken: the first frame of the rounds is at the host, or was lost
module _ (k : ℕ) (g : GuestState) (host : g.control ≡ control.Host) where
  nop_goes : (n : ℕ) (t : Trip) (at : Flight) (out : GuestOut) (h : GuestState) → is_leading h.control ≡ true → GuestTakes g at.now out h → GoesOnControlled k h (controlled_answers n t.log k at None out)
  nop_goes n t at out h lead takes =
      let asked : takes_control g at.now ≡ true = sym (ap (λ c. if is_leading c then not (is_ifc (message_of at.now)) else takes_control g at.now) host) ∙ sym (leads-until-ifc g h at.now out takes) ∙ lead in
      let it = takes-it g h at.now out host asked takes in
      let other = no_data_of is_tct tct_never.no_data at.now (and_parts (is_tct (message_of at.now)) g.device.roles.talks asked).0 in
      let stood = own_goes k n t.log at None (place.Command command.Nop) tt other refl in
      let went = ap (controlled_answers n t.log k at None) it.answer in
      record { leads = lead; stood = subst (λ c. Stood k c (controlled_answers n t.log k at None out).trip.flight (controlled_answers n t.log k at None out).kept) (sym it.control) (subst (λ (u : ControlledTrip). Stood k first_control u.trip.flight u.kept) (sym went) stood) }

  not_leading : is_leading g.control ≡ true → ⊥
  not_leading lead = let clash = sym (ap is_leading host) ∙ lead in cc

  handed_goes : (plan : List Planned) (t : Trip) (u : ControlledTrip) (h : GuestState) → is_leading h.control ≡ true → GuestReaches plan k t None t.flight g u h → GoesOnControlled k h u
  handed_goes plan t u h lead reached = past_guest plan k t None g (λ u h. is_leading h.control ≡ true → GoesOnControlled k h u) (λ none lead. absurd (not_leading lead)) (λ f is gone lead. absurd (not_leading lead))
      (λ f at out h is came takes lead. nop_goes (risen t.crossings) t at out h lead takes) u h reached lead

pub IsControlled-handed : {M : Type 0} (view : M → MediumView) (r s : RingView M) (f : Frame) (answer : Arrival) → ControlledRound view r (sourced 0 f) answer s → IsRing r → IsUnderHost r.guest → (IsRing s × IsUnderHost s.guest) ⊎ (IsControlled s × StandsNow answer s.books.lent)
IsControlled-handed view r s f answer round ring under = by_lead (leads s.guest) refl
  where
    by_lead : (lead : Bool) → leads s.guest ≡ lead → (IsRing s × IsUnderHost s.guest) ⊎ (IsControlled s × StandsNow answer s.books.lent)
    by_lead false none = inl (IsRing-send view r s r.books.held f answer (not_taken view r s (sourced 0 f) answer round under none) ring (inr refl), controlled_under s.guest none)
    by_lead true lead =
        let k = length (devices_of r) in
        let lead_then : leads (guest_mind round.guest_then) ≡ true = ap leads (sym round.mind_then) ∙ lead in
        let on = last_goes r.books.plan k round.at_last r.books.kept round.guest round.past_all round.guest_then round.past_last (λ alone none. let clash : false ≡ true = sym (ap (λ guest. leads (guest_mind guest)) none) ∙ lead_then in cc)
        (λ g h there next reached. handed_goes k g (subst IsUnderHost (round.mind ∙ ap guest_mind there) under) r.books.plan round.at_last round.past_all h (subst (λ guest. leads (guest_mind guest) ≡ true) next lead_then)
        (subst (λ kept. GuestReaches r.books.plan k round.at_last kept round.at_last.flight g round.past_all h) ring.kept reached)) in
        inr (controlled_stays view r s (sourced 0 f) answer round ring.crossings (sourced_way r.books.plan r.books.begun r.books.crossings 0 f) ring.told on ring.few ring.plan ring.drive, stands_now view r s (sourced 0 f) answer round lead)

-- ---- the host takes control back

ended_told : (b : BooksView) (k : ℕ) (o : Option Flight) → HoldsByPlan b.plan b.begun b.crossings o → All (IsByPlan b.plan b.begun b.crossings) (entry_of_kept k o)
ended_told b k None way = All-nil (IsByPlan b.plan b.begun b.crossings)
ended_told b k (Some f) way = All-cons (IsByPlan b.plan b.begun b.crossings) (ended_at f k) [] (ended_so b.plan b.begun b.crossings k f way) (All-nil (IsByPlan b.plan b.begun b.crossings))

lending_told : (b : BooksView) (k : ℕ) → ShowsPlan b → ShowsPlan (lending_ended k b)
lending_told b k told = record {
  begun = told.begun;
  entries = All-append (IsByPlan b.plan b.begun b.crossings) (b.log ++ entry_of_kept k b.kept) (entry_of_kept 0 b.lent) (All-append (IsByPlan b.plan b.begun b.crossings) b.log (entry_of_kept k b.kept) told.entries (ended_told b k b.kept told.kept)) (ended_told b 0 b.lent told.lent);
  held = told.held;
  lent = tt;
  kept = tt;
}

pub host_under : (m : Option GuestMind) → IsUnderHost (option_map as_host m)
host_under None = tt
host_under (Some mind) = refl

pub ring_back : {M : Type 0} (r : RingView M) → IsControlled r → IsRing (host_leads (taken_back r))
ring_back r is = record {
  few = is.few;
  plan = is.plan;
  crossings = is.crossings;
  held = subst IsHeld (sym is.held) tt;
  drive = is.drive;
  lent = refl;
  kept = refl;
  told = lending_told r.books (length (devices_of r)) is.told;
}

pub IsControlled-back : {M : Type 0} (view : M → MediumView) (r s : RingView M) (f : Frame) (answer : Arrival) → TakesBack view r f answer s → f ≡ ifc → IsControlled r → (IsRing s × IsUnderHost s.guest) ⊎ (IsControlled s × (answer ≡ arrival.Lost) × (s.books.lent ≡ None))
IsControlled-back view r s f answer back is_ifc_frame is = by_mind back.mind
  where
    ring : IsRing (host_leads (taken_back r))
    ring = ring_back r is

    ring_then : IsRing (host_leads s)
    ring_then = IsRing-send view (host_leads (taken_back r)) (host_leads s) r.books.held f answer back.round ring (inr refl)

    gone : answer ≡ arrival.Lost → s.books.held ≡ None
    gone lost = ⊎_elim (λ came. let clash = sym lost ∙ came.answer_is in cc) (λ was. was.held_is)
        (plain_sent view (host_leads (taken_back r)) (host_leads s) r.books.held f (sourced 0 f) answer back.round refl ring (ap (λ f. is_plain (message_of f)) is_ifc_frame))

    by_mind : (s ≡ host_leads s) ⊎ ((s.guest ≡ r.guest) × (answer ≡ arrival.Lost)) → (IsRing s × IsUnderHost s.guest) ⊎ (IsControlled s × (answer ≡ arrival.Lost) × (s.books.lent ≡ None))
    by_mind (inl same) = inl (subst (λ s. IsRing s × IsUnderHost s.guest) (sym same) (ring_then, host_under s.guest))
    by_mind (inr (same, lost)) = inr (
      record {
        few = ring_then.few;
        plan = ring_then.plan;
        crossings = ring_then.crossings;
        held = gone lost;
        drive = ring_then.drive;
        leads = ap leads same ∙ is.leads;
        stands = subst (λ lent. StandsLent (length (devices_of s)) s.guest lent s.books.kept) (sym ring_then.lent) ring_then.kept;
        told = ring_then.told;
      },
      lost,
      ring_then.lent,
    )

-- ---- if it is lent no more

pub controlled_ring : {M : Type 0} (r : RingView M) → IsControlled r → r.books.lent ≡ None → IsRing r
controlled_ring r is none = record {
  few = is.few;
  plan = is.plan;
  crossings = is.crossings;
  held = subst IsHeld (sym is.held) tt;
  drive = is.drive;
  lent = none;
  kept = subst (λ lent. StandsLent (length (devices_of r)) r.guest lent r.books.kept) none is.stands;
  told = is.told;
}

-- ---- and an emptying of the log

pub IsControlled-clear : {M : Type 0} (r : RingView M) → IsControlled r → IsControlled (ring_emptied r)
IsControlled-clear r is = record { few = is.few; plan = is.plan; crossings = is.crossings; held = is.held; drive = is.drive; leads = is.leads; stands = is.stands; told = told_cleared r.books is.told }
