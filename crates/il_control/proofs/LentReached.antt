-- If the rounds of a second controller break off a planned hop was reached on the way.
use Rattle.std.proofs.Common.{◌≡◌, ◌≢◌, ◌∙◌, ◌⊎◌, inl, inr, ⊎_elim, ◌≤◌, ℕ, true, List, [], Option, Some, None, length, refl, sym, ap, subst, arith}
use Rattle.il_frames.specs.declared.entry.Entry.{Entry}
use Rattle.il_frames.specs.declared.frame.Frame.{Frame}
use Rattle.il_frames.specs.NamedFrames.{nrd, rfc}
use Rattle.il_device.specs.State.{risen, risen_by}
use Rattle.il_ports.specs.Media.{MediumView}
use Rattle.loop_model.specs.Exchanges.{receive_front}
use Rattle.loop_model.specs.Reach.{met}
use Rattle.il_guest.specs.declared.control.Command.{Command}
use Rattle.il_guest.specs.declared.control.Control.TheVariants as control
use Rattle.il_guest.specs.declared.control.Place.{Place}
use Rattle.il_guest.specs.declared.control.Place.TheVariants as place
use Rattle.il_guest.specs.Frames.{sst}
use Rattle.il_guest.specs.Steps.{IsRoundPlace, command_frame, command_then}
use Rattle.il_ring.specs.declared.plan.Arrival.{Arrival}
use Rattle.il_ring.specs.declared.plan.PlanFault.{PlanFault}
use Rattle.il_ring.specs.declared.flight.Flight.{Flight}
use Rattle.il_ring.specs.Flights.{HasAltered, hit}
use Rattle.il_ring.specs.Lending.{IsControlled, going_on}
use Rattle.il_ring.specs.Lists.{Each}
use Rattle.il_ring.specs.Outcomes.{met_between}
use Rattle.il_ring.specs.Plans.{hops_of, last_crossing, next_fault}
use Rattle.il_ring.specs.Rings.{RingView, devices_of}
use Rattle.il_ring.specs.Turned.{StandsThere, turned_flight}
use Rattle.il_ring.proofs.Faults.{risen_by_later}
use Rattle.il_ring.proofs.ControlledAltered.{met_next, met_wide}
use Rattle.il_control.specs.Receives.{IsCalm, IsHolding}
use Rattle.il_control.proofs.LentBytes.{ByteAltered, ByteBack, ByteGone, NrdGone, NrdOn, byte_move, nrd_move}
use Rattle.il_control.proofs.LentMoves.{MovedOn, MoveLost}
use Rattle.il_control.proofs.LentPlaces.{AskedSince, since_one}
use Rattle.il_control.proofs.LentOwnMoves.{command_moved, ready_moved}
use Rattle.il_control.proofs.LentRings.{own_ring}
use Rattle.il_control.proofs.LentRounds.{Passed, own_so, turned_same}
use Rattle.il_control.proofs.LentStarts.{NoStatus, StartLostAt, StatusHeld, StatusLost, rest, start_move}
use Rattle.il_control.proofs.LentSteps.{GoesOut}
use Rattle.il_control.proofs.LentTelling.{byte_stands, held_stands, within}
use Rattle.il_control.proofs.LentWalks.{Polling, StandsSo, front_of, stays}

-- a frame is lost on a link only if that is planned
lost_planned : (fault : Option PlanFault) (f : Flight) → hit fault f ≡ None → fault ≢ None
lost_planned None f none = cc
lost_planned (Some fault) f none = λ e. cc

-- on the last link
pub out_met : {M : Type 0} (r s : RingView M) (n : ℕ) (out : Flight) → r.books.crossings ≤ n → s.books.crossings ≡ risen n → hit (next_fault r.books.plan n) out ≡ None → met_between r s ≢ []
out_met r s n out low count none =
    met_wide (hops_of r.books.plan) r.books.crossings n (risen n) s.books.crossings low (omega (arith, count)) (met_next r.books.plan n (lost_planned (next_fault r.books.plan n) out none))

-- from a later moment on
pub met_since : {M : Type 0} (q r s : RingView M) → r.books.plan ≡ q.books.plan → q.books.crossings ≤ r.books.crossings → met_between r s ≢ [] → met_between q s ≢ []
met_since q r s same low some =
    met_wide (hops_of q.books.plan) q.books.crossings r.books.crossings s.books.crossings s.books.crossings low (omega arith) (subst (λ plan. met (hops_of plan) r.books.crossings s.books.crossings ≢ []) same some)

-- up to a later one
pub met_until : {M : Type 0} (q r s : RingView M) → r.books.crossings ≤ s.books.crossings → met_between q r ≢ [] → met_between q s ≢ []
met_until q r s high some = met_wide (hops_of q.books.plan) q.books.crossings q.books.crossings r.books.crossings s.books.crossings (omega arith) high some

-- a count that rose
pub risen_up : (links n m : ℕ) → n ≤ last_crossing → m ≡ risen_by links n → n ≤ m
risen_up links n m within is = let up = risen_by_later links n within in omega (arith, up, is)

module _ {M : Type 0} (view : M → MediumView) (k last : ℕ) (own : Option ℕ) (base : List Entry) (r s : RingView M) (arrived : ℕ) (answer : Arrival) (old : Polling view k last own base r arrived) (passed : Passed view r answer s) (controlled : IsControlled s) (none : s.books.lent ≡ None) where
  -- one was reached now, or the frame that stood at the host was altered before
  abbrev pub Met : Type 0
  Met = (met_between r s ≢ []) ⊎ (HasAltered r.books.lent ⊎ HasAltered r.books.kept)

  out_lost : (e : List Entry) (next : Flight) (kept : Option Flight) → GoesOut (going_on r) e next kept answer s → Met
  out_lost e next kept out = ⊎_elim
      (λ (there : StandsThere (going_on r) e next kept out.0 answer s). let clash = sym none ∙ there.lent_is in cc)
      (λ not.
      let later = not.2 in
      let low = risen_up later.0 r.books.crossings out.0 old.controlled.crossings later.1 in
      inl (out_met r s out.0 next low not.0.crossings_are not.1))
      out.1

  gone_lost : (n : ℕ) → met (hops_of r.books.plan) r.books.crossings n ≢ [] → s.books.crossings ≡ n → Met
  gone_lost n some count = inl (subst (λ n. met (hops_of r.books.plan) r.books.crossings n ≢ []) (sym count) some)

  by_command : (c : Command) → old.place ≡ place.Command c → Met
  by_command c at =
      let went = command_moved view k last own base r s arrived answer old passed controlled c at in
      ⊎_elim
      (λ (on : MovedOn view r s (command_frame c) answer went.0.two (place.Ready c)). out_lost _ _ _ on.out)
      (λ (lost : MoveLost view r s (command_frame c) answer went.0.two). gone_lost went.0.two.own.crossings lost.met_some lost.ends.crossings_are)
      went.1

  by_ready : (c : Command) → old.place ≡ place.Ready c → Met
  by_ready c at =
      let went = ready_moved view k last own base r s arrived answer old passed controlled c at in
      ⊎_elim
      (λ (on : MovedOn view r s rfc answer went.0.two (command_then went.0.two.g.device.roles.address went.0.two.g.last c)). out_lost _ _ _ on.out)
      (λ (lost : MoveLost view r s rfc answer went.0.two). gone_lost went.0.two.own.crossings lost.met_some lost.ends.crossings_are)
      went.1

  by_start : (a : ℕ) → old.place ≡ place.Start a → Met
  by_start a at =
      let stands = subst (λ p. StandsSo view k last own base p r old.boxed old.entries) at old.stands in
      let range = subst IsRoundPlace at old.range in
      let so = own_so view k last own base r s arrived answer old passed controlled None sst stands.2.lent_is in
      let calm : Each IsCalm 1 (devices_of (rest view r s answer so.two)) = subst (λ boxed. Each IsCalm 1 (front_of view k last own base r boxed)) so.boxed_is stands.2.quiet in
      let since : AskedSince (λ since. since ≡ receive_front 0 a None) (devices_of (rest view r s answer so.two)) = subst (λ boxed. AskedSince (λ since. since ≡ receive_front 0 a None) (front_of view k last own base r boxed)) so.boxed_is stands.2.since in
      ⊎_elim
      (λ on. ⊎_elim (λ (back : NoStatus view r s answer so.two a). out_lost _ _ _ back.out) (λ (held : StatusHeld view r s answer so.two a). out_lost _ _ _ held.out) on)
      (λ off. ⊎_elim
      (λ (gone : StartLostAt view r s answer so.two). gone_lost so.two.own.crossings gone.met_some gone.ends.crossings_are)
      (λ (lost : StatusLost view r s answer so.two). gone_lost so.two.own.crossings lost.met_some lost.ends.crossings_are)
      off)
      (start_move view r s answer so.two old.controlled stands.2.kept_is a (so.control_is ∙ ap (λ p. control.Rounds p) at) calm (since_one a (devices_of (rest view r s answer so.two)) range.1 since))

  by_held : (a : ℕ) (d : Frame) → old.place ≡ place.Held a d → Met
  by_held a d at =
      let stands = held_stands view k last own base r s arrived answer a d old at in
      let flight = stands.2.flight in
      let so = own_so view k last own base r s arrived answer old passed controlled (Some flight) nrd stands.2.lent_is in
      let holding = subst (λ boxed. (h : IsHolding (own_ring boxed (Some flight) (going_on r))) × (h.flight ≡ flight)) so.boxed_is (stands.2.holding, stands.2.holding_is) in
      ⊎_elim
      (λ (on : NrdOn view r s flight answer so.two a d holding.0). out_lost _ _ _ on.out)
      (λ (gone : NrdGone view r s flight answer so.two holding.0). gone_lost so.two.own.crossings gone.met_some gone.ends.crossings_are)
      (nrd_move view r s flight answer so.two old.controlled stands.2.kept_is a d (so.control_is ∙ ap (λ p. control.Rounds p) at) holding.0)

  by_relayed : (a : ℕ) (d : Frame) → old.place ≡ place.Relayed a d → Met
  by_relayed a d at =
      let stands = byte_stands view k last own base r s arrived answer a d old at in
      let flight = stands.2.flight in
      let on = within view k last own base r old.boxed old.device flight old.after old.many stands.2.holding stands.2.holding_is in
      let lent : r.books.lent ≡ Some (turned_flight (length (devices_of r)) flight) = stands.2.lent_is ∙ ap (λ f. Some f) (sym (turned_same (length (devices_of r)) flight on.0)) in
      let so = stays view k last own base r s arrived answer None flight old (passed None flight lent (omega (arith, on.1, old.many))) controlled in
      let holding = subst (λ boxed. (h : IsHolding (own_ring boxed (Some flight) (going_on r))) × (h.flight ≡ flight) × (h.own.stopped ≡ true)) so.boxed_is (stands.2.holding, stands.2.holding_is, stands.2.stopped) in
      ⊎_elim
      (λ (came : ByteBack view r s flight answer so.two a holding.0). out_lost _ _ _ came.out)
      (λ off. ⊎_elim
      (λ (gone : ByteGone view r s flight answer so.two holding.0). gone_lost so.two.own.crossings gone.met_some gone.ends.crossings_are)
      (λ (altered : ByteAltered view r s flight answer so.two holding.0).
      ⊎_elim (λ before. inr (inl (flight, stands.2.lent_is, before))) (λ some. gone_lost so.two.own.crossings some altered.ends.crossings_are) altered.came.echo.1)
      off)
      (byte_move view r s flight answer so.two old.controlled stands.2.kept_is a d (so.control_is ∙ ap (λ p. control.Rounds p) at) holding.0 holding.1 holding.2)

  by_place : (p : Place) → old.place ≡ p → Met
  by_place (place.Command c) at = by_command c at
  by_place (place.Ready c) at = by_ready c at
  by_place (place.Start a) at = by_start a at
  by_place (place.Held a d) at = by_held a d at
  by_place (place.Relayed a d) at = by_relayed a d at

  pub breaks_met : Met
  breaks_met = by_place old.place refl
