-- The drive answers wherever a second controller asks it: as control is handed over, from one frame
-- at the host to the next, and if the rounds break off.
use Rattle.std.proofs.Common.{◌≡◌, ◌∙◌, ◌⊎◌, inl, inr, ⊎_elim, ◌≤◌, ◌+◌, ◌++◌, ◌==◌, ◌&&◌, not, ℕ, true, false, List, [], ◌∷◌, Option, Some, None, length, refl, sym, ap, ap₂, subst, arith, append_assoc, append-nil, length-append}
use Rattle.std.specs.Prelude.{if◌then◌else◌}
use Rattle.std.specs.Option.{IfSome}
use Rattle.std.proofs.lemmas.Bool.{and_from, eq-eqb, ne_eqb}
use Rattle.std.proofs.lemmas.List.Folds.{list_all-append}
use Rattle.il_frames.specs.declared.entry.Entry.{Entry}
use Rattle.il_frames.specs.declared.entry.Outcome.{Outcome}
use Rattle.il_frames.specs.declared.entry.Outcome.TheVariants as outcome
use Rattle.il_frames.specs.declared.frame.Frame.{Frame}
use Rattle.il_frames.specs.Frames.{is_data}
use Rattle.il_frames.specs.Messages.{message_of}
use Rattle.il_frames.specs.NamedFrames.{entry, is_frame, nrd, rfc, unt}
use Rattle.il_device.specs.Takes.{eto, ete}
use Rattle.il_device.specs.State.{DeviceState}
use Rattle.il_drive.specs.State.{device_of}
use Rattle.il_ports.specs.Media.{MediumView}
use Rattle.loop_model.specs.Exchanges.{receive_front, returned}
use Rattle.il_guest.specs.declared.control.Command.{Command}
use Rattle.il_guest.specs.declared.control.Command.TheVariants as command
use Rattle.il_guest.specs.declared.control.Control.TheVariants as control
use Rattle.il_guest.specs.declared.control.Place.{Place}
use Rattle.il_guest.specs.declared.control.Place.TheVariants as place
use Rattle.il_guest.specs.declared.guest.GuestOut.{GuestOut}
use Rattle.il_guest.specs.Courses.{first_control}
use Rattle.il_guest.specs.Frames.{nop, sst}
use Rattle.il_guest.specs.State.{GuestState}
use Rattle.il_guest.specs.Steps.{IsAsked, IsRoundPlace, command_frame, command_then, sent_at}
use Rattle.il_guest.specs.Takes.{GuestTakes}
use Rattle.il_guest.proofs.SentLemmas.{message_of-command}
use Rattle.il_ring.specs.declared.flight.Flight.{Flight}
use Rattle.il_ring.specs.declared.plan.Arrival.{Arrival}
use Rattle.il_ring.specs.declared.plan.Planned.{Planned}
use Rattle.il_ring.specs.Flights.{hit, lost_at, sourced}
use Rattle.il_ring.specs.Guests.{GuestMind, IsUnderHost, guest_mind, mind_of}
use Rattle.il_ring.specs.HandedOver.{HandedOver}
use Rattle.il_ring.specs.Journeys.{Trip}
use Rattle.il_ring.specs.ControlledAdds.{standing}
use Rattle.il_ring.specs.Lending.{GuestMeets, GuestReaches, IsControlled, LastPassage, ControlledRound, ControlledTrip, entry_of_kept, going_on}
use Rattle.il_ring.specs.Lists.{Each}
use Rattle.il_ring.specs.Outcomes.{IsTalking, back_entry}
use Rattle.il_ring.specs.Plans.{next_fault}
use Rattle.il_ring.specs.Rings.{RingView, devices_of, drive_party}
use Rattle.il_ring.specs.Statuses.{answers_always, asked_after, asked_all, asked_after_message, reports_none}
use Rattle.il_ring.specs.Turned.{StandsThere, turned, turned_flight}
use Rattle.il_control.specs.DriveAnswers.{AnswersBrokeOff, AnswersPolling, KnowsAsked, KnowsPlace, KnowsReady}
use Rattle.il_control.specs.Receives.{IsCalm, IsHolding}
use Rattle.il_control.proofs.LentBytes.{ByteAltered, ByteBack, ByteGone, NrdGone, NrdOn, byte_move, nrd_move}
use Rattle.il_control.proofs.LentAtHost.{Holds, OtherAtHost, OwnAtHost, at_host}
use Rattle.il_control.proofs.LentAnswers.{answers-append, are_mute-answers, mute-answers, not_untold}
use Rattle.il_control.proofs.LentMoves.{MovedOn}
use Rattle.il_control.proofs.LentOwnMoves.{command_moved, ready_moved}
use Rattle.il_control.proofs.LentPlaces.{AskedSince, since_one}
use Rattle.il_control.proofs.LentRings.{own_ring, own_ring-length}
use Rattle.il_control.proofs.LentRounds.{Passed, own_so, turned_same}
use Rattle.il_control.proofs.LentStarts.{NoStatus, StartLostAt, StatusHeld, StatusLost, rest, rest_then, start_move}
use Rattle.il_control.proofs.LentStatuses.{are_mute, asked_all-append, data-no-end, is_mute, mute-byte, mute-lost, mute-other, mute-own, standing-mute}
use Rattle.il_control.proofs.LentSteps.{GoesOut}
use Rattle.il_control.proofs.LentTelling.{byte_stands, held_stands, within}
use Rattle.il_control.proofs.LentWalks.{Polling, StandsSo, Stays, front_of, stays}

flight_same : (f g : Flight) → Some f ≡ Some g → f ≡ g
flight_same f g same = ap (λ o. elim o [ Some h ↦ h | None ↦ f ]) same

-- ---- an address that is asked stays so

no_frame : (k : ℕ) (asked : Option ℕ) (f : Frame) (o : Outcome) → asked_after_message asked (message_of f) ≡ asked → asked_after k asked (entry k f o) ≡ asked
no_frame k asked f o same = rw (eq-eqb k k refl) same

asked_more : (k : ℕ) (entries : List Entry) (f : Frame) (o : Outcome) (a : ℕ) → ((asked : Option ℕ) → asked_after_message asked (message_of f) ≡ asked) → asked_all k None entries ≡ Some a → asked_all k None (entries ++ entry k f o ∷ []) ≡ Some a
asked_more k entries f o a same is = asked_all-append k None entries (entry k f o ∷ []) ∙ no_frame k (asked_all k None entries) f o (same (asked_all k None entries)) ∙ is

asked_now : (k : ℕ) (entries : List Entry) (f : Frame) (o : Outcome) (a : ℕ) → ((asked : Option ℕ) → asked_after_message asked (message_of f) ≡ Some a) → asked_all k None (entries ++ entry k f o ∷ []) ≡ Some a
asked_now k entries f o a asks =
    asked_all-append k None entries (entry k f o ∷ []) ∙ ap (λ b. if b then asked_after_message (asked_all k None entries) (message_of f) else asked_all k None entries) (eq-eqb k k refl) ∙ asks (asked_all k None entries)

knows_ready : (k : ℕ) (entries : List Entry) (c : Command) → IsAsked c → KnowsReady (asked_all k None (entries ++ returned k (command_frame c) ∷ [])) c
knows_ready k entries command.Nop range = tt
knows_ready k entries (command.Unl a) range = tt
knows_ready k entries (command.Tad a) range = asked_now k entries (command_frame (command.Tad a)) (outcome.Back (command_frame (command.Tad a))) a (λ asked. ap (asked_after_message asked) (message_of-command (command.Tad a) range))
knows_ready k entries (command.Unt a) range = tt

knows_then : (k : ℕ) (entries : List Entry) (own : Option ℕ) (last : ℕ) (c : Command) → KnowsReady (asked_all k None entries) c → KnowsPlace (asked_all k None (entries ++ returned k rfc ∷ [])) (command_then own last c)
knows_then k entries own last command.Nop knows = tt
knows_then k entries own last (command.Unl a) knows = tt
knows_then k entries own last (command.Tad a) knows = asked_more k entries rfc (outcome.Back rfc) a (λ asked. refl) knows
knows_then k entries own last (command.Unt a) knows = tt

command_no_start : (c : Command) → (is_frame (command_frame c) sst ≡ false) × (is_frame (command_frame c) eto ≡ false)
command_no_start command.Nop = (refl, refl)
command_no_start (command.Unl a) = (refl, refl)
command_no_start (command.Tad a) = (refl, refl)
command_no_start (command.Unt a) = (refl, refl)

-- a frame of its own, other than SST, reports nothing
own_mute : (k : ℕ) (f : Frame) (o : Outcome) → is_frame f sst ≡ false → is_frame f eto ≡ false → are_mute k (entry k f o ∷ []) ≡ true
own_mute k f o no_start no_end = rw (mute-own k f o no_start no_end) refl

start_mute : (k q : ℕ) → are_mute k (entry k sst (outcome.Taken q) ∷ []) ≡ true
start_mute k q = rw (eq-eqb k k refl) refl

lost_mute : (k q : ℕ) (f : Frame) (p : ℕ) → are_mute k (entry q f (outcome.Lost p) ∷ []) ≡ true
lost_mute k q f p = ap (λ b. b && true) (mute-lost k q f p)

both_mute : (k : ℕ) (xs ys : List Entry) → are_mute k xs ≡ true → are_mute k ys ≡ true → are_mute k (xs ++ ys) ≡ true
both_mute k xs ys first more = list_all-append (is_mute k) xs ys ∙ and_from (are_mute k xs) (are_mute k ys) first more

other_mute : (k q : ℕ) (f : Frame) (o : Outcome) → (q == k) ≡ false → is_frame f eto ≡ false → are_mute k (entry q f o ∷ []) ≡ true
other_mute k q f o other no_end = ap (λ b. b && true) (mute-other k q f o other no_end)

-- a byte that it keeps
held_mute : (k : ℕ) (f : Flight) → is_data f.sent ≡ true → (x : Entry) → is_mute k x ≡ true → (f.source == k) ≡ false → are_mute k (entry_of_kept k (Some f) ++ x ∷ []) ≡ true
held_mute k f bytes x mute other =
    ap (λ own. are_mute k (entry f.source f.sent (if own then outcome.Back f.now else outcome.Taken k) ∷ x ∷ [])) other
    ∙ and_from (is_mute k (entry f.source f.sent (outcome.Taken k))) (are_mute k (x ∷ [])) (mute-byte k f.source f.sent k bytes) (ap (λ b. b && true) mute)

-- a byte that came back
back_mute : (k : ℕ) (f : Flight) (back : Frame) → is_data f.sent ≡ true → (f.source == k) ≡ false → (more : List Entry) → are_mute k (back_entry f back ∷ more) ≡ are_mute k more
back_mute k f back bytes other more = ap (λ b. b && are_mute k more) (mute-other k f.source f.sent (outcome.Back back) other (data-no-end f.sent bytes))

-- ---- from one frame to the next

module _ {M : Type 0} (view : M → MediumView) (k last : ℕ) (own : Option ℕ) (base : List Entry) (r s : RingView M) (arrived : ℕ) (answer : Arrival) (old : Polling view k last own base r arrived) (passed : Passed view r answer s) (controlled : IsControlled s) (so_far : AnswersPolling base r) where
  abbrev n : ℕ
  n = length (devices_of r)

  -- a frame is at the host again, or none is
  abbrev Next : Type 0
  Next = AnswersPolling base s ⊎ (AnswersBrokeOff base s × (s.books.lent ≡ None))

  -- over a pass
  module _ (held : Option Flight) (f : Flight) (so : Stays view k last own base r s arrived old answer held f) where
    size : n ≡ length (devices_of s)
    size = old.many ∙ sym so.many_then

    log_then : (e : List Entry) → s.books.log ≡ r.books.log ++ e → s.books.log ≡ base ++ (so_far.entries ++ e)
    log_then e log = log ∙ ap (λ log. log ++ e) so_far.log ∙ append_assoc base so_far.entries e

    -- in these the drive answers wherever it is asked
    abbrev Answered : List Entry → Type 0
    Answered e = answers_always n (drive_party r) (asked_all n None so_far.entries) e ≡ true

    answered_still : (e : List Entry) → are_mute n e ≡ true → Answered e
    answered_still e mute = are_mute-answers n (drive_party r) (asked_all n None so_far.entries) e mute

    has_answered : (e : List Entry) → Answered e → answers_always (length (devices_of s)) (drive_party s) None (so_far.entries ++ e) ≡ true
    has_answered e answered =
        ap₂ (λ n q. answers_always n q None (so_far.entries ++ e)) (sym size) (ap (λ n. n + 1) so.two.before)
        ∙ answers-append n (drive_party r) None so_far.entries e so_far.answered answered

    -- they broke off
    left_then : (e : List Entry) → s.books.log ≡ r.books.log ++ e → s.books.lent ≡ None → Answered e → Next
    left_then e log none answered = inr (record { entries = so_far.entries ++ e; log = log_then e log; answered = has_answered e answered }, none)

    -- they broke off, and no SST came back
    left_still : (e : List Entry) → s.books.log ≡ r.books.log ++ e → s.books.lent ≡ None → are_mute n e ≡ true → Next
    left_still e log none mute = left_then e log none (answered_still e mute)

    -- at a place, what is known
    module _ (p q : Place) (at : so.two.g.control ≡ control.Rounds p) (to : so.two.h.control ≡ control.Rounds q) where
      knew : KnowsPlace (asked_all n None so_far.entries) p
      knew = subst (λ c. KnowsAsked (asked_all n None so_far.entries) c) at (subst (λ mind. IfSome mind (λ mind. KnowsAsked (asked_all n None so_far.entries) mind.control)) so.two.mind so_far.knows)

      -- so it is after these entries
      answers_then : (e : List Entry) → s.books.log ≡ r.books.log ++ e → Answered e → KnowsPlace (asked_all n None (so_far.entries ++ e)) q → AnswersPolling base s
      answers_then e log answered knows = record {
        entries = so_far.entries ++ e;
        log = log_then e log;
        answered = has_answered e answered;
        knows = subst (λ mind. IfSome mind (λ mind. KnowsAsked (asked_all (length (devices_of s)) None (so_far.entries ++ e)) mind.control)) (sym so.two.mind_then)
            (subst (λ c. KnowsAsked (asked_all (length (devices_of s)) None (so_far.entries ++ e)) c) (sym to) (subst (λ n. KnowsPlace (asked_all n None (so_far.entries ++ e)) q) size knows));
      }

      -- its next frame goes out after them
      answers_out : (e : List Entry) (next : Flight) (kept : Option Flight) (out : GoesOut (going_on r) e next kept answer s) → Answered e → are_mute n (entry_of_kept n kept ++ lost_at next 0 ∷ []) ≡ true
          → KnowsPlace (asked_all n None (so_far.entries ++ e)) q → Next
      answers_out e next kept out answered mute knows = ⊎_elim
          (λ (there : StandsThere (going_on r) e next kept out.0 answer s). inl (answers_then e there.log_is answered knows))
          (λ not.
          let tail = entry_of_kept n kept ++ lost_at next 0 ∷ [] in
          left_then (e ++ tail) not.0.log_is not.0.lent_is
          (answers-append n (drive_party r) (asked_all n None so_far.entries) e tail answered (are_mute-answers n (drive_party r) (asked_all n (asked_all n None so_far.entries) e) tail mute)))
          out.1

  -- ---- by place

  control_at : (held : Option Flight) (f : Flight) (so : Stays view k last own base r s arrived old answer held f) (p : Place) → old.place ≡ p → so.two.g.control ≡ control.Rounds p
  control_at held f so p at = so.control_is ∙ ap (λ p. control.Rounds p) at

  -- one of the others that talks is not the last
  source_other : (boxed : List DeviceState) (device : DeviceState) → r.after ≡ boxed ++ device ∷ [] → (q : ℕ) → IsTalking q None (devices_of (own_ring boxed None (going_on r))) → (q == n) ≡ false
  source_other boxed device after q talked =
      let many = own_ring-length r boxed device None after in
      let all = ap length talked.devices_are ∙ length-append talked.before (talked.talker ∷ talked.after) in
      ne_eqb q n (λ e. omega (arith, e, talked.party, many, all))

  by_command : (c : Command) → old.place ≡ place.Command c → Next
  by_command c at =
      let range = subst IsRoundPlace at old.range in
      let f = command_frame c in
      let went = command_moved view k last own base r s arrived answer old passed controlled c at in
      let so = went.0 in
      let kind = command_no_start c in
      let from = control_at None (sourced 0 f) so (place.Command c) at in
      ⊎_elim
      (λ (on : MovedOn view r s f answer so.two (place.Ready c)).
      let e : List Entry = returned n f ∷ [] in
      answers_out None (sourced 0 f) so (place.Command c) (place.Ready c) from on.control e (sourced n rfc) None on.out
      (answered_still None (sourced 0 f) so e (own_mute n f (outcome.Back f) kind.0 kind.1))
      (lost_mute n n rfc 0) (knows_ready n so_far.entries c range))
      (λ lost. left_still None (sourced 0 f) so (entry n f (outcome.Lost (turned n lost.own_party)) ∷ []) lost.ends.log_is lost.ends.lent_is (lost_mute n n f (turned n lost.own_party)))
      went.1

  by_ready : (c : Command) → old.place ≡ place.Ready c → Next
  by_ready c at =
      let went = ready_moved view k last own base r s arrived answer old passed controlled c at in
      let so = went.0 in
      let q = command_then so.two.g.device.roles.address so.two.g.last c in
      let from = control_at None (sourced 0 rfc) so (place.Ready c) at in
      ⊎_elim
      (λ (on : MovedOn view r s rfc answer so.two q).
      let e : List Entry = returned n rfc ∷ [] in
      answers_out None (sourced 0 rfc) so (place.Ready c) q from on.control e (sourced n (sent_at q)) None on.out
      (answered_still None (sourced 0 rfc) so e (own_mute n rfc (outcome.Back rfc) refl refl))
      (lost_mute n n (sent_at q) 0)
      (knows_then n so_far.entries so.two.g.device.roles.address so.two.g.last c (knew None (sourced 0 rfc) so (place.Ready c) q from on.control)))
      (λ lost. left_still None (sourced 0 rfc) so (entry n rfc (outcome.Lost (turned n lost.own_party)) ∷ []) lost.ends.log_is lost.ends.lent_is (lost_mute n n rfc (turned n lost.own_party)))
      went.1

  by_start : (a : ℕ) → old.place ≡ place.Start a → Next
  by_start a at =
      let stands = subst (λ p. StandsSo view k last own base p r old.boxed old.entries) at old.stands in
      let range = subst IsRoundPlace at old.range in
      let so = own_so view k last own base r s arrived answer old passed controlled None sst stands.2.lent_is in
      let from = control_at None (sourced 0 sst) so (place.Start a) at in
      let calm : Each IsCalm 1 (devices_of (rest view r s answer so.two)) = subst (λ boxed. Each IsCalm 1 (front_of view k last own base r boxed)) so.boxed_is stands.2.quiet in
      let since : AskedSince (λ since. since ≡ receive_front 0 a None) (devices_of (rest view r s answer so.two)) = subst (λ boxed. AskedSince (λ since. since ≡ receive_front 0 a None) (front_of view k last own base r boxed)) so.boxed_is stands.2.since in
      ⊎_elim
      (λ on. ⊎_elim
      (λ (none : NoStatus view r s answer so.two a).
      let e : List Entry = returned n sst ∷ [] in
      let q = place.Command (command.Unt a) in
      answers_out None (sourced 0 sst) so (place.Start a) q from none.control e (sourced n unt) None none.out
      (let other : (a == drive_party r) ≡ false = ne_eqb a (drive_party r) (not_untold view (rest view r s answer so.two) (rest_then view r s answer so.two) a range.1 calm since none.whole none.said) in
      ap (λ asked. answers_always n (drive_party r) asked e) (knew None (sourced 0 sst) so (place.Start a) q from none.control) ∙ ap (λ mine. not (mine && reports_none n (returned n sst)) && true) other)
      (lost_mute n n unt 0) tt)
      (λ (held : StatusHeld view r s answer so.two a).
      let flight = held.began.now.flight in
      let e : List Entry = entry n sst (outcome.Taken flight.source) ∷ [] in
      let q = place.Held a flight.now in
      let bytes = held.began.now.data_frame in
      let kept_mute : are_mute n (entry_of_kept n (Some flight) ++ lost_at (sourced n nrd) 0 ∷ []) ≡ true = held_mute n flight bytes (entry n nrd (outcome.Lost 0)) (mute-lost n n nrd 0) (source_other so.two.boxed so.two.g.device so.two.after flight.source held.began.talked) in
      answers_out None (sourced 0 sst) so (place.Start a) q from held.control e (sourced n nrd) (Some flight) held.out
      (answered_still None (sourced 0 sst) so e (start_mute n flight.source))
      kept_mute tt)
      on)
      (λ off. ⊎_elim
      (λ (gone : StartLostAt view r s answer so.two). left_still None (sourced 0 sst) so (entry n sst (outcome.Lost (turned n gone.own_party)) ∷ []) gone.ends.log_is gone.ends.lent_is (lost_mute n n sst (turned n gone.own_party)))
      (λ (lost : StatusLost view r s answer so.two).
      let e : List Entry = entry n sst (outcome.Taken lost.taker) ∷ [] in
      let tail : List Entry = entry lost.taker lost.sent (outcome.Lost (turned n lost.own_party)) ∷ [] in
      left_still None (sourced 0 sst) so (e ++ tail) lost.ends.log_is lost.ends.lent_is (both_mute n e tail (start_mute n lost.taker) (lost_mute n lost.taker lost.sent (turned n lost.own_party))))
      off)
      (start_move view r s answer so.two old.controlled stands.2.kept_is a from calm (since_one a (devices_of (rest view r s answer so.two)) range.1 since))

  by_held : (a : ℕ) (d : Frame) → old.place ≡ place.Held a d → Next
  by_held a d at =
      let stands = held_stands view k last own base r s arrived answer a d old at in
      let flight = stands.2.flight in
      let so = own_so view k last own base r s arrived answer old passed controlled (Some flight) nrd stands.2.lent_is in
      let from = control_at (Some flight) (sourced 0 nrd) so (place.Held a d) at in
      let in_ = within view k last own base r old.boxed old.device flight old.after old.many stands.2.holding stands.2.holding_is in
      let holding = subst (λ boxed. (h : IsHolding (own_ring boxed (Some flight) (going_on r))) × (h.flight ≡ flight)) so.boxed_is (stands.2.holding, stands.2.holding_is) in
      let bytes : is_data flight.sent ≡ true = subst (λ (f : Flight). is_data f.sent ≡ true) holding.1 holding.0.data_frame in
      let other : (flight.source == n) ≡ false = ne_eqb flight.source n (λ e. omega (arith, e, in_.1, old.many)) in
      ⊎_elim
      (λ (on : NrdOn view r s flight answer so.two a d holding.0).
      let e : List Entry = returned n nrd ∷ [] in
      let q = place.Relayed a d in
      answers_out (Some flight) (sourced 0 nrd) so (place.Held a d) q from on.control e flight None on.out
      (answered_still (Some flight) (sourced 0 nrd) so e (own_mute n nrd (outcome.Back nrd) refl refl))
      (lost_mute n flight.source flight.sent 0) tt)
      (λ (gone : NrdGone view r s flight answer so.two holding.0).
      let x : Entry = entry n nrd (outcome.Lost (turned n gone.own_party)) in
      left_still (Some flight) (sourced 0 nrd) so (entry_of_kept n (Some flight) ++ x ∷ []) gone.ends.log_is gone.ends.lent_is (held_mute n flight bytes x (mute-lost n n nrd (turned n gone.own_party)) other))
      (nrd_move view r s flight answer so.two old.controlled stands.2.kept_is a d from holding.0)

  by_relayed : (a : ℕ) (d : Frame) → old.place ≡ place.Relayed a d → Next
  by_relayed a d at =
      let stands = byte_stands view k last own base r s arrived answer a d old at in
      let range = subst IsRoundPlace at old.range in
      let flight = stands.2.flight in
      let on = within view k last own base r old.boxed old.device flight old.after old.many stands.2.holding stands.2.holding_is in
      let lent : r.books.lent ≡ Some (turned_flight n flight) = stands.2.lent_is ∙ ap (λ f. Some f) (sym (turned_same n flight on.0)) in
      let so = stays view k last own base r s arrived answer None flight old (passed None flight lent (omega (arith, on.1, old.many))) controlled in
      let from = control_at None flight so (place.Relayed a d) at in
      let holding = subst (λ boxed. (h : IsHolding (own_ring boxed (Some flight) (going_on r))) × (h.flight ≡ flight) × (h.own.stopped ≡ true)) so.boxed_is (stands.2.holding, stands.2.holding_is, stands.2.stopped) in
      let bytes : is_data flight.sent ≡ true = subst (λ (f : Flight). is_data f.sent ≡ true) holding.1 holding.0.data_frame in
      let other : (flight.source == n) ≡ false = ne_eqb flight.source n (λ e. omega (arith, e, on.1, old.many)) in
      ⊎_elim
      (λ (came : ByteBack view r s flight answer so.two a holding.0).
      let back = came.ended.back in
      let e : List Entry = entry flight.source flight.sent (outcome.Back back) ∷ entry flight.source eto (outcome.Taken n) ∷ [] in
      let q = place.Command (command.Unt a) in
      answers_out None flight so (place.Relayed a d) q from came.control e (sourced n unt) None came.out
      (mute-answers n (drive_party r) (asked_all n None so_far.entries) e (ap (λ own. not (own && (is_frame flight.sent sst && true)) && (not (own && false) && true)) other))
      (lost_mute n n unt 0) tt)
      (λ off. ⊎_elim
      (λ (gone : ByteGone view r s flight answer so.two holding.0).
      let p = turned n gone.own_party in
      left_still None flight so (gone.front ++ entry flight.source gone.frame (outcome.Lost p) ∷ []) gone.ends.log_is gone.ends.lent_is
      (both_mute n gone.front (entry flight.source gone.frame (outcome.Lost p) ∷ [])
      (⊎_elim (λ first. ap (are_mute n) first.0) (λ next. ap (are_mute n) next.3 ∙ back_mute n flight next.1 bytes other []) gone.kind)
      (lost_mute n flight.source gone.frame p)))
      (λ (altered : ByteAltered view r s flight answer so.two holding.0).
      let ends : List Entry = entry flight.source ete (outcome.Taken n) ∷ [] in
      left_still None flight so (back_entry flight altered.back ∷ ends ++ []) altered.ends.log_is altered.ends.lent_is
      (back_mute n flight altered.back bytes other ends ∙ other_mute n flight.source ete (outcome.Taken n) other refl))
      off)
      (byte_move view r s flight answer so.two old.controlled stands.2.kept_is a d from holding.0 holding.1 holding.2)

  -- From any place: so it stays as a frame goes on, or the drive has answered so far as the rounds break off.
  by_place : (p : Place) → old.place ≡ p → Next
  by_place (place.Command c) at = by_command c at
  by_place (place.Ready c) at = by_ready c at
  by_place (place.Start a) at = by_start a at
  by_place (place.Held a d) at = by_held a d at
  by_place (place.Relayed a d) at = by_relayed a d at

  -- while it goes on a frame is at the host
  lent_stands : Polling view k last own base s (arrived + 1) → s.books.lent ≡ None → ⊥
  lent_stands next none = ⊎_elim (λ own. clash_of (sourced k own.frame) own.lent_is) (λ other. clash_of other.flight other.lent_is) (at_host view k last own base s (arrived + 1) next)
    where
      clash_of : (f : Flight) → s.books.lent ≡ Some f → ⊥
      clash_of f some = let clash = sym none ∙ some in cc

  pub answers_passes : Polling view k last own base s (arrived + 1) → AnswersPolling base s
  answers_passes next = ⊎_elim (λ so. so) (λ left. absurd (lent_stands next left.1)) (by_place old.place refl)

  -- either way the drive answered wherever it was asked
  pub answers_left : AnswersBrokeOff base s
  answers_left = ⊎_elim (λ (so : AnswersPolling base s). record { entries = so.entries; log = so.log; answered = so.answered }) (λ left. left.0) (by_place old.place refl)

-- ---- as control is handed over

first_taken : (g h : GuestState) (f : Frame) (out : GuestOut) → GuestTakes g f out h → g.last ≤ 30
first_taken g h f out takes = takes.before.last.1

-- it controls since it took something
not_same : (g h : GuestState) → g.control ≡ control.Host → h.control ≡ first_control → h ≡ g → ⊥
not_same g h host first same = let clash = sym first ∙ ap (λ (g : GuestState). g.control) same ∙ host in cc

first_met : (k : ℕ) (t : Trip) (kept : Option Flight) (f : Flight) (o : Option Flight) (g : GuestState) (u : ControlledTrip) (h : GuestState) → g.control ≡ control.Host → h.control ≡ first_control → GuestMeets k t kept f o g u h → g.last ≤ 30
first_met k t kept f None g u h host first met = absurd (not_same g h host first met.1)
first_met k t kept f (Some at) g u h host first met = first_taken g h at.now met.0 met.1

first_reached : (plan : List Planned) (k : ℕ) (t : Trip) (kept flight : Option Flight) (g : GuestState) (u : ControlledTrip) (h : GuestState) → g.control ≡ control.Host → h.control ≡ first_control → GuestReaches plan k t kept flight g u h → g.last ≤ 30
first_reached plan k t kept None g u h host first reached = absurd (not_same g h host first reached.1)
first_reached plan k t kept (Some f) g u h host first reached = first_met k t kept f (hit (next_fault plan t.crossings) f) g u h host first reached

module _ {M : Type 0} (view : M → MediumView) (r s : RingView M) (f : Flight) (answer : Arrival) (round : ControlledRound view r f answer s) (under : IsUnderHost r.guest) (over : HandedOver r answer s) where
  -- it asks no address above 30
  pub handed_few : over.g.last ≤ 30
  handed_few = by round.guest round.guest_then refl refl
    where
      passage : (guest later : Option GuestState) → round.guest ≡ guest → round.guest_then ≡ later → LastPassage r.books.plan (length (devices_of r)) round.at_last r.books.kept guest round.past_all later
      passage guest later is next = subst (λ later. LastPassage r.books.plan (length (devices_of r)) round.at_last r.books.kept guest round.past_all later) next (subst (λ guest. LastPassage r.books.plan (length (devices_of r)) round.at_last r.books.kept guest round.past_all round.guest_then) is round.past_last)

      by : (guest later : Option GuestState) → round.guest ≡ guest → round.guest_then ≡ later → over.g.last ≤ 30
      by None None is next = let clash = sym over.mind_then ∙ round.mind_then ∙ ap guest_mind next in cc
      by None (Some h) is next = absurd (passage None (Some h) is next)
      by (Some g) None is next = absurd (passage (Some g) None is next)
      by (Some g) (Some h) is next =
          let same : mind_of over.h ≡ mind_of h = ap (λ o. elim o [ Some m ↦ m | None ↦ mind_of over.h ]) (sym over.mind_then ∙ round.mind_then ∙ ap guest_mind next) in
          let host : g.control ≡ control.Host = subst IsUnderHost (round.mind ∙ ap guest_mind is) under in
          let first : h.control ≡ first_control = ap (λ (m : GuestMind). m.control) (sym same) ∙ over.control in
          let before : mind_of over.g ≡ mind_of g = ap (λ o. elim o [ Some m ↦ m | None ↦ mind_of over.g ]) (sym over.mind ∙ round.mind ∙ ap guest_mind is) in
          let reached = first_reached r.books.plan (length (devices_of r)) round.at_last r.books.kept round.at_last.flight g round.past_all h host first (passage (Some g) (Some h) is next) in
          subst (λ last. last ≤ 30) (sym (ap (λ (m : GuestMind). m.last) before)) reached

  -- so it begins as control is handed over
  pub answers_handed : (base : List Entry) → s.books.log ≡ base → AnswersPolling base s
  answers_handed base log = record {
    entries = [];
    log = log ∙ sym (append-nil base);
    answered = refl;
    knows = subst (λ mind. IfSome mind (λ mind. KnowsAsked None mind.control)) (sym over.mind_then) (subst (λ c. KnowsAsked None c) (sym over.control) tt);
  }

  -- nor if that frame was lost
  pub answers_gone : (base : List Entry) (k : ℕ) → s.books.log ≡ base ++ entry k nop (outcome.Lost 0) ∷ [] → AnswersBrokeOff base s
  answers_gone base k log = record {
    entries = entry k nop (outcome.Lost 0) ∷ [];
    log = log;
    answered = are_mute-answers (length (devices_of s)) (drive_party s) None (entry k nop (outcome.Lost 0) ∷ []) (and_from (is_mute (length (devices_of s)) (entry k nop (outcome.Lost 0))) true (mute-lost (length (devices_of s)) k nop 0) refl);
  }

-- ---- as control is taken back

module _ {M : Type 0} (view : M → MediumView) (k last : ℕ) (own : Option ℕ) (base : List Entry) (r : RingView M) (arrived : ℕ) (old : Polling view k last own base r arrived) where
  some_others : 1 ≤ k
  some_others =
      let all = length-append r.before (device_of r.drive.state ∷ r.after) in
      omega (arith, all, old.many)

  pub not_host : (0 == k) ≡ false
  not_host = ne_eqb 0 k (λ e. omega (arith, e, some_others))

  -- a frame of its own is at the host
  own_stands : (f : Frame) → r.books.lent ≡ Some (sourced k f) → ((h : Flight) → r.books.kept ≡ Some h → (is_data h.sent ≡ true) × ((h.source == k) ≡ false)) → are_mute k (standing k r.books) ≡ true
  own_stands f lent kept = standing-mute k r.books not_host kept
      (λ g is. let same = flight_same (sourced k f) g (sym lent ∙ is) in ap (λ (g : Flight). g.source == 0) (sym same) ∙ ne_eqb k 0 (λ e. omega (arith, e, some_others)))

  none_kept : r.books.kept ≡ None → (h : Flight) → r.books.kept ≡ Some h → (is_data h.sent ≡ true) × ((h.source == k) ≡ false)
  none_kept none h is = let clash = sym none ∙ is in cc

  -- nor one that it withholds
  withheld_mute : (flight : Flight) → Holds view k last own base r arrived old flight → (h : Flight) → flight ≡ h → (is_data h.sent ≡ true) × ((h.source == k) ≡ false)
  withheld_mute flight holds h same =
      let on = within view k last own base r old.boxed old.device flight old.after old.many holds.0 holds.1 in (
        subst (λ (f : Flight). is_data f.sent ≡ true) (holds.1 ∙ same) holds.0.data_frame,
        ap (λ (f : Flight). f.source == k) (sym same) ∙ ne_eqb flight.source k (λ e. omega (arith, e, on.1)),
      )

  -- nor one of another
  other_stands : OtherAtHost view k last own base r arrived old → are_mute k (standing k r.books) ≡ true
  other_stands other =
      let on = within view k last own base r old.boxed old.device other.flight old.after old.many other.holds.0 other.holds.1 in
      standing-mute k r.books not_host (none_kept other.kept_is)
      (λ g is. let same = flight_same other.flight g (sym other.lent_is ∙ is) in ap (λ (g : Flight). g.source == 0) (sym same) ∙ ne_eqb other.flight.source 0 (λ e. omega (arith, e, on.0)))

  -- of what is at the host at any moment of polling nothing would be reported
  pub standing_told : are_mute k (standing k r.books) ≡ true
  standing_told = ⊎_elim
      (λ (one : OwnAtHost view k last own base r arrived old).
      own_stands one.frame one.lent_is (⊎_elim none_kept (λ kept h is. withheld_mute kept.0 kept.1 h (flight_same kept.0 h (sym kept.2 ∙ is))) one.kept))
      other_stands
      (at_host view k last own base r arrived old)
