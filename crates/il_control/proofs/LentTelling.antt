-- A second controller that has the first byte of a status: NRD, and then the byte, goes round.
use Rattle.std.proofs.Common.{◌≡◌, ◌∙◌, ◌⊎◌, inl, inr, ⊎_elim, ◌≤◌, ◌<◌, ◌+◌, ◌++◌, ◌==◌, not, ℕ, suc, Bool, true, false, List, [], ◌∷◌, Option, Some, None, length, cond, refl, sym, ap, ap₂, subst, arith, append_assoc, append-nil, length-append}
use Rattle.std.specs.Prelude.{◌-◌, if◌then◌else◌, nat_le, nat_lt}
use Rattle.std.proofs.lemmas.Bool.{and_from, eq-eqb, le-leb, lt-ltb, ne_eqb}
use Rattle.std.proofs.lemmas.Bool.Decides.{nat_tests}
use Rattle.il_frames.specs.declared.entry.Entry.{Entry}
use Rattle.il_frames.specs.declared.entry.Outcome.{Outcome}
use Rattle.il_frames.specs.declared.entry.Outcome.TheVariants as outcome
use Rattle.il_frames.specs.declared.frame.Frame.{Frame}
use Rattle.il_frames.specs.Frames.{is_data, same_but_service}
use Rattle.il_frames.specs.NamedFrames.{entry, nrd, rfc, unt}
use Rattle.il_device.specs.declared.interface.OwnFrame.{OwnFrame}
use Rattle.il_device.specs.State.{DeviceState}
use Rattle.il_device.specs.Takes.{eto, ete}
use Rattle.il_ports.specs.Media.{MediumView}
use Rattle.loop_model.specs.Exchanges.{Answer, Stopped, FrameLost, TalkerAltered, echoed, is_answer, is_echo, is_end, receive_front, returned}
use Rattle.loop_model.specs.Roles.{roles_after}
use Rattle.il_guest.specs.declared.control.Command.TheVariants as command
use Rattle.il_guest.specs.declared.control.Control.TheVariants as control
use Rattle.il_guest.specs.declared.control.Place.TheVariants as place
use Rattle.il_guest.specs.Frames.{sst}
use Rattle.il_ring.specs.declared.plan.Arrival.{Arrival}
use Rattle.il_ring.specs.declared.flight.Flight.{Flight}
use Rattle.il_ring.specs.Flights.{ended_at, sourced}
use Rattle.il_ring.specs.Fates.{HoldsByPlan}
use Rattle.il_ring.specs.Lends.{BreaksOff, can_end_by}
use Rattle.il_ring.specs.Lending.{entry_of_kept, going_on}
use Rattle.il_ring.specs.Outcomes.{CameBack, LostWhere, StoodSo, back_entry}
use Rattle.il_ring.specs.Remaining.{BeginRounds, asked_yet, from_byte, from_unt}
use Rattle.il_ring.specs.Rings.{RingView, devices_of, roles_of}
use Rattle.il_ring.specs.Turned.{StandsNot, StandsThere, turned}
use Rattle.il_ring.proofs.DataPasses.{same_served}
use Rattle.il_ring.proofs.Remaining.{begin_same}
use Rattle.il_control.specs.Receives.{IsHolding}
use Rattle.il_control.proofs.LentArrivals.{came_lost_ahead, came_lost_home, came_one, came_second, came_taken_ahead, came_two, dist_ahead, dist_home, turned_ahead, turned_up_to}
use Rattle.il_control.proofs.LentAsking.{hit_so, hold_again}
use Rattle.il_control.proofs.LentBytes.{NrdOn, NrdGone, ByteBack, ByteGone, ByteAltered, holds, holds_then, hold, hold_then, nrd_move, byte_move}
use Rattle.il_control.proofs.LentCommands.{goes_own}
use Rattle.il_control.proofs.LentPlaces.{AskedSince, SinceCommand, since_more}
use Rattle.il_control.proofs.LentPolls.{RoundsEndSo, byte_altered, byte_lost_at, end_lost, nrd_lost, own_echo, own_echo-is}
use Rattle.il_control.proofs.LentRings.{own_ring, own_ring-length}
use Rattle.il_control.proofs.LentSteps.{GoesOut}
use Rattle.il_control.proofs.LentWalks.{BrokeOff, Polling, StandsSo, Stays, asked, broke_off, came_by, front_of, polls_on}

-- ---- what an entry brought to the host

-- the byte came past it, and ETO did not
byte_one : (k q : ℕ) (f g h : Frame) → q < k → came_by k (entry q f (outcome.Back g) ∷ entry q h (outcome.Taken k) ∷ []) ≡ 1
byte_one k q f g h less =
    let no : nat_le (suc k - q) (k - q) ≡ false = grind (arith, nat_tests) in
    ap₂ (λ a b. 1 + cond (nat_le a b) 1 0) (dist_home k q) (dist_ahead k q k less) ∙ ap (λ b. 1 + cond b 1 0) no

module _ {M : Type 0} (view : M → MediumView) (k last : ℕ) (own : Option ℕ) (base : List Entry) where
  abbrev A : List ℕ
  A = asked view k last own base

  abbrev Next : RingView M → ℕ → Type 0
  Next s arrived = Polling view k last own base s (arrived + 1) ⊎ BrokeOff view k last own base s (arrived + 1)

  -- the source of a held frame is one of the others
  pub within : (r : RingView M) (boxed : List DeviceState) (device : DeviceState) (flight : Flight) → r.after ≡ boxed ++ device ∷ [] → length (devices_of r) ≡ k → (h : IsHolding (own_ring boxed (Some flight) (going_on r))) → h.flight ≡ flight → (1 ≤ flight.source) × (flight.source < k)
  within r boxed device flight after many h is =
      let one = own_ring-length r boxed device (Some flight) after in
      let all = ap length h.talking.devices_are ∙ length-append h.talking.before (h.talking.talker ∷ h.talking.after) in
      let source = ap (λ (f : Flight). f.source) is in
      (omega (arith, h.talking.party, source), omega (arith, h.talking.party, source, one, all, many))

  -- ---- NRD

  module _ (r s : RingView M) (arrived : ℕ) (answer : Arrival) (a : ℕ) (d : Frame) (old : Polling view k last own base r arrived) (at : old.place ≡ place.Held a d) where
    abbrev pub held_stands : StandsSo view k last own base (place.Held a d) r old.boxed old.entries
    held_stands = subst (λ p. StandsSo view k last own base p r old.boxed old.entries) at old.stands

    abbrev pub held_flight : Flight
    held_flight = held_stands.2.flight

    module _ (so : Stays view k last own base r s arrived old answer (Some held_flight) (sourced 0 nrd)) where
      more : List ℕ
      more = held_stands.0

      holding : (h : IsHolding (holds view r s held_flight answer so.two)) × (h.flight ≡ held_flight)
      holding = subst (λ boxed. (h : IsHolding (own_ring boxed (Some held_flight) (going_on r))) × (h.flight ≡ held_flight)) so.boxed_is (held_stands.2.holding, held_stands.2.holding_is)

      in_ : (1 ≤ held_flight.source) × (held_flight.source < k)
      in_ = within r so.two.boxed so.two.g.device held_flight so.two.after old.many holding.0 holding.1

      bytes : is_data held_flight.sent ≡ true
      bytes = subst (λ (f : Flight). is_data f.sent ≡ true) holding.1 holding.0.data_frame

      stood : StoodSo held_flight
      stood = subst StoodSo holding.1 holding.0.stood

      begun_then : (source : ℕ) (sent : Frame) → source ≡ held_flight.source → sent ≡ held_flight.sent → (back : Frame) → is_echo (record { sent = sent; back = back }) ≡ true
          → BeginRounds k A (old.entries ++ returned k nrd ∷ []) held_stands.0 (from_byte k A held_stands.0 source (record { sent = sent; back = back }))
      begun_then source sent same_source same_sent back echo =
          begin_same k A old.entries held_stands.0 (λ now later. returned k nrd ∷ from_byte k A held_stands.0 source (record { sent = sent; back = back }) now later) (from_byte k A held_stands.0 source (record { sent = sent; back = back })) (returned k nrd) (λ now later. refl)
          (subst (λ source. BeginRounds k A old.entries held_stands.0 (λ now later. returned k nrd ∷ from_byte k A held_stands.0 source (record { sent = sent; back = back }) now later)) (sym same_source)
          (subst (λ sent. is_echo (record { sent = sent; back = back }) ≡ true → BeginRounds k A old.entries held_stands.0 (λ now later. returned k nrd ∷ from_byte k A held_stands.0 held_flight.source (record { sent = sent; back = back }) now later)) (sym same_sent) (held_stands.2.begun back) echo))

      on : NrdOn view r s held_flight answer so.two a d holding.0 → Next s arrived
      on nrd_on =
          let e : List Entry = returned k nrd ∷ [] in
          let out = subst (λ k. GoesOut (going_on r) (returned k nrd ∷ []) held_flight None answer s) old.many nrd_on.out in
          ⊎_elim
          (λ (there : StandsThere (going_on r) e held_flight None out.0 answer s).
          let hit_at = hit_so r.books.plan out.0 held_flight there.at old.controlled.plan stood there.came in
          let way = subst (HoldsByPlan s.books.plan s.books.begun s.books.crossings) there.lent_is so.controlled_then.told.lent in
          let flight_is : nrd_on.back.next.flight ≡ held_flight = nrd_on.back.flight_is ∙ holding.1 in
          let again = hold_again s (holds_then view r s held_flight answer so.two) so.two.boxed_then so.two.h.device nrd_on.back.next there.at so.two.after_then so.controlled_then refl (hit_at.1 ∙ ap (λ (f : Flight). f.source) (sym flight_is)) (hit_at.2 ∙ ap (λ (f : Flight). f.sent) (sym flight_is)) hit_at.0 way in
          inl (polls_on view k last own base r s arrived answer (Some held_flight) (sourced 0 nrd) old so (place.Relayed a d) e nrd_on.control nrd_on.last nrd_on.address nrd_on.range refl (omega arith) there.log_is (
            held_stands.0,
            held_stands.1,
            record {
              flight = there.at;
              lent_is = there.lent_is;
              kept_is = there.kept_is;
              holding = again.0;
              holding_is = again.1;
              stopped = ap (λ (own : OwnFrame). own.stopped) again.2 ∙ nrd_on.back.stops;
              since = since_more (λ since. since ≡ receive_front 0 a None ++ entry 0 sst (outcome.Taken held_flight.source) ∷ []) (λ since. since ≡ receive_front 0 a None ++ entry 0 sst (outcome.Taken there.at.source) ∷ returned 0 nrd ∷ [])
                  (devices_of (holds view r s held_flight answer so.two)) (devices_of (holds_then view r s held_flight answer so.two)) (returned 0 nrd ∷ [])
                  (λ since made. ap (λ es. es ++ returned 0 nrd ∷ []) made ∙ append_assoc (receive_front 0 a None) (entry 0 sst (outcome.Taken held_flight.source) ∷ []) (returned 0 nrd ∷ []) ∙ ap (λ q. receive_front 0 a None ++ entry 0 sst (outcome.Taken q) ∷ returned 0 nrd ∷ []) (sym hit_at.1))
                  (subst (λ boxed. AskedSince (λ since. since ≡ receive_front 0 a None ++ entry 0 sst (outcome.Taken held_flight.source) ∷ []) (front_of view k last own base r boxed)) so.boxed_is held_stands.2.since)
                  nrd_on.back.added.adds.roles;
              begun = begun_then there.at.source there.at.sent hit_at.1 hit_at.2;
            },
          )))
          (λ not.
          let ends = byte_lost_at k A (old.entries ++ e) held_stands.0 held_flight.source (own_echo held_flight.sent) (begun_then held_flight.source held_flight.sent refl refl held_flight.sent (own_echo-is held_flight.sent bytes)) bytes 0 (ne_eqb held_flight.source k (λ e. omega (arith, e, in_.1))) (omega arith) in
          inr (broke_off view k last own base r s arrived old e (entry held_flight.source held_flight.sent (outcome.Lost 0) ∷ []) (BreaksOff (FrameLost 0)) ends refl
          (let none = came_lost_home k held_flight.source held_flight.sent in omega (arith, none)) (omega arith) not.0.log_is not.0.lent_is))
          out.1

      gone : NrdGone view r s held_flight answer so.two holding.0 → Next s arrived
      gone off =
          let p = turned k off.own_party in
          let tail : List Entry = entry held_flight.source held_flight.sent (outcome.Taken k) ∷ entry k nrd (outcome.Lost p) ∷ [] in
          let not = subst (λ j. StandsNot (going_on r) [] (Some held_flight) (entry j nrd (outcome.Lost (turned j off.own_party)) ∷ []) so.two.own.crossings answer s) old.many off.ends in
          let other : (held_flight.source == k) ≡ false = ne_eqb held_flight.source k (λ e. omega (arith, e, in_.1)) in
          let kept_is : entry_of_kept (length (devices_of (going_on r))) (Some held_flight) ++ entry k nrd (outcome.Lost p) ∷ [] ≡ tail =
          ap (λ j. ended_at held_flight j ∷ entry k nrd (outcome.Lost p) ∷ []) old.many ∙ ap (λ b. entry held_flight.source held_flight.sent (if b then outcome.Back held_flight.now else outcome.Taken k) ∷ entry k nrd (outcome.Lost p) ∷ []) other in
          let ends = nrd_lost k A old.entries held_stands.0 held_flight.source (own_echo held_flight.sent) (held_stands.2.begun held_flight.sent (own_echo-is held_flight.sent bytes)) p (subst (λ j. turned j off.own_party ≤ j) old.many off.on_ring) in
          inr (broke_off view k last own base r s arrived old [] tail (BreaksOff (FrameLost p)) (subst (λ es. RoundsEndSo k A es tail (BreaksOff (FrameLost p))) (sym (append-nil old.entries)) ends) refl
          (let second = came_second k (entry held_flight.source held_flight.sent (outcome.Taken k)) (entry k nrd (outcome.Lost p)) (came_taken_ahead k held_flight.source k held_flight.sent in_.1 (omega arith)) in let one = came_one k (entry k nrd (outcome.Lost p)) in omega (arith, second, one))
          (omega arith) (not.log_is ∙ ap (λ es. r.books.log ++ es) kept_is) not.lent_is)

      pub nrd_step : Next s arrived
      nrd_step = ⊎_elim on gone (nrd_move view r s held_flight answer so.two old.controlled held_stands.2.kept_is a d (so.control_is ∙ ap (λ p. control.Rounds p) at) holding.0)

  -- ---- the byte

  module _ (r s : RingView M) (arrived : ℕ) (answer : Arrival) (a : ℕ) (d : Frame) (old : Polling view k last own base r arrived) (at : old.place ≡ place.Relayed a d) where
    abbrev pub byte_stands : StandsSo view k last own base (place.Relayed a d) r old.boxed old.entries
    byte_stands = subst (λ p. StandsSo view k last own base p r old.boxed old.entries) at old.stands

    abbrev pub byte_flight : Flight
    byte_flight = byte_stands.2.flight

    module _ (so : Stays view k last own base r s arrived old answer None byte_flight) where
      holding₂ : (h : IsHolding (hold view r s byte_flight answer so.two)) × (h.flight ≡ byte_flight) × (h.own.stopped ≡ true)
      holding₂ = subst (λ boxed. (h : IsHolding (own_ring boxed (Some byte_flight) (going_on r))) × (h.flight ≡ byte_flight) × (h.own.stopped ≡ true)) so.boxed_is (byte_stands.2.holding, byte_stands.2.holding_is, byte_stands.2.stopped)

      in₂ : (1 ≤ byte_flight.source) × (byte_flight.source < k)
      in₂ = within r so.two.boxed so.two.g.device byte_flight so.two.after old.many holding₂.0 holding₂.1

      bytes₂ : is_data byte_flight.sent ≡ true
      bytes₂ = subst (λ (f : Flight). is_data f.sent ≡ true) holding₂.1 holding₂.0.data_frame

      -- after the right echo ETO is due
      begun_eto : (back : Frame) → is_echo (record { sent = byte_flight.sent; back = back }) ≡ true
          → BeginRounds k A (old.entries ++ back_entry byte_flight back ∷ []) byte_stands.0 (λ now later. entry byte_flight.source eto (outcome.Taken k) ∷ from_unt k A byte_stands.0 now later)
      begun_eto back echo =
          begin_same k A old.entries byte_stands.0 (from_byte k A byte_stands.0 byte_flight.source (record { sent = byte_flight.sent; back = back })) (λ now later. entry byte_flight.source eto (outcome.Taken k) ∷ from_unt k A byte_stands.0 now later) (back_entry byte_flight back) (λ now later. refl) (byte_stands.2.begun back echo)

      back₂ : ByteBack view r s byte_flight answer so.two a holding₂.0 → Next s arrived
      back₂ came =
          let back = came.ended.back in
          let e : List Entry = entry byte_flight.source byte_flight.sent (outcome.Back back) ∷ entry byte_flight.source eto (outcome.Taken k) ∷ [] in
          let echo : is_echo (record { sent = byte_flight.sent; back = back }) ≡ true = subst (λ (f : Flight). is_echo (record { sent = f.sent; back = back }) ≡ true) holding₂.1 came.ended.right in
          let out = subst (λ k. GoesOut (going_on r) (entry byte_flight.source byte_flight.sent (outcome.Back back) ∷ entry byte_flight.source eto (outcome.Taken k) ∷ []) (sourced k unt) None answer s) old.many came.out in
          let begun : BeginRounds k A (old.entries ++ e) byte_stands.0 (from_unt k A byte_stands.0) =
          subst (λ es. BeginRounds k A es byte_stands.0 (from_unt k A byte_stands.0)) (append_assoc old.entries (back_entry byte_flight back ∷ []) (entry byte_flight.source eto (outcome.Taken k) ∷ []))
          (begin_same k A (old.entries ++ back_entry byte_flight back ∷ []) byte_stands.0 (λ now later. entry byte_flight.source eto (outcome.Taken k) ∷ from_unt k A byte_stands.0 now later) (from_unt k A byte_stands.0) (entry byte_flight.source eto (outcome.Taken k)) (λ now later. refl) (begun_eto back echo)) in
          let answer_is : Answer = Stopped byte_flight.source [] (record { sent = byte_flight.sent; back = back }) in
          let no_host : (byte_flight.source == 0) ≡ false = ne_eqb byte_flight.source 0 (λ e. omega (arith, e, in₂.0)) in
          let legal : is_answer 0 answer_is ≡ true = and_from (not (byte_flight.source == 0)) _ (ap not no_host) (and_from true _ refl echo) in
          let roles = subst (λ (f : Flight). roles_of (devices_of (hold_then view r s byte_flight answer so.two)) ≡ roles_after (roles_of (devices_of (hold view r s byte_flight answer so.two))) (echoed f.source (record { sent = f.sent; back = back }) ∷ entry f.source eto (outcome.Taken 0) ∷ [])) holding₂.1 came.ended.added.adds.roles in
          goes_own view k last own base r s arrived answer None byte_flight old so (place.Command (command.Unt a)) e came.control came.last came.address came.range (byte_one k byte_flight.source byte_flight.sent back eto in₂.1) (omega arith) out refl refl
          byte_stands.0 (from_unt k A byte_stands.0) begun (returned k rfc ∷ asked_yet k A byte_stands.0 [] []) refl
          (λ lent kept. (
            byte_stands.0,
            byte_stands.1,
            record {
              lent_is = lent;
              kept_is = kept;
              quiet = tt;
              since = since_more (λ since. since ≡ receive_front 0 a None ++ entry 0 sst (outcome.Taken byte_flight.source) ∷ returned 0 nrd ∷ []) (SinceCommand (command.Unt a))
                  (devices_of (hold view r s byte_flight answer so.two)) (devices_of (hold_then view r s byte_flight answer so.two)) (echoed byte_flight.source (record { sent = byte_flight.sent; back = back }) ∷ entry byte_flight.source eto (outcome.Taken 0) ∷ [])
                  (λ since made. (
                    answer_is,
                    legal,
                    ap (λ es. es ++ echoed byte_flight.source (record { sent = byte_flight.sent; back = back }) ∷ entry byte_flight.source eto (outcome.Taken 0) ∷ []) made
                        ∙ append_assoc (receive_front 0 a None) (entry 0 sst (outcome.Taken byte_flight.source) ∷ returned 0 nrd ∷ []) (echoed byte_flight.source (record { sent = byte_flight.sent; back = back }) ∷ entry byte_flight.source eto (outcome.Taken 0) ∷ []),
                  ))
                  (subst (λ boxed. AskedSince (λ since. since ≡ receive_front 0 a None ++ entry 0 sst (outcome.Taken byte_flight.source) ∷ returned 0 nrd ∷ []) (front_of view k last own base r boxed)) so.boxed_is byte_stands.2.since)
                  roles;
              begun = begun;
            },
          ))

      no_guest : (byte_flight.source == k) ≡ false
      no_guest = ne_eqb byte_flight.source k (λ e. omega (arith, e, in₂.1))

      own_begun : BeginRounds k A old.entries byte_stands.0 (from_byte k A byte_stands.0 byte_flight.source (own_echo byte_flight.sent))
      own_begun = byte_stands.2.begun byte_flight.sent (own_echo-is byte_flight.sent bytes₂)

      -- it came back altered
      altered_so : (back : Frame) → CameBack (hold view r s byte_flight answer so.two) (hold_then view r s byte_flight answer so.two) byte_flight false back → (o : Outcome) → is_end k o ≡ true → can_end_by k byte_flight.source o ≡ true → came_by k (entry byte_flight.source ete o ∷ []) ≡ 0
          → s.books.log ≡ r.books.log ++ (back_entry byte_flight back ∷ entry byte_flight.source ete o ∷ []) → s.books.lent ≡ None → Next s arrived
      altered_so back came o end by past log none =
          let tail : List Entry = back_entry byte_flight back ∷ entry byte_flight.source ete o ∷ [] in
          let ends = byte_altered k A old.entries byte_stands.0 byte_flight.source (own_echo byte_flight.sent) own_begun bytes₂ back came.echo.0 no_guest o end by in
          inr (broke_off view k last own base r s arrived old [] tail (BreaksOff (TalkerAltered back o)) (subst (λ es. RoundsEndSo k A es tail (BreaksOff (TalkerAltered back o))) (sym (append-nil old.entries)) ends) refl
          (let one = came_two k (back_entry byte_flight back) (entry byte_flight.source ete o) past in omega (arith, one)) (omega arith) log none)

      gone₂ : ByteGone view r s byte_flight answer so.two holding₂.0 → Next s arrived
      gone₂ off =
          let p = turned k off.own_party in
          let ahead : (back : Frame) → off.front ≡ back_entry byte_flight back ∷ [] → byte_flight.source < p = λ back is. turned_ahead k byte_flight.source off.own_party in₂.1 (subst (λ front. LostWhere front byte_flight.source off.own_party) is off.where_) in
          let not = subst (λ j. StandsNot (going_on r) off.front None (entry byte_flight.source off.frame (outcome.Lost (turned j off.own_party)) ∷ []) so.two.own.crossings answer s) old.many off.ends in
          ⊎_elim
          (λ first.
          let tail : List Entry = entry byte_flight.source byte_flight.sent (outcome.Lost p) ∷ [] in
          let ends = byte_lost_at k A old.entries byte_stands.0 byte_flight.source (own_echo byte_flight.sent) own_begun bytes₂ p no_guest
          (let at = subst (λ front. LostWhere front byte_flight.source off.own_party) first.0 off.where_ in turned_up_to k off.own_party byte_flight.source at.0 at.1) in
          inr (broke_off view k last own base r s arrived old [] tail (BreaksOff (FrameLost p)) (subst (λ es. RoundsEndSo k A es tail (BreaksOff (FrameLost p))) (sym (append-nil old.entries)) ends) refl
          (let one = came_one k (entry byte_flight.source byte_flight.sent (outcome.Lost p)) in omega (arith, one)) (omega arith)
          (not.log_is ∙ ap₂ (λ front frame. r.books.log ++ (front ++ entry byte_flight.source frame (outcome.Lost p) ∷ [])) first.0 first.1) not.lent_is))
          (λ next. by_right next.0 next.1 next.2 not.lent_is p (ahead next.1 next.3) (subst (λ j. turned j off.own_party ≤ j) old.many off.on_ring) (not.log_is ∙ ap₂ (λ front frame. r.books.log ++ (front ++ entry byte_flight.source frame (outcome.Lost p) ∷ [])) next.3 next.4))
          off.kind
        where
          by_right : (right : Bool) → (back : Frame) → CameBack (hold view r s byte_flight answer so.two) (hold_then view r s byte_flight answer so.two) byte_flight right back → s.books.lent ≡ None
              → (p : ℕ) → byte_flight.source < p → p ≤ k → s.books.log ≡ r.books.log ++ (back_entry byte_flight back ∷ entry byte_flight.source (if right then eto else ete) (outcome.Lost p) ∷ []) → Next s arrived
          by_right true back came none p far on log =
              let e : List Entry = back_entry byte_flight back ∷ [] in
              let echo : is_echo (record { sent = byte_flight.sent; back = back }) ≡ true = and_from (is_data byte_flight.sent) (same_but_service byte_flight.sent back) bytes₂ (same_served byte_flight.sent back came.echo.1) in
              let ends = end_lost k A (old.entries ++ e) byte_stands.0 byte_flight.source p no_guest far on (begun_eto back echo) in
              inr (broke_off view k last own base r s arrived old e (entry byte_flight.source eto (outcome.Lost p) ∷ []) (BreaksOff (FrameLost p)) ends refl
              (let one = came_one k (back_entry byte_flight back) in let past = came_lost_ahead k byte_flight.source p eto far on in omega (arith, one, past)) (omega arith) log none)
          by_right false back came none p far on log = altered_so back came (outcome.Lost p) refl (and_from (nat_lt byte_flight.source p) (nat_le p k) (lt-ltb byte_flight.source p far) (le-leb p k on)) (came_lost_ahead k byte_flight.source p ete far on) log none

      altered₂ : ByteAltered view r s byte_flight answer so.two holding₂.0 → Next s arrived
      altered₂ off =
          let not = subst (λ j. StandsNot (going_on r) (back_entry byte_flight off.back ∷ entry byte_flight.source ete (outcome.Taken j) ∷ []) None [] so.two.own.crossings answer s) old.many off.ends in
          altered_so off.back off.came (outcome.Taken k) (eq-eqb k k refl) refl (came_taken_ahead k byte_flight.source k ete in₂.1 (omega arith)) not.log_is not.lent_is

      pub byte_step : Next s arrived
      byte_step = ⊎_elim back₂ (λ off. ⊎_elim gone₂ altered₂ off) (byte_move view r s byte_flight answer so.two old.controlled byte_stands.2.kept_is a d (so.control_is ∙ ap (λ p. control.Rounds p) at) holding₂.0 holding₂.1 holding₂.2)
