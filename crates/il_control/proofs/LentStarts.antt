-- The move by which a second controller asks for a status: SST goes round.
use Rattle.std.proofs.Common.{◌<◌, ◌≡◌, ◌≢◌, ◌∙◌, ◌⊎◌, inl, inr, ⊎_elim, ◌≤◌, ◌+◌, ◌++◌, ◌==◌, ℕ, zero, suc, Bool, true, false, List, [], ◌∷◌, Some, None, length, refl, sym, ap, subst, arith}
use Rattle.il_frames.specs.declared.entry.Entry.{Entry}
use Rattle.il_frames.specs.declared.entry.Outcome.TheVariants as outcome
use Rattle.il_frames.specs.declared.frame.Frame.{Frame}
use Rattle.il_frames.specs.Frames.{is_data}
use Rattle.il_frames.specs.NamedFrames.{entry, nrd, unt}
use Rattle.il_device.specs.State.{DeviceState}
use Rattle.il_ports.specs.Media.{MediumView}
use Rattle.loop_model.specs.Exchanges.{Sst, returned}
use Rattle.loop_model.specs.Roles.{is_at_most_one, talkers}
use Rattle.il_guest.specs.declared.control.Control.TheVariants as control
use Rattle.il_guest.specs.declared.control.Command.TheVariants as command
use Rattle.il_guest.specs.declared.control.Place.TheVariants as place
use Rattle.il_guest.specs.Courses.{control_next}
use Rattle.il_guest.specs.Frames.{sst}
use Rattle.il_guest.specs.State.{is_leading}
use Rattle.il_guest.specs.Steps.{IsControl, IsRoundPlace, out_of, start_then}
use Rattle.il_guest.proofs.GuestLaws.{goes-on}
use Rattle.il_ring.specs.declared.plan.Arrival.{Arrival}
use Rattle.il_ring.specs.declared.plan.Arrival.TheVariants as arrival
use Rattle.il_ring.specs.declared.flight.Flight.{Flight}
use Rattle.il_ring.specs.Books.{BooksView}
use Rattle.il_ring.specs.Flights.{sourced}
use Rattle.il_ring.specs.Lending.{IsControlled, books_controlled, going_on, controlled_home}
use Rattle.il_ring.specs.Lists.{Each, NoneSends}
use Rattle.il_ring.specs.Outcomes.{StartReturned, StartGone, StartTaken, IsLostNow, IsTalking, met_between}
use Rattle.il_ring.specs.Rings.{RingView, comes, devices_of, roles_of}
use Rattle.il_ring.specs.Turned.{HalvesOfRound, SomeCame, StandsNot, books_anew, goes_out, keeps_then, turned, turned_entries, turned_flight}
use Rattle.il_ring.proofs.Handing.{data_no_ifc}
use Rattle.il_ring.proofs.PassSteps.{goes_home, past_held}
use Rattle.il_ring.proofs.SendLaws.{start_sent}
use Rattle.il_control.specs.Calls.{IsFree, Whole}
use Rattle.il_control.specs.Receives.{BeginWhole, IsCalm, BeginBroken, own_frames}
use Rattle.il_control.proofs.Beginning.{StartEnd, ItPassed, ItBegan, ItFailed, start_call}
use Rattle.il_control.proofs.LentMoves.{others, others_then, party_on, party_some}
use Rattle.il_control.proofs.LentRings.{own_ring-IsFree}
use Rattle.il_control.proofs.LentSteps.{goes_later, GoesOut, goes_half, lost_half, out_half, some_came}

none_sends : (k : ℕ) (ds : List DeviceState) → Each IsCalm k ds → NoneSends ds
none_sends k [] calm = tt
none_sends k (d ∷ ds) calm = (calm.0.1, none_sends (k + 1) ds calm.1)

-- the frame that was held as it came home
held_is_data : (b : BooksView) (at flight : Flight) (own is_bytes : Bool) → b.held ≡ None → (comes b at own is_bytes).held ≡ Some flight → (own ≡ false) × (is_bytes ≡ true) × (at ≡ flight)
held_is_data b at flight true is_bytes none is = let clash = sym none ∙ is in cc
held_is_data b at flight false true none is = (refl, refl, ap (λ o. elim o [ Some f ↦ f | None ↦ at ]) is)
held_is_data b at flight false false none is = let clash = is in cc

module _ {M : Type 0} (view : M → MediumView) (r s : RingView M) (answer : Arrival) (two : HalvesOfRound view (going_on r) None (sourced 0 sst) answer s) where
  abbrev k : ℕ
  k = length (devices_of r)

  abbrev pub rest : RingView M
  rest = others view r s sst answer two

  abbrev pub rest_then : RingView M
  rest_then = others_then view r s sst answer two

  -- a device took it, and its status is held by the second controller, which sends NRD
  pub record StatusHeld (a : ℕ) : Type 0 where
    pub began : BeginWhole view sst rest rest_then
    pub control : two.h.control ≡ control.Rounds (place.Held a began.now.flight.now)
    pub last : two.h.last ≡ two.g.last
    pub address : two.h.device.roles.address ≡ two.g.device.roles.address
    pub range : IsRoundPlace (place.Held a began.now.flight.now)
    pub out : GoesOut (going_on r) (entry k sst (outcome.Taken began.now.flight.source) ∷ []) (sourced k nrd) (Some began.now.flight) answer s

  -- it did, and its status was lost on its way
  pub record StatusLost : Type 0 where
    pub taker : ℕ
    pub some_taker : 1 ≤ taker
    pub talked : IsTalking taker None (devices_of rest)
    pub sent : Frame
    pub data_frame : is_data sent ≡ true
    pub own_party : ℕ
    pub some : 1 ≤ turned k own_party
    pub on_ring : turned k own_party ≤ k
    pub ahead : (own_party ≡ 0) ⊎ (taker < own_party)
    pub failed : BeginBroken view sst rest rest_then
    pub met_some : met_between rest rest_then ≢ []
    pub own_log : two.own.log ≡ entry 0 sst (outcome.Taken taker) ∷ entry taker sent (outcome.Lost own_party) ∷ []
    pub ends : StandsNot (going_on r) (entry k sst (outcome.Taken taker) ∷ []) None (entry taker sent (outcome.Lost (turned k own_party)) ∷ []) two.own.crossings answer s
    pub same : two.h ≡ two.g

  -- SST was lost
  pub record StartLostAt : Type 0 where
    pub own_party : ℕ
    pub some : 1 ≤ turned k own_party
    pub on_ring : turned k own_party ≤ k
    pub failed : BeginBroken view sst rest rest_then
    pub met_some : met_between rest rest_then ≢ []
    pub own_log : two.own.log ≡ entry 0 sst (outcome.Lost own_party) ∷ []
    pub ends : StandsNot (going_on r) [] None (entry k sst (outcome.Lost (turned k own_party)) ∷ []) two.own.crossings answer s
    pub same : two.h ≡ two.g

  -- it came back, and UNT goes out
  pub record NoStatus (a : ℕ) : Type 0 where
    pub whole : Whole view rest (returned 0 sst ∷ []) rest_then
    pub said : own_frames whole.adds.answers ≡ []
    pub control : two.h.control ≡ control.Rounds (place.Command (command.Unt a))
    pub last : two.h.last ≡ two.g.last
    pub address : two.h.device.roles.address ≡ two.g.device.roles.address
    pub range : IsRoundPlace (place.Command (command.Unt a))
    pub out : GoesOut (going_on r) (returned k sst ∷ []) (sourced k unt) None answer s

  turned_some : (p : ℕ) → 1 ≤ p → turned k p ≡ p
  turned_some zero some = let no : ⊥ = omega (arith, some) in absurd no
  turned_some (suc p) some = refl

  module _ (controlled : IsControlled r) (kept : r.books.kept ≡ None) (a : ℕ) (at : two.g.control ≡ control.Rounds (place.Start a)) (calm : Each IsCalm 1 (devices_of rest)) (one : is_at_most_one (talkers (roles_of (devices_of rest))) ≡ true) where
    free : IsFree rest
    free = own_ring-IsFree r two.boxed two.g.device two.after controlled

    lead : is_leading two.g.control ≡ true
    lead = ap is_leading at

    end : StartEnd view rest sst two.arrives rest_then
    end = start_call view rest rest_then None Sst sst two.arrives two.its_round refl refl free tt one calm

    came : StartReturned rest None sst two.arrives rest_then ⊎ (StartGone rest sst two.arrives rest_then ⊎ StartTaken rest sst two.arrives rest_then)
    came = start_sent view rest rest_then None sst (sourced 0 sst) two.arrives two.its_round refl free.ring refl (none_sends 1 (devices_of rest) calm) one

    returned_so : StartReturned rest None sst two.arrives rest_then → NoStatus a
    returned_so back =
        let answer_is = back.returned.answer_is in
        let so = goes_half view (going_on r) s None (sourced 0 sst) answer two lead sst answer_is refl refl in
        let to : two.h.control ≡ control.Rounds (place.Command (command.Unt a)) = so.control ∙ ap (λ c. control_next two.g.device.roles.address two.g.last c sst) at in
        record {
          whole = (whole_of end).0;
          said = (whole_of end).1;
          control = to;
          last = so.last;
          address = so.address;
          range = subst IsControl to so.range;
          out =
              subst (λ kept. GoesOut (going_on r) (returned k sst ∷ []) (sourced k unt) kept answer s) (ap (λ c. keeps_then c r.books.kept) to ∙ kept)
              (out_half view (going_on r) s None (sourced 0 sst) answer two lead sst so (returned k sst ∷ []) (ap (turned_entries k) back.returned.log) (sourced k unt) (ap (λ c. goes_out k c r.books.kept) to) (ap is_leading to));
        }
      where
        whole_of : StartEnd view rest sst two.arrives rest_then → (whole : Whole view rest (returned 0 sst ∷ []) rest_then) × (own_frames whole.adds.answers ≡ [])
        whole_of end = elim end [
          | ItPassed g is none whole said nameless unheard ↦ (whole, said)
          | ItBegan g is flight held began ↦ (let clash = sym back.returned.held_is ∙ held in cc)
          | ItFailed lost not ↦ (let clash = sym lost ∙ back.returned.answer_is in cc)
        ]

    failed_of : two.arrives ≡ arrival.Lost → BeginBroken view sst rest rest_then
    failed_of lost = elim end [
      | ItPassed g is none whole said nameless unheard ↦ (let clash = sym lost ∙ is in cc)
      | ItBegan g is flight held began ↦ (let clash = sym lost ∙ is in cc)
      | ItFailed lost not ↦ not
    ]

    gone : StartGone rest sst two.arrives rest_then → StartLostAt
    gone off =
        let lost = off.lost in
        let ends = lost_half view (going_on r) s None (sourced 0 sst) answer two lead lost.answer_is [] (entry k sst (outcome.Lost (turned k lost.party))) (ap (turned_entries k) lost.log) in
        record {
          own_party = lost.party;
          some = party_some r two.boxed two.g.device two.after lost.party;
          on_ring = party_on r two.boxed two.g.device two.after lost.party lost.on_ring;
          failed = failed_of lost.answer_is;
          own_log = lost.log;
          met_some = lost.met_some;
          ends = subst (λ kept. StandsNot (going_on r) [] kept (entry k sst (outcome.Lost (turned k lost.party)) ∷ []) two.own.crossings answer s) kept ends.0;
          same = ends.1;
        }

    byte_gone : (q : ℕ) → 1 ≤ q → IsTalking q None (devices_of rest) → (sent : Frame) → is_data sent ≡ true → IsLostNow rest (entry 0 sst (outcome.Taken q) ∷ []) q sent two.arrives rest_then → StatusLost
    byte_gone q some talked sent is lost =
        let es : List Entry = entry k sst (outcome.Taken q) ∷ [] in
        let log : turned_entries k two.own.log ≡ es ++ entry q sent (outcome.Lost (turned k lost.party)) ∷ [] =
        ap (turned_entries k) lost.log ∙ ap (λ p. entry k sst (outcome.Taken p) ∷ entry p sent (outcome.Lost (turned k lost.party)) ∷ []) (turned_some q some) in
        let ends = lost_half view (going_on r) s None (sourced 0 sst) answer two lead lost.answer_is es (entry q sent (outcome.Lost (turned k lost.party))) log in
        record {
          taker = q;
          some_taker = some;
          talked = talked;
          sent = sent;
          data_frame = is;
          own_party = lost.party;
          some = party_some r two.boxed two.g.device two.after lost.party;
          on_ring = party_on r two.boxed two.g.device two.after lost.party lost.on_ring;
          ahead = lost.place;
          failed = failed_of lost.answer_is;
          own_log = lost.log;
          met_some = lost.met_some;
          ends = subst (λ kept. StandsNot (going_on r) es kept (entry q sent (outcome.Lost (turned k lost.party)) ∷ []) two.own.crossings answer s) kept ends.0;
          same = ends.1;
        }

    -- its status came
    module _ (g : Frame) (is_g : two.arrives ≡ arrival.Frame g) (flight : Flight) (stands : two.own.held ≡ Some flight) (began : BeginWhole view sst rest rest_then) where
      some : SomeCame k r.books.log r.books.kept (books_anew None (going_on r).books) two.g two.h two.past_all two.arrives two.own
      some = some_came view (going_on r) s None (sourced 0 sst) answer two g is_g

      held_data : ((some.at.source == 0) ≡ false) × (is_data some.at.now ≡ true) × (some.at ≡ flight)
      held_data = held_is_data (record (books_anew None (going_on r).books) { crossings = some.count; log = some.entries }) some.at flight (some.at.source == 0) (is_data some.at.now) refl (sym (ap (λ (b : BooksView). b.held) some.own_is) ∙ stands)

      flight_is : some.at ≡ began.now.flight
      flight_is = held_data.2 ∙ ap (λ o. elim o [ Some f ↦ f | None ↦ flight ]) (sym stands ∙ began.now.held)

      on_as : (some.out ≡ out_of two.h.control) × (two.h.control ≡ control.Rounds (place.Held a began.now.flight.now)) × (two.h.last ≡ two.g.last) × (two.h.device.roles.address ≡ two.g.device.roles.address)
      on_as =
          let on = goes-on two.g two.h some.at.now some.out lead (data_no_ifc some.at.now held_data.1) some.takes in
          let to : two.h.control ≡ control.Rounds (place.Held a some.at.now) =
          on.control ∙ ap (λ c. control_next two.g.device.roles.address two.g.last c some.at.now) at ∙ ap (start_then a some.at.now) held_data.1 in
          (on.answer, to ∙ ap (λ (f : Flight). control.Rounds (place.Held a f.now)) flight_is, on.last, on.address)

      own_flight : (f : Flight) → (f.source == 0) ≡ false → turned_flight k f ≡ f
      own_flight f other = ap (λ p. record f { source = p }) (by f.source other)
        where
          by : (p : ℕ) → (p == 0) ≡ false → turned k p ≡ p
          by zero none = cc
          by (suc p) none = refl

      pub held_so : StatusHeld a
      held_so =
          let past = past_held k r.books.log r.books.kept (books_anew None (going_on r).books) two.g two.h two.past_all two.arrives two.own some nrd held_data.1 held_data.0 (on_as.0 ∙ ap out_of on_as.1) in
          let e : List Entry = entry k sst (outcome.Taken began.now.flight.source) ∷ [] in
          let taker : 1 ≤ began.now.flight.source = omega (arith, began.now.talking.party) in
          let log : turned_entries k two.own.log ≡ e = ap (turned_entries k) began.added.adds.log ∙ ap (λ p. entry k sst (outcome.Taken p) ∷ []) (turned_some began.now.flight.source taker) in
          let keeps : Some (turned_flight k some.at) ≡ Some began.now.flight = ap (λ f. Some f) (own_flight some.at held_data.0 ∙ flight_is) in
          record {
            began = began;
            control = on_as.1;
            last = on_as.2;
            address = on_as.3;
            range = subst IsControl on_as.1 some.takes.after.control;
            out =
                subst (λ kept. GoesOut (going_on r) e (sourced k nrd) kept answer s) keeps
                (goes_later view (going_on r) s None (sourced 0 sst) answer two e (sourced k nrd) (Some (turned_flight k some.at)) past.0.crossings
                (goes_home (going_on r) s answer two.past_all e (Some (turned_flight k some.at)) (two.books ∙ ap (λ c. controlled_home (is_leading c) k (books_controlled (going_on r).books two.past_all) two.past_all.trip.flight) on_as.1) two.answer_is past.0.kept (sourced k nrd) past.0.flight
                (past.0.log_is ∙ ap (λ log. r.books.log ++ log) log)));
          }

    -- SST goes round
    pub start_move : (NoStatus a ⊎ StatusHeld a) ⊎ (StartLostAt ⊎ StatusLost)
    start_move = ⊎_elim (λ back. inl (inl (returned_so back))) (λ other. ⊎_elim (λ off. inr (inl (gone off))) (λ taken. by_end taken) other) came
      where
        by_end : StartTaken rest sst two.arrives rest_then → (NoStatus a ⊎ StatusHeld a) ⊎ (StartLostAt ⊎ StatusLost)
        by_end taken = ⊎_elim (λ held. inl (inr (began_of held.1.answer_is held.1.held_is))) (λ lost. inr (inr (byte_gone taken.party taken.on_ring.0 taken.talking_before taken.sent taken.data_frame lost))) taken.end
          where
            began_of : {g : Frame} {flight : Flight} → two.arrives ≡ arrival.Frame g → two.own.held ≡ Some flight → StatusHeld a
            began_of {g} {flight} is_g stands = elim end [
              | ItPassed f is none whole said nameless unheard ↦ (let clash = sym none ∙ stands in cc)
              | ItBegan f is at held began ↦ held_so f is at held began
              | ItFailed lost not ↦ (let clash = sym lost ∙ is_g in cc)
            ]
