-- The moves by which a second controller has the byte of a status: NRD goes round, and then the byte, which it lets go.
use Rattle.std.proofs.Common.{◌≡◌, ◌≢◌, ◌∙◌, ◌⊎◌, inl, inr, ⊎_elim, ◌≤◌, ◌++◌, ◌||◌, ◌==◌, ℕ, zero, suc, Bool, true, false, List, [], ◌∷◌, Some, None, length, refl, sym, ap, ap₂, subst, arith}
use Rattle.std.specs.Prelude.{if◌then◌else◌}
use Rattle.std.proofs.lemmas.List.{map-append}
use Rattle.il_frames.specs.declared.entry.Entry.{Entry}
use Rattle.il_frames.specs.declared.entry.Outcome.TheVariants as outcome
use Rattle.il_frames.specs.declared.frame.Frame.{Frame}
use Rattle.il_frames.specs.Frames.{byte_of, is_data}
use Rattle.il_frames.specs.NamedFrames.{entry, nrd, unt}
use Rattle.il_device.specs.Takes.{eto, ete}
use Rattle.il_ports.specs.Media.{MediumView}
use Rattle.loop_model.specs.Exchanges.{returned}
use Rattle.il_guest.specs.declared.control.Control.TheVariants as control
use Rattle.il_guest.specs.declared.control.Command.TheVariants as command
use Rattle.il_guest.specs.declared.control.Place.TheVariants as place
use Rattle.il_guest.specs.Courses.{control_next}
use Rattle.il_guest.specs.State.{is_leading}
use Rattle.il_guest.specs.Steps.{IsControl, IsRoundPlace}
use Rattle.il_guest.proofs.GuestLaws.{silent-at-ete}
use Rattle.il_ring.specs.declared.plan.Arrival.{Arrival}
use Rattle.il_ring.specs.declared.plan.Arrival.TheVariants as arrival
use Rattle.il_ring.specs.declared.flight.Flight.{Flight}
use Rattle.il_ring.specs.Flights.{sourced}
use Rattle.il_ring.specs.Lending.{IsControlled, books_controlled, going_on, controlled_home}
use Rattle.il_ring.specs.Outcomes.{LostWhere, Returned, WasLost, Relayed, IsLostNow, CameBack, SendsMore, EndsSending, back_entry, met_between}
use Rattle.il_ring.specs.Rings.{RingView, Round, devices_of}
use Rattle.il_ring.specs.Turned.{HalvesOfRound, StandsNot, goes_out, keeps_then, ring_before_last, turned, turned_entry, turned_entries}
use Rattle.il_ring.proofs.PassSteps.{silent_home}
use Rattle.il_ring.proofs.RelayRounds.{relay_round}
use Rattle.il_ring.proofs.SendLaws.{plain_sent, round_released}
use Rattle.il_control.specs.Receives.{Ended, IsHolding, TakesBroken, RelayBroken}
use Rattle.il_control.proofs.LentMoves.{party_on, party_some}
use Rattle.il_control.proofs.LentRings.{own_ring}
use Rattle.il_control.proofs.LentSteps.{GoesOut, goes_half, lost_half, out_half}
use Rattle.il_control.proofs.Relaying.{RelayEnd, ItWentOn, ItEnded, ItBroke, relay_end}
use Rattle.il_control.proofs.Stopping.{NrdBack, NrdEnd, NrdCame, NrdLost, nrd_sent}

-- ---- NRD

module _ {M : Type 0} (view : M → MediumView) (r s : RingView M) (held : Flight) (answer : Arrival) (two : HalvesOfRound view (going_on r) (Some held) (sourced 0 nrd) answer s) where
  abbrev k : ℕ
  k = length (devices_of r)

  abbrev pub holds : RingView M
  holds = own_ring two.boxed (Some held) (going_on r)

  abbrev pub holds_then : RingView M
  holds_then = ring_before_last two.boxed_then two.own s

  -- it came back, and the byte goes on
  pub record NrdOn (a : ℕ) (d : Frame) (holding : IsHolding holds) : Type 0 where
    pub back : NrdBack view holds holding holds_then
    pub control : two.h.control ≡ control.Rounds (place.Relayed a d)
    pub last : two.h.last ≡ two.g.last
    pub address : two.h.device.roles.address ≡ two.g.device.roles.address
    pub range : IsRoundPlace (place.Relayed a d)
    pub out : GoesOut (going_on r) (returned k nrd ∷ []) held None answer s

  -- it was lost
  pub record NrdGone (holding : IsHolding holds) : Type 0 where
    pub not_took : TakesBroken view holds holding 1 holds_then
    pub own_party : ℕ
    pub some : 1 ≤ turned k own_party
    pub on_ring : turned k own_party ≤ k
    pub own_log : two.own.log ≡ entry 0 nrd (outcome.Lost own_party) ∷ []
    pub met_some : met_between holds holds_then ≢ []
    pub ends : StandsNot (going_on r) [] (Some held) (entry k nrd (outcome.Lost (turned k own_party)) ∷ []) two.own.crossings answer s
    pub same : two.h ≡ two.g

  module _ (controlled : IsControlled r) (kept : r.books.kept ≡ Some held) (a : ℕ) (d : Frame) (at : two.g.control ≡ control.Rounds (place.Held a d)) (holding : IsHolding holds) where
    lead : is_leading two.g.control ≡ true
    lead = ap is_leading at

    end : NrdEnd view holds holding two.arrives holds_then
    end = nrd_sent view holds holds_then holding (Some held) nrd two.arrives two.its_round refl refl

    nrd_back : Returned holds (Some held) nrd nrd two.arrives holds_then → NrdOn a d holding
    nrd_back back =
        let so = goes_half view (going_on r) s (Some held) (sourced 0 nrd) answer two lead nrd back.answer_is refl refl in
        let to : two.h.control ≡ control.Rounds (place.Relayed a d) = so.control ∙ ap (λ c. control_next two.g.device.roles.address two.g.last c nrd) at in
        record {
          back = elim end [
            | NrdCame g is came ↦ came
            | NrdLost lost not ↦ (let clash = sym lost ∙ back.answer_is in cc)
          ];
          control = to;
          last = so.last;
          address = so.address;
          range = subst IsControl to so.range;
          out =
              subst (λ kept. GoesOut (going_on r) (returned k nrd ∷ []) held kept answer s) (ap (λ c. keeps_then c r.books.kept) to)
              (out_half view (going_on r) s (Some held) (sourced 0 nrd) answer two lead nrd so (returned k nrd ∷ []) (ap (turned_entries k) back.log) held (ap (λ c. goes_out k c r.books.kept) to ∙ kept) (ap is_leading to));
        }

    nrd_gone : WasLost holds 0 nrd two.arrives holds_then → NrdGone holding
    nrd_gone lost =
        let ends = lost_half view (going_on r) s (Some held) (sourced 0 nrd) answer two lead lost.answer_is [] (entry k nrd (outcome.Lost (turned k lost.party))) (ap (turned_entries k) lost.log) in
        record {
          not_took = elim end [
            | NrdCame g is came ↦ (let clash = sym is ∙ lost.answer_is in cc)
            | NrdLost gone not ↦ not
          ];
          own_party = lost.party;
          some = party_some r two.boxed two.g.device two.after lost.party;
          on_ring = party_on r two.boxed two.g.device two.after lost.party lost.on_ring;
          own_log = lost.log;
          met_some = lost.met_some;
          ends = subst (λ kept. StandsNot (going_on r) [] kept (entry k nrd (outcome.Lost (turned k lost.party)) ∷ []) two.own.crossings answer s) kept ends.0;
          same = ends.1;
        }

    pub nrd_move : NrdOn a d holding ⊎ NrdGone holding
    nrd_move = ⊎_elim (λ back. inl (nrd_back back)) (λ lost. inr (nrd_gone lost)) (plain_sent view holds holds_then (Some held) nrd (sourced 0 nrd) two.arrives two.its_round refl holding.ring refl)

-- ---- the byte

module _ {M : Type 0} (view : M → MediumView) (r s : RingView M) (flight : Flight) (answer : Arrival) (two : HalvesOfRound view (going_on r) None flight answer s) where
  abbrev k₂ : ℕ
  k₂ = length (devices_of r)

  -- the others, by which it is held
  abbrev pub hold : RingView M
  hold = own_ring two.boxed (Some flight) (going_on r)

  abbrev pub hold_then : RingView M
  hold_then = ring_before_last two.boxed_then two.own s

  -- it came back right, ETO followed, and UNT goes out
  pub record ByteBack (a : ℕ) (holding : IsHolding hold) : Type 0 where
    pub ended : Ended view hold holding hold_then
    pub control : two.h.control ≡ control.Rounds (place.Command (command.Unt a))
    pub last : two.h.last ≡ two.g.last
    pub address : two.h.device.roles.address ≡ two.g.device.roles.address
    pub range : IsRoundPlace (place.Command (command.Unt a))
    pub out : GoesOut (going_on r) (entry flight.source flight.sent (outcome.Back ended.back) ∷ entry flight.source eto (outcome.Taken k₂) ∷ []) (sourced k₂ unt) None answer s

  -- after nothing it was lost itself, and after its entry ETO, or ETE if it came back altered
  abbrev pub GoneSo : List Entry → Frame → Type 0
  GoneSo front frame =
      ((front ≡ []) × (frame ≡ flight.sent))
      ⊎ ((right : Bool) × (back : Frame) × CameBack hold hold_then flight right back × (front ≡ back_entry flight back ∷ []) × (frame ≡ (if right then eto else ete)))

  -- it was lost; or it came back, and what its source then sent was lost
  pub record ByteGone (holding : IsHolding hold) : Type 0 where
    pub severed : RelayBroken view hold holding hold_then
    pub front : List Entry
    pub frame : Frame
    pub kind : GoneSo front frame
    pub own_party : ℕ
    pub some : 1 ≤ turned k₂ own_party
    pub on_ring : turned k₂ own_party ≤ k₂
    pub where_ : LostWhere front flight.source own_party
    pub own_log : two.own.log ≡ front ++ entry flight.source frame (outcome.Lost own_party) ∷ []
    pub met_some : met_between hold hold_then ≢ []
    pub ends : StandsNot (going_on r) front None (entry flight.source frame (outcome.Lost (turned k₂ own_party)) ∷ []) two.own.crossings answer s
    pub same : two.h ≡ two.g

  -- it came back altered, and its source ended by ETE, which silences the second controller
  pub record ByteAltered (holding : IsHolding hold) : Type 0 where
    pub severed : RelayBroken view hold holding hold_then
    pub back : Frame
    pub came : CameBack hold hold_then flight false back
    pub own_log : two.own.log ≡ back_entry flight back ∷ entry flight.source ete (outcome.Taken 0) ∷ []
    pub silent : two.h.control ≡ control.Silent
    pub last : two.h.last ≡ two.g.last
    pub ends : StandsNot (going_on r) (back_entry flight back ∷ entry flight.source ete (outcome.Taken k₂) ∷ []) None [] two.own.crossings answer s

  module _ (controlled : IsControlled r) (kept : r.books.kept ≡ None) (a : ℕ) (d : Frame) (at : two.g.control ≡ control.Rounds (place.Relayed a d)) (holding : IsHolding hold) (is_flight : holding.flight ≡ flight) (stopped : holding.own.stopped ≡ true) where
    lead₂ : is_leading two.g.control ≡ true
    lead₂ = ap is_leading at

    round : Round view hold None flight two.arrives hold_then
    round = round_released view hold hold_then flight two.arrives two.its_round

    end₂ : RelayEnd view hold holding two.arrives hold_then
    end₂ = relay_end view hold hold_then holding two.arrives (subst (λ f. Round view hold None f two.arrives hold_then) (sym is_flight) round)

    relayed : Relayed hold flight holding.own two.arrives hold_then
    relayed =
        subst (λ f. Relayed hold f holding.own two.arrives hold_then) is_flight
        (relay_round view hold hold_then holding.flight holding.own two.arrives holding.ring.crossings holding.ring.plan holding.talking holding.frame holding.stood (subst (λ f. Round view hold None f two.arrives hold_then) (sym is_flight) round))

    source_same : turned k₂ flight.source ≡ flight.source
    source_same = by flight.source (omega (arith, holding.talking.party, ap (λ (f : Flight). f.source) is_flight))
      where
        by : (p : ℕ) → 1 ≤ p → turned k₂ p ≡ p
        by zero some = let no : ⊥ = omega (arith, some) in absurd no
        by (suc p) some = refl

    severed_of : ((answer_is : two.arrives ≡ arrival.Frame eto) → ⊥) → RelayBroken view hold holding hold_then
    severed_of not = elim end₂ [
      | ItWentOn g is bytes went ↦ absurd (never_more (went.goes_on))
      | ItEnded is ended ↦ absurd (not is)
      | ItBroke how off ↦ off
    ]
      where
        never_more : (holding.own.stopped || holding.own.last) ≡ false → ⊥
        never_more none = let clash : true ≡ false = sym (ap (λ b. b || holding.own.last) stopped) ∙ none in cc

    kept_gone : (front : List Entry) (frame : Frame) (lost : IsLostNow hold front flight.source frame two.arrives hold_then) → turned_entries k₂ front ≡ front
        → StandsNot (going_on r) front None (entry flight.source frame (outcome.Lost (turned k₂ lost.party)) ∷ []) two.own.crossings answer s × (two.h ≡ two.g)
    kept_gone front frame lost same_front =
        let log : turned_entries k₂ two.own.log ≡ front ++ entry flight.source frame (outcome.Lost (turned k₂ lost.party)) ∷ [] =
        ap (turned_entries k₂) lost.log
        ∙ map-append (turned_entry k₂) front (entry flight.source frame (outcome.Lost lost.party) ∷ [])
        ∙ ap₂ (λ es p. es ++ entry p frame (outcome.Lost (turned k₂ lost.party)) ∷ []) same_front source_same in
        let ends = lost_half view (going_on r) s None flight answer two lead₂ lost.answer_is front (entry flight.source frame (outcome.Lost (turned k₂ lost.party))) log in
        (subst (λ kept. StandsNot (going_on r) front kept (entry flight.source frame (outcome.Lost (turned k₂ lost.party)) ∷ []) two.own.crossings answer s) kept ends.0, ends.1)

    byte_gone : (front : List Entry) → (frame : Frame) → GoneSo front frame → turned_entries k₂ front ≡ front → IsLostNow hold front flight.source frame two.arrives hold_then → ByteGone holding
    byte_gone front frame kind same_front lost =
        let ends = kept_gone front frame lost same_front in
        record {
          severed = severed_of (λ is. let clash = sym is ∙ lost.answer_is in cc);
          front = front;
          frame = frame;
          kind = kind;
          own_party = lost.party;
          some = party_some r two.boxed two.g.device two.after lost.party;
          on_ring = party_on r two.boxed two.g.device two.after lost.party lost.on_ring;
          where_ = lost.place;
          own_log = lost.log;
          met_some = lost.met_some;
          ends = ends.0;
          same = ends.1;
        }

    back_same : (back : Frame) → turned_entries k₂ (back_entry flight back ∷ []) ≡ back_entry flight back ∷ []
    back_same back = ap (λ p. entry p flight.sent (outcome.Back back) ∷ []) source_same

    ends_by : (f : Frame) (back : Frame) → two.own.log ≡ back_entry flight back ∷ entry flight.source f (outcome.Taken 0) ∷ [] → turned_entries k₂ two.own.log ≡ back_entry flight back ∷ entry flight.source f (outcome.Taken k₂) ∷ []
    ends_by f back log = ap (turned_entries k₂) log ∙ ap (λ p. entry p flight.sent (outcome.Back back) ∷ entry p f (outcome.Taken k₂) ∷ []) source_same

    -- ETO
    right_end : two.arrives ≡ arrival.Frame eto → ByteBack a holding
    right_end is =
        let so = goes_half view (going_on r) s None flight answer two lead₂ eto is refl refl in
        let to : two.h.control ≡ control.Rounds (place.Command (command.Unt a)) = so.control ∙ ap (λ c. control_next two.g.device.roles.address two.g.last c eto) at in
        let ended = ended_of end₂ in
        let log : two.own.log ≡ back_entry flight ended.back ∷ entry flight.source eto (outcome.Taken 0) ∷ [] =
        ended.added.adds.log ∙ ap (λ (f : Flight). back_entry f ended.back ∷ entry f.source eto (outcome.Taken 0) ∷ []) is_flight in
        record {
          ended = ended;
          control = to;
          last = so.last;
          address = so.address;
          range = subst IsControl to so.range;
          out =
              subst (λ kept. GoesOut (going_on r) (back_entry flight ended.back ∷ entry flight.source eto (outcome.Taken k₂) ∷ []) (sourced k₂ unt) kept answer s) (ap (λ c. keeps_then c r.books.kept) to ∙ kept)
              (out_half view (going_on r) s None flight answer two lead₂ eto so (back_entry flight ended.back ∷ entry flight.source eto (outcome.Taken k₂) ∷ []) (ends_by eto ended.back log) (sourced k₂ unt) (ap (λ c. goes_out k₂ c r.books.kept) to) (ap is_leading to));
        }
      where
        ended_of : RelayEnd view hold holding two.arrives hold_then → Ended view hold holding hold_then
        ended_of end = elim end [
          | ItWentOn g at bytes went ↦ (let same = frames_same g eto (sym at ∙ is) in let clash = sym bytes ∙ ap is_data same in cc)
          | ItEnded at ended ↦ ended
          | ItBroke how off ↦ absurd (⊎_elim (λ lost. let clash = sym lost ∙ is in cc) (λ at. ends_other (frames_same ete eto (sym at ∙ is))) how)
        ]
          where
            frames_same : (f g : Frame) → arrival.Frame f ≡ arrival.Frame g → f ≡ g
            frames_same f g same = ap (λ answer. elim answer [ arrival.Frame h ↦ h | arrival.Lost ↦ f ]) same

            ends_other : ete ≡ eto → ⊥
            ends_other same = let clash : false ≡ true = ap (λ f. byte_of f == 0x40) same in cc

    -- ETE
    wrong_end : (back : Frame) → CameBack hold hold_then flight false back → two.arrives ≡ arrival.Frame ete → two.own.log ≡ back_entry flight back ∷ entry flight.source ete (outcome.Taken 0) ∷ [] → ByteAltered holding
    wrong_end back came is log =
        let so = goes_half view (going_on r) s None flight answer two lead₂ ete is refl refl in
        let to : two.h.control ≡ control.Silent = so.control ∙ ap (λ c. control_next two.g.device.roles.address two.g.last c ete) at ∙ (silent-at-ete two.g.device.roles.address two.g.last (place.Relayed a d)).0 in
        let es : List Entry = back_entry flight back ∷ entry flight.source ete (outcome.Taken k₂) ∷ [] in
        record {
          severed = severed_of (λ right. ends_other (frames_same ete eto (sym is ∙ right)));
          back = back;
          came = came;
          own_log = log;
          silent = to;
          last = so.last;
          ends =
              subst (λ n. StandsNot (going_on r) es None [] n answer s) so.past.crossings
              (silent_home (going_on r) s answer two.past_all es (keeps_then two.h.control r.books.kept) (two.books ∙ ap (λ c. controlled_home (is_leading c) k₂ (books_controlled (going_on r).books two.past_all) two.past_all.trip.flight) to) two.answer_is so.past.kept
              (ap (λ c. keeps_then c r.books.kept) to ∙ kept) (so.past.flight ∙ ap (λ c. goes_out k₂ c r.books.kept) to) (so.past.log_is ∙ ap (λ log. r.books.log ++ log) (ends_by ete back log)));
        }
      where
        frames_same : (f g : Frame) → arrival.Frame f ≡ arrival.Frame g → f ≡ g
        frames_same f g same = ap (λ answer. elim answer [ arrival.Frame h ↦ h | arrival.Lost ↦ f ]) same

        ends_other : ete ≡ eto → ⊥
        ends_other same = let clash : false ≡ true = ap (λ f. byte_of f == 0x40) same in cc

    -- the byte goes on
    pub byte_move : ByteBack a holding ⊎ (ByteGone holding ⊎ ByteAltered holding)
    byte_move = ⊎_elim (λ lost. inr (inl (byte_gone [] flight.sent (inl (refl, refl)) refl lost))) (λ came. by came.0 came.1 came.2 came.3) relayed
      where
        by : (right : Bool) (back : Frame) → CameBack hold hold_then flight right back → SendsMore hold flight holding.own back two.arrives hold_then ⊎ EndsSending hold flight right back two.arrives hold_then → ByteBack a holding ⊎ (ByteGone holding ⊎ ByteAltered holding)
        by right back came (inl more) = let clash : true ≡ false = sym (ap (λ b. b || holding.own.last) stopped) ∙ more.goes_on in cc
        by true back came (inr ends) = ⊎_elim (λ end. inl (right_end end.0)) (λ lost. inr (inl (byte_gone (back_entry flight back ∷ []) eto (inr (true, back, came, refl, refl)) (back_same back) lost))) ends.end
        by false back came (inr ends) = ⊎_elim (λ end. inr (inr (wrong_end back came end.0 end.1))) (λ lost. inr (inl (byte_gone (back_entry flight back ∷ []) ete (inr (false, back, came, refl, refl)) (back_same back) lost))) ends.end
