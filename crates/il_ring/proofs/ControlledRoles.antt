-- What a pass on a lent ring does to the devices' roles, and whose commands it logs, in the words of its entries and of what is on the ring.
use Rattle.std.proofs.Common.{◌≡◌, ◌≤◌, ◌<◌, ◌++◌, ◌⊎◌, ◌==◌, not, inl, inr, ⊎_elim, ℕ, zero, suc, Bool, true, false, List, [], ◌∷◌, Option, Some, None, length, refl, sym, ap, ap₂, subst, ◌∙◌, arith, append-nil, append_assoc, length-append, eqb-true}
use Rattle.std.specs.Prelude.{if◌then◌else◌}
use Rattle.std.specs.List.{list_all}
use Rattle.std.proofs.lemmas.Bool.{and_parts, ne_eqb, eq-eqb, not-true}
use Rattle.std.proofs.lemmas.List.{append_cancel_left, map-append}
use Rattle.std.proofs.Math.Nat.{eq-zero-or-pos}
use Rattle.il_frames.specs.declared.frame.Frame.{Frame}
use Rattle.il_frames.specs.declared.message.Message.TheVariants as msg
use Rattle.il_frames.specs.declared.entry.Entry.{Entry}
use Rattle.il_frames.specs.declared.entry.Outcome.TheVariants as outcome
use Rattle.il_frames.specs.Frames.{is_data}
use Rattle.il_frames.specs.Messages.{message_of}
use Rattle.il_frames.specs.NamedFrames.{entry, is_frame, is_ifc, nrd, rfc}
use Rattle.il_device.specs.declared.device.Out.{Out}
use Rattle.il_device.specs.declared.device.Out.TheVariants as device
use Rattle.il_device.specs.declared.roles.Roles.{Roles}
use Rattle.il_device.specs.State.{DeviceState, risen}
use Rattle.il_device.specs.Takes.{Takes, eto}
use Rattle.il_drive.specs.State.{device_of}
use Rattle.il_ports.specs.Media.{MediumView}
use Rattle.loop_model.specs.Roles.{is_spoken, roles_after, roles_by}
use Rattle.loop_model.specs.Leading.{are_commands_led, controller_after, roles_led}
use Rattle.loop_model.proofs.LeadingLaws.{are_commands_led-append}
use Rattle.loop_model.proofs.TalkLaws.{length-roles_after}
use Rattle.il_guest.specs.declared.control.Command.{Command}
use Rattle.il_guest.specs.declared.control.Command.TheVariants as command
use Rattle.il_guest.specs.declared.control.Place.{Place}
use Rattle.il_guest.specs.declared.control.Place.TheVariants as place
use Rattle.il_guest.specs.declared.control.Control.{Control}
use Rattle.il_guest.specs.declared.control.Control.TheVariants as control
use Rattle.il_guest.specs.declared.guest.GuestOut.{GuestOut}
use Rattle.il_guest.specs.declared.guest.GuestOut.TheVariants as guest
use Rattle.il_guest.specs.Courses.{control_next}
use Rattle.il_guest.specs.Frames.{sst}
use Rattle.il_guest.specs.State.{GuestState, is_leading, roles_in_lead}
use Rattle.il_guest.specs.Steps.{command_frame, expecting, out_of}
use Rattle.il_guest.specs.Takes.{takes_control}
use Rattle.il_guest.proofs.GuestLaws.{GoesOn, goes-on, leads-until-ifc}
use Rattle.il_guest.proofs.RoundLaws.{is_same-true}
use Rattle.il_ring.specs.declared.plan.Arrival.{Arrival}
use Rattle.il_ring.specs.declared.plan.Arrival.TheVariants as arrival
use Rattle.il_ring.specs.declared.plan.Planned.{Planned}
use Rattle.il_ring.specs.declared.flight.Flight.{Flight}
use Rattle.il_ring.specs.Plans.{next_fault}
use Rattle.il_ring.specs.Flights.{ended_at, hit, lost_at, sourced}
use Rattle.il_ring.specs.Books.{BooksView}
use Rattle.il_ring.specs.Fates.{GoesByPlan, HoldsByPlan}
use Rattle.il_ring.specs.Journeys.{Trip, trip, trip_of, answered, Passage, Journey, is_exact}
use Rattle.il_ring.specs.ControlledAdds.{standing}
use Rattle.il_ring.specs.Lending.{IsControlled, ControlledTrip, StandsLent, StandsUnder, books_controlled, entry_of_kept, going_on, controlled, controlled_answers, controlled_home, leads, lent_home}
use Rattle.il_ring.specs.Rings.{RingView, Round, arrived, arriving, books_at, comes, devices_of, home, over_last_link, roles_of}
use Rattle.il_ring.specs.Rounded.{IsAwaited, IsReady}
use Rattle.il_ring.specs.Turned.{HalvesOfRound, NothingCame, SomeCame, StandsNot, books_anew, goes_out, is_auto_address, is_on, keeps_then, own_roles, ring_before_last, turned, turned_entries, turned_entry, turned_flight}
use Rattle.il_ring.proofs.CountSteps.{hit_same}
use Rattle.il_ring.proofs.Fates.{passes_so}
use Rattle.il_ring.proofs.Passing.{Carries, Exactly, AsData}
use Rattle.il_ring.proofs.PassSteps.{PastLast, goes_home, last_home, past_ended, past_held, silent_home}
use Rattle.il_ring.proofs.RolesHome.{device_round, host_round, others_leave}
use Rattle.il_ring.proofs.RoundCounts.{round_journey}
use Rattle.il_ring.proofs.RoundEntries.{TellsRound, round_tells, sent_spoken}
use Rattle.il_ring.proofs.RoundRoles.{IsQuiet}
use Rattle.il_ring.proofs.TurnedRoles.{turned_controller, turned_roles}
use Rattle.il_ring.proofs.TurnedRounds.{ended_home}
use Rattle.il_ring.proofs.Turnings.{entries_on, some_flight}
use Rattle.il_ring.proofs.ControlledDoes.{Does, HasLast, IsDev, all_said, does_append, does_dev, does_insert, does_own_lost, does_own_taken, does_where, has_last, length-controlled, length-roles_of, same_parts, split_last, turned_commands, turned_device}
use Rattle.il_ring.proofs.Journeys.{past_devices, past_party}
use Rattle.il_ring.proofs.MessageKinds.{commands_say, data_says, each_command, fits}

-- ---- the frame on its way in the smaller ring

-- a frame of the host is no data frame, if D holds; one of a device is spoken
record Fits (D : Type 0) (g : Flight) : Type 0 where
  host : g.source ≡ 0 → D → is_data g.now ≡ false
  device : 1 ≤ g.source → is_spoken (message_of g.sent) ≡ true

abbrev OnFits : Type 0 → Option Flight → Type 0
OnFits D None = Unit {0}
OnFits D (Some g) = Fits D g

module _ (D : Type 0) where
  hit_fits : (n : ℕ) (plan : List Planned) (g h : Flight) → hit (next_fault plan n) g ≡ Some h → Fits D g → Fits D h
  hit_fits n plan g h is fit =
      let same = hit_same (next_fault plan n) g h is in
      record {
        host = λ none d. same.data_frame ∙ fit.host (sym same.source ∙ none) d;
        device = λ some. ap (λ f. is_spoken (message_of f)) same.sent ∙ fit.device (omega (arith, some, same.source));
      }

  answered_fits : (log : List Entry) (k c : ℕ) (g : Flight) (out : Out) (d e : DeviceState) → 1 ≤ k → Takes d g.now out e → Fits D g → OnFits D (answered c log k g out).flight
  answered_fits log k c g (device.Pass h) d e some takes fit = record { host = λ none d₁. (passes_so d e g.now h takes).kind ∙ fit.host none d₁; device = fit.device }
  answered_fits log k c g (device.Source h) d e some takes fit = record { host = λ none d₁. absurd (omega (arith, some, none)); device = λ some. sent_spoken d e g.now h takes }

  passage_fits : (plan : List Planned) (k : ℕ) (t u : Trip) (d e : DeviceState) → 1 ≤ k → OnFits D t.flight → Passage Takes plan k t d u e → OnFits D u.flight
  passage_fits plan k t u d e some fit passage = past_party Takes plan k t d (λ u e. OnFits D u.flight) (λ is. fit) (λ g is gone. tt)
      (λ g h out e is came takes. answered_fits t.log k (risen t.crossings) h out d e some takes (hit_fits t.crossings plan g h came (subst (OnFits D) is fit))) u e passage

  journey_fits : (plan : List Planned) (k : ℕ) (t u : Trip) (ds es : List DeviceState) → 1 ≤ k → OnFits D t.flight → Journey plan k t ds u es → OnFits D u.flight
  journey_fits plan k t u ds es some fit journey =
      (past_devices plan 1 (λ k t. OnFits D t.flight) (λ d e. Unit {0}) (λ k t u d e some fit passage. (passage_fits plan k t u d e some fit passage, tt)) k t u ds es some fit journey).0

  frames_same : (a b : Frame) → arrival.Frame a ≡ arrival.Frame b → a ≡ b
  frames_same a b same = ap (λ answer. elim answer [ arrival.Frame g ↦ g | arrival.Lost ↦ a ]) same

  -- what came home as a data frame is what is held there
  held_fits : (b c own : BooksView) (at y : Flight) (at_own y_own : Bool) → (at.source == 0) ≡ at_own → b.held ≡ None → c.held ≡ None → own ≡ comes b at at_own true → own ≡ comes c y y_own true → at.now ≡ y.now → (y_own ≡ true → y.source ≡ 0) → Fits D y → Fits D at
  held_fits b c own at y false false at_is none none₂ is also now_is host fit =
      let same : at ≡ y = some_flight at y (sym (ap (λ (b : BooksView). b.held) is) ∙ ap (λ (b : BooksView). b.held) also) in
      subst (Fits D) (sym same) fit
  held_fits b c own at y true false at_is none none₂ is also now_is host fit =
      let clash : None ≡ Some y = sym none ∙ sym (ap (λ (b : BooksView). b.held) is) ∙ ap (λ (b : BooksView). b.held) also in cc
  held_fits b c own at y false true at_is none none₂ is also now_is host fit =
      let clash : None ≡ Some at = sym none₂ ∙ sym (ap (λ (b : BooksView). b.held) also) ∙ ap (λ (b : BooksView). b.held) is in cc
  held_fits b c own at y true true at_is none none₂ is also now_is host fit =
      let from = eqb-true at.source 0 at_is in
      record { host = λ none₁ d. ap is_data now_is ∙ fit.host (host refl) d; device = λ some. absurd (omega (arith, some, from)) }

  module _ {M : Type 0} (view : M → MediumView) (r s : RingView M) (f : Flight) (answer : Arrival) (round : Round view r None f answer s) (first : Fits D f) (at : Flight) (arrives : answer ≡ arrival.Frame at.now) (bytes : is_data at.now ≡ true)
      (b : BooksView) (none : b.held ≡ None) (own : s.books ≡ comes b at (at.source == 0) (is_data at.now)) where
    after_fits : OnFits D round.past_all.flight
    after_fits = journey_fits r.books.plan 1 (trip_of r.books (Some f)) round.past_all (devices_of r) (devices_of s) (omega arith) first (round_journey view r s None f answer round)

    came_home : (x : Flight) (o : Option Flight) → round.past_all.flight ≡ Some x → hit (next_fault r.books.plan round.past_all.crossings) x ≡ o → Fits D at
    came_home x None on came = let clash : arrival.Lost ≡ arrival.Frame at.now = sym (round.answer_is ∙ ap (λ o. arrived (arriving r.books.plan round.past_all.crossings o)) on ∙ ap arrived came) ∙ arrives in cc
    came_home x (Some y) on came =
        let c : BooksView = record (books_at (record r.books { held = None }) round.past_all) { crossings = risen round.past_all.crossings } in
        let arrived_so : arrival.Frame y.now ≡ arrival.Frame at.now = sym (round.answer_is ∙ ap (λ o. arrived (arriving r.books.plan round.past_all.crossings o)) on ∙ ap arrived came) ∙ arrives in
        let now_is : at.now ≡ y.now = sym (frames_same y.now at.now arrived_so) in
        let home_is : s.books ≡ comes c y (y.source == 0) (is_data y.now) =
        round.books ∙ ap (home (books_at (record r.books { held = None }) round.past_all)) on ∙ ap (over_last_link c x) came in
        held_fits b c s.books at y (at.source == 0) (y.source == 0) refl none refl (own ∙ ap (comes b at (at.source == 0)) bytes) (home_is ∙ ap (comes c y (y.source == 0)) (ap is_data (sym now_is) ∙ bytes)) now_is (λ is. eqb-true y.source 0 is)
        (hit_fits round.past_all.crossings r.books.plan x y came (subst (OnFits D) on after_fits))

    came_fits : Fits D at
    came_fits = by_flight round.past_all.flight refl
      where
        by_flight : (o : Option Flight) → round.past_all.flight ≡ o → Fits D at
        by_flight None on = let clash : arrival.Lost ≡ arrival.Frame at.now = sym (round.answer_is ∙ ap (λ o. arrived (arriving r.books.plan round.past_all.crossings o)) on) ∙ arrives in cc
        by_flight (Some x) on = came_home x (hit (next_fault r.books.plan round.past_all.crossings) x) on refl

-- ---- a ring and its last party

split_roles : {M : Type 0} (r : RingView M) (boxed : List DeviceState) (d : DeviceState) (b : BooksView) → r.after ≡ boxed ++ d ∷ [] → roles_of (devices_of r) ≡ roles_of (devices_of (ring_before_last boxed b r)) ++ d.roles ∷ []
split_roles r boxed d b after =
    ap (λ after. roles_of (r.before ++ device_of r.drive.state ∷ after)) after
    ∙ ap roles_of (sym (append_assoc r.before (device_of r.drive.state ∷ boxed) (d ∷ [])))
    ∙ map-append (λ d. d.roles) (r.before ++ device_of r.drive.state ∷ boxed) (d ∷ [])

split_many : {M : Type 0} (r : RingView M) (boxed : List DeviceState) (d : DeviceState) (b : BooksView) → r.after ≡ boxed ++ d ∷ [] → length (devices_of r) ≡ suc (length (devices_of (ring_before_last boxed b r)))
split_many r boxed d b after =
    let all = length-append r.before (device_of r.drive.state ∷ r.after) in
    let own = length-append r.before (device_of r.drive.state ∷ boxed) in
    let many = ap length after ∙ length-append boxed (d ∷ []) in
    omega (arith, all, own, many)

module _ {M : Type 0} (view : M → MediumView) (r s : RingView M) (f : Flight) (answer : Arrival) (is : IsControlled r) (is_then : IsControlled s) (lent : r.books.lent ≡ Some (turned_flight (length (devices_of r)) f)) (within : f.source < length (devices_of r)) (two : HalvesOfRound view (going_on r) None f answer s)
    (awaited : (h : Flight) → r.books.kept ≡ Some h → IsAwaited 0 h (devices_of (ring_before_last two.boxed (books_anew None r.books) r))) (before : List Roles) where
  abbrev k : ℕ
  k = length (devices_of r)

  abbrev rest : RingView M
  rest = ring_before_last two.boxed (books_anew None (going_on r).books) (going_on r)

  abbrev rest_then : RingView M
  rest_then = ring_before_last two.boxed_then two.own s

  -- the roles before the entries of what stands are these
  abbrev Stood : Type 0
  Stood = roles_of (devices_of r) ≡ roles_led k before (standing k r.books)

  abbrev front : List Roles
  front = roles_of (devices_of rest)

  abbrev front_then : List Roles
  front_then = roles_after front two.own.log

  abbrev g_roles : Roles
  g_roles = two.g.device.roles

  abbrev h_roles : Roles
  h_roles = two.h.device.roles

  many : k ≡ suc (length (devices_of rest))
  many = split_many r two.boxed two.g.device (books_anew None (going_on r).books) two.after

  some_k : 1 ≤ k
  some_k = let size = many in omega (arith, size)

  many_front : k ≡ suc (length front)
  many_front = many ∙ ap suc (sym (length-roles_of (devices_of rest)))

  many_then : k ≡ suc (length front_then)
  many_then = many_front ∙ ap suc (sym (length-roles_after front two.own.log))

  -- ---- what stands

  g_leads : is_leading two.g.control ≡ true
  g_leads = ap leads (sym two.mind) ∙ is.leads

  h_leads : is_leading two.h.control ≡ true
  h_leads = ap leads (sym two.mind_then) ∙ is_then.leads

  g_stands : StandsUnder k two.g.control (turned_flight k f) r.books.kept
  g_stands = subst (λ mind. StandsLent k mind (Some (turned_flight k f)) r.books.kept) two.mind (subst (λ lent. StandsLent k r.guest lent r.books.kept) lent is.stands)

  kept_dev : (x : Flight) → r.books.kept ≡ Some x → IsDev k x.source x.sent
  kept_dev x is_kept =
      let waits = awaited x is_kept in
      let way : GoesByPlan r.books.plan r.books.begun r.books.crossings x = subst (HoldsByPlan r.books.plan r.books.begun r.books.crossings) is_kept is.told.kept in
      let size = many in
      record {
        from = omega (arith, waits.there);
        on = omega (arith, waits.there, waits.within, size);
        says = (data_says x.sent (sym way.kind ∙ waits.data_frame)).spoken;
      }

  -- what is known of the frame that is at the host: it is the second controller's own, no data frame; or a data frame, and none is kept
  record IsOwnFrame : Type 0 where
    source : f.source ≡ 0
    other : is_data f.now ≡ false

  record IsLetGo : Type 0 where
    address : ℕ
    byte : Frame
    place : two.g.control ≡ control.Rounds (place.Relayed address byte)
    none : r.books.kept ≡ None

  record Known : Type 0 where
    carries : f.source ≡ 0 → Carries (message_of f.sent) f.now
    no_aad : is_auto_address (message_of f.sent) ≡ false
    quiet : 1 ≤ f.source → IsQuiet f
    spoken : 1 ≤ f.source → is_spoken (message_of f.sent) ≡ true
    kind : IsOwnFrame ⊎ IsLetGo

  own_source : (p : ℕ) → turned k p ≡ k → p < k → p ≡ 0
  own_source zero same less = refl
  own_source (suc p) same less = let clash : ⊥ = omega (arith, same, less) in absurd clash

  known_own : (m : Frame) → fits (message_of m) ≡ true → is_data m ≡ false → turned_flight k f ≡ sourced k m → Known
  unfolding fits
  known_own m fit other same =
      let source : f.source ≡ 0 = own_source f.source (ap (λ (f : Flight). f.source) same) within in
      let sent : f.sent ≡ m = ap (λ (f : Flight). f.sent) same in
      let now : f.now ≡ m = ap (λ (f : Flight). f.now) same in
      let parts = and_parts (is_exact (message_of m)) (not (is_auto_address (message_of m))) fit in
      record {
        carries = λ none. Exactly (ap (λ f. is_exact (message_of f)) sent ∙ parts.0) (ap message_of (now ∙ sym sent));
        no_aad = ap (λ f. is_auto_address (message_of f)) sent ∙ not-true (is_auto_address (message_of m)) parts.1;
        quiet = λ some. absurd (omega (arith, some, source));
        spoken = λ some. absurd (omega (arith, some, source));
        kind = inl (record { source = source; other = ap is_data now ∙ other });
      }

  known_let_go : (a : ℕ) (d : Frame) → two.g.control ≡ control.Rounds (place.Relayed a d) → is_data f.now ≡ true → r.books.kept ≡ None → Known
  known_let_go a d at bytes none =
      let way : GoesByPlan r.books.plan r.books.begun r.books.crossings (turned_flight k f) = subst (HoldsByPlan r.books.plan r.books.begun r.books.crossings) lent is.told.lent in
      let says = data_says f.sent (sym way.kind ∙ bytes) in
      record {
        carries = λ host. AsData says.keeps bytes;
        no_aad = says.no_aad;
        quiet = λ some. record { from_device = some; message = msg.Dab 0; keeps = refl; no_poll = refl; no_control = refl; carries = AsData refl bytes };
        spoken = λ some. says.spoken;
        kind = inr (record { address = a; byte = d; place = at; none = none });
      }

  commands_other : (c : Command) → is_data (command_frame c) ≡ false
  commands_other = each_command (λ c. is_data (command_frame c) ≡ false) refl (λ a. refl) (λ a. refl) (λ a. refl)

  known_at : (c : Control) → two.g.control ≡ c → StandsUnder k c (turned_flight k f) r.books.kept → Known
  unfolding fits
  known_at (control.Rounds (place.Command c)) at stands = known_own (command_frame c) (commands_say c) (commands_other c) stands.0
  known_at (control.Rounds (place.Ready c)) at stands = known_own rfc refl refl stands.0
  known_at (control.Rounds (place.Start a)) at stands = known_own sst refl refl stands.0
  known_at (control.Rounds (place.Held a d)) at stands = known_own nrd refl refl stands.0
  known_at (control.Rounds (place.Relayed a d)) at stands = known_let_go a d at stands.0 stands.1
  known_at control.Silent at stands = absurd stands
  known_at control.Host at stands = absurd stands

  known : Known
  known = known_at two.g.control refl g_stands

  -- ---- the others' round

  -- their roles are those that the entries make, and if the frame was the second controller's own there are some
  record TheirRound : Type 0 where
    roles : roles_of (devices_of rest_then) ≡ front_then
    some : f.source ≡ 0 → HasLast two.own.log

  their_round : TheirRound
  their_round = ⊎_elim (λ none. hosts none) (λ some. devices_ some) (eq-zero-or-pos f.source)
    where
      hosts : f.source ≡ 0 → TheirRound
      hosts none =
          let hosted = host_round view rest rest_then None f (message_of f.sent) two.arrives none refl (known.carries none) two.its_round in
          record {
            roles = hosted.roles ∙ ap (roles_after front) (sym hosted.log);
            some = λ none. subst HasLast (sym hosted.log) (has_last (entry 0 f.sent hosted.ended) hosted.rest);
          }

      devices_ : 1 ≤ f.source → TheirRound
      devices_ some =
          let past = device_round view rest rest_then None f two.arrives (known.quiet some) two.its_round in
          record {
            roles = past.roles ∙ sym (others_leave front past.entries past.others) ∙ ap (roles_after front) (sym past.log);
            some = λ none. absurd (omega (arith, some, none));
          }

  tells : TellsRound (length (devices_of rest)) f two.own.log
  tells = let size = many in round_tells view rest rest_then None f two.arrives two.its_round two.own.log (omega (arith, within, size)) refl

  abbrev theirs : List Entry
  theirs = turned_entries k two.own.log

  whose : (f.source ≡ 0) ⊎ (1 ≤ f.source)
  whose = eq-zero-or-pos f.source

  theirs_said : are_commands_led k theirs ≡ true
  theirs_said = turned_commands k two.own.log some_k (⊎_elim (λ none. tells.said none) (λ some. all_said two.own.log (tells.spoken (known.spoken some))) whose)

  theirs_roles : (first : List Roles) (r₀ : Roles) → length first ≡ length front → front ≡ first → own_roles r₀ two.own.log ≡ g_roles → roles_led k (first ++ r₀ ∷ []) theirs ≡ front_then ++ g_roles ∷ []
  theirs_roles first r₀ size same own =
      let on : list_all (is_on (length first)) two.own.log ≡ true = ap (λ n. list_all (is_on n) two.own.log) (size ∙ length-roles_of (devices_of rest)) ∙ tells.on in
      turned_roles k two.own.log first r₀ (many_front ∙ ap suc (sym size)) on (tells.addresses known.no_aad)
      ∙ ap₂ (λ rs r. roles_after rs two.own.log ++ r ∷ []) (sym same) own

  -- what stands does to the roles of the last party what its round does to them
  stand_last : (first : List Roles) (r₀ : Roles) → k ≡ suc (length first) → Does k (Unit {0}) (first ++ r₀ ∷ []) (ended_at (turned_flight k f) 0 ∷ []) (first ++ own_roles r₀ two.own.log ∷ [])
  stand_last first r₀ size =
      ⊎_elim
      (λ none.
      subst (λ r. Does k (Unit {0}) (first ++ r₀ ∷ []) (ended_at (turned_flight k f) 0 ∷ []) (first ++ r ∷ [])) (sym (tells.own_host none r₀))
      (does_own_taken k (Unit {0}) first r₀ (turned_flight k f) size (ap (turned k) none)))
      (λ some.
      let same = turned_device k f.source some in
      let dev : IsDev k (turned k f.source) f.sent = record { from = omega (arith, some, same); on = omega (arith, within, same); says = known.spoken some } in
      subst (λ r. Does k (Unit {0}) (first ++ r₀ ∷ []) (ended_at (turned_flight k f) 0 ∷ []) (first ++ r ∷ [])) (sym (tells.own_device some r₀))
      (does_dev k (Unit {0}) (first ++ r₀ ∷ []) (turned k f.source) f.sent (if turned k f.source == 0 then outcome.Back f.now else outcome.Taken 0) dev))
      whose

  stand_does : (first : List Roles) (r₀ : Roles) → k ≡ suc (length first) → Does k (Unit {0}) (first ++ r₀ ∷ []) (standing k r.books) (first ++ own_roles r₀ two.own.log ∷ [])
  stand_does first r₀ size =
      subst (λ lent. Does k (Unit {0}) (first ++ r₀ ∷ []) (entry_of_kept k r.books.kept ++ entry_of_kept 0 lent) (first ++ own_roles r₀ two.own.log ∷ [])) (sym lent)
      (does_append k (Unit {0}) (first ++ r₀ ∷ []) (entry_of_kept k r.books.kept) (first ++ r₀ ∷ []) (ended_at (turned_flight k f) 0 ∷ []) (first ++ own_roles r₀ two.own.log ∷ [])
      (does_where k (Unit {0}) (first ++ r₀ ∷ []) k r.books.kept kept_dev) (stand_last first r₀ size))

  before_many : Stood → length before ≡ suc (length front)
  before_many stood = sym (length-controlled k before (standing k r.books)) ∙ ap length (sym stood) ∙ length-roles_of (devices_of r) ∙ many_front

  theirs_made : Stood → roles_led k before theirs ≡ front_then ++ g_roles ∷ []
  theirs_made stood =
      let sp = split_last (length front) before (before_many stood) in
      let stands = stand_does sp.front sp.last (many_front ∙ ap suc (sym sp.many)) in
      let whole : roles_of (devices_of r) ≡ sp.front ++ own_roles sp.last two.own.log ∷ [] = stood ∙ ap (λ rs. roles_led k rs (standing k r.books)) sp.is ∙ stands.roles tt in
      let parts = same_parts front sp.front g_roles (own_roles sp.last two.own.log) (sym sp.many) (sym (split_roles r two.boxed two.g.device (books_anew None (going_on r).books) two.after) ∙ whole) in
      ap (λ rs. roles_led k rs theirs) sp.is ∙ theirs_roles sp.front sp.last sp.many parts.0 (sym parts.1)

  does_theirs : Does k Stood before theirs (front_then ++ g_roles ∷ [])
  does_theirs = record { stays = turned_controller k two.own.log some_k; commands = theirs_said; roles = theirs_made }

  -- ---- what goes out

  abbrev mid : List Roles
  mid = front_then ++ g_roles ∷ []

  abbrev end : List Roles
  end = front_then ++ h_roles ∷ []

  -- it is the second controller's own, which changes its roles so; or a device's
  abbrev OutSo : ℕ → Frame → Type 0
  OutSo p m = ((p ≡ k) × (h_roles ≡ roles_by (message_of m) g_roles)) ⊎ (IsDev k p m × (h_roles ≡ g_roles))

  out_lost : (p : ℕ) (m : Frame) → OutSo p m → Does k Stood mid (entry p m (outcome.Lost 0) ∷ []) end
  out_lost p m (inl own) = subst (λ r. Does k Stood mid (entry p m (outcome.Lost 0) ∷ []) (front_then ++ r ∷ [])) (sym own.1) (does_own_lost k Stood front_then g_roles p m many_then own.0)
  out_lost p m (inr other) = subst (λ r. Does k Stood mid (entry p m (outcome.Lost 0) ∷ []) (front_then ++ r ∷ [])) (sym other.1) (does_dev k Stood mid p m (outcome.Lost 0) other.0)

  out_there : (x : Flight) → OutSo x.source x.sent → Does k Stood mid (ended_at x 0 ∷ []) end
  out_there x (inl own) = subst (λ r. Does k Stood mid (ended_at x 0 ∷ []) (front_then ++ r ∷ [])) (sym own.1) (does_own_taken k Stood front_then g_roles x many_then own.0)
  out_there x (inr other) =
      subst (λ r. Does k Stood mid (ended_at x 0 ∷ []) (front_then ++ r ∷ [])) (sym other.1)
      (does_dev k Stood mid x.source x.sent (if x.source == 0 then outcome.Back x.now else outcome.Taken 0) other.0)

  -- ---- after the second controller

  -- these entries end with one after which the kept frame's is written, before which control is its own
  record EndsSo (es : List Entry) : Type 0 where
    first : List Entry
    last : Entry
    is_so : es ≡ first ++ last ∷ []
    stays : controller_after k first ≡ k

  record NoneGoes (es : List Entry) (goes keeps : Option Flight) : Type 0 where
    none : goes ≡ None
    same : h_roles ≡ g_roles
    ends : (keeps ≡ None) ⊎ EndsSo es

  record SomeGoes (goes : Option Flight) : Type 0 where
    flight : Flight
    some : goes ≡ Some flight
    so : OutSo flight.source flight.sent

  abbrev Goes : List Entry → Option Flight → Option Flight → Type 0
  Goes es goes keeps = NoneGoes es goes keeps ⊎ SomeGoes goes

  record After : Type 0 where
    entries : List Entry
    goes : Option Flight
    keeps : Option Flight
    log : two.past_all.trip.log ≡ r.books.log ++ entries
    flight : two.past_all.trip.flight ≡ goes
    kept : two.past_all.kept ≡ keeps
    does : Does k Stood before entries mid
    devs : (x : Flight) → keeps ≡ Some x → IsDev k x.source x.sent
    out : Goes entries goes keeps

  -- ---- home

  record Adds : Type 0 where
    entries : List Entry
    log : s.books.log ≡ r.books.log ++ entries
    commands : are_commands_led k entries ≡ true
    roles : Stood → roles_of (devices_of s) ≡ roles_led k before (entries ++ standing k s.books)

  books_lent : s.books ≡ lent_home k (books_controlled (going_on r).books two.past_all) two.past_all.trip.flight
  books_lent = two.books ∙ ap (λ lead. controlled_home lead k (books_controlled (going_on r).books two.past_all) two.past_all.trip.flight) h_leads

  roles_then : roles_of (devices_of s) ≡ end
  roles_then = split_roles s two.boxed_then two.h.device two.own two.after_then ∙ ap (λ rs. rs ++ h_roles ∷ []) their_round.roles

  adds_so : (es : List Entry) (kept lent₁ : Option Flight) → s.books.log ≡ r.books.log ++ es → s.books.kept ≡ kept → s.books.lent ≡ lent₁ → Does k Stood before (es ++ (entry_of_kept k kept ++ entry_of_kept 0 lent₁)) end → Adds
  adds_so es kept lent₁ log kept_is lent_is does =
      let stand : standing k s.books ≡ entry_of_kept k kept ++ entry_of_kept 0 lent₁ = ap₂ (λ kept lent. entry_of_kept k kept ++ entry_of_kept 0 lent) kept_is lent_is in
      let parts = and_parts (are_commands_led k es) (are_commands_led (controller_after k es) (entry_of_kept k kept ++ entry_of_kept 0 lent₁)) (sym (are_commands_led-append k es (entry_of_kept k kept ++ entry_of_kept 0 lent₁)) ∙ does.commands) in
      record {
        entries = es;
        log = log;
        commands = parts.0;
        roles = λ stood. roles_then ∙ sym (ap (λ rest. roles_led k before (es ++ rest)) stand ∙ does.roles stood);
      }

  ends_not : (es : List Entry) → Does k Stood before es end → Does k Stood before (es ++ (entry_of_kept k None ++ entry_of_kept 0 None)) end
  ends_not es does = subst (λ es. Does k Stood before es end) (sym (append-nil es)) does

  not_adds : (es : List Entry) (keeps : Option Flight) (last : List Entry) (n : ℕ) → StandsNot (going_on r) es keeps last n answer s → Does k Stood before (es ++ (entry_of_kept k keeps ++ last)) end → Adds
  not_adds es keeps last n not does = adds_so (es ++ (entry_of_kept k keeps ++ last)) None None not.log_is not.kept_is not.lent_is (ends_not (es ++ (entry_of_kept k keeps ++ last)) does)

  with_kept : (es ys : List Entry) (keeps : Option Flight) (made : List Roles) → controller_after k es ≡ k → ((x : Flight) → keeps ≡ Some x → IsDev k x.source x.sent) → Does k Stood before (es ++ ys) made → Does k Stood before (es ++ (entry_of_kept k keeps ++ ys)) made
  with_kept es ys None made stays devs does = does
  with_kept es ys (Some x) made stays devs does = does_insert k Stood before es x.source x.sent (if x.source == k then outcome.Back x.now else outcome.Taken k) ys made stays (devs x refl) does

  module _ (b : After) where
    none_home : NoneGoes b.entries b.goes b.keeps → Adds
    none_home none =
        let flight : two.past_all.trip.flight ≡ None = b.flight ∙ none.none in
        let does : Does k Stood before b.entries end = subst (λ r. Does k Stood before b.entries (front_then ++ r ∷ [])) (sym none.same) b.does in
        ⊎_elim
        (λ no_kept.
        not_adds b.entries None [] two.past_all.trip.crossings (silent_home (going_on r) s answer two.past_all b.entries b.keeps books_lent two.answer_is b.kept no_kept flight b.log)
        (subst (λ es. Does k Stood before es end) (sym (append-nil b.entries)) does))
        (λ ends.
        not_adds ends.first b.keeps (ends.last ∷ []) two.past_all.trip.crossings
        (last_home (going_on r) s answer two.past_all ends.first b.keeps books_lent two.answer_is b.kept ends.last flight (b.log ∙ ap (λ es. r.books.log ++ es) ends.is_so))
        (with_kept ends.first (ends.last ∷ []) b.keeps end ends.stays b.devs (subst (λ es. Does k Stood before es end) ends.is_so does)))
        none.ends

    then_out : (ys : List Entry) → Does k Stood mid ys end → Does k Stood before (b.entries ++ (entry_of_kept k b.keeps ++ ys)) end
    then_out ys does =
        does_append k Stood before b.entries mid (entry_of_kept k b.keeps ++ ys) end b.does
        (does_append k Stood mid (entry_of_kept k b.keeps) mid ys end (does_where k Stood mid k b.keeps b.devs) does)

    some_home : SomeGoes b.goes → Adds
    some_home some =
        ⊎_elim
        (λ there.
        let same = hit_same (next_fault r.books.plan two.past_all.trip.crossings) some.flight there.at there.came in
        let so : OutSo there.at.source there.at.sent = subst (λ p. OutSo p there.at.sent) (sym same.source) (subst (OutSo some.flight.source) (sym same.sent) some.so) in
        adds_so b.entries b.keeps (Some there.at) there.log_is there.kept_is there.lent_is (then_out (ended_at there.at 0 ∷ []) (out_there there.at so)))
        (λ not. not_adds b.entries b.keeps (lost_at some.flight 0 ∷ []) (risen two.past_all.trip.crossings) not.0 (then_out (lost_at some.flight 0 ∷ []) (out_lost some.flight.source some.flight.sent some.so)))
        (goes_home (going_on r) s answer two.past_all b.entries b.keeps books_lent two.answer_is b.kept some.flight (b.flight ∙ some.some) b.log)

    comes_home : Adds
    comes_home = ⊎_elim (λ none. none_home none) (λ some. some_home some) b.out

  -- ---- what the second controller does

  ends_of : HasLast two.own.log → EndsSo theirs
  ends_of l = record { first = turned_entries k l.front; last = turned_entry k l.last; is_so = ap (turned_entries k) l.is ∙ map-append (turned_entry k) l.front (l.last ∷ []); stays = turned_controller k l.front some_k }

  theirs_end : (r.books.kept ≡ None) ⊎ EndsSo theirs
  theirs_end = ⊎_elim (λ (own : IsOwnFrame). inr (ends_of (their_round.some own.source))) (λ (let_go : IsLetGo). inl let_go.none) known.kind

  nothing : NothingCame k r.books.log r.books.kept two.g two.h two.past_all two.arrives two.own → After
  nothing none = record {
    entries = theirs;
    goes = None;
    keeps = r.books.kept;
    log = none.log_is;
    flight = none.flight;
    kept = none.keeps;
    does = does_theirs;
    devs = kept_dev;
    out = inl (record { none = refl; same = ap (λ (g : GuestState). g.device.roles) none.same; ends = theirs_end });
  }

  own_goes : (es : List Entry) (keeps : Option Flight) (m : Frame) → h_roles ≡ roles_by (message_of m) g_roles → Goes es (Some (sourced k m)) keeps
  own_goes es keeps m roles = inr (record { flight = sourced k m; some = refl; so = inl (refl, roles) })

  none_goes : (es : List Entry) (keeps : Option Flight) → h_roles ≡ g_roles → (keeps ≡ None) ⊎ EndsSo es → Goes es None keeps
  none_goes es keeps same ends = inl (record { none = refl; same = same; ends = ends })

  kept_goes : (es : List Entry) (kept : Option Flight) → r.books.kept ≡ kept → h_roles ≡ g_roles → Goes es kept None
  kept_goes es None is_kept same = none_goes es None same (inl refl)
  kept_goes es (Some x) is_kept same = inr (record { flight = x; some = refl; so = inr (kept_dev x is_kept, same) })

  goes_by : (es : List Entry) (c : Control) → (r.books.kept ≡ None) ⊎ EndsSo es → is_leading c ≡ true → h_roles ≡ roles_in_lead c g_roles → Goes es (goes_out k c r.books.kept) (keeps_then c r.books.kept)
  goes_by es (control.Rounds (place.Command c)) ends lead roles = own_goes es r.books.kept (command_frame c) roles
  goes_by es (control.Rounds (place.Ready c)) ends lead roles = own_goes es r.books.kept rfc roles
  goes_by es (control.Rounds (place.Start a)) ends lead roles = own_goes es r.books.kept sst roles
  goes_by es (control.Rounds (place.Held a d)) ends lead roles = own_goes es r.books.kept nrd roles
  goes_by es (control.Rounds (place.Relayed a d)) ends lead roles = kept_goes es r.books.kept refl roles
  goes_by es control.Silent ends lead roles = none_goes es r.books.kept roles ends
  goes_by es control.Host ends lead roles = cc

  keeps_dev : (c : Control) (x : Flight) → keeps_then c r.books.kept ≡ Some x → IsDev k x.source x.sent
  keeps_dev (control.Rounds (place.Command c)) x is_kept = kept_dev x is_kept
  keeps_dev (control.Rounds (place.Ready c)) x is_kept = kept_dev x is_kept
  keeps_dev (control.Rounds (place.Start a)) x is_kept = kept_dev x is_kept
  keeps_dev (control.Rounds (place.Held a d)) x is_kept = kept_dev x is_kept
  keeps_dev (control.Rounds (place.Relayed a d)) x is_kept = let clash : None ≡ Some x = is_kept in cc
  keeps_dev control.Silent x is_kept = kept_dev x is_kept
  keeps_dev control.Host x is_kept = kept_dev x is_kept

  past_after : (goes keeps : Option Flight) → PastLast k r.books.log two.past_all two.own goes keeps → ((x : Flight) → keeps ≡ Some x → IsDev k x.source x.sent) → Goes theirs goes keeps → After
  past_after goes keeps past devs out = record { entries = theirs; goes = goes; keeps = keeps; log = past.log_is; flight = past.flight; kept = past.kept; does = does_theirs; devs = devs; out = out }

  module _ (some : SomeCame k r.books.log r.books.kept (books_anew None (going_on r).books) two.g two.h two.past_all two.arrives two.own) where
    no_ifc : is_ifc (message_of some.at.now) ≡ false
    no_ifc =
        not-true (is_ifc (message_of some.at.now))
        (sym (leads-until-ifc two.g two.h some.at.now some.out some.takes ∙ ap (λ b. if b then not (is_ifc (message_of some.at.now)) else takes_control two.g some.at.now) g_leads) ∙ h_leads)

    on : GoesOn two.g some.at.now some.out two.h
    on = goes-on two.g two.h some.at.now some.out g_leads no_ifc some.takes

    -- no data frame
    other_came : is_data some.at.now ≡ false → After
    other_came other =
        past_after (goes_out k two.h.control r.books.kept) (keeps_then two.h.control r.books.kept)
        (past_ended k r.books.log r.books.kept (books_anew None (going_on r).books) two.g two.h two.past_all two.arrives two.own some two.h.control other h_leads on.answer)
        (keeps_dev two.h.control) (goes_by theirs two.h.control theirs_end h_leads on.roles)

    module _ (bytes : is_data some.at.now ≡ true) where
      abbrev Own : Type 0
      Own = is_data f.now ≡ false

      at_fits : Fits Own some.at
      at_fits =
          came_fits Own view rest rest_then f two.arrives two.its_round (record { host = λ none own. own; device = known.spoken }) some.at some.arrives_is bytes
          (record (books_anew None (going_on r).books) { crossings = some.count; log = some.entries }) refl some.own_is

      abbrev at_last : Flight
      at_last = turned_flight k some.at

      at_dev : 1 ≤ some.at.source → IsDev k (turned k some.at.source) some.at.sent
      at_dev from =
          let same = turned_device k some.at.source from in
          let less = some.within in
          record { from = omega (arith, from, same); on = omega (arith, less, same); says = at_fits.device from }

      device_other : 1 ≤ some.at.source → (some.at.source == 0) ≡ false
      device_other from = ne_eqb some.at.source 0 (λ none. omega (arith, none, from))

      -- it is kept, and its own goes out
      it_holds : (m : Frame) → 1 ≤ some.at.source → some.out ≡ guest.Source m → h_roles ≡ roles_by (message_of m) g_roles → After
      it_holds m from out roles =
          let past = past_held k r.books.log r.books.kept (books_anew None (going_on r).books) two.g two.h two.past_all two.arrives two.own some m bytes (device_other from) out in
          past_after (Some (sourced k m)) (Some at_last) past.0
          (λ x same. let is_so : at_last ≡ x = some_flight at_last x same in subst (λ (x : Flight). IsDev k x.source x.sent) is_so (at_dev from))
          (own_goes theirs (Some at_last) m roles)

      -- it ends there: its entry is written after those of the others
      record EndsThere (goes keeps : Option Flight) : Type 0 where
        entries : List Entry
        log : two.past_all.trip.log ≡ r.books.log ++ entries
        flight : two.past_all.trip.flight ≡ goes
        kept : two.past_all.kept ≡ keeps
        does : Does k Stood before entries mid
        ends : (r.books.kept ≡ None) ⊎ EndsSo entries

      abbrev ended_log : List Entry
      ended_log = (r.books.log ++ turned_entries k some.entries) ++ ended_at at_last k ∷ []

      device_ends : (goes keeps : Option Flight) → 1 ≤ some.at.source → two.past_all ≡ controlled (trip some.count ended_log goes) keeps → EndsThere goes keeps
      device_ends goes keeps from is_so =
          let own_log : two.own.log ≡ some.entries =
          ap (λ (b : BooksView). b.log) some.own_is
          ∙ ap₂ (λ own data_frame. (comes (record (books_anew None (going_on r).books) { crossings = some.count; log = some.entries }) some.at own data_frame).log) (device_other from) bytes in
          record {
            entries = theirs ++ ended_at at_last k ∷ [];
            log =
                ap (λ (u : ControlledTrip). u.trip.log) is_so ∙ append_assoc r.books.log (turned_entries k some.entries) (ended_at at_last k ∷ [])
                ∙ ap (λ es. r.books.log ++ (turned_entries k es ++ ended_at at_last k ∷ [])) (sym own_log);
            flight = ap (λ (u : ControlledTrip). u.trip.flight) is_so;
            kept = ap (λ (u : ControlledTrip). u.kept) is_so;
            does =
                does_append k Stood before theirs mid (ended_at at_last k ∷ []) mid does_theirs
                (does_dev k Stood mid (turned k some.at.source) some.at.sent (if turned k some.at.source == k then outcome.Back some.at.now else outcome.Taken k) (at_dev from));
            ends = inr (record { first = theirs; last = ended_at at_last k; is_so = refl; stays = turned_controller k two.own.log some_k });
          }

      host_ends : (goes keeps : Option Flight) → some.at.source ≡ 0 → two.past_all ≡ controlled (trip some.count ended_log goes) keeps → EndsThere goes keeps
      host_ends goes keeps host is_so =
          let own_log : two.own.log ≡ some.entries ++ ended_at some.at 0 ∷ [] =
          ap (λ (b : BooksView). b.log) some.own_is
          ∙ ap (λ own. (comes (record (books_anew None (going_on r).books) { crossings = some.count; log = some.entries }) some.at own (is_data some.at.now)).log) (eq-eqb some.at.source 0 host) in
          record {
            entries = theirs;
            log =
                ap (λ (u : ControlledTrip). u.trip.log) is_so
                ∙ ap (λ e. (r.books.log ++ turned_entries k some.entries) ++ e ∷ []) (ended_home k some.at some.within)
                ∙ entries_on k r.books.log some.entries (ended_at some.at 0)
                ∙ ap (λ es. r.books.log ++ turned_entries k es) (sym own_log);
            flight = ap (λ (u : ControlledTrip). u.trip.flight) is_so;
            kept = ap (λ (u : ControlledTrip). u.kept) is_so;
            does = does_theirs;
            ends = theirs_end;
          }

      it_ends : (goes keeps : Option Flight) → two.past_all ≡ controlled (trip some.count ended_log goes) keeps → EndsThere goes keeps
      it_ends goes keeps is_so = ⊎_elim (λ host. host_ends goes keeps host is_so) (λ from. device_ends goes keeps from is_so) (eq-zero-or-pos some.at.source)

      after_as : (out : GuestOut) → some.out ≡ out → two.past_all ≡ controlled_answers some.count (r.books.log ++ turned_entries k some.entries) k at_last r.books.kept out
      after_as out is_so = some.past_all_is ∙ ap (controlled_answers some.count (r.books.log ++ turned_entries k some.entries) k at_last r.books.kept) is_so

      ended_after : (goes keeps : Option Flight) → (there : EndsThere goes keeps) → ((x : Flight) → keeps ≡ Some x → IsDev k x.source x.sent) → Goes there.entries goes keeps → After
      ended_after goes keeps there devs out =
          record { entries = there.entries; goes = goes; keeps = keeps; log = there.log; flight = there.flight; kept = there.kept; does = there.does; devs = devs; out = out }

      it_stops : some.out ≡ guest.Stop → h_roles ≡ g_roles → After
      it_stops out same =
          let there = it_ends None r.books.kept (after_as guest.Stop out) in
          ended_after None r.books.kept there kept_dev (none_goes there.entries r.books.kept same there.ends)

      it_relays : (d : Frame) → some.out ≡ guest.Relay d → h_roles ≡ g_roles → After
      it_relays d out same =
          let there = it_ends r.books.kept None (after_as (guest.Relay d) out) in
          ended_after r.books.kept None there (λ x is_so. let clash : None ≡ Some x = is_so in cc) (kept_goes there.entries r.books.kept refl same)

      by_control : (c : Control) → 1 ≤ some.at.source → is_leading c ≡ true → some.out ≡ out_of c → h_roles ≡ roles_in_lead c g_roles → After
      by_control (control.Rounds (place.Command c)) from lead out roles = it_holds (command_frame c) from out roles
      by_control (control.Rounds (place.Ready c)) from lead out roles = it_holds rfc from out roles
      by_control (control.Rounds (place.Start a)) from lead out roles = it_holds sst from out roles
      by_control (control.Rounds (place.Held a d)) from lead out roles = it_holds nrd from out roles
      by_control (control.Rounds (place.Relayed a d)) from lead out roles = it_relays d out roles
      by_control control.Silent from lead out roles = it_stops out roles
      by_control control.Host from lead out roles = cc

      own_came : IsOwnFrame → 1 ≤ some.at.source
      own_came own = ⊎_elim (λ host. let clash : true ≡ false = sym bytes ∙ at_fits.host host own.other in cc) (λ from. from) (eq-zero-or-pos some.at.source)

      silent_so : (q : Place) (same : Bool) → is_frame some.at.now eto ≡ same → expecting same q ≡ control.Silent
      silent_so q true same = let clash : true ≡ false = sym bytes ∙ ap is_data (is_same-true some.at.now eto same) in cc
      silent_so q false same = refl

      let_go_came : IsLetGo → After
      let_go_came go =
          let silent : two.h.control ≡ control.Silent = on.control ∙ ap (λ c. control_next two.g.device.roles.address two.g.last c some.at.now) go.place ∙ silent_so (place.Command (command.Unt go.address)) (is_frame some.at.now eto) refl in
          it_stops (on.answer ∙ ap out_of silent) (on.roles ∙ ap (λ c. roles_in_lead c g_roles) silent)

      bytes_came : After
      bytes_came = ⊎_elim (λ (own : IsOwnFrame). by_control two.h.control (own_came own) h_leads on.answer on.roles) (λ (go : IsLetGo). let_go_came go) known.kind

    something : After
    something = by_bytes (is_data some.at.now) refl
      where
        by_bytes : (b : Bool) → is_data some.at.now ≡ b → After
        by_bytes true bytes = bytes_came bytes
        by_bytes false other = other_came other

  adds : Adds
  adds = ⊎_elim (λ none. comes_home (nothing none)) (λ some. comes_home (something some)) two.came

  -- these are the entries that the log grew by
  record Added (entries : List Entry) : Type 0 where
    pub commands : are_commands_led k entries ≡ true
    pub roles : Stood → roles_of (devices_of s) ≡ roles_led k before (entries ++ standing k s.books)

  added : (entries : List Entry) → s.books.log ≡ r.books.log ++ entries → Added entries
  added entries log =
      let it = adds in
      subst Added (append_cancel_left r.books.log it.entries entries (sym it.log ∙ log)) (record { commands = it.commands; roles = it.roles })

-- A pass on a lent ring: the commands among its entries are the second controller's, and with what is on the ring then they give the
-- roles; what stood there before was counted.
pub controlled_roles : {M : Type 0} (view : M → MediumView) (r s : RingView M) (f : Flight) (answer : Arrival) → IsControlled r → IsControlled s → r.books.lent ≡ Some (turned_flight (length (devices_of r)) f) → f.source < length (devices_of r) → (two : HalvesOfRound view (going_on r) None f answer s)
    → IsReady f (devices_of (ring_before_last two.boxed (books_anew None r.books) r)) → ((h : Flight) → r.books.kept ≡ Some h → IsAwaited 0 h (devices_of (ring_before_last two.boxed (books_anew None r.books) r)))
    → (entries : List Entry) → s.books.log ≡ r.books.log ++ entries
    → (are_commands_led (length (devices_of r)) entries ≡ true)
    × ((before : List Roles) → roles_of (devices_of r) ≡ roles_led (length (devices_of r)) before (standing (length (devices_of r)) r.books) → roles_of (devices_of s) ≡ roles_led (length (devices_of r)) before (entries ++ standing (length (devices_of r)) s.books))
controlled_roles view r s f answer is is_then lent within two ready awaited entries log = (
  (added view r s f answer is is_then lent within two awaited [] entries log).commands,
  λ before stood. (added view r s f answer is is_then lent within two awaited before entries log).roles stood,
)
