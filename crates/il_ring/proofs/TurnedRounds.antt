-- A round of a lent ring, up to its second controller, is a round of the ring of the devices before it.
use Rattle.std.proofs.Common.{◌≡◌, ◌<◌, ◌+◌, ◌++◌, ◌==◌, ◌⊎◌, inl, inr, ℕ, zero, suc, true, List, [], ◌∷◌, Option, Some, None, option_map, length, refl, sym, ap, ap₂, subst, ◌∙◌, arith, append-nil}
use Rattle.std.specs.Prelude.{if◌then◌else◌, IsSome}
use Rattle.std.proofs.lemmas.Bool.Decides.{nat_tests}
use Rattle.il_frames.specs.declared.entry.Entry.{Entry}
use Rattle.il_frames.specs.declared.entry.Outcome.TheVariants as outcome
use Rattle.il_frames.specs.declared.frame.Frame.{Frame}
use Rattle.il_frames.specs.Frames.{is_data}
use Rattle.il_device.specs.State.{risen}
use Rattle.il_ports.specs.Media.{MediumView}
use Rattle.il_guest.specs.State.{GuestState, is_leading}
use Rattle.il_ring.specs.declared.plan.Planned.{Planned}
use Rattle.il_ring.specs.declared.plan.Arrival.{Arrival}
use Rattle.il_ring.specs.declared.flight.Flight.{Flight}
use Rattle.il_ring.specs.Plans.{next_fault}
use Rattle.il_ring.specs.Flights.{hit, lost_at, ended_at}
use Rattle.il_ring.specs.Books.{BooksView}
use Rattle.il_ring.specs.Journeys.{Trip, trip, trip_of, DriveTakes}
use Rattle.il_ring.specs.Guests.{guest_devices, guest_mind}
use Rattle.il_ring.specs.Lending.{ControlledRound, ControlledTrip, GuestMeets, GuestReaches, LastPassage, books_controlled, leads, controlled_answers, controlled_home}
use Rattle.il_ring.specs.Rings.{RingView, Round, arrived, arriving, books_at, comes, devices_of, home, over_last_link}
use Rattle.il_ring.specs.Turned.{HalvesOfRound, NothingCame, SomeCame, turned, turned_outcome, turned_entry, turned_entries, turned_flight, ring_before_last, books_anew}
use Rattle.il_ring.proofs.CountSteps.{hit_same}
use Rattle.il_ring.proofs.ControlledRounds.{controlled_party}
use Rattle.il_ring.proofs.Rings.{Journey-length}
use Rattle.il_ring.proofs.Turnings.{AreTurned, apart, entries_on, journey_turned, passage_turned, some_flight, turned_hit}

-- ---- the round

module _ {M : Type 0} (view : M → MediumView) (r s : RingView M) (f : Flight) (answer : Arrival) (round : ControlledRound view r (turned_flight (length (devices_of r)) f) answer s) (held : Option Flight) where
  -- the trip to the last party, as that of the host's frame
  abbrev pub own_books : Trip → BooksView
  own_books last = home (books_at (books_anew held r.books) last) last.flight

  pub record TurnedRound : Type 0 where
    pub last : Trip
    pub are : AreTurned (length (devices_of r)) r.books.log [] round.at_last last
    pub its_round : Round view (ring_before_last round.boxed (books_anew held r.books) r) held f (arrived (arriving r.books.plan last.crossings last.flight)) (ring_before_last round.boxed_then (own_books last) s)

  pub turned_round : (g : GuestState) → round.guest ≡ Some g → f.source < length (devices_of r) → TurnedRound
  turned_round g is within =
      let k = length (devices_of r) in
      let plan = r.books.plan in
      let all = controlled_party view r s (turned_flight k f) answer round g is in
      let start : AreTurned k r.books.log [] (trip_of r.books (Some (turned_flight k f))) (trip r.books.crossings [] (Some f)) = record {
        crossings = refl;
        entries = [];
        log_is = sym (append-nil r.books.log);
        own_is = refl;
        flight = refl;
        within = λ x same. let source : f.source ≡ x.source = ap (λ (f : Flight). f.source) (some_flight f x same) in omega (arith, source, within);
      } in
      let first = journey_turned plan k 1 r.books.log [] (trip_of r.books (Some (turned_flight k f))) (trip r.books.crossings [] (Some f)) round.at_drive r.before s.before (omega arith) (omega (arith, all)) start round.to_drive in
      let middle = passage_turned (DriveTakes view) plan k (length r.before + 1) (omega arith) (omega (arith, all)) r.books.log [] round.at_drive first.0 first.2 r.drive s.drive round.past_drive round.at in
      let last = journey_turned plan k (length r.before + 2) r.books.log [] round.past_drive middle.0 round.at_last round.boxed round.boxed_then (omega arith) (omega (arith, all)) middle.2 round.from_drive in
      record {
        last = last.0;
        are = last.2;
        its_round = record {
          at_drive = first.0;
          past_drive = middle.0;
          past_all = last.0;
          to_drive = first.1;
          at = middle.1;
          from_drive = last.1;
          guest = refl;
          books = refl;
          answer_is = refl;
        };
      }

-- ---- what comes to the second controller

outcome_home : (k source : ℕ) (now : Frame) → source < k
    → (if turned k source == k then outcome.Back now else outcome.Taken k) ≡ turned_outcome k (if source == 0 then outcome.Back now else outcome.Taken 0)
outcome_home k zero now within =
    let same : (k == k) ≡ true = grind (arith, nat_tests) in
    ap (λ home. if home then outcome.Back now else outcome.Taken k) same
outcome_home k (suc source) now within =
    let there = apart (suc source) k (λ same. omega (arith, same, within)) in
    let here = apart (suc source) 0 (λ same. omega (arith, same)) in
    ap (λ home. if home then outcome.Back now else outcome.Taken k) there ∙ sym (ap (λ home. turned_outcome k (if home then outcome.Back now else outcome.Taken 0)) here)

pub ended_home : (k : ℕ) (f : Flight) → f.source < k → ended_at (turned_flight k f) k ≡ turned_entry k (ended_at f 0)
ended_home k f within = ap (λ o. record { source = turned k f.source; frame = f.sent; outcome = o }) (outcome_home k f.source f.now within)

pub lost_home : (k : ℕ) (f : Flight) → lost_at (turned_flight k f) k ≡ turned_entry k (lost_at f 0)
lost_home k f = refl

module _ (plan : List Planned) (k : ℕ) (log : List Entry) (t u : Trip) (are : AreTurned k log [] t u) (kept : Option Flight) (b : BooksView) (planned : plan ≡ b.plan) (g h : GuestState) (past_all : ControlledTrip) where
  abbrev pub own_at : Option Flight → BooksView
  own_at o = home (books_at b u) o

  abbrev pub CameLast : Option Flight → Type 0
  CameLast o = NothingCame k log kept g h past_all (arrived (arriving plan u.crossings o)) (own_at o) ⊎ SomeCame k log kept b g h past_all (arrived (arriving plan u.crossings o)) (own_at o)

  meets_last : (f : Flight) → u.flight ≡ Some f → (o : Option Flight) → hit (next_fault plan u.crossings) f ≡ o → GuestMeets k t kept (turned_flight k f) (option_map (turned_flight k) o) g past_all h → CameLast (Some f)
  meets_last f is None came met =
      let own : own_at (Some f) ≡ record b { crossings = risen u.crossings; log = u.log ++ lost_at f 0 ∷ []; held = None } =
      ap (λ plan. over_last_link (record b { crossings = risen u.crossings; log = u.log }) f (hit (next_fault plan u.crossings) f)) (sym planned)
      ∙ ap (over_last_link (record b { crossings = risen u.crossings; log = u.log }) f) came in
      inl (record {
        arrives_is = ap arrived came;
        same = met.1;
        flight = ap (λ (l : ControlledTrip). l.trip.flight) met.0;
        keeps = ap (λ (l : ControlledTrip). l.kept) met.0;
        log_is =
            ap (λ (l : ControlledTrip). l.trip.log) met.0
            ∙ ap (λ l. l ++ lost_at (turned_flight k f) k ∷ []) are.log_is
            ∙ entries_on k log are.entries (lost_at f 0)
            ∙ ap (λ l. log ++ turned_entries k (l ++ lost_at f 0 ∷ [])) (sym are.own_is)
            ∙ sym (ap (λ (b : BooksView). log ++ turned_entries k b.log) own);
        crossings = ap (λ (l : ControlledTrip). l.trip.crossings) met.0 ∙ ap risen are.crossings ∙ sym (ap (λ (b : BooksView). b.crossings) own);
        held = ap (λ (b : BooksView). b.held) own;
      })
  meets_last f is (Some at) came met =
      let own : own_at (Some f) ≡ comes (record b { crossings = risen u.crossings; log = u.log }) at (at.source == 0) (is_data at.now) =
      ap (λ plan. over_last_link (record b { crossings = risen u.crossings; log = u.log }) f (hit (next_fault plan u.crossings) f)) (sym planned)
      ∙ ap (over_last_link (record b { crossings = risen u.crossings; log = u.log }) f) came in
      inr (record {
        at = at;
        within =
            let kept_source = (hit_same (next_fault plan u.crossings) f at came).source in
            let in_ = are.within f is in
            omega (arith, kept_source, in_);
        arrives_is = ap arrived came;
        out = met.0;
        takes = met.1;
        count = risen u.crossings;
        entries = are.entries;
        past_all_is = met.2 ∙ ap₂ (λ n l. controlled_answers n l k (turned_flight k at) kept met.0) (ap risen are.crossings) are.log_is;
        own_is = own ∙ ap (λ l. comes (record b { crossings = risen u.crossings; log = l }) at (at.source == 0) (is_data at.now)) are.own_is;
      })

  reaches_last : (o : Option Flight) → u.flight ≡ o → GuestReaches plan k t kept (option_map (turned_flight k) o) g past_all h → CameLast o
  reaches_last None is reached = inl (record {
    arrives_is = refl;
    same = reached.1;
    flight = ap (λ (l : ControlledTrip). l.trip.flight) reached.0 ∙ are.flight ∙ ap (option_map (turned_flight k)) is;
    keeps = ap (λ (l : ControlledTrip). l.kept) reached.0;
    log_is = ap (λ (l : ControlledTrip). l.trip.log) reached.0 ∙ are.log_is ∙ ap (λ l. log ++ turned_entries k l) (sym are.own_is);
    crossings = ap (λ (l : ControlledTrip). l.trip.crossings) reached.0 ∙ are.crossings;
    held = refl;
  })
  reaches_last (Some f) is reached =
      let after_link = hit (next_fault plan u.crossings) f in
      let same : hit (next_fault plan t.crossings) (turned_flight k f) ≡ option_map (turned_flight k) after_link = ap (λ n. hit (next_fault plan n) (turned_flight k f)) are.crossings ∙ turned_hit k (next_fault plan u.crossings) f in
      meets_last f is after_link refl (subst (λ o. GuestMeets k t kept (turned_flight k f) o g past_all h) same reached)

  pub came_last : GuestReaches plan k t kept t.flight g past_all h → CameLast u.flight
  came_last reached = reaches_last u.flight refl (subst (λ o. GuestReaches plan k t kept o g past_all h) are.flight reached)

-- ---- the whole round, in two halves

module _ {M : Type 0} (view : M → MediumView) (r s : RingView M) (f : Flight) (answer : Arrival) (round : ControlledRound view r (turned_flight (length (devices_of r)) f) answer s) (held : Option Flight) (within : f.source < length (devices_of r)) where
  halves_of : (guest later : Option GuestState) → round.guest ≡ guest → round.guest_then ≡ later → (IsSome guest) → HalvesOfRound view r held f answer s
  halves_of None later is next some = cc
  halves_of (Some g) None is next some =
      let passage = subst (λ later. LastPassage r.books.plan (length (devices_of r)) round.at_last r.books.kept (Some g) round.past_all later) next (subst (λ guest. LastPassage r.books.plan (length (devices_of r)) round.at_last r.books.kept guest round.past_all round.guest_then) is round.past_last) in
      absurd passage
  halves_of (Some g) (Some h) is next some =
      let passage = subst (λ later. LastPassage r.books.plan (length (devices_of r)) round.at_last r.books.kept (Some g) round.past_all later) next (subst (λ guest. LastPassage r.books.plan (length (devices_of r)) round.at_last r.books.kept guest round.past_all round.guest_then) is round.past_last) in
      let turns = turned_round view r s f answer round held g is within in
      let lead : leads s.guest ≡ is_leading h.control = ap leads (round.mind_then ∙ ap guest_mind next) in
      record {
        boxed = round.boxed;
        boxed_then = round.boxed_then;
        g = g;
        h = h;
        after = round.after ∙ ap (λ guest. round.boxed ++ guest_devices guest) is;
        after_then = round.after_then ∙ ap (λ guest. round.boxed_then ++ guest_devices guest) next;
        mind = round.mind ∙ ap guest_mind is;
        mind_then = round.mind_then ∙ ap guest_mind next;
        before = Journey-length r.books.plan 1 (trip_of r.books (Some (turned_flight (length (devices_of r)) f))) round.at_drive r.before s.before round.to_drive;
        same_many = Journey-length r.books.plan (length r.before + 2) round.past_drive round.at_last round.boxed round.boxed_then round.from_drive;
        arrives = arrived (arriving r.books.plan turns.last.crossings turns.last.flight);
        own = own_books view r s f answer round held turns.last;
        its_round = turns.its_round;
        past_all = round.past_all;
        came = came_last r.books.plan (length (devices_of r)) r.books.log round.at_last turns.last turns.are r.books.kept (books_anew held r.books) refl g h round.past_all passage;
        books = round.books ∙ ap (λ lead. controlled_home lead (length (devices_of r)) (books_controlled r.books round.past_all) round.past_all.trip.flight) lead;
        answer_is = round.answer_is;
      }

  pub halves : IsSome r.guest → HalvesOfRound view r held f answer s
  halves some = halves_of round.guest round.guest_then refl refl (there round.guest (subst IsSome round.mind some))
    where
      there : (guest : Option GuestState) → IsSome (guest_mind guest) → IsSome guest
      there None none = none
      there (Some g) is = refl
