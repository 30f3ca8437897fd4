-- A second controller at a command of its rounds, or at the handshake after one.
use Rattle.std.proofs.Common.{◌≡◌, ◌≤◌, ◌∙◌, ◌⊎◌, inl, inr, ⊎_elim, ◌+◌, ◌++◌, ℕ, true, false, List, [], ◌∷◌, Option, Some, None, length, arith, refl, sym, ap, ap₂, subst, append-nil}
use Rattle.il_frames.specs.declared.entry.Entry.{Entry}
use Rattle.il_frames.specs.declared.entry.Outcome.TheVariants as outcome
use Rattle.il_frames.specs.declared.frame.Frame.{Frame}
use Rattle.il_frames.specs.Frames.{is_data}
use Rattle.il_frames.specs.Messages.{message_of}
use Rattle.il_frames.specs.NamedFrames.{entry, is_frame, is_ifc, nrd, rfc}
use Rattle.il_device.specs.Passing.{is_plain}
use Rattle.il_device.specs.State.{DeviceState}
use Rattle.il_ports.specs.Media.{MediumView}
use Rattle.loop_model.specs.Roles.{roles_after}
use Rattle.loop_model.specs.Exchanges.{Answer, FrameLost, returned}
use Rattle.il_guest.specs.declared.control.Command.{Command}
use Rattle.il_guest.specs.declared.control.Command.TheVariants as command
use Rattle.il_guest.specs.declared.control.Control.TheVariants as control
use Rattle.il_guest.specs.declared.control.Place.{Place}
use Rattle.il_guest.specs.declared.control.Place.TheVariants as place
use Rattle.il_guest.specs.Steps.{IsRoundPlace, command_frame, command_then, control_after, expecting, sent_at}
use Rattle.il_guest.proofs.RoundLaws.{is_same-refl}
use Rattle.il_guest.proofs.SentLemmas.{command_says, message_of-command}
use Rattle.il_ring.specs.declared.plan.Arrival.{Arrival}
use Rattle.il_ring.specs.declared.flight.Flight.{Flight}
use Rattle.il_ring.specs.Flights.{sourced}
use Rattle.il_ring.specs.Lends.{BreaksOff}
use Rattle.il_ring.specs.Lending.{going_on}
use Rattle.il_ring.specs.Lists.{First}
use Rattle.il_ring.specs.Outcomes.{Obeys}
use Rattle.il_ring.specs.Remaining.{BeginRounds, from_command, from_ready, from_start, from_unt, asked_yet}
use Rattle.il_ring.specs.Rings.{RingView, devices_of, roles_of}
use Rattle.il_ring.specs.Turned.{StandsNot, StandsThere, turned}
use Rattle.il_ring.proofs.ControlledSteps.{IsOwn}
use Rattle.il_ring.proofs.Remaining.{Follow, after_next, begin_same, command_back, next_after, next_command, next_first, ready_next, yet_asked}
use Rattle.il_control.specs.Calls.{Obeyed, Whole}
use Rattle.il_control.proofs.LentArrivals.{came_lost_home, came_one}
use Rattle.il_control.proofs.LentMoves.{MovedOn, MoveLost, others, others_then, plain_move}
use Rattle.il_control.proofs.LentPlaces.{QuietCommand, QuietReady, AskedSince, SinceCommand, SinceReady, calm_ready, command_plain, deaf_ready, quiet_command, since_command, since_nop, since_tad, since_unl, since_unt}
use Rattle.il_control.proofs.LentPolls.{RoundsEndSo, command_no_nrd, own_lost}
use Rattle.il_control.proofs.LentSteps.{GoesOut}
use Rattle.il_control.proofs.LentWalks.{BrokeOff, FollowsAsked, OwnStands, Polling, StandsSo, Stays, asked, broke_off, came_by, front_of, own_hit, polls_on, yet_at}
use Rattle.il_ring.proofs.MessageKinds.{each_command}

-- ---- its own frame goes out

module _ {M : Type 0} (view : M → MediumView) (k last : ℕ) (own : Option ℕ) (base : List Entry) where
  -- after these entries, of which one came to the host, at a place at which a frame of its own is there
  pub goes_own : (r s : RingView M) (arrived : ℕ) (answer : Arrival) (held : Option Flight) (f : Flight) (old : Polling view k last own base r arrived) (so : Stays view k last own base r s arrived old answer held f) (q : Place) (e : List Entry) → so.two.h.control ≡ control.Rounds q → so.two.h.last ≡ so.two.g.last
      → so.two.h.device.roles.address ≡ so.two.g.device.roles.address → IsRoundPlace q → came_by k e ≡ 1 → length e ≤ 2 → GoesOut (going_on r) e (sourced k (sent_at q)) None answer s → is_data (sent_at q) ≡ false → is_frame (sent_at q) nrd ≡ false
      → (yet : List ℕ) (goes : List Answer → List (List Answer) → List Entry) → BeginRounds k (asked view k last own base) (old.entries ++ e) yet goes → (more : List Entry) → goes [] [] ≡ returned k (sent_at q) ∷ more
      → (s.books.lent ≡ Some (sourced k (sent_at q)) → s.books.kept ≡ None → StandsSo view k last own base q s so.two.boxed_then (old.entries ++ e))
      → Polling view k last own base s (arrived + 1) ⊎ BrokeOff view k last own base s (arrived + 1)
  goes_own r s arrived answer held f old so q e at same_last same_address range one short out other no_nrd yet goes begun more due stands = ⊎_elim
      (λ (there : StandsThere (going_on r) e (sourced k (sent_at q)) None out.0 answer s).
      let lent = there.lent_is ∙ ap (λ f. Some f) (own_hit k (sent_at q) _ there.at other there.came) in
      inl (polls_on view k last own base r s arrived answer held f old so q e at same_last same_address range one short there.log_is (stands lent there.kept_is)))
      (λ not.
      inr (broke_off view k last own base r s arrived old e (entry k (sent_at q) (outcome.Lost 0) ∷ []) (BreaksOff (FrameLost 0)) (own_lost k (asked view k last own base) (old.entries ++ e) yet goes (sent_at q) more 0 (omega arith) begun due no_nrd) refl (let none = came_lost_home k k (sent_at q) in omega (arith, one, none)) (omega (arith, short)) not.0.log_is not.0.lent_is))
      out.1

  -- one was lost
  pub lost_own : (r s : RingView M) (arrived : ℕ) (answer : Arrival) (old : Polling view k last own base r arrived) (f : Frame) (party n : ℕ) → party ≤ k → StandsNot (going_on r) [] None (entry k f (outcome.Lost party) ∷ []) n answer s → is_frame f nrd ≡ false
      → (yet : List ℕ) (goes : List Answer → List (List Answer) → List Entry) → BeginRounds k (asked view k last own base) old.entries yet goes → (more : List Entry) → goes [] [] ≡ returned k f ∷ more → BrokeOff view k last own base s (arrived + 1)
  lost_own r s arrived answer old f party n on not no_nrd yet goes begun more due =
      broke_off view k last own base r s arrived old [] (entry k f (outcome.Lost party) ∷ []) (BreaksOff (FrameLost party))
      (subst (λ es. RoundsEndSo k (asked view k last own base) es (entry k f (outcome.Lost party) ∷ []) (BreaksOff (FrameLost party))) (sym (append-nil old.entries)) (own_lost k (asked view k last own base) old.entries yet goes f more party on begun due no_nrd))
      refl (let one = came_one k (entry k f (outcome.Lost party)) in omega (arith, one)) (omega arith) not.log_is not.lent_is

  module _ (r s : RingView M) (arrived : ℕ) (answer : Arrival) (f : Frame) (old : Polling view k last own base r arrived) (so : Stays view k last own base r s arrived old answer None (sourced 0 f)) where
    -- a frame that every device passes on
    pub own_step : (q : Place) → IsOwn q → r.books.kept ≡ None → is_plain (message_of f) ≡ true → is_data f ≡ false → is_ifc (message_of f) ≡ false → is_frame f nrd ≡ false → control_after so.two.g.device.roles.address so.two.g.last old.place f ≡ control.Rounds q → is_data (sent_at q) ≡ false → is_frame (sent_at q) nrd ≡ false
        → (yet : List ℕ) (goes : List Answer → List (List Answer) → List Entry) → BeginRounds k (asked view k last own base) old.entries yet goes → (more : List Entry) → goes [] [] ≡ returned k f ∷ more
        → (yet_then : List ℕ) (goes_then : List Answer → List (List Answer) → List Entry) → BeginRounds k (asked view k last own base) (old.entries ++ returned k f ∷ []) yet_then goes_then → (more_then : List Entry) → goes_then [] [] ≡ returned k (sent_at q) ∷ more_then
        → (Whole view (others view r s f answer so.two) (returned 0 f ∷ []) (others_then view r s f answer so.two) → Obeyed (message_of f) (others view r s f answer so.two) (others_then view r s f answer so.two) → s.books.lent ≡ Some (sourced k (sent_at q)) → s.books.kept ≡ None
        → StandsSo view k last own base q s so.two.boxed_then (old.entries ++ returned k f ∷ []))
        → Polling view k last own base s (arrived + 1) ⊎ BrokeOff view k last own base s (arrived + 1)
    own_step q is kept plain other no_ifc no_nrd next other_then no_nrd_then yet goes begun more due yet_then goes_then begun_then more_then due_then stands = ⊎_elim
        (λ (on : MovedOn view r s f answer so.two q).
        let out = subst (λ k. GoesOut (going_on r) (returned k f ∷ []) (sourced k (sent_at q)) None answer s) old.many on.out in
        goes_own r s arrived answer None (sourced 0 f) old so q (returned k f ∷ []) on.control on.last on.address on.range refl (omega arith) out other_then no_nrd_then yet_then goes_then begun_then more_then due_then (stands on.whole on.obeyed))
        (λ (lost : MoveLost view r s f answer so.two).
        let not = subst (λ j. StandsNot (going_on r) [] None (entry j f (outcome.Lost (turned j lost.own_party)) ∷ []) so.two.own.crossings answer s) old.many lost.ends in
        inr (lost_own r s arrived answer old f (turned k lost.own_party) so.two.own.crossings (subst (λ j. turned j lost.own_party ≤ j) old.many lost.on_ring) not no_nrd yet goes begun more due))
        (plain_move view r s f answer so.two old.controlled kept old.place q so.control_is is plain other no_ifc next)

  -- ---- a command

  abbrev Next : RingView M → ℕ → Type 0
  Next s arrived = Polling view k last own base s (arrived + 1) ⊎ BrokeOff view k last own base s (arrived + 1)

  pub command_other : (c : Command) → is_data (command_frame c) ≡ false
  command_other = each_command (λ c. is_data (command_frame c) ≡ false) refl (λ a. refl) (λ a. refl) (λ a. refl)

  pub said_other : (c : Command) → is_ifc (command_says c) ≡ false
  said_other = each_command (λ c. is_ifc (command_says c) ≡ false) refl (λ a. refl) (λ a. refl) (λ a. refl)

  pub command_due : (more : List ℕ) (c : Command) → (rest : List Entry) × (from_command k (asked view k last own base) more c [] [] ≡ returned k (command_frame c) ∷ rest)
  command_due more command.Nop = (_, refl)
  command_due more (command.Unl a) = (_, refl)
  command_due more (command.Tad a) = (_, refl)
  command_due more (command.Unt a) = (_, refl)

  command_goes : (more : List ℕ) (c : Command) (now : List Answer) (later : List (List Answer)) → from_command k (asked view k last own base) more c now later ≡ returned k (command_frame c) ∷ from_ready k (asked view k last own base) more c now later
  command_goes more command.Nop now later = refl
  command_goes more (command.Unl a) now later = refl
  command_goes more (command.Tad a) now later = refl
  command_goes more (command.Unt a) now later = refl

  pub ready_due : (more : List ℕ) (c : Command) → (rest : List Entry) × (from_ready k (asked view k last own base) more c [] [] ≡ returned k rfc ∷ rest)
  ready_due more command.Nop = (_, refl)
  ready_due more (command.Unl a) = (_, refl)
  ready_due more (command.Tad a) = (_, refl)
  ready_due more (command.Unt a) = (_, refl)

  module _ (r s : RingView M) (arrived : ℕ) (answer : Arrival) where
    -- who listens and sends, and what was made since an address is asked, as it was before the move
    old_quiet : (f : Frame) (old : Polling view k last own base r arrived) (so : Stays view k last own base r s arrived old answer None (sourced 0 f)) (Q : List DeviceState → Type 0) → Q (front_of view k last own base r old.boxed) → Q (devices_of (others view r s f answer so.two))
    old_quiet f old so Q quiet = subst (λ boxed. Q (front_of view k last own base r boxed)) so.boxed_is quiet

    old_since : (f : Frame) (old : Polling view k last own base r arrived) (so : Stays view k last own base r s arrived old answer None (sourced 0 f)) (P : List Entry → Type 0) → AskedSince P (front_of view k last own base r old.boxed) → AskedSince P (devices_of (others view r s f answer so.two))
    old_since f old so P since = subst (λ boxed. AskedSince P (front_of view k last own base r boxed)) so.boxed_is since

    pub command_step : (c : Command) → (old : Polling view k last own base r arrived) (so : Stays view k last own base r s arrived old answer None (sourced 0 (command_frame c))) → old.place ≡ place.Command c → Next s arrived
    command_step c old so at =
        let f = command_frame c in
        let stands = subst (λ p. StandsSo view k last own base p r old.boxed old.entries) at old.stands in
        let more = stands.0 in
        let one = stands.2 in
        let says = message_of-command c (subst IsRoundPlace at old.range) in
        let plain : is_plain (message_of f) ≡ true = ap is_plain says ∙ command_plain c in
        let next : control_after so.two.g.device.roles.address so.two.g.last old.place f ≡ control.Rounds (place.Ready c) =
        ap (λ p. control_after so.two.g.device.roles.address so.two.g.last p f) at ∙ ap (λ right. expecting right (place.Ready c)) (is_same-refl f) in
        let due = command_due more c in
        let then_ = ready_due more c in
        let begun = command_back k (asked view k last own base) (yet_at view k last own base c more) more c old.entries (returned k f) (command_goes more c) one.begun in
        own_step r s arrived answer f old so (place.Ready c) tt one.kept_is plain (command_other c) (ap is_ifc says ∙ said_other c) (command_no_nrd c) next refl refl
        (yet_at view k last own base c more) (from_command k (asked view k last own base) more c) one.begun due.0 due.1 (yet_at view k last own base c more) (from_ready k (asked view k last own base) more c) begun then_.0 then_.1
        (λ whole obeyed lent kept. (
          more,
          stands.1,
          record {
            lent_is = lent;
            kept_is = kept;
            quiet = quiet_command c (devices_of (others view r s f answer so.two)) (devices_of (others_then view r s f answer so.two)) (subst (λ m. First (Obeys m) (length (devices_of (others view r s f answer so.two))) (devices_of (others view r s f answer so.two)) (devices_of (others_then view r s f answer so.two))) says obeyed)
                (old_quiet f old so (QuietCommand c) one.quiet);
            since = since_command c (devices_of (others view r s f answer so.two)) (devices_of (others_then view r s f answer so.two)) (old_since f old so (SinceCommand c) one.since) whole.adds.roles;
            begun = begun;
          },
        ))

    -- ---- the handshake

    -- at the handshake of this command another place is next
    ready_step : (c : Command) → (old : Polling view k last own base r arrived) (so : Stays view k last own base r s arrived old answer None (sourced 0 rfc)) → old.place ≡ place.Ready c → (more : List ℕ) → OwnStands view k last own base r old.boxed rfc (QuietReady c) (SinceReady c) old.entries (yet_at view k last own base c more) (from_ready k (asked view k last own base) more c)
        → (q : Place) → IsOwn q → command_then so.two.g.device.roles.address so.two.g.last c ≡ q → is_data (sent_at q) ≡ false → is_frame (sent_at q) nrd ≡ false
        → (yet_then : List ℕ) (goes_then : List Answer → List (List Answer) → List Entry) → BeginRounds k (asked view k last own base) (old.entries ++ returned k rfc ∷ []) yet_then goes_then → (more_then : List Entry) → goes_then [] [] ≡ returned k (sent_at q) ∷ more_then
        → (Whole view (others view r s rfc answer so.two) (returned 0 rfc ∷ []) (others_then view r s rfc answer so.two) → Obeyed (message_of rfc) (others view r s rfc answer so.two) (others_then view r s rfc answer so.two) → s.books.lent ≡ Some (sourced k (sent_at q)) → s.books.kept ≡ None
        → StandsSo view k last own base q s so.two.boxed_then (old.entries ++ returned k rfc ∷ []))
        → Next s arrived
    ready_step c old so at more one q own_q next other no_nrd yet_then goes_then begun_then more_then due_then stands =
        let due = ready_due more c in
        let to : control_after so.two.g.device.roles.address so.two.g.last old.place rfc ≡ control.Rounds q =
        ap (λ p. control_after so.two.g.device.roles.address so.two.g.last p rfc) at ∙ ap (λ q. control.Rounds q) next in
        own_step r s arrived answer rfc old so q own_q one.kept_is refl refl refl refl to other no_nrd
        (yet_at view k last own base c more) (from_ready k (asked view k last own base) more c) one.begun due.0 due.1 yet_then goes_then begun_then more_then due_then
        stands

    next_no_data : (xs : List ℕ) → (is_data (command_frame (next_command xs)) ≡ false) × (is_frame (command_frame (next_command xs)) nrd ≡ false)
    next_no_data [] = (refl, refl)
    next_no_data (b ∷ xs) = (refl, refl)

    next_since : (xs : List ℕ) (front : List DeviceState) → AskedSince (λ since. since ≡ []) front → AskedSince (SinceCommand (next_command xs)) front
    next_since [] front since = since
    next_since (b ∷ xs) front since = since

    next_quiet : (xs : List ℕ) (front : List DeviceState) → QuietCommand (next_command xs) front
    next_quiet [] front = tt
    next_quiet (b ∷ xs) front = tt

    next_follows : (xs : List ℕ) → ((b : ℕ) → (rest : List ℕ) → xs ≡ b ∷ rest → Follow own last b rest) → FollowsAsked view k last own base (next_command xs) (after_next xs)
    next_follows [] follow = tt
    next_follows (b ∷ xs) follow = follow b xs refl

    -- these addresses are asked yet
    next_yet : (xs : List ℕ) → yet_asked (asked view k last own base) xs ≡ yet_at view k last own base (next_command xs) (after_next xs)
    next_yet [] = refl
    next_yet (b ∷ xs) = refl

    ready_asks : (c : Command) → (old : Polling view k last own base r arrived) (so : Stays view k last own base r s arrived old answer None (sourced 0 rfc)) → old.place ≡ place.Ready c → (more : List ℕ) → OwnStands view k last own base r old.boxed rfc (QuietReady c) (SinceReady c) old.entries (yet_at view k last own base c more) (from_ready k (asked view k last own base) more c)
        → (xs : List ℕ) → yet_at view k last own base c more ≡ xs → command_then so.two.g.device.roles.address so.two.g.last c ≡ place.Command (next_command xs) → ((now : List Answer) → (later : List (List Answer)) → from_ready k (asked view k last own base) more c now later ≡ returned k rfc ∷ asked_yet k (asked view k last own base) xs now later)
        → ((b : ℕ) → (rest : List ℕ) → xs ≡ b ∷ rest → Follow own last b rest)
        → ((front then_ : List DeviceState) → AskedSince (SinceReady c) front → roles_of then_ ≡ roles_after (roles_of front) (returned 0 rfc ∷ []) → AskedSince (λ since. since ≡ []) then_) → Next s arrived
    ready_asks c old so at more one xs yet_is next same follow rule =
        let goes = from_command k (asked view k last own base) (after_next xs) (next_command xs) in
        let begun = subst (λ yet. BeginRounds k (asked view k last own base) (old.entries ++ returned k rfc ∷ []) yet goes) (next_yet xs)
        (ready_next k (asked view k last own base) xs old.entries (from_ready k (asked view k last own base) more c) same (subst (λ yet. BeginRounds k (asked view k last own base) old.entries yet (from_ready k (asked view k last own base) more c)) yet_is one.begun)) in
        let due = command_due (after_next xs) (next_command xs) in
        let kind = next_no_data xs in
        ready_step c old so at more one (place.Command (next_command xs)) tt next kind.0 kind.1 (yet_at view k last own base (next_command xs) (after_next xs)) goes begun due.0 due.1
        (λ whole obeyed lent kept. (
          after_next xs,
          next_follows xs follow,
          record {
            lent_is = lent;
            kept_is = kept;
            quiet = next_quiet xs (devices_of (others_then view r s rfc answer so.two));
            since = next_since xs (devices_of (others_then view r s rfc answer so.two)) (rule (devices_of (others view r s rfc answer so.two)) (devices_of (others_then view r s rfc answer so.two)) (old_since rfc old so (SinceReady c) one.since) whole.adds.roles);
            begun = begun;
          },
        ))

    by_guest : (old : Polling view k last own base r arrived) (so : Stays view k last own base r s arrived old answer None (sourced 0 rfc)) (c : Command) → command_then so.two.g.device.roles.address so.two.g.last c ≡ command_then own last c
    by_guest old so c = ap₂ (λ a l. command_then a l c) (ap (λ (d : DeviceState). d.roles.address) (sym so.device_is) ∙ old.address) so.last_is

    pub handshake_step : (c : Command) → (old : Polling view k last own base r arrived) (so : Stays view k last own base r s arrived old answer None (sourced 0 rfc)) → old.place ≡ place.Ready c → Next s arrived
    handshake_step command.Nop old so at =
        let stands = subst (λ p. StandsSo view k last own base p r old.boxed old.entries) at old.stands in
        let first = next_first own last in
        ready_asks command.Nop old so at stands.0 stands.2 (asked view k last own base) refl (by_guest old so command.Nop ∙ ap (λ c. place.Command c) first.0) (λ now later. refl) first.1 since_nop
    handshake_step (command.Unl a) old so at =
        let stands = subst (λ p. StandsSo view k last own base p r old.boxed old.entries) at old.stands in
        let one = stands.2 in
        let begun = begin_same k (asked view k last own base) old.entries (a ∷ stands.0) (from_ready k (asked view k last own base) stands.0 (command.Unl a)) (from_command k (asked view k last own base) stands.0 (command.Tad a)) (returned k rfc) (λ now later. refl) one.begun in
        let due = command_due stands.0 (command.Tad a) in
        ready_step (command.Unl a) old so at stands.0 one (place.Command (command.Tad a)) tt refl refl refl (a ∷ stands.0) (from_command k (asked view k last own base) stands.0 (command.Tad a)) begun due.0 due.1
        (λ whole obeyed lent kept. (
          stands.0,
          stands.1,
          record {
            lent_is = lent;
            kept_is = kept;
            quiet = deaf_ready (devices_of (others view r s rfc answer so.two)) (devices_of (others_then view r s rfc answer so.two)) obeyed (old_quiet rfc old so (QuietReady (command.Unl a)) one.quiet);
            since = since_unl a (devices_of (others view r s rfc answer so.two)) (devices_of (others_then view r s rfc answer so.two)) (old_since rfc old so (SinceReady (command.Unl a)) one.since) whole.adds.roles;
            begun = begun;
          },
        ))
    handshake_step (command.Tad a) old so at =
        let stands = subst (λ p. StandsSo view k last own base p r old.boxed old.entries) at old.stands in
        let one = stands.2 in
        let begun = begin_same k (asked view k last own base) old.entries (a ∷ stands.0) (from_ready k (asked view k last own base) stands.0 (command.Tad a)) (from_start k (asked view k last own base) stands.0) (returned k rfc) (λ now later. refl) one.begun in
        ready_step (command.Tad a) old so at stands.0 one (place.Start a) tt refl refl refl (a ∷ stands.0) (from_start k (asked view k last own base) stands.0) begun (from_unt k (asked view k last own base) stands.0 [] []) refl
        (λ whole obeyed lent kept. (
          stands.0,
          stands.1,
          record {
            lent_is = lent;
            kept_is = kept;
            quiet = calm_ready (devices_of (others view r s rfc answer so.two)) (devices_of (others_then view r s rfc answer so.two)) obeyed (old_quiet rfc old so (QuietReady (command.Tad a)) one.quiet);
            since = since_tad a (devices_of (others view r s rfc answer so.two)) (devices_of (others_then view r s rfc answer so.two)) (old_since rfc old so (SinceReady (command.Tad a)) one.since) whole.adds.roles;
            begun = begun;
          },
        ))
    handshake_step (command.Unt a) old so at =
        let stands = subst (λ p. StandsSo view k last own base p r old.boxed old.entries) at old.stands in
        let range = subst IsRoundPlace at old.range in
        let then_ = next_after own last a stands.0 stands.1 in
        ready_asks (command.Unt a) old so at stands.0 stands.2 stands.0 refl (by_guest old so (command.Unt a) ∙ ap (λ c. place.Command c) then_.0) (λ now later. refl) then_.1 (λ front now since roles. since_unt a front now range.1 since roles)
