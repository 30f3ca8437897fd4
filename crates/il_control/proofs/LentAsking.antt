-- A second controller that asks an address for its status, as SST goes round.
use Rattle.std.proofs.Common.{◌≡◌, ◌≢◌, ◌∙◌, ◌⊎◌, inl, inr, ⊎_elim, ◌≤◌, ◌<◌, ◌+◌, ◌++◌, ◌==◌, ◌&&◌, not, ℕ, suc, Bool, true, false, List, [], ◌∷◌, Option, Some, None, length, cond, refl, sym, ap, ap₂, subst, arith, length-append}
use Rattle.std.specs.Prelude.{◌-◌, if◌then◌else◌, nat_le, nat_lt}
use Rattle.std.proofs.lemmas.Bool.{and_parts, le-leb, ne_eqb, not-true}
use Rattle.std.proofs.lemmas.Bool.Decides.{nat_tests}
use Rattle.il_frames.specs.declared.entry.Entry.{Entry}
use Rattle.il_frames.specs.declared.entry.Outcome.TheVariants as outcome
use Rattle.il_frames.specs.declared.frame.Frame.{Frame}
use Rattle.il_frames.specs.Frames.{byte_of, is_data}
use Rattle.il_frames.specs.NamedFrames.{entry, nrd, rfc, unt}
use Rattle.il_device.specs.declared.interface.OwnFrame.{OwnFrame}
use Rattle.il_device.specs.State.{DeviceState}
use Rattle.il_ports.specs.Media.{MediumView}
use Rattle.loop_model.specs.Exchanges.{Echo, NotTaken, FrameLost, is_echo, receive_front, returned}
use Rattle.loop_model.specs.Reach.{distance}
use Rattle.loop_model.specs.Roles.{roles_after, talkers}
use Rattle.il_guest.specs.declared.control.Command.TheVariants as command
use Rattle.il_guest.specs.declared.control.Control.TheVariants as control
use Rattle.il_guest.specs.declared.control.Place.TheVariants as place
use Rattle.il_guest.specs.Frames.{sst}
use Rattle.il_guest.specs.Steps.{IsRoundPlace}
use Rattle.il_ring.specs.declared.plan.Arrival.{Arrival}
use Rattle.il_ring.specs.declared.plan.Planned.{Planned}
use Rattle.il_ring.specs.declared.plan.PlanFault.{PlanFault}
use Rattle.il_ring.specs.declared.plan.PlanFault.TheVariants.{Lose, Alter}
use Rattle.il_ring.specs.declared.flight.Flight.{Flight}
use Rattle.il_ring.specs.Plans.{IsPlan, next_fault}
use Rattle.il_ring.specs.Flights.{altered_by, ended_at, hit, lost_at, sourced}
use Rattle.il_ring.specs.Fates.{HoldsByPlan}
use Rattle.il_ring.specs.Lends.{BreaksOff, ByteLost}
use Rattle.il_ring.specs.Lending.{IsControlled, entry_of_kept, going_on}
use Rattle.il_ring.specs.Lists.{Each}
use Rattle.il_ring.specs.Outcomes.{IsTalking, StoodSo}
use Rattle.il_ring.specs.Remaining.{BeginRounds, asked_yet, from_byte, from_start, from_unt}
use Rattle.il_ring.specs.Rings.{RingView, devices_of}
use Rattle.il_ring.specs.Turned.{StandsNot, StandsThere, turned}
use Rattle.il_ring.proofs.DataPasses.{next_alters, same_byte, xor_other}
use Rattle.il_ring.proofs.Remaining.{start_back, start_taken}
use Rattle.il_control.specs.Receives.{IsCalm, IsDeaf, IsHolding}
use Rattle.il_control.proofs.LentArrivals.{came_lost_ahead, came_lost_home, came_second, came_taken_ahead, turned_ahead}
use Rattle.il_control.proofs.LentCommands.{goes_own, lost_own}
use Rattle.il_control.proofs.LentPlaces.{AskedSince, since_answer, since_more, since_one}
use Rattle.il_control.proofs.LentPolls.{first_lost, nrd_lost, one_status, own_echo, own_echo-is}
use Rattle.il_control.proofs.LentRings.{own_ring, own_ring-IsRing, own_ring-length}
use Rattle.il_control.proofs.LentStarts.{NoStatus, StatusHeld, StartLostAt, StatusLost, rest, rest_then, start_move}
use Rattle.il_control.proofs.LentSteps.{GoesOut}
use Rattle.il_control.proofs.LentWalks.{BrokeOff, Polling, StandsSo, Stays, asked, broke_off, came_by, front_of, own_hit, polls_on}
use Rattle.il_control.proofs.Talking.{asked_talks, talking_alone}

-- ---- on the ring of the others

-- a frame of theirs is held there, as on a ring with the same devices
pub hold_again : {M : Type 0} (s m : RingView M) (boxed : List DeviceState) (last : DeviceState) (h : IsHolding m) (at : Flight) → s.after ≡ boxed ++ last ∷ [] → IsControlled s → devices_of m ≡ devices_of (own_ring boxed (Some at) (going_on s)) → at.source ≡ h.flight.source → at.sent ≡ h.flight.sent → StoodSo at
    → HoldsByPlan s.books.plan s.books.begun s.books.crossings (Some at) → (now : IsHolding (own_ring boxed (Some at) (going_on s))) × (now.flight ≡ at) × (now.own ≡ h.own)
hold_again s m boxed last h at after controlled same source sent stood way = (
  record {
    ring = own_ring-IsRing s boxed last (Some at) after controlled (λ e. let some = h.talking.party in omega (arith, some, source, e), stood.data_frame) way;
    host = tt;
    flight = at;
    held = refl;
    data_frame = ap is_data sent ∙ h.data_frame;
    stood = stood;
    own = h.own;
    talking = subst (λ p. IsTalking p (Some h.own) (devices_of (own_ring boxed (Some at) (going_on s)))) (sym source) (subst (IsTalking h.flight.source (Some h.own)) same h.talking);
    frame = h.frame ∙ sym sent;
    deaf = subst (Each IsDeaf 1) same h.deaf;
  },
  refl,
  refl,
)

-- a data frame that stood so stands so after one more link
pub hit_so : (plan : List Planned) (n : ℕ) (f at : Flight) → IsPlan plan → StoodSo f → hit (next_fault plan n) f ≡ Some at → StoodSo at × (at.source ≡ f.source) × (at.sent ≡ f.sent) × ((at ≡ f) ⊎ ((at.altered ≡ true) × (next_fault plan n ≢ None)))
hit_so plan n f at is stood came = by (next_fault plan n) refl came
  where
    some_is : (g : Flight) → Some g ≡ Some at → at ≡ g
    some_is g e = sym (ap (λ o. elim o [ Some h ↦ h | None ↦ at ]) e)

    altered : (change : ℕ) → change ≢ 0 → next_fault plan n ≡ Some (Alter change) → (may : Bool) → (is_data f.now && not f.altered) ≡ may → (if may then Some (record f { now = altered_by change f.now; altered = true }) else None) ≡ Some at
        → StoodSo at × (at.source ≡ f.source) × (at.sent ≡ f.sent) × ((at ≡ f) ⊎ ((at.altered ≡ true) × (next_fault plan n ≢ None)))
    altered change some planned true may came =
        let same = some_is (record f { now = altered_by change f.now; altered = true }) came in
        let fresh : f.altered ≡ false = not-true f.altered (and_parts (is_data f.now) (not f.altered) may).1 in
        let byte : byte_of f.now ≡ byte_of f.sent = same_byte f.sent f.now (stood.same fresh) in
        subst (λ (g : Flight). StoodSo g × (g.source ≡ f.source) × (g.sent ≡ f.sent) × ((g ≡ f) ⊎ ((g.altered ≡ true) × (next_fault plan n ≢ None)))) (sym same) (
          record {
            data_frame = stood.data_frame;
            same = λ no. cc;
            other = λ is_altered e. xor_other (byte_of f.now) change some (e ∙ sym byte);
          },
          refl,
          refl,
          inr (refl, λ none. let clash = sym planned ∙ none in cc),
        )
    altered change some planned false may came = cc

    by : (fault : Option PlanFault) → next_fault plan n ≡ fault → hit fault f ≡ Some at → StoodSo at × (at.source ≡ f.source) × (at.sent ≡ f.sent) × ((at ≡ f) ⊎ ((at.altered ≡ true) × (next_fault plan n ≢ None)))
    by None planned came =
        let same = some_is f came in
        (subst StoodSo (sym same) stood, ap (λ (g : Flight). g.source) same, ap (λ (g : Flight). g.sent) same, inl same)
    by (Some Lose) planned came = cc
    by (Some (Alter change)) planned came = altered change (next_alters plan n change is planned) planned (is_data f.now && not f.altered) refl came

-- ---- what an entry brought to the host

dist_from : (k q : ℕ) → q ≤ k → distance k k q ≡ q + 1
dist_from k q on =
    let no : nat_lt k q ≡ false = grind (arith, nat_tests) in
    ap (λ b. if b then q - k else (suc k + q) - k) no ∙ omega arith

taken_one : (k q : ℕ) (f : Frame) → q ≤ k → came_by k (entry k f (outcome.Taken q) ∷ []) ≡ 1
taken_one k q f on =
    let yes : nat_le 1 (q + 1) ≡ true = grind (arith, nat_tests) in
    ap₂ (λ a b. 0 + cond (nat_le a b) 1 0) (dist_from k 0 (omega arith)) (dist_from k q on) ∙ ap (λ b. 0 + cond b 1 0) yes

-- ---- the step

module _ {M : Type 0} (view : M → MediumView) (k last : ℕ) (own : Option ℕ) (base : List Entry) where
  module _ (r s : RingView M) (arrived : ℕ) (answer : Arrival) (a : ℕ) (old : Polling view k last own base r arrived) (so : Stays view k last own base r s arrived old answer None (sourced 0 sst)) (at : old.place ≡ place.Start a) where
    abbrev A : List ℕ
    A = asked view k last own base

    stands : StandsSo view k last own base (place.Start a) r old.boxed old.entries
    stands = subst (λ p. StandsSo view k last own base p r old.boxed old.entries) at old.stands

    abbrev more : List ℕ
    more = stands.0

    range : IsRoundPlace (place.Start a)
    range = subst IsRoundPlace at old.range

    calm : Each IsCalm 1 (devices_of (rest view r s answer so.two))
    calm = subst (λ boxed. Each IsCalm 1 (front_of view k last own base r boxed)) so.boxed_is stands.2.quiet

    since : AskedSince (λ since. since ≡ receive_front 0 a None) (devices_of (rest view r s answer so.two))
    since = subst (λ boxed. AskedSince (λ since. since ≡ receive_front 0 a None) (front_of view k last own base r boxed)) so.boxed_is stands.2.since

    -- the one that talks is the one that was asked
    talker_is : (q : ℕ) → IsTalking q None (devices_of (rest view r s answer so.two)) → (q == a) ≡ true
    talker_is q talked =
        let alone = sym (ap talkers (since.roles ∙ ap (roles_after since.before) since.made)) ∙ talking_alone q None (devices_of (rest view r s answer so.two)) talked in
        (and_parts (q == a) (nat_le 1 a && nat_le a (length since.before)) (asked_talks since.before a None since.numbered since.silent (le-leb a 30 range.1) refl q range.0 alone)).0

    within : (q : ℕ) → (own_of : Option OwnFrame) → IsTalking q own_of (devices_of (rest view r s answer so.two)) → (1 ≤ q) × (q < k)
    within q own_of talked =
        let many = own_ring-length r so.two.boxed so.two.g.device None so.two.after in
        let all = ap length talked.devices_are ∙ length-append talked.before (talked.talker ∷ talked.after) in
        (omega (arith, talked.party), omega (arith, talked.party, many, all, old.many))

    taken : (q : ℕ) (d : Echo) → is_echo d ≡ true → IsTalking q None (devices_of (rest view r s answer so.two)) → BeginRounds k A (old.entries ++ entry k sst (outcome.Taken q) ∷ []) more (λ now later. returned k nrd ∷ from_byte k A more q d now later)
    taken q d echo talked = let in_ = within q None talked in start_taken k A a more old.entries q d (one_status k q d in_.0 in_.1 echo) (talker_is q talked) stands.2.begun

    -- no status
    none_so : NoStatus view r s answer so.two a → Polling view k last own base s (arrived + 1) ⊎ BrokeOff view k last own base s (arrived + 1)
    none_so none =
        let begun = start_back k A a more old.entries stands.2.begun in
        let out = subst (λ k. GoesOut (going_on r) (returned k sst ∷ []) (sourced k unt) None answer s) old.many none.out in
        goes_own view k last own base r s arrived answer None (sourced 0 sst) old so (place.Command (command.Unt a)) (returned k sst ∷ []) none.control none.last none.address none.range refl (omega arith) out refl refl more (from_unt k A more) begun (returned k rfc ∷ asked_yet k A more [] []) refl
        (λ lent kept. (
          more,
          stands.1,
          record {
            lent_is = lent;
            kept_is = kept;
            quiet = tt;
            since = since_answer a (devices_of (rest view r s answer so.two)) (devices_of (rest_then view r s answer so.two)) NotTaken refl since none.whole.adds.roles;
            begun = begun;
          },
        ))

    -- a status, which is kept
    held_so : StatusHeld view r s answer so.two a → Polling view k last own base s (arrived + 1) ⊎ BrokeOff view k last own base s (arrived + 1)
    held_so held =
        let flight = held.began.now.flight in
        let q = flight.source in
        let e : List Entry = entry k sst (outcome.Taken q) ∷ [] in
        let in_ = within q None held.began.talked in
        let out = subst (λ k. GoesOut (going_on r) (entry k sst (outcome.Taken q) ∷ []) (sourced k nrd) (Some flight) answer s) old.many held.out in
        let one = taken_one k q sst (omega (arith, in_.1)) in
        ⊎_elim
        (λ (there : StandsThere (going_on r) e (sourced k nrd) (Some flight) out.0 answer s).
        let lent = there.lent_is ∙ ap (λ f. Some f) (own_hit k nrd _ there.at refl there.came) in
        let way = subst (HoldsByPlan s.books.plan s.books.begun s.books.crossings) there.kept_is so.controlled_then.told.kept in
        let again = hold_again s (rest_then view r s answer so.two) so.two.boxed_then so.two.h.device held.began.now flight so.two.after_then so.controlled_then refl refl refl held.began.now.stood way in
        inl (polls_on view k last own base r s arrived answer None (sourced 0 sst) old so (place.Held a flight.now) e held.control held.last held.address held.range one (omega arith) there.log_is (
          more,
          stands.1,
          record {
            flight = flight;
            lent_is = lent;
            kept_is = there.kept_is;
            holding = again.0;
            holding_is = again.1;
            since = since_more (λ since. since ≡ receive_front 0 a None) (λ since. since ≡ receive_front 0 a None ++ entry 0 sst (outcome.Taken q) ∷ []) (devices_of (rest view r s answer so.two)) (devices_of (rest_then view r s answer so.two)) (entry 0 sst (outcome.Taken q) ∷ [])
                (λ since made. ap (λ es. es ++ entry 0 sst (outcome.Taken q) ∷ []) made) since held.began.added.adds.roles;
            begun = λ back echo. taken q (record { sent = flight.sent; back = back }) echo held.began.talked;
          },
        )))
        (λ not.
        let ends = nrd_lost k A (old.entries ++ e) more q (own_echo flight.sent) (taken q (own_echo flight.sent) (own_echo-is flight.sent held.began.now.data_frame) held.began.talked) 0 (omega arith) in
        let kept_is : entry_of_kept (length (devices_of (going_on r))) (Some flight) ++ lost_at (sourced k nrd) 0 ∷ [] ≡ entry q flight.sent (outcome.Taken k) ∷ entry k nrd (outcome.Lost 0) ∷ [] = kept_entry flight in_.1 in
        inr (broke_off view k last own base r s arrived old e (entry q flight.sent (outcome.Taken k) ∷ entry k nrd (outcome.Lost 0) ∷ []) (BreaksOff (FrameLost 0)) ends refl
        (let none = came_second k (entry q flight.sent (outcome.Taken k)) (entry k nrd (outcome.Lost 0)) (came_taken_ahead k q k flight.sent in_.1 (omega arith)) ∙ came_lost_home k k nrd in omega (arith, one, none))
        (omega arith) (not.0.log_is ∙ ap (λ es. r.books.log ++ (e ++ es)) kept_is) not.0.lent_is))
        out.1
      where
        kept_entry : (f : Flight) → f.source < k → entry_of_kept (length (devices_of (going_on r))) (Some f) ++ lost_at (sourced k nrd) 0 ∷ [] ≡ entry f.source f.sent (outcome.Taken k) ∷ entry k nrd (outcome.Lost 0) ∷ []
        kept_entry f less =
            let other : (f.source == k) ≡ false = ne_eqb f.source k (λ e. omega (arith, e, less)) in
            ap (λ j. ended_at f j ∷ entry k nrd (outcome.Lost 0) ∷ []) old.many ∙ ap (λ b. entry f.source f.sent (if b then outcome.Back f.now else outcome.Taken k) ∷ entry k nrd (outcome.Lost 0) ∷ []) other

    pub asking_step : Polling view k last own base s (arrived + 1) ⊎ BrokeOff view k last own base s (arrived + 1)
    asking_step = ⊎_elim
        (λ on. ⊎_elim (λ none. none_so none) (λ held. held_so held) on)
        (λ off. ⊎_elim
        (λ (gone : StartLostAt view r s answer so.two).
        let not = subst (λ j. StandsNot (going_on r) [] None (entry j sst (outcome.Lost (turned j gone.own_party)) ∷ []) so.two.own.crossings answer s) old.many gone.ends in
        inr (lost_own view k last own base r s arrived answer old sst (turned k gone.own_party) so.two.own.crossings (subst (λ j. turned j gone.own_party ≤ j) old.many gone.on_ring) not refl (a ∷ more) (from_start k A more) stands.2.begun (from_unt k A more [] []) refl))
        (λ (lost : StatusLost view r s answer so.two).
        let in_ = within lost.taker None lost.talked in
        let e : List Entry = entry k sst (outcome.Taken lost.taker) ∷ [] in
        let tail : List Entry = entry lost.taker lost.sent (outcome.Lost (turned k lost.own_party)) ∷ [] in
        let not = subst (λ j. StandsNot (going_on r) (entry j sst (outcome.Taken lost.taker) ∷ []) None (entry lost.taker lost.sent (outcome.Lost (turned j lost.own_party)) ∷ []) so.two.own.crossings answer s) old.many lost.ends in
        let far = turned_ahead k lost.taker lost.own_party in_.1 lost.ahead in
        let on = subst (λ j. turned j lost.own_party ≤ j) old.many lost.on_ring in
        let ends = first_lost k A (old.entries ++ e) more lost.taker (own_echo lost.sent) (taken lost.taker (own_echo lost.sent) (own_echo-is lost.sent lost.data_frame) lost.talked) (turned k lost.own_party) far on in
        let one = taken_one k lost.taker sst (omega (arith, in_.1)) in
        inr (broke_off view k last own base r s arrived old e tail (ByteLost (turned k lost.own_party)) ends refl
        (let none = came_lost_ahead k lost.taker (turned k lost.own_party) lost.sent far on in omega (arith, one, none))
        (omega arith) not.log_is not.lent_is))
        off)
        (start_move view r s answer so.two old.controlled stands.2.kept_is a (so.control_is ∙ ap (λ p. control.Rounds p) at) calm (since_one a (devices_of (rest view r s answer so.two)) range.1 since))
