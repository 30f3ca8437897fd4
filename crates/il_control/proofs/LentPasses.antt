-- While a ring is lent: a pass, and the passes of a poll.
use Rattle.il_control.proofs.Calls.{unheard_then}
use Rattle.std.proofs.Common.{◌≡◌, ◌∙◌, ◌⊎◌, ◌≢◌, inl, inr, ⊎_elim, ◌≤◌, ◌<◌, ◌+◌, ◌*◌, ◌++◌, ℕ, true, false, List, [], ◌∷◌, Option, Some, length, refl, sym, ap, subst, arith, length-append}
use Rattle.std.specs.Prelude.{IfSome, IsSome}
use Rattle.il_frames.specs.declared.entry.Entry.{Entry}
use Rattle.il_frames.specs.declared.frame.Class.{Class}
use Rattle.il_frames.specs.declared.frame.Class.TheVariants as class
use Rattle.il_frames.specs.declared.frame.Frame.{Frame}
use Rattle.il_frames.specs.Frames.{framed, is_data, is_data_class}
use Rattle.il_frames.specs.NamedFrames.{nrd, rfc}
use Rattle.il_guest.specs.declared.control.Command.{Command}
use Rattle.il_guest.specs.declared.control.Place.{Place}
use Rattle.il_guest.specs.declared.control.Place.TheVariants as place
use Rattle.il_guest.specs.Frames.{sst}
use Rattle.il_guest.specs.Steps.{IsAsked, IsRoundPlace, command_frame}
use Rattle.il_guest.proofs.SentLemmas.{command_says, message_of-command}
use Rattle.il_ring.specs.Flights.{sourced}
use Rattle.il_control.specs.Polling.{StandsSo}
use Rattle.il_frames.specs.Messages.{message_of}
use Rattle.il_device.specs.State.{DeviceState}
use Rattle.il_ports.specs.Media.{MediumView}
use Rattle.il_ring.specs.declared.flight.Flight.{Flight}
use Rattle.il_ring.specs.declared.plan.Arrival.{Arrival}
use Rattle.il_ring.specs.declared.plan.Arrival.TheVariants as arrival
use Rattle.il_ring.specs.ControlledAdds.{IsUnderWay, ControlledAdds, ControlledKeeps, ControlledSince}
use Rattle.il_ring.specs.Lending.{IsControlled, ControlledRound, StandsNow, going_on}
use Rattle.il_ring.specs.Lists.{Each, First}
use Rattle.il_ring.specs.Outcomes.{AllKeep, HearsNothing, IsDeaf, met_between}
use Rattle.il_ring.specs.Polls.{KeepsPlace, is_listen_address, is_poll}
use Rattle.il_ring.specs.Rings.{RingView, devices_of, spare_of}
use Rattle.il_ring.proofs.ControlledKeeps.{controlled_keeps}
use Rattle.il_control.specs.Lent.{IsLentNow, KeptSince, LentBroke, LentSo, PolledUntil, PolledSoFar, base_of, last_of}
use Rattle.il_control.specs.Polling.{BrokeOff, Polling}
use Rattle.il_control.proofs.LentDrive.{drive_left, drive_went}
use Rattle.il_control.proofs.LentDriveAnswers.{answers_left, answers_passes}
use Rattle.il_ring.specs.Flights.{HasAltered}
use Rattle.il_ring.proofs.ControlledAltered.{controlled_altered}
use Rattle.il_control.proofs.LentReached.{breaks_met, met_since, met_until, risen_up}
use Rattle.il_control.proofs.LentRounds.{Passed, goes_or_breaks}
use Rattle.il_control.proofs.LentSums.{since_polls, under_way}
use Rattle.il_ring.proofs.MessageKinds.{each_command}

-- ---- what stays

-- nobody who does not listen hears anything
unheard_deaf : (j : ℕ) (ds es : List DeviceState) → AllKeep ds es → Each IsDeaf j ds → First HearsNothing (length ds) ds es
unheard_deaf j [] [] keep deaf = tt
unheard_deaf j [] (e ∷ es) keep deaf = keep
unheard_deaf j (d ∷ ds) [] keep deaf = keep
unheard_deaf j (d ∷ ds) (e ∷ es) keep deaf =
    let same = keep.0.unheard deaf.0 in
    (record { heard = same.0; heard_count = same.1; room = keep.0.room; accessory = keep.0.accessory }, unheard_deaf (j + 1) ds es keep.1 deaf.1)

pub places_then : (ds es fs : List DeviceState) → First KeepsPlace (length ds) ds es → First KeepsPlace (length es) es fs → First KeepsPlace (length ds) ds fs
places_then [] [] fs one more = more
places_then [] (e ∷ es) fs one more = absurd one
places_then (d ∷ ds) [] fs one more = absurd one
places_then (d ∷ ds) (e ∷ es) [] one more = absurd more
places_then (d ∷ ds) (e ∷ es) (f ∷ fs) one more = (more.0 ∙ one.0, places_then ds es fs one.1 more.1)

-- a round more, of a frame that is neither a listen address nor a poll message
pub kept_more : {M : Type 0} (f : Frame) (q r s : RingView M) → KeptSince q r → ControlledKeeps f r s → Each IsDeaf 1 (devices_of r) → is_poll (message_of f) ≡ false → KeptSince q s
kept_more f q r s kept keeps deaf no_poll = record {
  plan = keeps.plan ∙ kept.plan;
  begun = keeps.begun ∙ kept.begun;
  room = keeps.room ∙ kept.room;
  before = keeps.before ∙ kept.before;
  last = keeps.last ∙ kept.last;
  unheard = unheard_then (devices_of q) (devices_of r) (devices_of s) kept.unheard (unheard_deaf 1 (devices_of r) (devices_of s) keeps.kept deaf);
  places = places_then (devices_of q) (devices_of r) (devices_of s) kept.places (keeps.places no_poll);
}

keeps_on : {M : Type 0} (f : Frame) (r s : RingView M) → ControlledKeeps f (going_on r) s → ControlledKeeps f r s
keeps_on f r s keeps = record {
  plan = keeps.plan;
  begun = keeps.begun;
  room = keeps.room;
  before = keeps.before;
  last = keeps.last;
  kept = keeps.kept;
  deaf = keeps.deaf;
  places = keeps.places;
}

-- ---- which frame is at the host

-- it has nobody listen, and gives no place in the poll
pub record IsMute (f : Frame) : Type 0 where
  pub no_poll : is_poll (message_of f) ≡ false
  pub no_listener : is_listen_address (message_of f) ≡ false

data_mute : (f : Frame) → is_data f ≡ true → IsMute f
data_mute f is = by f.class f.byte is
  where
    by : (c : Class) (byte : ℕ) → is_data_class c ≡ true → IsMute (framed c byte)
    by class.Dab byte is = record { no_poll = refl; no_listener = refl }
    by class.Dsr byte is = record { no_poll = refl; no_listener = refl }
    by class.End byte is = record { no_poll = refl; no_listener = refl }
    by class.Esr byte is = record { no_poll = refl; no_listener = refl }
    by class.Cmd byte is = cc
    by class.Rdy byte is = cc
    by class.Idy byte is = cc
    by class.Isr byte is = cc

command_mute : (c : Command) → IsAsked c → IsMute (command_frame c)
command_mute c range =
    let says = message_of-command c range in
    record { no_poll = ap is_poll says ∙ no_poll c; no_listener = ap is_listen_address says ∙ no_listener c }
  where
    no_poll : (c : Command) → is_poll (command_says c) ≡ false
    no_poll = each_command (λ c. is_poll (command_says c) ≡ false) refl (λ a. refl) (λ a. refl) (λ a. refl)

    no_listener : (c : Command) → is_listen_address (command_says c) ≡ false
    no_listener = each_command (λ c. is_listen_address (command_says c) ≡ false) refl (λ a. refl) (λ a. refl) (λ a. refl)

module _ {M : Type 0} (view : M → MediumView) (k last : ℕ) (own : Option ℕ) (base : List Entry) (r : RingView M) (arrived : ℕ) (old : Polling view k last own base r arrived) where
  abbrev pub StandsMute : Type 0
  StandsMute = (f : Flight) × (r.books.lent ≡ Some f) × IsMute f.now

  mute_at : (p : Place) → old.place ≡ p → StandsMute
  mute_at (place.Command c) at =
      let stands = subst (λ p. StandsSo view k last own base p r old.boxed old.entries) at old.stands in
      (sourced k (command_frame c), stands.2.lent_is, command_mute c (subst IsRoundPlace at old.range))
  mute_at (place.Ready c) at =
      let stands = subst (λ p. StandsSo view k last own base p r old.boxed old.entries) at old.stands in
      (sourced k rfc, stands.2.lent_is, record { no_poll = refl; no_listener = refl })
  mute_at (place.Start a) at =
      let stands = subst (λ p. StandsSo view k last own base p r old.boxed old.entries) at old.stands in
      (sourced k sst, stands.2.lent_is, record { no_poll = refl; no_listener = refl })
  mute_at (place.Held a d) at =
      let stands = subst (λ p. StandsSo view k last own base p r old.boxed old.entries) at old.stands in
      (sourced k nrd, stands.2.lent_is, record { no_poll = refl; no_listener = refl })
  mute_at (place.Relayed a d) at =
      let stands = subst (λ p. StandsSo view k last own base p r old.boxed old.entries) at old.stands in
      let data_frame = subst (λ (f : Flight). is_data f.now ≡ true) stands.2.holding_is stands.2.holding.stood.data_frame in
      (stands.2.flight, stands.2.lent_is, data_mute stands.2.flight.now data_frame)

  pub stands_mute : StandsMute
  stands_mute = mute_at old.place refl

-- ---- a pass

module _ {M : Type 0} (view : M → MediumView) (a : ℕ) (q r s : RingView M) (arrived : ℕ) (answer : Arrival) (so : LentSo view a q r arrived) where
  abbrev k : ℕ
  k = length (devices_of q)

  abbrev own_last : ℕ
  own_last = last_of q.guest

  -- while it polls a frame is at the host
  pub lent_some : IsSome r.books.lent
  lent_some = let stands = stands_mute view k own_last (Some k) (base_of a q) r arrived so.polls in subst IsSome (sym stands.1) refl

  module _ (controlled : IsControlled r → IsControlled s × StandsNow answer s.books.lent) (round : IfSome r.books.lent (λ f. ControlledRound view (going_on r) f answer s)) (passed : IsControlled r → Passed view r answer s) (counts : IsControlled r → (f : Flight) → IsUnderWay r f → ControlledAdds r s) where
    next : Polling view k own_last (Some k) (base_of a q) s (arrived + 1) ⊎ BrokeOff view k own_last (Some k) (base_of a q) s (arrived + 1)
    next = goes_or_breaks view k own_last (Some k) (base_of a q) r s arrived answer so.polls (passed so.polls.controlled) (controlled so.polls.controlled).0

    stood : StandsMute view k own_last (Some k) (base_of a q) r arrived so.polls
    stood = stands_mute view k own_last (Some k) (base_of a q) r arrived so.polls

    keeps : ControlledKeeps stood.0.now r s
    keeps = keeps_on stood.0.now r s (controlled_keeps view (going_on r) s stood.0 answer (subst (λ lent. IfSome lent (λ f. ControlledRound view (going_on r) f answer s)) stood.1 round))

    adds : ControlledAdds r s
    adds = let way = under_way view k own_last (Some k) (base_of a q) r arrived so.polls in counts so.polls.controlled way.0 way.1

    since : ControlledSince 0 k q s (so.added ++ adds.counts.entries)
    since = since_polls view k own_last (Some k) (base_of a q) 0 q r s arrived (arrived + 1) so.added so.since so.polls next adds

    kept : KeptSince q s
    kept = kept_more stood.0.now q r s so.kept keeps so.deaf stood.2.no_poll

    plan_same : r.books.plan ≡ q.books.plan
    plan_same = so.kept.plan

    up : r.books.crossings ≤ s.books.crossings
    up = risen_up adds.counts.links r.books.crossings s.books.crossings so.polls.controlled.crossings adds.counts.crossings

    -- what was altered before, or now
    met_now : (HasAltered r.books.lent ⊎ HasAltered r.books.kept) ⊎ (met_between r s ≢ []) → met_between q s ≢ []
    met_now (inl way) = met_until q r s up (so.altered way)
    met_now (inr some) = met_since q r s plan_same low some
      where
        low : q.books.crossings ≤ r.books.crossings
        low = risen_up so.since.links q.books.crossings r.books.crossings so.from so.since.crossings

    altered_on : HasAltered s.books.lent ⊎ HasAltered s.books.kept → met_between q s ≢ []
    altered_on way = met_now (⊎_elim
        (λ before. inl (⊎_elim (λ altered. inl (stood.0, stood.1, altered)) (λ way. inr way) before))
        (λ some. inr some)
        (controlled_altered view (going_on r) s stood.0 answer (subst (λ lent. IfSome lent (λ f. ControlledRound view (going_on r) f answer s)) stood.1 round) so.polls.controlled.crossings (controlled so.polls.controlled).0.leads way))

    -- a frame came to the host
    pub pass_goes : (g : Frame) → answer ≡ arrival.Frame g → LentSo view a q s (arrived + 1)
    pass_goes g is = ⊎_elim
        (λ polls. record { at = so.at; few_asked = so.few_asked; polls = polls; added = so.added ++ adds.counts.entries; since = since; kept = kept; deaf = keeps.deaf stood.2.no_listener so.deaf; answers = answers_passes view k own_last (Some k) (base_of a q) r s arrived answer so.polls (passed so.polls.controlled) (controlled so.polls.controlled).0 so.answers polls; drive = (drive_went view k own_last (Some k) (base_of a q) r s arrived answer so.polls (passed so.polls.controlled) (controlled so.polls.controlled).0 q.drive so.drive).on (stands_mute view k own_last (Some k) (base_of a q) s (arrived + 1) polls).0 (stands_mute view k own_last (Some k) (base_of a q) s (arrived + 1) polls).1; from = so.from; altered = altered_on })
        (λ off. let now = subst (λ answer. StandsNow answer s.books.lent) is (controlled so.polls.controlled).1 in let clash = sym off.lent_is ∙ now.1 in cc)
        next

    -- none did
    pub pass_breaks : (limit : ℕ) → arrived < limit → answer ≡ arrival.Lost → LentBroke view a q limit s
    pass_breaks limit less is = ⊎_elim
        (λ polls.
        let then_ = stands_mute view k own_last (Some k) (base_of a q) s (arrived + 1) polls in
        let now = subst (λ answer. StandsNow answer s.books.lent) is (controlled so.polls.controlled).1 in
        let clash = sym now ∙ then_.1 in cc)
        (λ off. record { at = so.at; few_asked = so.few_asked; arrived = arrived + 1; few = omega (arith, less); off = off; controlled = (controlled so.polls.controlled).0; added = so.added ++ adds.counts.entries; since = since; kept = kept; answers = answers_left view k own_last (Some k) (base_of a q) r s arrived answer so.polls (passed so.polls.controlled) (controlled so.polls.controlled).0 so.answers; drive = drive_left view k own_last (Some k) (base_of a q) r s arrived answer so.polls (passed so.polls.controlled) (controlled so.polls.controlled).0 q.drive so.drive; met = met_now (⊎_elim (λ some. inr some) (λ way. inl way) (breaks_met view k own_last (Some k) (base_of a q) r s arrived answer so.polls (passed so.polls.controlled) (controlled so.polls.controlled).0 off.lent_is)) })
        next

-- ---- all passes

-- the room that is left
polls_room : {M : Type 0} (view : M → MediumView) (a : ℕ) (q old now : RingView M) (arrived limit : ℕ) → LentSo view a q old 1 → LentSo view a q now arrived → arrived ≤ limit → 32 + 2 * limit ≤ spare_of old → 32 ≤ spare_of now
polls_room view a q old now arrived limit first so few room =
    let then_ = ap length so.polls.log ∙ length-append (base_of a q) so.polls.entries in
    let before = ap length first.polls.log ∙ length-append (base_of a q) first.polls.entries in
    let short = so.polls.short in
    let same = so.kept.room in
    let same_first = first.kept.room in
    omega (arith, then_, before, short, same, same_first, few, room)

module _ {M : Type 0} (view : M → MediumView) (old now : RingView M) (lent : IsLentNow view old 1) (arrived limit : ℕ) (so : PolledSoFar view old arrived now) where
  first : LentSo view lent.0 lent.1 now arrived
  first = so lent.0 lent.1 lent.2

  pub poll_lent : IsSome now.books.lent
  poll_lent = lent_some view lent.0 lent.1 now now arrived arrival.Lost first

  pub poll_room : arrived ≤ limit → 32 + 2 * limit ≤ spare_of old → 32 ≤ spare_of now
  poll_room few room = polls_room view lent.0 lent.1 old now arrived limit lent.2 first few room

  module _ (s : RingView M) (answer : Arrival) (controlled : IsControlled now → IsControlled s × StandsNow answer s.books.lent) (round : IfSome now.books.lent (λ f. ControlledRound view (going_on now) f answer s)) (passed : IsControlled now → Passed view now answer s) (counts : IsControlled now → (f : Flight) → IsUnderWay now f → ControlledAdds now s) where
    pub poll_next : (g : Frame) → answer ≡ arrival.Frame g → PolledSoFar view old (arrived + 1) s
    poll_next g is a q one = pass_goes view a q now s arrived answer (so a q one) controlled round passed counts g is

    pub poll_breaks : arrived < limit → answer ≡ arrival.Lost → PolledUntil view false old limit s
    poll_breaks less is a q one = pass_breaks view a q now s arrived answer (so a q one) controlled round passed counts limit less is

  -- the last has come
  pub poll_ends : arrived ≤ limit → limit ≤ arrived → PolledUntil view true old limit now
  poll_ends few many a q one = let same : arrived ≡ limit = omega (arith, few, many) in subst (LentSo view a q now) same (so a q one)
