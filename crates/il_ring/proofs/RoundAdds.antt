-- What one round adds.
use Rattle.std.proofs.Common.{◌≡◌, ◌≢◌, ◌++◌, ◌⊎◌, inl, inr, ⊎_elim, ◌≤◌, ℕ, false, List, [], ◌∷◌, Option, Some, None, true, length, refl, sym, ap, subst, arith, ◌∙◌}
use Rattle.std.proofs.lemmas.List.{append_cancel_left}
use Rattle.il_frames.specs.declared.frame.Frame.{Frame}
use Rattle.il_frames.specs.declared.entry.Entry.{Entry}
use Rattle.il_frames.specs.Frames.{is_data}
use Rattle.il_frames.specs.Messages.{message_of}
use Rattle.il_device.specs.declared.device.Out.{Out}
use Rattle.il_ports.specs.Media.{MediumView}
use Rattle.il_drive.specs.Runs.{Ran}
use Rattle.il_frames.specs.NamedFrames.{entry}
use Rattle.loop_model.specs.Reach.{links_so_far}
use Rattle.loop_model.specs.Roles.{roles_after}
use Rattle.il_ring.specs.declared.plan.Arrival.{Arrival}
use Rattle.il_ring.specs.declared.plan.Arrival.TheVariants as arrival
use Rattle.il_ring.specs.declared.flight.Flight.{Flight}
use Rattle.il_ring.specs.Flights.{sourced}
use Rattle.il_ring.specs.Guests.{last_asked}
use Rattle.il_ring.specs.Rings.{RingView, Round, devices_of, roles_of}
use Rattle.il_ring.specs.Rounded.{Rounded, IsReady, AllTook, device_sending, holding}
use Rattle.il_ring.specs.Outcomes.{met_between, DriveHad, DriveDid, DriveTook}
use Rattle.il_ring.specs.Adds.{Adds}
use Rattle.std.specs.List.{list_all}
use Rattle.il_ring.specs.Polls.{is_no_poll, is_poll}
use Rattle.il_ring.proofs.Passing.{Carries}
use Rattle.il_ring.proofs.ControlledKeeps.{poll_never, round_places}
use Rattle.il_ring.proofs.Handing.{carried_lacks}
use Rattle.il_ring.proofs.RoundPlaces.{first_no_poll}
use Rattle.il_ring.proofs.RoundRoles.{IsQuiet}
use Rattle.il_device.specs.State.{DeviceState}
use Rattle.il_ring.proofs.RoundCounts.{round_counts}
use Rattle.il_ring.proofs.RoundEntries.{round_tells}
use Rattle.il_ring.proofs.RolesHome.{host_round, device_round, others_leave}
use Rattle.il_ring.proofs.Rings.{before-length, devices-length, round-plan, round-begun, round-room}

-- ---- the drive

-- at most one frame came to it
record DriveRan {M : Type 0} (view : M → MediumView) (r s : RingView M) : Type 0 where
  came : List Frame
  answers : List Out
  ran : Ran view r.drive came answers s.drive

drive_ran : {M : Type 0} (view : M → MediumView) (P : Frame → Type 0) (r s : RingView M) → DriveTook view P r s → DriveRan view r s
drive_ran view P r s (inl stays) = record { came = []; answers = []; ran = stays.0 }
drive_ran view P r s (inr took) = record { came = took.0 ∷ []; answers = took.2.0 ∷ []; ran = (s.drive, took.2.1.did, refl) }

-- these frames came to it: one such, or none, since a planned hop was reached
abbrev pub DriveCame : {M : Type 0} → (Frame → Type 0) → RingView M → RingView M → List Frame → Type 0
DriveCame P r s frames = ((frames ≡ []) × (met_between r s ≢ [])) ⊎ ((g : Frame) × P g × (frames ≡ g ∷ []))

-- ---- any round

-- a frame that may go round is one of a party of the ring
ready_within : (f : Flight) (ds : List DeviceState) → IsReady f ds → f.source ≤ length ds
ready_within f ds (inl host) = omega (arith, host)
ready_within f ds (inr awaited) = let there = awaited.there in let within = awaited.within in omega (arith, there, within)

-- whose entries these are, and which frame it leaves held
pub round_adds : {M : Type 0} (view : M → MediumView) (P : Frame → Type 0) (r s : RingView M) (held : Option Flight) (f : Flight) (answer : Arrival) (entries : List Entry) (to : Option ℕ) → Round view r held f answer s → (counts : Rounded r held f answer s) → f.source ≤ length (devices_of r)
    → s.books.log ≡ r.books.log ++ entries → holding counts.new ≡ to → roles_of (devices_of s) ≡ roles_after (roles_of (devices_of r)) entries → (list_all is_no_poll entries ≡ true → is_poll (message_of f.now) ≡ false) → DriveTook view P r s → Adds view r (device_sending f) entries to s
round_adds view P r s held f answer entries to round counts within log new roles unpolled took =
    let k = length (devices_of r) in
    let same : counts.entries ≡ entries = append_cancel_left r.books.log counts.entries entries (sym counts.log ∙ log) in
    let ran = drive_ran view P r s took in
    record {
      log = log;
      on = (round_tells view r s held f answer round entries within log).on;
      plan = round-plan view r s held f answer round;
      begun = round-begun view r s held f answer round;
      room = round-room view r s held f answer round;
      guest = (ap last_asked round.guest, λ under. round.guest);
      before = before-length view r s held f answer round;
      size = devices-length view r s held f answer round;
      links = counts.links;
      crossings = counts.crossings;
      linked = counts.linked ∙ ap (λ entries. links_so_far k entries (holding counts.new)) same ∙ ap (links_so_far k entries) new;
      frames = subst (λ to. AllTook k (device_sending f) entries to 0 (devices_of r) (devices_of s)) new (subst (λ entries. AllTook k (device_sending f) entries (holding counts.new) 0 (devices_of r) (devices_of s)) same counts.frames);
      roles = roles;
      places = λ none. round_places view r s held f answer (unpolled none) round;
      came = ran.came;
      answers = ran.answers;
      drive = ran.ran;
    }

-- ---- by kinds

-- a frame of the host, whose entry is among these
pub host_adds : {M : Type 0} (view : M → MediumView) (P : Frame → Type 0) (r s : RingView M) (held : Option Flight) (f : Frame) (answer : Arrival) (entries : List Entry) (to : Option ℕ) → Carries (message_of f) f → (round : Round view r held (sourced 0 f) answer s)
    → s.books.log ≡ r.books.log ++ entries → holding (round_counts view r s held (sourced 0 f) answer (inl refl) round).new ≡ to → DriveTook view P r s → Adds view r None entries to s
host_adds view P r s held f answer entries to carries round log new took =
    let hosted = host_round view r s held (sourced 0 f) (message_of f) answer refl refl carries round in
    let same : entry 0 f hosted.ended ∷ hosted.rest ≡ entries = append_cancel_left r.books.log (entry 0 f hosted.ended ∷ hosted.rest) entries (sym hosted.log ∙ log) in
    round_adds view P r s held (sourced 0 f) answer entries to round (round_counts view r s held (sourced 0 f) answer (inl refl) round) (omega arith) log new (hosted.roles ∙ ap (roles_after (roles_of (devices_of r))) same)
    (λ none. first_no_poll (entry 0 f hosted.ended) hosted.rest (ap (list_all is_no_poll) same ∙ none)) took

-- the held frame of a device
pub device_adds : {M : Type 0} (view : M → MediumView) (P : Frame → Type 0) (r s : RingView M) (held : Option Flight) (f : Flight) (answer : Arrival) (entries : List Entry) (to : Option ℕ) → IsQuiet f → (ready : IsReady f (devices_of r)) → (round : Round view r held f answer s)
    → s.books.log ≡ r.books.log ++ entries → holding (round_counts view r s held f answer ready round).new ≡ to → DriveTook view P r s → Adds view r (device_sending f) entries to s
device_adds view P r s held f answer entries to quiet ready round log new took =
    let past = device_round view r s held f answer quiet round in
    let same : past.entries ≡ entries = append_cancel_left r.books.log past.entries entries (sym past.log ∙ log) in
    round_adds view P r s held f answer entries to round (round_counts view r s held f answer ready round) (ready_within f (devices_of r) ready) log new
    (past.roles ∙ sym (others_leave (roles_of (devices_of r)) past.entries past.others) ∙ ap (roles_after (roles_of (devices_of r))) same) (λ none. carried_lacks is_poll poll_never quiet.message f.now quiet.carries quiet.no_poll) took

-- ---- the frames that came to the drive

pub host_came : {M : Type 0} (view : M → MediumView) (P : Frame → Type 0) (r s : RingView M) (held : Option Flight) (f : Frame) (answer : Arrival) (entries : List Entry) (to : Option ℕ) (carries : Carries (message_of f) f) (round : Round view r held (sourced 0 f) answer s)
    (log : s.books.log ≡ r.books.log ++ entries) (new : holding (round_counts view r s held (sourced 0 f) answer (inl refl) round).new ≡ to) (took : DriveTook view P r s) → DriveCame P r s (host_adds view P r s held f answer entries to carries round log new took).came
unfolding host_adds round_adds drive_ran
host_came view P r s held f answer entries to carries round log new (inl stays) = inl (refl, stays.1)
host_came view P r s held f answer entries to carries round log new (inr took) = inr (took.0, took.1, refl)

pub device_came : {M : Type 0} (view : M → MediumView) (P : Frame → Type 0) (r s : RingView M) (held : Option Flight) (f : Flight) (answer : Arrival) (entries : List Entry) (to : Option ℕ) (quiet : IsQuiet f) (ready : IsReady f (devices_of r)) (round : Round view r held f answer s)
    (log : s.books.log ≡ r.books.log ++ entries) (new : holding (round_counts view r s held f answer ready round).new ≡ to) (took : DriveTook view P r s) → DriveCame P r s (device_adds view P r s held f answer entries to quiet ready round log new took).came
unfolding device_adds round_adds drive_ran
device_came view P r s held f answer entries to quiet ready round log new (inl stays) = inl (refl, stays.1)
device_came view P r s held f answer entries to quiet ready round log new (inr took) = inr (took.0, took.1, refl)

-- one that it certainly answered
abbrev pub answered_some : (Frame → Out → Type 0) → Frame → Type 0
answered_some P g = (out : Out) × P g out

abbrev pub did_had : {M : Type 0} (view : M → MediumView) (P : Frame → Out → Type 0) (r s : RingView M) → DriveDid view P r s → DriveHad view (answered_some P) r s
did_had view P r s did = (did.0, (did.1.0, did.1.1), (did.1.0, did.1.2))

pub device_did : {M : Type 0} (view : M → MediumView) (P : Frame → Out → Type 0) (r s : RingView M) (held : Option Flight) (f : Flight) (answer : Arrival) (entries : List Entry) (to : Option ℕ) (quiet : IsQuiet f) (ready : IsReady f (devices_of r)) (round : Round view r held f answer s)
    (log : s.books.log ≡ r.books.log ++ entries) (new : holding (round_counts view r s held f answer ready round).new ≡ to) (did : DriveDid view P r s)
    → (g : Frame) × ((out : Out) × P g out × ((device_adds view (answered_some P) r s held f answer entries to quiet ready round log new (inr (did_had view P r s did))).came ≡ g ∷ []) × ((device_adds view (answered_some P) r s held f answer entries to quiet ready round log new (inr (did_had view P r s did))).answers ≡ out ∷ []))
unfolding device_adds round_adds drive_ran
device_did view P r s held f answer entries to quiet ready round log new did = (did.0, (did.1.0, did.1.1, refl, refl))

pub host_did : {M : Type 0} (view : M → MediumView) (P : Frame → Out → Type 0) (r s : RingView M) (held : Option Flight) (f : Frame) (answer : Arrival) (entries : List Entry) (to : Option ℕ) (carries : Carries (message_of f) f) (round : Round view r held (sourced 0 f) answer s)
    (log : s.books.log ≡ r.books.log ++ entries) (new : holding (round_counts view r s held (sourced 0 f) answer (inl refl) round).new ≡ to) (did : DriveDid view P r s)
    → (g : Frame) × ((out : Out) × P g out × ((host_adds view (answered_some P) r s held f answer entries to carries round log new (inr (did_had view P r s did))).came ≡ g ∷ []) × ((host_adds view (answered_some P) r s held f answer entries to carries round log new (inr (did_had view P r s did))).answers ≡ out ∷ []))
unfolding host_adds round_adds drive_ran
host_did view P r s held f answer entries to carries round log new did = (did.0, (did.1.0, did.1.1, refl, refl))

-- ---- which frame is held then

-- none, if none is
pub none_new : {M : Type 0} (r s : RingView M) (held : Option Flight) (f : Flight) (answer : Arrival) (counts : Rounded r held f answer s) → s.books.held ≡ None → holding counts.new ≡ None
none_new r s held f answer counts none = ⊎_elim (λ is. ap holding (sym is ∙ none)) (λ is. ap holding is.0) counts.held_is

-- none, if no data frame arrives
pub plain_new : {M : Type 0} (r s : RingView M) (held : Option Flight) (f : Flight) (g : Frame) (answer : Arrival) (counts : Rounded r held f answer s) → answer ≡ arrival.Frame g → is_data g ≡ false → holding counts.new ≡ None
plain_new r s held f g answer counts arrives plain = by_new counts.new refl
  where
    by_new : (new : Option Flight) → counts.new ≡ new → holding new ≡ None
    by_new None is = refl
    by_new (Some h) is =
        let told = counts.new_is h is in
        let same : g ≡ h.now = ap (λ answer. elim answer [ arrival.Frame f ↦ f | arrival.Lost ↦ g ]) (sym arrives ∙ told.0) in
        let clash = sym plain ∙ ap is_data same ∙ told.1 in cc

-- the one that is, if none was
pub held_new : {M : Type 0} (r s : RingView M) (f g : Flight) (answer : Arrival) (counts : Rounded r None f answer s) → s.books.held ≡ Some g → holding counts.new ≡ Some g.source
held_new r s f g answer counts held = ⊎_elim (λ is. ap holding (sym is ∙ held)) (λ is. let clash = sym held ∙ is.1 in cc) counts.held_is
