-- A start message, as a call.
use Rattle.il_ring.specs.Adds.{Adds}
use Rattle.il_device.specs.declared.device.Out.TheVariants.{Pass, Source}
use Rattle.il_device.specs.declared.device.Out.{Out}
use Rattle.std.proofs.Common.{◌≡◌, ◌≢◌, ◌∙◌, ◌+◌, ◌-◌, ◌++◌, inl, inr, ⊎_elim, ℕ, Bool, true, false, not, List, [], ◌∷◌, Option, Some, None, refl, sym, ap, subst, arith, length, ◌≤◌, ◌<◌}
use Rattle.std.specs.Prelude.{MatchBool, is_some, option_map}
use Rattle.std.proofs.Math.Nat.{eq-zero-or-pos}
use Rattle.std.proofs.lemmas.Bool.{and_from}
use Rattle.il_frames.specs.declared.frame.Frame.{Frame}
use Rattle.il_frames.specs.declared.entry.Entry.{Entry}
use Rattle.il_frames.specs.declared.entry.Outcome.TheVariants as outcome
use Rattle.il_frames.specs.Messages.{message_of}
use Rattle.il_frames.specs.declared.message.Message.TheVariants as msg
use Rattle.il_device.specs.State.{DeviceState}
use Rattle.il_device.specs.declared.roles.Roles.{Roles}
use Rattle.il_device.specs.Roles.{is_start}
use Rattle.il_device.proofs.Laws.{changes_roles}
use Rattle.il_ports.specs.Media.{MediumView}
use Rattle.il_guest.specs.Frames.{tct}
use Rattle.il_frames.specs.NamedFrames.{entry, is_frame}
use Rattle.loop_model.specs.Exchanges.{Start, Sda, Sst, Sdi, Sai, start_frame, Echo, FrameLost, returned, echoed}
use Rattle.loop_model.specs.Reach.{brings_to}
use Rattle.loop_model.specs.Roles.{talkers, is_at_most_one, roles_after}
use Rattle.loop_model.proofs.RoleSteps.{roles_after-kept}
use Rattle.il_ring.specs.declared.plan.Arrival.{Arrival}
use Rattle.il_ring.specs.declared.plan.Arrival.TheVariants as arrival
use Rattle.il_ring.specs.declared.flight.Flight.{Flight}
use Rattle.il_ring.specs.Flights.{sourced}
use Rattle.il_ring.specs.Lists.{Each, First, NoneSends}
use Rattle.il_ring.specs.Guests.{IsUnderHost}
use Rattle.il_ring.specs.Rings.{RingView, IsRing, Round, devices_of, roles_of, drive_party}
use Rattle.il_ring.specs.Rounded.{Rounded, holding}
use Rattle.il_ring.specs.Outcomes.{met_between, DriveTook, IsBrought, IsHeldNow, IsLostNow, LetsPass, StartReturned, StartGone, StartTaken, DriveSawStart, DriveDid}
use Rattle.il_ring.specs.Journeys.{is_exact}
use Rattle.il_ring.proofs.Passing.{Carries, Exactly}
use Rattle.il_ring.proofs.Rings.{IsRing-send}
use Rattle.il_ring.proofs.RoundAdds.{answered_some, did_had, host_did, host_adds, host_came, none_new, held_new}
use Rattle.il_ring.proofs.RoundCounts.{round_counts}
use Rattle.il_ring.proofs.SendLaws.{kept_sent}
use Rattle.il_ring.proofs.StartDrive.{start_at_drive}
use Rattle.il_control.specs.Calls.{IsFree, Unheard, Whole}
use Rattle.il_control.specs.Brought.{Brought, BroughtIf, CutBrought, ComesAs}
use Rattle.il_control.specs.Receives.{AddsBy, Brings, IsCalm, IsDeaf, IsNameless, BeginWhole, BeginBroken, StartLost, FirstLost, Begins, own_frames}
use Rattle.il_control.specs.declared.receiving.Begun.TheVariants as begun
use Rattle.il_control.proofs.Brought.{cut_brought_one, may_come}
use Rattle.il_control.proofs.Relaying.{deaf_unheard, deaf_still, right_echo, spoken_one}
use Rattle.il_control.proofs.Spoken.{device_source, near_source, start_comes, taken_brings}

-- ---- calm devices

pub calm_none : (k : ℕ) (ds : List DeviceState) → Each IsCalm k ds → NoneSends ds
calm_none k [] calm = tt
calm_none k (d ∷ ds) calm = (calm.0.1, calm_none (k + 1) ds calm.1)

pub calm_deaf : (k : ℕ) (ds : List DeviceState) → Each IsCalm k ds → Each IsDeaf k ds
calm_deaf k [] calm = tt
calm_deaf k (d ∷ ds) calm = (calm.0.0, calm_deaf (k + 1) ds calm.1)

-- ---- start messages

-- no talker that let SAI pass has an accessory ID
nameless : (f : Frame) (k : ℕ) (ds es : List DeviceState) → message_of f ≡ msg.Sai → First (LetsPass f) (length ds) ds es → Each IsNameless k ds
nameless f k [] [] sai took = tt
nameless f k (d ∷ ds) (e ∷ es) sai took = (took.0.no_id sai, nameless f (k + 1) ds es sai took.1)
nameless f k [] (e ∷ es) sai took = absurd took
nameless f k (d ∷ ds) [] sai took = absurd took

pub starts : (s : Start) → is_start (message_of (start_frame s)) ≡ true
starts Sda = refl
starts Sst = refl
starts Sdi = refl
starts Sai = refl

pub start_hands : (s : Start) → is_frame (start_frame s) tct ≡ false
start_hands Sda = refl
start_hands Sst = refl
start_hands Sdi = refl
start_hands Sai = refl

start_exact : (s : Start) → is_exact (message_of (start_frame s)) ≡ true
start_exact Sda = refl
start_exact Sst = refl
start_exact Sdi = refl
start_exact Sai = refl

start_keeps : (s : Start) → changes_roles (message_of (start_frame s)) ≡ false
start_keeps Sda = refl
start_keeps Sst = refl
start_keeps Sdi = refl
start_keeps Sai = refl

start_roles : (rs : List Roles) (s : Start) (p : ℕ) → roles_after rs (entry 0 (start_frame s) (outcome.Taken p) ∷ []) ≡ rs
start_roles rs s p = roles_after-kept rs (entry 0 (start_frame s) (outcome.Taken p) ∷ []) (and_from _ true (ap not (start_keeps s)) refl)

-- ---- the round

-- what came of it, by what arrived and whether a frame is held then
pub data StartEnd {M : Type 0} (view : M → MediumView) (r : RingView M) (f : Frame) (answer : Arrival) (s : RingView M) : Type 0 where
  ItPassed : (g : Frame) → answer ≡ arrival.Frame g → s.books.held ≡ None → (whole : Whole view r (returned 0 f ∷ []) s) → own_frames whole.adds.answers ≡ [] → (message_of f ≡ msg.Sai → Each IsNameless 1 (devices_of r)) → Unheard r s → StartEnd view r f answer s
  ItBegan : (g : Frame) → answer ≡ arrival.Frame g → (flight : Flight) → s.books.held ≡ Some flight → BeginWhole view f r s → StartEnd view r f answer s
  ItFailed : answer ≡ arrival.Lost → BeginBroken view f r s → StartEnd view r f answer s

module _ {M : Type 0} (view : M → MediumView) (r s : RingView M) (held : Option Flight) (start : Start) (answer : Arrival) (round : Round view r held (sourced 0 (start_frame start)) answer s) (none : held ≡ None) (free : IsFree r) (host : IsUnderHost r.guest)
    (one : is_at_most_one (talkers (roles_of (devices_of r))) ≡ true) (calm : Each IsCalm 1 (devices_of r)) where
  abbrev f : Frame
  f = start_frame start

  abbrev counts : Rounded r held (sourced 0 f) answer s
  counts = round_counts view r s held (sourced 0 f) answer (inl refl) round

  carries : Carries (message_of f) f
  carries = Exactly (start_exact start) refl

  ring : IsRing s
  ring = IsRing-send view r s held f answer round free.ring (inl none)

  unheard : Unheard r s
  unheard = deaf_unheard 1 (devices_of r) (devices_of s) (kept_sent view r s held (sourced 0 f) answer round) (calm_deaf 1 (devices_of r) calm)

  -- the devices do not listen still
  deaf : roles_of (devices_of s) ≡ roles_of (devices_of r) → Each IsDeaf 1 (devices_of s)
  deaf same = deaf_still 1 (devices_of r) (devices_of s) same (calm_deaf 1 (devices_of r) calm)

  -- every device passed it on, the drive too
  passed : StartReturned r held f answer s → DriveDid view (λ g out. (g ≡ f) × (out ≡ Pass f)) r s → StartEnd view r f answer s
  passed back did =
      let returned = back.returned in
      let held_is = returned.held_is ∙ none in
      let P : Frame → Out → Type 0 = λ g out. (g ≡ f) × (out ≡ Pass f) in
      let new = none_new r s held (sourced 0 f) answer counts held_is in
      let entries : List Entry = entry 0 f (outcome.Back f) ∷ [] in
      let so = host_did view P r s held f answer entries None carries round returned.log new did in
      let adds : Adds view r None entries None s = host_adds view (answered_some P) r s held f answer entries None carries round returned.log new (inr (did_had view P r s did)) in
      ItPassed f returned.answer_is held_is
      (record {
        adds = adds;
        ring = ring;
        held = held_is;
        met_none = returned.met_none;
        unheard = λ none. unheard;
        brought = λ from. subst (Brought (length (devices_of r)) (drive_party r) entries) (sym so.1.2) (start_comes (drive_party r) start so.0 so.1.1.0, refl);
      })
      (ap own_frames so.1.3 ∙ ap (λ out. own_frames (out ∷ [])) so.1.1.1)
      (λ sai. nameless f 1 (devices_of r) (devices_of s) sai back.took)
      unheard

  gone : StartGone r f answer s → DriveTook view (λ g. g ≡ f) r s → StartEnd view r f answer s
  gone start_gone took =
      let lost = start_gone.lost in
      ItFailed lost.answer_is
      (StartLost
      (record {
        standing = 0;
        break = FrameLost lost.party;
        legal = refl;
        held_at_end = None;
        told = λ none. refl;
        adds = host_adds view (λ g. g ≡ f) r s held f answer (entry 0 f (outcome.Lost lost.party) ∷ []) None carries round lost.log (none_new r s held (sourced 0 f) answer counts lost.held_is) took;
        ring = ring;
        held = lost.held_is;
        met_some = lost.met_some;
        unheard = λ none. unheard;
        brought = λ from. cut_brought_one (λ g. g ≡ f) r s (length (devices_of r)) (drive_party r) f (outcome.Back f) _ (λ g is. may_come (drive_party r) f g (start_comes (drive_party r) start g is))
            (host_came view (λ g. g ≡ f) r s held f answer (entry 0 f (outcome.Lost lost.party) ∷ []) None carries round lost.log (none_new r s held (sourced 0 f) answer counts lost.held_is) took);
      })
      unheard)

  -- with its answer, if the drive is that party
  did_so : (p : ℕ) (sent : Frame) → drive_party r ≤ p → DriveSawStart view f p sent r s → DriveDid view (λ g out. (g ≡ f) × (drive_party r ≡ p → out ≡ Source sent)) r s
  did_so p sent near saw =
      ⊎_elim
      (λ (none : p - drive_party r ≡ 0). let did = saw.said (omega (arith, none, near)) in (did.0, (did.1.0, (did.1.1.0, λ _. did.1.1.1), did.1.2)))
      (λ some. let had = saw.up_to near in (had.0, (had.2.0, (had.1, λ at. absurd (omega (arith, some, at))), had.2.1)))
      (eq-zero-or-pos (p - drive_party r))

  -- what was added, by the drive's place
  added_by : (p : ℕ) (sent : Frame) (entries : List Entry) (to : Option ℕ) (B : ℕ → ℕ → List Frame → List Out → Type 0) → s.books.log ≡ r.books.log ++ entries → holding counts.new ≡ to → DriveSawStart view f p sent r s
      → (drive_party r ≤ p → (g : Frame) (out : Out) → g ≡ f → (drive_party r ≡ p → out ≡ Source sent) → B (length (devices_of r)) (drive_party r) (g ∷ []) (out ∷ [])) → AddsBy view r p None entries to B s
  added_by p sent entries to B log new saw brought =
      ⊎_elim
      (λ (none : drive_party r - p ≡ 0).
      let near : drive_party r ≤ p = omega (arith, none) in
      let did = did_so p sent near saw in
      let so = host_did view (λ g out. (g ≡ f) × (drive_party r ≡ p → out ≡ Source sent)) r s held f answer entries to carries round log new did in
      let adds : Adds view r None entries to s =
      host_adds view (answered_some (λ g out. (g ≡ f) × (drive_party r ≡ p → out ≡ Source sent))) r s held f answer entries to carries round log new (inr (did_had view (λ g out. (g ≡ f) × (drive_party r ≡ p → out ≡ Source sent)) r s did)) in
      record {
        adds = adds;
        near = λ _. subst (λ gs. B (length (devices_of r)) (drive_party r) gs adds.answers) (sym so.1.2) (subst (λ outs. B (length (devices_of r)) (drive_party r) (so.0 ∷ []) outs) (sym so.1.3) (brought near so.0 so.1.0 so.1.1.0 so.1.1.1));
        far = λ far. absurd (omega (arith, near, far));
      })
      (λ some.
      let far : p < drive_party r = omega (arith, some) in
      let took = saw.after far in
      record {
        adds = host_adds view (IsBrought r s sent) r s held f answer entries to carries round log new took;
        near = λ near. absurd (omega (arith, near, far));
        far = λ _. spoken_one (IsBrought r s sent) r s _ (λ g came. inl came.0) (host_came view (IsBrought r s sent) r s held f answer entries to carries round log new took);
      })
      (eq-zero-or-pos (drive_party r - p))

  -- the message came to the drive up to the party that took it
  start_brought : (p : ℕ) (g : Frame) (rest : List Frame → Type 0) → drive_party r ≤ p → g ≡ f → rest [] → BroughtIf (brings_to (length (devices_of r)) (drive_party r) (entry 0 f (outcome.Taken p))) (ComesAs (drive_party r) f) rest (g ∷ [])
  start_brought p g rest near is nothing =
      subst (λ b. BroughtIf b (ComesAs (drive_party r) f) rest (g ∷ [])) (sym (taken_brings (length (devices_of r)) (drive_party r) p f (omega arith) near)) (start_comes (drive_party r) start g is, nothing)

  begun_at : (taken : StartTaken r f answer s) → DriveSawStart view f taken.party taken.sent r s → StartEnd view r f answer s
  begun_at taken saw =
      let p = taken.party in
      ⊎_elim
      (λ (end : (altered : Bool) × IsHeldNow r (entry 0 f (outcome.Taken p) ∷ []) p taken.sent altered answer s × MatchBool altered (met_between r s ≢ []) (met_between r s ≡ [])).
      let now = end.1 in
      let flight : Flight = record { source = p; sent = taken.sent; now = now.now; altered = end.0 } in
      let added : Brings view r p (λ gs. gs ≡ taken.sent ∷ []) None (entry 0 f (outcome.Taken p) ∷ []) (Some p) s =
      added_by p taken.sent (entry 0 f (outcome.Taken p) ∷ []) (Some p) (λ k q gs outs. Brought k q (entry 0 f (outcome.Taken p) ∷ []) gs × (q ≡ p → own_frames outs ≡ taken.sent ∷ [])) now.log (held_at flight now.held_is) saw
      (λ near g out is told. (start_brought p g (λ gs. gs ≡ []) near is refl, λ at. ap (λ out. own_frames (out ∷ [])) (told at))) in
      ItBegan now.now now.answer_is flight now.held_is
      (record {
        now = record {
          ring = ring;
          host = subst IsUnderHost (sym round.guest) host;
          flight = flight;
          held = now.held_is;
          data_frame = taken.data_frame;
          stood = record { data_frame = now.data_frame; same = now.same; other = now.other };
          own = taken.own;
          talking = taken.talking;
          frame = taken.own_frame;
          deaf = deaf (added.adds.roles ∙ start_roles (roles_of (devices_of r)) start p);
        };
        added = added;
        talked = taken.talking_before;
        id = taken.id;
        met = end.2;
        unheard = unheard;
      }))
      (λ (lost : IsLostNow r (entry 0 f (outcome.Taken p) ∷ []) p taken.sent answer s).
      let d : Echo = record { sent = taken.sent; back = taken.sent } in
      let added : AddsBy view r p None (entry 0 f (outcome.Taken p) ∷ entry p taken.sent (outcome.Lost lost.party) ∷ []) None (λ k q gs outs. CutBrought k q (entry 0 f (outcome.Taken p) ∷ echoed p d ∷ []) 1 gs) s =
      added_by p taken.sent (entry 0 f (outcome.Taken p) ∷ entry p taken.sent (outcome.Lost lost.party) ∷ []) None (λ k q gs outs. CutBrought k q (entry 0 f (outcome.Taken p) ∷ echoed p d ∷ []) 1 gs) lost.log (none_new r s held (sourced 0 f) answer counts lost.held_is) saw
      (λ near g out is told. start_brought p g (CutBrought (length (devices_of r)) (drive_party r) (echoed p d ∷ []) 0) near is (inl refl)) in
      ItFailed lost.answer_is
      (FirstLost p d (right_echo taken.sent taken.sent taken.data_frame refl) taken.talking_before
      (record {
        standing = 1;
        break = FrameLost lost.party;
        legal = refl;
        held_at_end = None;
        told = λ none. refl;
        adds = added.adds;
        ring = ring;
        held = lost.held_is;
        met_some = lost.met_some;
        unheard = λ none. unheard;
        brought = λ from. added.near (near_source (drive_party r) p (entry 0 f (outcome.Taken p) ∷ []) (echoed p d) [] from refl (device_source p taken.on_ring.0));
      })
      added.far unheard))
      taken.end
    where
      held_at : (flight : Flight) → s.books.held ≡ Some flight → holding counts.new ≡ Some flight.source
      held_at flight is = by held counts none
        where
          by : (held : Option Flight) (counts : Rounded r held (sourced 0 f) answer s) → held ≡ None → holding counts.new ≡ Some flight.source
          by None counts none = held_new r s (sourced 0 f) flight answer counts is
          by (Some g) counts none = cc

  pub start_end : StartEnd view r f answer s
  start_end =
      ⊎_elim
      (λ back. passed back.0 back.1)
      (⊎_elim
      (λ lost. gone lost.0 lost.1)
      (λ taken. begun_at taken.0 taken.1))
      (start_at_drive view r s held f answer free.ring.crossings free.ring.plan (starts start) (calm_none 1 (devices_of r) calm) one round)

-- ---- as a call

-- the test whether a frame is held
pub none_held : (held : Option Flight) (shown : Option Frame) → shown ≡ option_map (λ f. f.now) held → is_some shown ≡ false → held ≡ None
none_held None shown is none = refl
none_held (Some f) shown is none = let clash = sym none ∙ ap is_some is in cc

pub some_held : (held : Option Flight) (shown : Option Frame) → shown ≡ option_map (λ f. f.now) held → is_some shown ≡ true → held ≡ None → ⊥
some_held held shown is some none = let clash = sym some ∙ ap is_some (is ∙ ap (option_map (λ (f : Flight). f.now)) none) in cc

pub passed_begins : {M : Type 0} (view : M → MediumView) (r s : RingView M) (f g : Frame) (answer : Arrival) → StartEnd view r f answer s → answer ≡ arrival.Frame g → s.books.held ≡ None → Begins view f r begun.NotTaken s
passed_begins view r s f g answer end arrives none = elim end [
  | ItPassed h is held whole nothing nameless unheard ↦ (whole, nothing, nameless, unheard)
  | ItBegan h is flight held began ↦ (let clash = sym none ∙ held in cc)
  | ItFailed is not_begun ↦ (let clash = sym arrives ∙ is in cc)
]

pub taken_begins : {M : Type 0} (view : M → MediumView) (r s : RingView M) (f g : Frame) (answer : Arrival) → StartEnd view r f answer s → answer ≡ arrival.Frame g → (s.books.held ≡ None → ⊥) → Begins view f r begun.Taken s
taken_begins view r s f g answer end arrives some = elim end [
  | ItPassed h is held whole nothing nameless unheard ↦ absurd (some held)
  | ItBegan h is flight held began ↦ began
  | ItFailed is not_begun ↦ (let clash = sym arrives ∙ is in cc)
]

pub lost_begins : {M : Type 0} (view : M → MediumView) (r s : RingView M) (f : Frame) (answer : Arrival) → StartEnd view r f answer s → answer ≡ arrival.Lost → Begins view f r begun.Broken s
lost_begins view r s f answer end lost = elim end [
  | ItPassed h is held whole nothing nameless unheard ↦ (let clash = sym lost ∙ is in cc)
  | ItBegan h is flight held began ↦ (let clash = sym lost ∙ is in cc)
  | ItFailed is not_begun ↦ not_begun
]

-- with the frame that was sent
pub start_call : {M : Type 0} (view : M → MediumView) (r s : RingView M) (held : Option Flight) (start : Start) (g : Frame) (answer : Arrival) → Round view r held (sourced 0 g) answer s → g ≡ start_frame start → held ≡ None → IsFree r
    → IsUnderHost r.guest → is_at_most_one (talkers (roles_of (devices_of r))) ≡ true → Each IsCalm 1 (devices_of r) → StartEnd view r (start_frame start) answer s
start_call view r s held start g answer round is none free host one calm = start_end view r s held start answer (subst (λ g. Round view r held (sourced 0 g) answer s) is round) none free host one calm
