-- A talker that is stopped, as a call.
use Rattle.il_device.proofs.Laws.{Takes-plain}
use Rattle.il_drive.specs.State.{device_of}
use Rattle.il_device.specs.declared.device.Out.{Out}
use Rattle.std.proofs.Common.{◌≡◌, ◌∙◌, ◌+◌, ◌++◌, ◌&&◌, ◌||◌, ◌==◌, inl, inr, ⊎_elim, ℕ, suc, true, false, not, List, [], ◌∷◌, Option, Some, None, length, map, refl, sym, ap, subst, ◌≤◌, ◌<◌}
use Rattle.std.specs.Prelude.{IsSome}
use Rattle.std.proofs.lemmas.Bool.{and_from}
use Rattle.il_frames.specs.declared.frame.Frame.{Frame}
use Rattle.il_frames.specs.declared.entry.Entry.{Entry}
use Rattle.il_frames.specs.declared.entry.Outcome.TheVariants as outcome
use Rattle.il_frames.specs.declared.message.Message.TheVariants as msg
use Rattle.il_frames.specs.Frames.{byte_of}
use Rattle.il_device.specs.declared.interface.OwnFrame.{OwnFrame}
use Rattle.il_device.specs.declared.roles.Roles.{Roles}
use Rattle.il_device.specs.Roles.{stopped}
use Rattle.il_device.specs.State.{DeviceState}
use Rattle.il_device.specs.Takes.{eto, Takes}
use Rattle.il_ports.specs.Media.{MediumView}
use Rattle.il_frames.specs.NamedFrames.{entry, nrd}
use Rattle.loop_model.specs.Exchanges.{Echo, FrameLost, Stopped, echoed, returned, break_entries, is_answer, is_break, is_echo}
use Rattle.il_ring.specs.declared.plan.Arrival.{Arrival}
use Rattle.il_ring.specs.declared.plan.Arrival.TheVariants as arrival
use Rattle.il_ring.specs.declared.flight.Flight.{Flight}
use Rattle.il_ring.specs.Flights.{sourced}
use Rattle.il_ring.specs.Lists.{First}
use Rattle.il_ring.specs.Guests.{IsUnderHost}
use Rattle.il_ring.specs.Rings.{RingView, IsRing, Round, devices_of, drive_party}
use Rattle.il_ring.specs.Rounded.{Rounded, holding}
use Rattle.il_ring.specs.Outcomes.{met_between, Obeys, DriveTook, IsTalking, Returned, WasLost, DriveDid}
use Rattle.il_ring.specs.Adds.{Adds}
use Rattle.il_ring.proofs.Adding.{adds_held, adds_held-came, adds_held-answers, adds_more, adds_more-came}
use Rattle.il_ring.proofs.DriveRounds.{passed_drive}
use Rattle.il_ring.proofs.EndsHome.{any_each}
use Rattle.il_ring.proofs.Passing.{Exactly}
use Rattle.il_ring.proofs.PassKinds.{Is, Any, plain_passes}
use Rattle.il_ring.proofs.PassRounds.{passed_round}
use Rattle.il_ring.proofs.Rings.{IsRing-send}
use Rattle.il_ring.proofs.RoundAdds.{DriveCame, answered_some, did_had, host_did, host_adds, host_came, none_new, plain_new}
use Rattle.il_ring.proofs.RoundCounts.{round_counts}
use Rattle.il_ring.proofs.SendLaws.{kept_sent}
use Rattle.il_ring.proofs.Splits.{silent_still}
use Rattle.il_control.specs.Calls.{Unheard}
use Rattle.il_control.specs.Brought.{Brought, CutBrought}
use Rattle.il_control.specs.Receives.{AddsBy, AllSpoken, Brings, IsDeaf, IsHolding, ReachesFault, RelaysNext, Ended, DueAt, AtHeld, AtNext, AtEnd, RelayBroken, RelaysAs, TakesWhole, TakesBroken, Stops, own_frames}
use Rattle.il_control.specs.declared.receiving.Onward.{Onward}
use Rattle.il_control.specs.declared.receiving.Onward.TheVariants as onward
use Rattle.il_control.proofs.Asking.{each_obeys}
use Rattle.il_control.proofs.Calls.{met_parts, unheard_then}
use Rattle.il_control.proofs.Brought.{cut_brought_one, may_come, plain_comes, same_place}
use Rattle.il_control.proofs.Relaying.{deaf_unheard, right_echo, spoken_one}
use Rattle.il_control.proofs.Spoken.{brings_more, cut_after_brought, spoken_then, added_as}
use Rattle.il_control.proofs.HeldAtEnd.{stopped_holds_none}
use Rattle.il_control.proofs.Taking.{breaks_at, is_device, one_device, severed_at}

-- ---- the talker among devices that obeyed

record Apart (R : DeviceState → DeviceState → Type 0) (bs cs : List DeviceState) (d : DeviceState) (es : List DeviceState) : Type 0 where
  before : List DeviceState
  here : DeviceState
  after : List DeviceState
  all : es ≡ before ++ here ∷ after
  same : length before ≡ length bs
  before_took : First R (length bs) bs before
  here_took : R d here
  after_took : First R (length cs) cs after

apart : (R : DeviceState → DeviceState → Type 0) (bs cs : List DeviceState) (d : DeviceState) (es : List DeviceState) → First R (length (bs ++ d ∷ cs)) (bs ++ d ∷ cs) es → Apart R bs cs d es
apart R [] cs d (e ∷ es) took = record { before = []; here = e; after = es; all = refl; same = refl; before_took = tt; here_took = took.0; after_took = took.1 }
apart R [] cs d [] took = absurd took
apart R (b ∷ bs) cs d (e ∷ es) took =
    let more = apart R bs cs d es took.1 in
    record {
      before = e ∷ more.before;
      here = more.here;
      after = more.after;
      all = ap (λ es. e ∷ es) more.all;
      same = ap suc more.same;
      before_took = (took.0, more.before_took);
      here_took = more.here_took;
      after_took = more.after_took;
    }
apart R (b ∷ bs) cs d [] took = absurd took

-- after NRD it talks still, and its frame is its last
talks_stopped : (p : ℕ) (own : OwnFrame) (ds es : List DeviceState) → First (Obeys msg.Nrd) (length ds) ds es → IsTalking p (Some own) ds → IsTalking p (Some (record own { stopped = true })) es
talks_stopped p own ds es took talking =
    let parts = apart (Obeys msg.Nrd) talking.before talking.after talking.talker es (subst (λ ds. First (Obeys msg.Nrd) (length ds) ds es) talking.devices_are took) in
    record {
      before = parts.before;
      talker = parts.here;
      after = parts.after;
      devices_are = parts.all;
      party = talking.party ∙ ap (λ n. n + 1) (sym parts.same);
      silent = silent_still (Obeys msg.Nrd) (length talking.before) talking.before parts.before (λ d e obeys. obeys.roles) parts.before_took talking.silent;
      talks = ap (λ (r : Roles). r.talks) parts.here_took.roles ∙ talking.talks;
      own_is = parts.here_took.own ∙ ap stopped talking.own_is;
      silent_after = silent_still (Obeys msg.Nrd) (length talking.after) talking.after parts.after (λ d e obeys. obeys.roles) parts.after_took talking.silent_after;
    }

-- ---- NRD

-- it came back, and the talker is stopped
pub record NrdBack {M : Type 0} (view : M → MediumView) (m : RingView M) (h : IsHolding m) (n : RingView M) : Type 0 where
  pub next : IsHolding n
  pub flight_is : next.flight ≡ h.flight
  pub stops : next.own.stopped ≡ true
  pub added : Brings view m h.flight.source (λ gs. gs ≡ []) (Some h.flight.source) (returned 0 nrd ∷ []) (Some h.flight.source) n
  pub met_none : met_between m n ≡ []
  pub unheard : Unheard m n

pub data NrdEnd {M : Type 0} (view : M → MediumView) (m : RingView M) (h : IsHolding m) (answer : Arrival) (n : RingView M) : Type 0 where
  NrdCame : (g : Frame) → answer ≡ arrival.Frame g → NrdBack view m h n → NrdEnd view m h answer n
  NrdLost : answer ≡ arrival.Lost → TakesBroken view m h 1 n → NrdEnd view m h answer n

own_last : {M : Type 0} (m : RingView M) (h : IsHolding m) (d : Echo) → is_echo d ≡ true → is_answer 0 (Stopped h.flight.source [] d) ≡ true
own_last m h d echo = and_from (not (h.flight.source == 0)) (true && is_echo d) (is_device m h) (and_from true (is_echo d) refl echo)

module _ {M : Type 0} (view : M → MediumView) (m n : RingView M) (h : IsHolding m) (held : Option Flight) (answer : Arrival) (round : Round view m held (sourced 0 nrd) answer n) (is : m.books.held ≡ held) where
  abbrev counts : Rounded m held (sourced 0 nrd) answer n
  counts = round_counts view m n held (sourced 0 nrd) answer (inl refl) round

  held_one : held ≡ Some h.flight
  held_one = sym is ∙ h.held

  ring : IsRing n
  ring = IsRing-send view m n held nrd answer round h.ring (inr (sym is))

  took : DriveTook view (Is nrd (1 + length m.before)) m n
  took = passed_drive view (Is nrd) Any (Obeys msg.Nrd) (plain_passes nrd refl) m n held nrd answer h.ring.crossings (any_each 1 m.before) refl round

  unheard : Unheard m n
  unheard = deaf_unheard 1 (devices_of m) (devices_of n) (kept_sent view m n held (sourced 0 nrd) answer round) h.deaf

  -- NRD came to the drive, wherever it stands
  lost_by : (entries : List Entry) (B : ℕ → ℕ → List Frame → List Out → Type 0) → n.books.log ≡ m.books.log ++ entries → holding counts.new ≡ None
      → ((gs : List Frame) (outs : List Out) → DriveCame (Is nrd (1 + length m.before)) m n gs → B (length (devices_of m)) (drive_party m) gs outs) → AddsBy view m h.flight.source (Some h.flight.source) entries (Some h.flight.source) B n
  lost_by entries B log new brought =
      let adds = host_adds view (Is nrd (1 + length m.before)) m n held nrd answer entries None (Exactly refl refl) round log new took in
      let came = host_came view (Is nrd (1 + length m.before)) m n held nrd answer entries None (Exactly refl refl) round log new took in
      let same = adds_held-came view m n (Some h.flight.source) entries adds in
      let held_on : Adds view m (Some h.flight.source) entries (Some h.flight.source) n = adds_held view m n (Some h.flight.source) entries adds in
      record {
        adds = held_on;
        near = λ near. subst (λ gs. B (length (devices_of m)) (drive_party m) gs held_on.answers) (sym same) (brought adds.came held_on.answers came);
        far = λ far. subst AllSpoken (sym same) (spoken_one (Is nrd (1 + length m.before)) m n adds.came (λ g is. inr (inl is)) came);
      }

  -- which passed it on
  did : met_between m n ≡ [] → DriveDid view (λ g out. (g ≡ nrd) × (own_frames (out ∷ []) ≡ [])) m n
  did none = by took
    where
      by : DriveTook view (Is nrd (1 + length m.before)) m n → DriveDid view (λ g out. (g ≡ nrd) × (own_frames (out ∷ []) ≡ [])) m n
      by (inl gone) = absurd (gone.1 none)
      by (inr came) =
          let takes = subst (λ g. Takes (device_of m.drive.state) g came.2.0 (device_of n.drive.state)) came.1 came.2.1.takes in
          (came.0, (came.2.0, (came.1, ap (λ out. own_frames (out ∷ [])) (Takes-plain (device_of m.drive.state) nrd came.2.0 (device_of n.drive.state) refl takes).answer), came.2.1))

  added_back : (g : Frame) → g ≡ nrd → Returned m held nrd g answer n → Brings view m h.flight.source (λ gs. gs ≡ []) (Some h.flight.source) (returned 0 nrd ∷ []) (Some h.flight.source) n
  added_back g same back =
      let P = λ (g : Frame) (out : Out). (g ≡ nrd) × (own_frames (out ∷ []) ≡ []) in
      let log = back.log ∙ ap (λ g. m.books.log ++ entry 0 nrd (outcome.Back g) ∷ []) same in
      let new = plain_new m n held (sourced 0 nrd) nrd answer counts (back.answer_is ∙ ap (λ g. arrival.Frame g) same) refl in
      let so = host_did view P m n held nrd answer (returned 0 nrd ∷ []) None (Exactly refl refl) round log new (did back.met_none) in
      let adds = host_adds view (answered_some P) m n held nrd answer (returned 0 nrd ∷ []) None (Exactly refl refl) round log new (inr (did_had view P m n (did back.met_none))) in
      let came = adds_held-came view m n (Some h.flight.source) (returned 0 nrd ∷ []) adds ∙ so.1.2 in
      let answers = adds_held-answers view m n (Some h.flight.source) (returned 0 nrd ∷ []) adds ∙ so.1.3 in
      record {
        adds = adds_held view m n (Some h.flight.source) (returned 0 nrd ∷ []) adds;
        near = λ near. (subst (Brought (length (devices_of m)) (drive_party m) (returned 0 nrd ∷ [])) (sym came) (plain_comes (drive_party m) nrd so.0 refl so.1.1.0, refl), λ at. ap own_frames answers ∙ so.1.1.1);
        far = λ far. subst AllSpoken (sym came) (inr (inl so.1.1.0), tt);
      }

  came : (g : Frame) → g ≡ nrd → Returned m held nrd g answer n → First (Obeys msg.Nrd) (length (devices_of m)) (devices_of m) (devices_of n) → NrdEnd view m h answer n
  came g same back obeyed =
      NrdCame g back.answer_is (record {
        next = record {
          ring = ring;
          host = subst IsUnderHost (sym round.guest) h.host;
          flight = h.flight;
          held = back.held_is ∙ held_one;
          data_frame = h.data_frame;
          stood = h.stood;
          own = record h.own { stopped = true };
          talking = talks_stopped h.flight.source h.own (devices_of m) (devices_of n) obeyed h.talking;
          frame = h.frame;
          deaf = each_obeys (Obeys msg.Nrd) IsDeaf IsDeaf (λ k d e obeys deaf. ap (λ (r : Roles). r.listens) obeys.roles ∙ deaf) 1 (devices_of m) (devices_of n) obeyed h.deaf;
        };
        flight_is = refl;
        stops = refl;
        added = added_back g same back;
        met_none = back.met_none;
        unheard = unheard;
      })

  lost : WasLost m 0 nrd answer n → NrdEnd view m h answer n
  lost gone =
      let d : Echo = record { sent = h.flight.sent; back = h.flight.sent } in
      NrdLost gone.answer_is
      (breaks_at view m n h 1 (Stopped h.flight.source [] d) [] (echoed h.flight.source d ∷ entry h.flight.source eto (outcome.Taken 0) ∷ []) (returned 0 nrd) (FrameLost gone.party) (Some h.flight.source) refl
      (own_last m h d (right_echo h.flight.sent h.flight.sent h.data_frame refl)) refl refl refl refl
      (lost_by (entry 0 nrd (outcome.Lost gone.party) ∷ []) (λ k q gs outs. CutBrought k q (returned 0 nrd ∷ []) 0 gs) gone.log (none_new m n held (sourced 0 nrd) answer counts gone.held_is)
      (λ gs outs came. cut_brought_one (Is nrd (1 + length m.before)) m n (length (devices_of m)) (drive_party m) nrd (outcome.Back nrd) gs (λ g is. may_come (drive_party m) nrd g (plain_comes (drive_party m) nrd g refl is)) came))
      ring gone.held_is (inr gone.met_some) unheard)

  pub nrd_end : NrdEnd view m h answer n
  nrd_end =
      let passed = passed_round view (Is nrd) Any (Obeys msg.Nrd) (plain_passes nrd refl) m n held nrd answer h.ring.crossings (any_each 1 (devices_of m)) refl round in
      ⊎_elim
      (λ back. came back.0 back.1 back.3 (subst (λ j. First (Obeys msg.Nrd) j (devices_of m) (devices_of n)) back.2 passed.took))
      (λ gone. lost gone)
      passed.end

-- ---- after it

-- a cut, with NRD before it
after_nrd : {M : Type 0} (view : M → MediumView) (m n s : RingView M) (p : ℕ) (es ys : List Entry) (c : ℕ) → Brings view m p (λ gs. gs ≡ []) (Some p) (returned 0 nrd ∷ []) (Some p) n → AddsBy view n p (Some p) es None (λ k q gs outs. CutBrought k q ys c gs) s
    → AddsBy view m p (Some p) (returned 0 nrd ∷ es) None (λ k q gs outs. CutBrought k q (returned 0 nrd ∷ ys) (suc c) gs) s
after_nrd view m n s p es ys c first more =
    let came = adds_more-came view m n s (Some p) (Some p) None (returned 0 nrd ∷ []) es first.adds more.adds in
    let party : drive_party n ≡ drive_party m = ap (λ n. n + 1) first.adds.before in
    record {
      adds = adds_more view m n s (Some p) (Some p) None (returned 0 nrd ∷ []) es first.adds more.adds;
      near = λ near. subst (CutBrought (length (devices_of m)) (drive_party m) (returned 0 nrd ∷ ys) (suc c)) (sym came)
          (cut_after_brought (length (devices_of m)) (drive_party m) c (returned 0 nrd ∷ []) ys first.adds.came more.adds.came (first.near near).0
          (same_place m n (λ k q. CutBrought k q ys c more.adds.came) first.adds.before first.adds.size (more.near (subst (λ q. q ≤ p) (sym party) near))));
      far = λ far. subst AllSpoken (sym came) (spoken_then first.adds.came more.adds.came (first.far far) (more.far (subst (λ q. p < q) (sym party) far)));
    }

module _ {M : Type 0} (view : M → MediumView) (m n s : RingView M) (h : IsHolding m) (back : NrdBack view m h n) where
  abbrev p : ℕ
  p = h.flight.source

  abbrev k : IsHolding n
  k = back.next

  same : k.flight ≡ h.flight
  same = back.flight_is

  -- what was added after NRD, with it
  brings_after : (es : List Entry) (S : List Frame → Type 0) → Brings view n k.flight.source S (Some k.flight.source) es None s → Brings view m p S (Some p) (returned 0 nrd ∷ es) None s
  brings_after es S more = brings_more view m n p (λ gs. gs ≡ []) (Some p) (Some p) (returned 0 nrd ∷ []) back.added s S S None es (subst (λ (f : Flight). Brings view n f.source S (Some f.source) es None s) same more) (λ gs hs none said. subst (λ gs. S (gs ++ hs)) (sym none) said)

  split : (es : List Entry) → Adds view n (Some k.flight.source) es None s → (met_between m s ≡ [] → (met_between m n ≡ []) × (met_between n s ≡ [])) × (((met_between m n ≡ []) × (met_between n s ≡ [])) → met_between m s ≡ [])
  split es more = met_parts view m n s (Some p) (Some p) (Some p) None (returned 0 nrd ∷ []) es h.ring k.ring back.added.adds (subst (λ (f : Flight). Adds view n (Some f.source) es None s) same more)

  all_unheard : Unheard n s → Unheard m s
  all_unheard more = unheard_then (devices_of m) (devices_of n) (devices_of s) back.unheard more

  pub stopped_took : Ended view n k s → TakesWhole view m h true (byte_of h.flight.sent ∷ []) s
  stopped_took ended =
      let d : Echo = record { sent = k.flight.sent; back = ended.back } in
      let spread = ap (λ (f : Flight). f.source) same in
      record {
        answer = Stopped p [] (record { sent = h.flight.sent; back = ended.back });
        talker = refl;
        legal = own_last m h (record { sent = h.flight.sent; back = ended.back }) (ap (λ (f : Flight). is_echo (record { sent = f.sent; back = ended.back })) (sym same) ∙ ended.right);
        stopped = refl;
        bytes_are = refl;
        alone = λ last. refl;
        added = subst (λ (f : Flight). Brings view m p (λ gs. h.flight.sent ∷ gs ≡ h.flight.sent ∷ eto ∷ []) (Some p) (returned 0 nrd ∷ echoed f.source (record { sent = f.sent; back = ended.back }) ∷ entry f.source eto (outcome.Taken 0) ∷ []) None s) same
            (added_as view m s p (Some p) _ None _ _ (brings_after _ (λ gs. gs ≡ eto ∷ []) ended.added) (λ j q gs outs said. (said.0, λ at. ap (λ gs. h.flight.sent ∷ gs) (said.1 at))));
        ring = ended.ring;
        held = ended.held;
        clean = (ap (λ (f : Flight). f.altered) (sym same) ∙ ended.clean.0, (split _ ended.added.adds).1 (back.met_none, ended.clean.1));
        unheard = all_unheard ended.unheard;
      }

  spoilt_after : (es : List Entry) → Adds view n (Some k.flight.source) es None s → ReachesFault n k s → ReachesFault m h s
  spoilt_after es more spoilt = ⊎_elim (λ altered. inl (ap (λ (f : Flight). f.altered) (sym same) ∙ altered)) (λ some. inr (λ none. some ((split es more).0 none).1)) spoilt

  pub stopped_broke : RelayBroken view n k s → TakesBroken view m h 1 s
  stopped_broke off = by off.due_at
    where
      at_source : k.flight.source ≡ p
      at_source = ap (λ (f : Flight). f.source) same

      -- the cut after NRD
      added : (whole : List Echo) (due : Entry) → off.whole ≡ whole → off.due ≡ due → AddsBy view m p (Some p) (returned 0 nrd ∷ map (echoed k.flight.source) whole ++ break_entries due off.break) None (λ j q gs outs. CutBrought j q (returned 0 nrd ∷ map (echoed k.flight.source) whole ++ due ∷ []) (suc (length whole)) gs) s
      added whole due whole_is due_is =
          after_nrd view m n s p (map (echoed k.flight.source) whole ++ break_entries due off.break) (map (echoed k.flight.source) whole ++ due ∷ []) (length whole) back.added
          (subst (λ q. AddsBy view n q (Some q) (map (echoed k.flight.source) whole ++ break_entries due off.break) None (λ j q gs outs. CutBrought j q (map (echoed k.flight.source) whole ++ due ∷ []) (length whole) gs) s) at_source (severed_at view n s k off whole due whole_is due_is))

      by : DueAt k.flight.source k.own off.whole off.due → TakesBroken view m h 1 s
      by (AtHeld d echo whole due) =
          let due_is : off.due ≡ echoed p d = due ∙ ap (λ p. echoed p d) at_source in
          breaks_at view m s h 1 (Stopped p [] d) (returned 0 nrd ∷ []) (entry p eto (outcome.Taken 0) ∷ []) (echoed p d) off.break None refl (own_last m h d echo) refl refl
          (subst (λ due. is_break 0 due off.break ≡ true) due_is off.legal) (stopped_holds_none (Some p) [] (echoed p d) off.break refl (is_device m h)) (added [] (echoed p d) whole due_is) off.ring off.held (spoilt_after _ off.added.adds off.spoilt) (all_unheard off.unheard)
      by (AtNext c d first echo goes_on whole due) = let clash : true ≡ false = sym (ap (λ stopped. stopped || k.own.last) back.stops) ∙ goes_on in cc
      by (AtEnd d echo whole due) =
          let due_is : off.due ≡ entry p eto (outcome.Taken 0) = due ∙ ap (λ p. entry p eto (outcome.Taken 0)) at_source in
          breaks_at view m s h 1 (Stopped p [] d) (returned 0 nrd ∷ echoed p d ∷ []) [] (entry p eto (outcome.Taken 0)) off.break None refl (own_last m h d echo) refl refl
          (subst (λ due. is_break 0 due off.break ≡ true) due_is off.legal)
          (stopped_holds_none (Some p) (echoed p d ∷ []) (entry p eto (outcome.Taken 0)) off.break (one_device m h) (is_device m h))
          (subst (λ q. AddsBy view m p (Some p) (returned 0 nrd ∷ echoed q d ∷ break_entries (entry p eto (outcome.Taken 0)) off.break) None (λ j r gs outs. CutBrought j r (returned 0 nrd ∷ echoed q d ∷ entry p eto (outcome.Taken 0) ∷ []) 2 gs) s) at_source (added (d ∷ []) (entry p eto (outcome.Taken 0)) whole due_is))
          off.ring off.held (spoilt_after _ off.added.adds off.spoilt) (all_unheard off.unheard)

  pub stopped_went : RelaysNext view n k s → ⊥
  stopped_went went = let clash : true ≡ false = sym (ap (λ stopped. stopped || k.own.last) back.stops) ∙ went.goes_on in cc

-- ---- as a call

pub nrd_sent : {M : Type 0} (view : M → MediumView) (m n : RingView M) (h : IsHolding m) (held : Option Flight) (f : Frame) (answer : Arrival) → Round view m held (sourced 0 f) answer n → f ≡ nrd → m.books.held ≡ held → NrdEnd view m h answer n
nrd_sent view m n h held f answer round is stood = nrd_end view m n h held answer (subst (λ f. Round view m held (sourced 0 f) answer n) is round) stood

came_back : {M : Type 0} (view : M → MediumView) (m n : RingView M) (h : IsHolding m) (g : Frame) (answer : Arrival) → NrdEnd view m h answer n → answer ≡ arrival.Frame g → NrdBack view m h n
came_back view m n h g answer end arrives = elim end [
  | NrdCame f is back ↦ back
  | NrdLost is gone ↦ (let clash = sym arrives ∙ is in cc)
]

pub stop_lost : {M : Type 0} (view : M → MediumView) (m n : RingView M) (held : Option Flight) (f : Frame) (answer : Arrival) → Round view m held (sourced 0 f) answer n → f ≡ nrd → m.books.held ≡ held → answer ≡ arrival.Lost → Stops view m false n
stop_lost view m n held f answer round is stood lost = λ h. elim (nrd_sent view m n h held f answer round is stood) [
  | NrdCame g came back ↦ (let clash = sym lost ∙ came in cc)
  | NrdLost gone not_took ↦ not_took
]

pub stop_held : {M : Type 0} (view : M → MediumView) (m n : RingView M) (h : IsHolding m) (held : Option Flight) (f g : Frame) (answer : Arrival) → Round view m held (sourced 0 f) answer n → f ≡ nrd → m.books.held ≡ held → answer ≡ arrival.Frame g → IsSome n.books.held
stop_held view m n h held f g answer round is stood arrives = let back = came_back view m n h g answer (nrd_sent view m n h held f answer round is stood) arrives in subst IsSome (sym back.next.held) refl

pub stop_ended : {M : Type 0} (view : M → MediumView) (m n s : RingView M) (held : Option Flight) (f g : Frame) (answer : Arrival) → Round view m held (sourced 0 f) answer n → f ≡ nrd → m.books.held ≡ held → answer ≡ arrival.Frame g → RelaysAs view n onward.Ended s → Stops view m true s
stop_ended view m n s held f g answer round is stood arrives went = λ h. let back = came_back view m n h g answer (nrd_sent view m n h held f answer round is stood) arrives in stopped_took view m n s h back (went back.next)

pub stop_broke : {M : Type 0} (view : M → MediumView) (m n s : RingView M) (held : Option Flight) (f g : Frame) (answer : Arrival) (how : Onward) → Round view m held (sourced 0 f) answer n → f ≡ nrd → m.books.held ≡ held → answer ≡ arrival.Frame g → RelaysAs view n how s → (how ≡ onward.Ended → ⊥) → Stops view m false s
stop_broke view m n s held f g answer how round is stood arrives went not_ended = λ h. by how went not_ended h (came_back view m n h g answer (nrd_sent view m n h held f answer round is stood) arrives)
  where
    by : (how : Onward) → RelaysAs view n how s → (how ≡ onward.Ended → ⊥) → (h : IsHolding m) → NrdBack view m h n → TakesBroken view m h 1 s
    by onward.More went not_ended h back = absurd (stopped_went view m n s h back (went back.next))
    by onward.Ended went not_ended h back = absurd (not_ended refl)
    by onward.Broken went not_ended h back = stopped_broke view m n s h back (went back.next)
