-- A held frame that goes on, as a call.
use Rattle.il_device.specs.declared.device.Out.TheVariants.{Source}
use Rattle.il_device.specs.declared.device.Out.{Out}
use Rattle.std.proofs.Common.{◌≡◌, ◌≢◌, ◌∙◌, ◌≤◌, ◌<◌, ◌+◌, ◌-◌, ◌++◌, ◌⊎◌, ◌&&◌, ◌==◌, inl, inr, ⊎_elim, ℕ, Bool, true, false, not, List, [], ◌∷◌, Option, Some, None, length, refl, sym, ap, subst, arith, length-append}
use Rattle.std.specs.Prelude.{MatchBool, IfSome, if◌then◌else◌}
use Rattle.std.proofs.Math.Nat.{eq-zero-or-pos}
use Rattle.std.proofs.lemmas.Bool.{and_from, ne_eqb}
use Rattle.il_frames.specs.declared.frame.Frame.{Frame}
use Rattle.il_frames.specs.declared.entry.Entry.{Entry}
use Rattle.il_frames.specs.declared.entry.Outcome.{Outcome}
use Rattle.il_frames.specs.declared.entry.Outcome.TheVariants as outcome
use Rattle.il_frames.specs.declared.message.Message.TheVariants as msg
use Rattle.il_frames.specs.Frames.{byte_of, is_data, same_but_service, with_service}
use Rattle.il_device.specs.declared.interface.OwnFrame.{OwnFrame}
use Rattle.il_device.specs.declared.roles.Roles.{Roles}
use Rattle.il_device.specs.State.{DeviceState}
use Rattle.il_device.specs.Takes.{eto, ete}
use Rattle.il_ports.specs.Media.{MediumView}
use Rattle.il_frames.specs.NamedFrames.{entry}
use Rattle.loop_model.specs.Exchanges.{Echo, FrameLost, TalkerAltered, echoed, is_altered, is_echo, is_end}
use Rattle.il_ring.specs.declared.plan.Arrival.{Arrival}
use Rattle.il_ring.specs.declared.plan.Arrival.TheVariants as arrival
use Rattle.il_ring.specs.declared.flight.Flight.{Flight}
use Rattle.il_ring.specs.Lists.{Each, First}
use Rattle.il_ring.specs.Guests.{IsUnderHost}
use Rattle.il_ring.specs.Rings.{RingView, IsRing, Round, devices_of, roles_of, drive_party}
use Rattle.il_ring.specs.Rounded.{Rounded, IsReady, own_at, holding, device_sending}
use Rattle.il_ring.specs.Outcomes.{met_between, DriveTook, DriveHad, CameAs, IsBrought, HearsNothing, AllKeep, IsTalking, IsHeldNow, IsLostNow, CameBack, SendsMore, EndsSending, back_entry, DriveDid}
use Rattle.il_ring.specs.Adds.{Adds}
use Rattle.il_ring.proofs.DataPasses.{same_served}
use Rattle.il_ring.proofs.Passing.{AsData}
use Rattle.il_ring.proofs.RelayDrive.{relay_at_drive}
use Rattle.il_ring.proofs.RelayRounds.{wrong_echo}
use Rattle.il_ring.proofs.Rings.{IsRing-relay}
use Rattle.il_ring.proofs.RolesHome.{device_round}
use Rattle.il_ring.proofs.RoundAdds.{DriveCame, answered_some, did_had, device_adds, device_came, device_did, none_new, held_new}
use Rattle.il_ring.proofs.RoundCounts.{round_counts}
use Rattle.il_ring.proofs.RoundRoles.{IsQuiet}
use Rattle.il_ring.proofs.SendLaws.{kept_sent}
use Rattle.il_control.specs.Calls.{Unheard}
use Rattle.il_control.specs.Brought.{Brought, CutBrought}
use Rattle.il_control.specs.Receives.{AddsBy, IsSpoken, AllSpoken, IsDeaf, IsHolding, RelaysNext, Ended, AtHeld, AtNext, AtEnd, RelayBroken, RelaysAs, IsOnward, own_frames}
use Rattle.il_control.proofs.Spoken.{data_may, data_right, brought_end}
use Rattle.il_control.specs.declared.receiving.Onward.{Onward}
use Rattle.il_control.specs.declared.receiving.Onward.TheVariants as onward

-- ---- devices that do not listen

-- hear nothing
pub deaf_unheard : (k : ℕ) (ds es : List DeviceState) → AllKeep ds es → Each IsDeaf k ds → First HearsNothing (length ds) ds es
deaf_unheard k [] [] keeps deaf = tt
deaf_unheard k (d ∷ ds) (e ∷ es) keeps deaf =
    let silent = keeps.0.unheard deaf.0 in
    (record { heard = silent.0; heard_count = silent.1; room = keeps.0.room; accessory = keeps.0.accessory }, deaf_unheard (k + 1) ds es keeps.1 deaf.1)
deaf_unheard k [] (e ∷ es) keeps deaf = absurd keeps
deaf_unheard k (d ∷ ds) [] keeps deaf = absurd keeps

abbrev first_of : Roles → List Roles → Roles
first_of other [] = other
first_of other (r ∷ rs) = r

abbrev others_of : List Roles → List Roles
others_of [] = []
others_of (r ∷ rs) = rs

-- and are deaf still if no role changes
pub deaf_still : (k : ℕ) (ds es : List DeviceState) → roles_of es ≡ roles_of ds → Each IsDeaf k ds → Each IsDeaf k es
deaf_still k ds [] same deaf = tt
deaf_still k [] (e ∷ es) same deaf = cc
deaf_still k (d ∷ ds) (e ∷ es) same deaf = (ap (λ rs. (first_of d.roles rs).listens) same ∙ deaf.0, deaf_still (k + 1) ds es (ap others_of same) deaf.1)

-- ---- a talker

pub talker_own : (before after : List DeviceState) (d : DeviceState) → own_at (length before) (before ++ d ∷ after) ≡ d.own
talker_own [] after d = refl
talker_own (b ∷ before) after d = talker_own before after d

pub awaited : (p : ℕ) (own : OwnFrame) (f : Flight) (devices : List DeviceState) → f.source ≡ p → is_data f.now ≡ true → IsTalking p (Some own) devices → IsReady f devices
awaited p own f devices at data_frame talking =
    let many = ap length talking.devices_are ∙ length-append talking.before (talking.talker ∷ talking.after) in
    inr (record {
      place = length talking.before;
      there = omega (arith, at, talking.party);
      within = omega (arith, many);
      data_frame = data_frame;
      own = own;
      waits = ap (own_at (length talking.before)) talking.devices_are ∙ talker_own talking.before talking.after talking.talker ∙ talking.own_is;
    })

-- ---- echoes

pub right_echo : (sent back : Frame) → is_data sent ≡ true → with_service back ≡ with_service sent → is_echo (record { sent = sent; back = back }) ≡ true
right_echo sent back data_frame same = and_from (is_data sent) (same_but_service sent back) data_frame (same_served sent back same)

-- a frame that came, if one did
pub spoken_one : {M : Type 0} (P : Frame → Type 0) (r s : RingView M) (gs : List Frame) → ((g : Frame) → P g → IsSpoken g) → DriveCame P r s gs → AllSpoken gs
spoken_one P r s gs spoken (inl gone) = subst AllSpoken (sym gone.0) tt
spoken_one P r s gs spoken (inr came) = subst AllSpoken (sym came.2) (spoken came.0 came.1, tt)

-- ---- the round

-- what came of it, by what arrived
pub data RelayEnd {M : Type 0} (view : M → MediumView) (m : RingView M) (h : IsHolding m) (answer : Arrival) (s : RingView M) : Type 0 where
  ItWentOn : (g : Frame) → answer ≡ arrival.Frame g → is_data g ≡ true → RelaysNext view m h s → RelayEnd view m h answer s
  ItEnded : answer ≡ arrival.Frame eto → Ended view m h s → RelayEnd view m h answer s
  ItBroke : (answer ≡ arrival.Lost) ⊎ (answer ≡ arrival.Frame ete) → RelayBroken view m h s → RelayEnd view m h answer s

module _ {M : Type 0} (view : M → MediumView) (m s : RingView M) (h : IsHolding m) (answer : Arrival) (round : Round view m None h.flight answer s) where
  abbrev p : ℕ
  p = h.flight.source

  some : 1 ≤ p
  some = omega (arith, h.talking.party)

  abbrev ready : IsReady h.flight (devices_of m)
  ready = awaited p h.own h.flight (devices_of m) refl h.stood.data_frame h.talking

  quiet : IsQuiet h.flight
  quiet = record { from_device = some; message = msg.Dab 0; keeps = refl; no_poll = refl; no_control = refl; carries = AsData refl h.stood.data_frame }

  abbrev counts : Rounded m None h.flight answer s
  counts = round_counts view m s None h.flight answer ready round

  is_device : (p == 0) ≡ false
  is_device = ne_eqb p 0 (λ e. omega (arith, e, some))

  sending : device_sending h.flight ≡ Some p
  sending = ap (λ (own : Bool). if own then None else Some p) is_device

  -- the drive is the talker or is before it, or it comes after it
  place : (drive_party m ≤ p) ⊎ (p < drive_party m)
  place = ⊎_elim (λ (none : drive_party m - p ≡ 0). inl (omega (arith, none))) (λ far. inr (omega (arith, far))) (eq-zero-or-pos (drive_party m - p))

  from_source : (entries : List Entry) (to : Option ℕ) (B : ℕ → ℕ → List Frame → List Out → Type 0) → AddsBy view m p (device_sending h.flight) entries to B s → AddsBy view m p (Some p) entries to B s
  from_source entries to B added = subst (λ from. AddsBy view m p from entries to B s) sending added

  -- it certainly came, or may have come, if the drive does not come after the talker
  did_near : (P : Frame → Out → Type 0) (entries : List Entry) (to : Option ℕ) (B : ℕ → ℕ → List Frame → List Out → Type 0) → s.books.log ≡ m.books.log ++ entries → holding counts.new ≡ to → drive_party m ≤ p → DriveDid view P m s
      → ((g : Frame) (out : Out) → P g out → B (length (devices_of m)) (drive_party m) (g ∷ []) (out ∷ [])) → AddsBy view m p (Some p) entries to B s
  did_near P entries to B log new near did brought =
      let so = device_did view P m s None h.flight answer entries to quiet ready round log new did in
      let adds : Adds view m (device_sending h.flight) entries to s = device_adds view (answered_some P) m s None h.flight answer entries to quiet ready round log new (inr (did_had view P m s did)) in
      from_source entries to B (record {
        adds = adds;
        near = λ _. subst (λ gs. B (length (devices_of m)) (drive_party m) gs adds.answers) (sym so.1.2) (subst (λ outs. B (length (devices_of m)) (drive_party m) (so.0 ∷ []) outs) (sym so.1.3) (brought so.0 so.1.0 so.1.1));
        far = λ far. absurd (omega (arith, near, far));
      })

  took_near : (P : Frame → Type 0) (entries : List Entry) (to : Option ℕ) (B : ℕ → ℕ → List Frame → List Out → Type 0) → s.books.log ≡ m.books.log ++ entries → holding counts.new ≡ to → drive_party m ≤ p → DriveTook view P m s
      → ((gs : List Frame) (outs : List Out) → DriveCame P m s gs → B (length (devices_of m)) (drive_party m) gs outs) → AddsBy view m p (Some p) entries to B s
  took_near P entries to B log new near took brought =
      from_source entries to B (record {
        adds = device_adds view P m s None h.flight answer entries to quiet ready round log new took;
        near = λ _. brought _ _ (device_came view P m s None h.flight answer entries to quiet ready round log new took);
        far = λ far. absurd (omega (arith, near, far));
      })

  took_far : (P : Frame → Type 0) (entries : List Entry) (to : Option ℕ) (B : ℕ → ℕ → List Frame → List Out → Type 0) → s.books.log ≡ m.books.log ++ entries → holding counts.new ≡ to → p < drive_party m → DriveTook view P m s
      → ((g : Frame) → P g → IsSpoken g) → AddsBy view m p (Some p) entries to B s
  took_far P entries to B log new far took spoken =
      from_source entries to B (record {
        adds = device_adds view P m s None h.flight answer entries to quiet ready round log new took;
        near = λ near. absurd (omega (arith, near, far));
        far = λ _. spoken_one P m s _ spoken (device_came view P m s None h.flight answer entries to quiet ready round log new took);
      })

  -- with its answer, if the drive is the talker
  did_so : (P : Frame → Type 0) (A : Out → Type 0) → drive_party m ≤ p → (drive_party m ≤ p → DriveHad view P m s) → (drive_party m ≡ p → DriveDid view (λ g out. P g × A out) m s) → DriveDid view (λ g out. P g × (drive_party m ≡ p → A out)) m s
  did_so P A here near said =
      ⊎_elim
      (λ (none : p - drive_party m ≡ 0). let did = said (omega (arith, none, here)) in (did.0, (did.1.0, (did.1.1.0, λ _. did.1.1.1), did.1.2)))
      (λ some. let had = near here in (had.0, (had.2.0, (had.1, λ at. absurd (omega (arith, some, at))), had.2.1)))
      (eq-zero-or-pos (p - drive_party m))

  -- by the drive's place
  added_by : (P Q : Frame → Type 0) (A : Out → Type 0) (entries : List Entry) (to : Option ℕ) (B : ℕ → ℕ → List Frame → List Out → Type 0) → s.books.log ≡ m.books.log ++ entries → holding counts.new ≡ to
      → (drive_party m ≤ p → DriveHad view P m s) → (drive_party m ≡ p → DriveDid view (λ g out. P g × A out) m s)
      → (drive_party m ≤ p → (g : Frame) (out : Out) → P g → (drive_party m ≡ p → A out) → B (length (devices_of m)) (drive_party m) (g ∷ []) (out ∷ []))
      → (p < drive_party m → DriveTook view Q m s) → ((g : Frame) → Q g → IsSpoken g) → AddsBy view m p (Some p) entries to B s
  added_by P Q A entries to B log new near said brought far spoken =
      ⊎_elim
      (λ here. did_near (λ g out. P g × (drive_party m ≡ p → A out)) entries to B log new here (did_so P A here near said) (λ g out did. brought here g out did.0 did.1))
      (λ there. took_far Q entries to B log new there (far there) spoken)
      place

  ring : IsRing s
  ring = IsRing-relay view m s h.flight answer round h.ring h.held

  unheard : Unheard m s
  unheard = deaf_unheard 1 (devices_of m) (devices_of s) (kept_sent view m s None h.flight answer round) h.deaf

  deaf : Each IsDeaf 1 (devices_of s)
  deaf = deaf_still 1 (devices_of m) (devices_of s) (device_round view m s None h.flight answer quiet round).roles h.deaf

  abbrev echo_of : Frame → Echo
  echo_of back = record { sent = h.flight.sent; back = back }

  own_echo : (f : Frame) → is_data f ≡ true → is_echo (record { sent = f; back = f }) ≡ true
  own_echo f data_frame = right_echo f f data_frame refl

  within : p ≤ length (devices_of m)
  within = let many = ap length h.talking.devices_are ∙ length-append h.talking.before (h.talking.talker ∷ h.talking.after) in omega (arith, many, h.talking.party)

  -- with the end of the transmission after it
  brought_here : (back g : Frame) → drive_party m ≤ p → CameAs true h.flight.sent g → Brought (length (devices_of m)) (drive_party m) (echoed p (echo_of back) ∷ entry p eto (outcome.Taken 0) ∷ []) (g ∷ [])
  brought_here back g near came =
      let comes = data_right (drive_party m) h.flight.sent g h.data_frame came.0 (came.1 refl) in
      brought_end (length (devices_of m)) (drive_party m) p (echoed p (echo_of back) ∷ []) (g ∷ []) (omega arith) near within (comes, refl)

  -- it was lost before it came back
  lost_first : (drive_party m ≤ p → DriveTook view (λ g. is_data g ≡ true) m s) → (p < drive_party m → s.drive ≡ m.drive) → IsLostNow m [] p h.flight.sent answer s → RelayEnd view m h answer s
  lost_first near far lost = ItBroke (inl lost.answer_is) (record {
    whole = [];
    due = echoed p (echo_of h.flight.sent);
    break = FrameLost lost.party;
    due_at = AtHeld (echo_of h.flight.sent) (own_echo h.flight.sent h.data_frame) refl refl;
    legal = refl;
    added =
        ⊎_elim
        (λ here. took_near (λ g. is_data g ≡ true) (entry p h.flight.sent (outcome.Lost lost.party) ∷ []) None (λ k q gs outs. CutBrought k q (echoed p (echo_of h.flight.sent) ∷ []) 0 gs) lost.log (none_new m s None h.flight answer counts lost.held_is) here (near here)
        (λ gs outs came. ⊎_elim (λ gone. inl gone.0) (λ one. inr (one.0, data_may (drive_party m) h.flight.sent one.0 h.data_frame one.1, one.2)) came))
        (λ there. took_far (λ g. ⊥) (entry p h.flight.sent (outcome.Lost lost.party) ∷ []) None (λ k q gs outs. CutBrought k q (echoed p (echo_of h.flight.sent) ∷ []) 0 gs) lost.log (none_new m s None h.flight answer counts lost.held_is) there (inl (far there, lost.met_some))
        (λ g never. absurd never))
        place;
    ring = ring;
    held = lost.held_is;
    spoilt = inr lost.met_some;
    unheard = unheard;
  })

  -- the talker sent a further frame after the right echo
  went_on : (right : Bool) (back : Frame) → right ≡ true → (drive_party m ≤ p → DriveHad view (CameAs right h.flight.sent) m s) → (more : SendsMore m h.flight h.own back answer s) → (p < drive_party m → DriveTook view (IsBrought m s more.sent) m s)
      → (drive_party m ≡ p → DriveDid view (λ g out. CameAs right h.flight.sent g × (out ≡ Source more.sent)) m s) → RelayEnd view m h answer s
  went_on right back is near more far said =
      let echo = right_echo h.flight.sent back h.data_frame more.right in
      ⊎_elim
      (λ (end : (altered : Bool) × IsHeldNow m (back_entry h.flight back ∷ []) p more.sent altered answer s × MatchBool altered (met_between m s ≢ []) (met_between m s ≡ [])).
      let now = end.1 in
      let flight : Flight = record { source = p; sent = more.sent; now = now.now; altered = end.0 } in
      ItWentOn now.now now.answer_is now.data_frame (record {
        back = back;
        right = echo;
        goes_on = more.goes_on;
        next = record {
          ring = ring;
          host = subst IsUnderHost (sym round.guest) h.host;
          flight = flight;
          held = now.held_is;
          data_frame = more.data_frame;
          stood = record { data_frame = now.data_frame; same = now.same; other = now.other };
          own = more.next;
          talking = more.talking;
          frame = more.next_frame;
          deaf = deaf;
        };
        source = refl;
        added = added_by (CameAs right h.flight.sent) (IsBrought m s more.sent) (λ out. out ≡ Source more.sent) (echoed p (echo_of back) ∷ []) (Some p) (λ k q gs outs. Brought k q (echoed p (echo_of back) ∷ []) gs × (q ≡ p → own_frames outs ≡ more.sent ∷ [])) now.log (held_new m s h.flight flight answer counts now.held_is)
            near said (λ here g out came told. ((data_right (drive_party m) h.flight.sent g h.data_frame came.0 (came.1 is), refl), λ at. ap (λ out. own_frames (out ∷ [])) (told at))) far (λ g came. inl came.0);
        unaltered = more.unaltered;
        met = end.2;
        unheard = unheard;
      }))
      (λ (lost : IsLostNow m (back_entry h.flight back ∷ []) p more.sent answer s).
      ItBroke (inl lost.answer_is) (record {
        whole = echo_of back ∷ [];
        due = echoed p (record { sent = more.sent; back = more.sent });
        break = FrameLost lost.party;
        due_at = AtNext (echo_of back) (record { sent = more.sent; back = more.sent }) echo (own_echo more.sent more.data_frame) more.goes_on refl refl;
        legal = refl;
        added = added_by (CameAs right h.flight.sent) (IsBrought m s more.sent) (λ out. out ≡ Source more.sent) (echoed p (echo_of back) ∷ entry p more.sent (outcome.Lost lost.party) ∷ []) None
            (λ k q gs outs. CutBrought k q (echoed p (echo_of back) ∷ echoed p (record { sent = more.sent; back = more.sent }) ∷ []) 1 gs) lost.log (none_new m s None h.flight answer counts lost.held_is)
            near said (λ here g out came told. (data_right (drive_party m) h.flight.sent g h.data_frame came.0 (came.1 is), inl refl)) far (λ g came. inl came.0);
        ring = ring;
        held = lost.held_is;
        spoilt = inr lost.met_some;
        unheard = unheard;
      }))
      more.end

  -- it ended after the right echo
  ended : (back : Frame) → (drive_party m ≤ p → DriveHad view (CameAs true h.flight.sent) m s) → (p < drive_party m → DriveTook view (λ g. g ≡ eto) m s)
      → (drive_party m ≡ p → DriveDid view (λ g out. CameAs true h.flight.sent g × (out ≡ Source eto)) m s) → (h.flight.altered ≡ false) × (with_service back ≡ with_service h.flight.sent) → EndsSending m h.flight true back answer s → RelayEnd view m h answer s
  ended back near far said right ends =
      let echo = right_echo h.flight.sent back h.data_frame right.1 in
      ⊎_elim
      (λ end. ItEnded end.0 (record {
        back = back;
        right = echo;
        added = added_by (CameAs true h.flight.sent) (λ g. g ≡ eto) (λ out. out ≡ Source eto) (echoed p (echo_of back) ∷ entry p eto (outcome.Taken 0) ∷ []) None
            (λ k q gs outs. Brought k q (echoed p (echo_of back) ∷ entry p eto (outcome.Taken 0) ∷ []) gs × (q ≡ p → own_frames outs ≡ eto ∷ []))
            end.1 (none_new m s None h.flight answer counts end.2) near said (λ here g out came told. (brought_here back g here came, λ at. ap (λ out. own_frames (out ∷ [])) (told at))) far (λ g is. inr (inr (inl is)));
        ring = ring;
        held = end.2;
        clean = (right.0, end.3 refl);
        unheard = unheard;
      }))
      (λ (lost : IsLostNow m (back_entry h.flight back ∷ []) p eto answer s).
      ItBroke (inl lost.answer_is) (record {
        whole = echo_of back ∷ [];
        due = entry p eto (outcome.Taken 0);
        break = FrameLost lost.party;
        due_at = AtEnd (echo_of back) echo refl refl;
        legal = refl;
        added = added_by (CameAs true h.flight.sent) (λ g. g ≡ eto) (λ out. out ≡ Source eto) (echoed p (echo_of back) ∷ entry p eto (outcome.Lost lost.party) ∷ []) None
            (λ k q gs outs. CutBrought k q (echoed p (echo_of back) ∷ entry p eto (outcome.Taken 0) ∷ []) 1 gs) lost.log (none_new m s None h.flight answer counts lost.held_is)
            near said (λ here g out came told. (data_right (drive_party m) h.flight.sent g h.data_frame came.0 (came.1 refl), inl refl)) far (λ g is. inr (inr (inl is)));
        ring = ring;
        held = lost.held_is;
        spoilt = inr lost.met_some;
        unheard = unheard;
      }))
      ends.end

  -- or after the wrong one
  refused_at : (back : Frame) (end : Outcome) → (drive_party m ≤ p → DriveHad view (CameAs false h.flight.sent) m s) → (p < drive_party m → DriveTook view (λ g. g ≡ ete) m s)
      → (drive_party m ≡ p → DriveDid view (λ g out. CameAs false h.flight.sent g × (out ≡ Source ete)) m s) → (byte_of back ≢ byte_of h.flight.sent) × ((h.flight.altered ≡ true) ⊎ (met_between m s ≢ [])) → is_end 0 end ≡ true
      → (answer ≡ arrival.Lost) ⊎ (answer ≡ arrival.Frame ete) → s.books.log ≡ m.books.log ++ (echoed p (echo_of back) ∷ entry p ete end ∷ []) → s.books.held ≡ None → RelayEnd view m h answer s
  refused_at back end near far said wrong ends told log free =
      let altered = and_from (is_data h.flight.sent) (not (same_but_service h.flight.sent back)) h.data_frame (ap not (wrong_echo h.flight.sent back wrong.0)) in
      ItBroke told (record {
        whole = [];
        due = echoed p (echo_of h.flight.sent);
        break = TalkerAltered back end;
        due_at = AtHeld (echo_of h.flight.sent) (own_echo h.flight.sent h.data_frame) refl refl;
        legal = and_from (not (p == 0)) (is_altered h.flight.sent back && is_end 0 end) (ap not is_device) (and_from (is_altered h.flight.sent back) (is_end 0 end) altered ends);
        added = added_by (CameAs false h.flight.sent) (λ g. g ≡ ete) (λ out. out ≡ Source ete) (echoed p (echo_of back) ∷ entry p ete end ∷ []) None (λ k q gs outs. CutBrought k q (echoed p (echo_of h.flight.sent) ∷ []) 0 gs)
            log (none_new m s None h.flight answer counts free) near said (λ here g out came told. inr (g, data_may (drive_party m) h.flight.sent g h.data_frame came.0, refl)) far (λ g is. inr (inr (inr is)));
        ring = ring;
        held = free;
        spoilt = wrong.1;
        unheard = unheard;
      })

  refused : (back : Frame) → (drive_party m ≤ p → DriveHad view (CameAs false h.flight.sent) m s) → (p < drive_party m → DriveTook view (λ g. g ≡ ete) m s)
      → (drive_party m ≡ p → DriveDid view (λ g out. CameAs false h.flight.sent g × (out ≡ Source ete)) m s) → (byte_of back ≢ byte_of h.flight.sent) × ((h.flight.altered ≡ true) ⊎ (met_between m s ≢ [])) → EndsSending m h.flight false back answer s → RelayEnd view m h answer s
  refused back near far said wrong ends =
      ⊎_elim
      (λ end. refused_at back (outcome.Taken 0) near far said wrong refl (inr end.0) end.1 end.2)
      (λ (lost : IsLostNow m (back_entry h.flight back ∷ []) p ete answer s). refused_at back (outcome.Lost lost.party) near far said wrong refl (inl lost.answer_is) lost.log lost.held_is)
      ends.end

  pub relay_end : RelayEnd view m h answer s
  relay_end =
      ⊎_elim
      (λ lost. lost_first lost.1 lost.2 lost.0)
      (λ came. on_back came.0 came.1 came.2 came.3 came.4)
      (relay_at_drive view m s h.flight h.own answer h.ring.crossings h.ring.plan h.talking h.frame h.stood round)
    where
      on_back : (right : Bool) (back : Frame) → CameBack m s h.flight right back → (drive_party m ≤ p → DriveHad view (CameAs right h.flight.sent) m s)
          → (((more : SendsMore m h.flight h.own back answer s) × (p < drive_party m → DriveTook view (IsBrought m s more.sent) m s)
          × (drive_party m ≡ p → DriveDid view (λ g out. CameAs right h.flight.sent g × (out ≡ Source more.sent)) m s))
          ⊎ (EndsSending m h.flight right back answer s × (p < drive_party m → DriveTook view (λ g. g ≡ (if right then eto else ete)) m s)
          × (drive_party m ≡ p → DriveDid view (λ g out. CameAs right h.flight.sent g × (out ≡ Source (if right then eto else ete))) m s))) → RelayEnd view m h answer s
      on_back true back came near (inl more) = went_on true back refl near more.0 more.1 more.2
      on_back false back came near (inl more) = absurd (came.echo.0 (ap byte_of more.0.right))
      on_back true back came near (inr ends) = ended back near ends.1 ends.2 came.echo ends.0
      on_back false back came near (inr ends) = refused back near ends.1 ends.2 came.echo ends.0

-- ---- as a call

ends_differ : eto ≡ ete → ⊥
ends_differ same = let clash : true ≡ false = ap (λ f. byte_of f == 0x40) same in cc

abbrev frame_in : Frame → Arrival → Frame
frame_in f (arrival.Frame g) = g
frame_in f arrival.Lost = f

same_frame : (f g : Frame) (answer : Arrival) → answer ≡ arrival.Frame f → answer ≡ arrival.Frame g → f ≡ g
same_frame f g answer first second = ap (frame_in f) (sym first ∙ second)

pub relay_done : {M : Type 0} (view : M → MediumView) (m s : RingView M) (held : Option Flight) (answer : Arrival) (how : Onward) → (IsUnderHost m.guest → IfSome held (λ f. Round view m None f answer s)) → m.books.held ≡ held → IsOnward answer how → RelaysAs view m how s
relay_done view m s held answer how round is told = by how told
  where
    end : (h : IsHolding m) → RelayEnd view m h answer s
    end h = relay_end view m s h answer (subst (λ held. IfSome held (λ f. Round view m None f answer s)) (sym is ∙ h.held) (round h.host))

    by : (how : Onward) → IsOnward answer how → RelaysAs view m how s
    by onward.More told = λ h. elim (end h) [
      | ItWentOn g is data_frame went ↦ went
      | ItEnded is end ↦ (let same = same_frame told.0 eto answer told.1 is in let clash = sym told.2 ∙ ap is_data same in cc)
      | ItBroke is severed ↦ ⊎_elim (λ lost. let clash = sym told.1 ∙ lost in cc) (λ ete_is. let same = same_frame told.0 ete answer told.1 ete_is in let clash = sym told.2 ∙ ap is_data same in cc) is
    ]
    by onward.Ended told = λ h. elim (end h) [
      | ItWentOn g is data_frame went ↦ (let same = same_frame g eto answer is told in let clash = sym data_frame ∙ ap is_data same in cc)
      | ItEnded is end ↦ end
      | ItBroke is severed ↦ ⊎_elim (λ lost. let clash = sym told ∙ lost in cc) (λ ete_is. absurd (ends_differ (same_frame eto ete answer told ete_is))) is
    ]
    by onward.Broken told = λ h. elim (end h) [
      | ItWentOn g is data_frame went ↦ ⊎_elim (λ lost. let clash = sym lost ∙ is in cc) (λ other. let same = same_frame g other.0 answer is other.1 in let clash = sym data_frame ∙ ap is_data same ∙ other.2 in cc) told
      | ItEnded is end ↦ ⊎_elim (λ lost. let clash = sym lost ∙ is in cc) (λ other. absurd (other.3 (sym (same_frame eto other.0 answer is other.1)))) told
      | ItBroke is severed ↦ severed
    ]
