-- A receive, whole or broken off.
use Rattle.il_drive.specs.Runs.{Ran}
use Rattle.il_drive.specs.State.{DriveView}
use Rattle.il_device.specs.declared.device.Out.{Out}
use Rattle.std.proofs.lemmas.List.Folds.{list_all-append}
use Rattle.il_control.proofs.Spoken.{brings_more, cut_brings_more, device_source, near_source}
use Rattle.il_control.proofs.Brought.{same_place}
use Rattle.il_control.specs.Brought.{Brought, CutBrought, is_from_here}
use Rattle.std.proofs.Common.{Bool, ◌≡◌, ◌∙◌, ◌≤◌, ◌<◌, ◌+◌, ◌-◌, ◌++◌, ◌&&◌, ◌==◌, ⊎_elim, ℕ, suc, true, false, not, List, [], ◌∷◌, Option, Some, None, length, drop, map, refl, sym, ap, subst, arith, length-append, append_assoc, append-nil, inl, inr, ◌||◌}
use Rattle.std.specs.Prelude.{MatchBool, MatchOption, IfSome, IsSome, nat_le}
use Rattle.std.specs.List.{list_all}
use Rattle.std.proofs.lemmas.Bool.{and_from, and_parts, eq-eqb, eqb-true, le-leb, ne_eqb}
use Rattle.il_frames.specs.declared.frame.Frame.{Frame}
use Rattle.il_frames.specs.declared.entry.Entry.{Entry}
use Rattle.il_frames.specs.declared.entry.Outcome.TheVariants as outcome
use Rattle.il_frames.specs.Frames.{byte_of}
use Rattle.il_frames.specs.Messages.{message_of}
use Rattle.il_frames.specs.declared.message.Message.TheVariants as msg
use Rattle.il_device.specs.declared.interface.OwnFrame.{OwnFrame}
use Rattle.il_ring.specs.Lists.{Each}
use Rattle.il_device.specs.Takes.{eto}
use Rattle.il_ports.specs.Media.{MediumView}
use Rattle.il_frames.specs.NamedFrames.{entry, nrd, unt, is_no_nrd}
use Rattle.loop_model.specs.Exchanges.{Start, Sai, Answer, NotTaken, ToItsEnd, Stopped, Receive, Echo, start_frame, echoed, returned, commanded, answer_entries, cut_at, can_cut, is_address, is_answer, is_echo, is_exchange, is_number, Break, entries_of, answers_as_asked, bytes_of, receive_front}
use Rattle.loop_model.specs.Hearing.{has_no_data}
use Rattle.loop_model.proofs.UnitLaws.{entries_of-receive}
use Rattle.il_ring.specs.Rings.{RingView, IsRing, devices_of, roles_of, spare_of, drive_party}
use Rattle.il_ring.specs.Outcomes.{met_between, IsTalking}
use Rattle.std.proofs.lemmas.List.{length-map}
use Rattle.il_device.specs.State.{DeviceState}
use Rattle.il_control.specs.Calls.{Unheard, Whole, Broke, IsIdle, loop_of}
use Rattle.il_control.specs.Receives.{BeginWhole, BeginBroken, StartLost, FirstLost, TakesBytes, TakesInto, TakesBroken, WasTalking, Answered, NotAnswered, Asked, Received, NotReceived, past_start, talker_of, is_stopped, received, fits, AllSpoken, Brings, CutBrings, PassesBy, PassesInPart, up_to_end, LiesAfter, SaysOf, SpokenBy, IsNameless, accessory_at, id_bytes, own_frames, said_of, sent_frames}
use Rattle.loop_model.specs.Reach.{held_at_end as held_after}
use Rattle.loop_model.proofs.ReachLaws.{sourcing}
use Rattle.il_control.proofs.HeldAtEnd.{cut_held, cut_holds_none, echo_quiet, front_quiet, front_source, quiet_ended, start_quiet}
use Rattle.il_control.proofs.Calls.{broke_before_ended, broke_after_ended, met_parts, room_after, unheard_then, whole_then, broke_after, broke_before, broke_after_standing, broke_before_standing, cut_within, whole_then_came, broke_before_came, broke_after_came, whole_then_answers}
use Rattle.il_control.proofs.Made.{made, broken_off, made_whole, broken_off_broke}
use Rattle.il_control.proofs.Names.{named, talker_there}
use Rattle.il_control.proofs.Places.{cut_no_poll, receive_no_poll, unheard_stay}
use Rattle.il_control.proofs.Talking.{asked_one}
use Rattle.il_control.proofs.Telling.{number_fits}

-- ---- what came of the start message

never_full : (w : ℕ) → 0 < w → false ≡ (0 == w)
never_full w some = sym (ne_eqb 0 w (λ e. omega (arith, e, some)))

-- nobody took it
nobody : (gs : List Frame) (R : Type 0) → R × IsSome (talker_of NotTaken) → AllSpoken gs
nobody gs R after = let clash = after.1 in cc

says_sai : (start : Start) → start ≡ Sai → message_of (start_frame start) ≡ msg.Sai
says_sai start is = ap (λ start. message_of (start_frame start)) is

pub passed_answered : {M : Type 0} (view : M → MediumView) (r s : RingView M) (start : Start) (old : List ℕ) → 0 < length old → (whole : Whole view r (returned 0 (start_frame start) ∷ []) s) × (own_frames whole.adds.answers ≡ []) × (message_of (start_frame start) ≡ msg.Sai → Each IsNameless 1 (devices_of r)) × Unheard r s → Answered view start 0 r old old s
passed_answered view r s start old some passed = record { answer = NotTaken; legal = refl; talked = tt; whole = passed.0; far = λ after. nobody _ _ after; said = λ is. passed.1; count = refl; within = omega arith; bytes = refl; stops = never_full (length old) some; unheard = passed.3; id = λ sai. passed.2 (says_sai start sai) }

one_answer : {M : Type 0} (r : RingView M) (p : ℕ) (d : Echo) → is_echo d ≡ true → IsTalking p None (devices_of r) → is_answer 0 (ToItsEnd p (d ∷ [])) ≡ true
one_answer r p d echo talking = and_from (not (p == 0)) (true && list_all is_echo (d ∷ [])) (ap not (ne_eqb p 0 (λ e. omega (arith, e, talking.party)))) (and_from true (list_all is_echo (d ∷ [])) refl (and_from (is_echo d) true echo refl))

-- more entries after a break bring no more frames
first_lost : {M : Type 0} (view : M → MediumView) (r s : RingView M) (start : Start) (p : ℕ) (d : Echo) (broke : Broke view r (entry 0 (start_frame start) (outcome.Taken p) ∷ echoed p d ∷ []) s) → AllSpoken broke.adds.came
    → AllSpoken (broke_before view r s (entry 0 (start_frame start) (outcome.Taken p) ∷ echoed p d ∷ []) (entry p eto (outcome.Taken 0) ∷ []) broke).adds.came
first_lost view r s start p d broke spoken = subst AllSpoken (sym (broke_before_came view r s (entry 0 (start_frame start) (outcome.Taken p) ∷ echoed p d ∷ []) (entry p eto (outcome.Taken 0) ∷ []) broke)) spoken

pub lost_answered : {M : Type 0} (view : M → MediumView) (r s : RingView M) (start : Start) (w : ℕ) → 0 < w → BeginBroken view (start_frame start) r s → NotAnswered view start w r s
lost_answered view r s start w some (StartLost broke unheard) = record { answer = NotTaken; legal = refl; talked = tt; fitting = refl; broke = broke; ended = quiet_ended view r s (returned 0 (start_frame start) ∷ []) broke (and_from _ true (start_quiet start (outcome.Back (start_frame start))) refl); far = λ after. nobody _ _ after; unheard = unheard }
lost_answered view r s start w some (FirstLost p d echo talking broke far unheard) = record {
  answer = ToItsEnd p (d ∷ []);
  legal = one_answer r p d echo talking;
  talked = talking;
  fitting = le-leb 1 w (omega (arith, some));
  broke = broke_before view r s (entry 0 (start_frame start) (outcome.Taken p) ∷ echoed p d ∷ []) (entry p eto (outcome.Taken 0) ∷ []) broke;
  ended = quiet_ended view r s (entry 0 (start_frame start) (outcome.Taken p) ∷ echoed p d ∷ entry p eto (outcome.Taken 0) ∷ [])
      (broke_before view r s (entry 0 (start_frame start) (outcome.Taken p) ∷ echoed p d ∷ []) (entry p eto (outcome.Taken 0) ∷ []) broke)
      (and_from _ _ (start_quiet start (outcome.Taken p)) (and_from _ true (echo_quiet p d echo) refl));
  far = λ after. first_lost view r s start p d broke (far after.0);
  unheard = unheard;
}

-- what a talker sent
said_by : (answer : Answer) (p : ℕ) → talker_of answer ≡ Some p → said_of answer ≡ sent_frames answer ++ eto ∷ []
said_by NotTaken p is = cc
said_by (ToItsEnd q ds) p is = refl
said_by (Stopped q ds last) p is = refl

-- the entries of an answer by this talker
taken_entries : (f : Frame) (answer : Answer) (p : ℕ) → talker_of answer ≡ Some p → answer_entries 0 f answer ≡ entry 0 f (outcome.Taken p) ∷ past_start answer
taken_entries f NotTaken p is = cc
taken_entries f (ToItsEnd q ds) p is = let same : q ≡ p = cc in ap (λ p. entry 0 f (outcome.Taken p) ∷ past_start (ToItsEnd q ds)) same
taken_entries f (Stopped q ds last) p is = let same : q ≡ p = cc in ap (λ p. entry 0 f (outcome.Taken p) ∷ past_start (Stopped q ds last)) same

-- the end of the transmission is among the entries of an answer
near_of : (f : Frame) (answer : Answer) (q p : ℕ) → talker_of answer ≡ Some p → (p == 0) ≡ false → list_all (is_from_here q) (answer_entries 0 f answer) ≡ true → q ≤ p
near_of f NotTaken q p is device from = cc
near_of f (ToItsEnd t ds) q p is device from = let same : t ≡ p = cc in near_source q p (entry 0 f (outcome.Taken t) ∷ map (echoed t) ds) (entry t eto (outcome.Taken 0)) [] from same device
near_of f (Stopped t ds last) q p is device from = let same : t ≡ p = cc in near_source q p (entry 0 f (outcome.Taken t) ∷ map (echoed t) ds ++ returned 0 nrd ∷ []) (echoed t last) (entry t eto (outcome.Taken 0) ∷ [])
    (ap (λ es. list_all (is_from_here q) (entry 0 f (outcome.Taken t) ∷ es)) (append_assoc (map (echoed t) ds) (returned 0 nrd ∷ []) (echoed t last ∷ entry t eto (outcome.Taken 0) ∷ [])) ∙ from) same device

module _ {M : Type 0} (view : M → MediumView) (r m s : RingView M) (start : Start) (ring : IsRing r) (began : BeginWhole view (start_frame start) r m) where
  abbrev p : ℕ
  p = began.now.flight.source

  abbrev first : List Entry
  first = entry 0 (start_frame start) (outcome.Taken p) ∷ []

  was_talking : (answer : Answer) → talker_of answer ≡ Some p → WasTalking answer r
  was_talking answer is = subst (λ o. IfSome o (λ p. IsTalking p None (devices_of r))) (sym is) began.talked

  clean_met : began.now.flight.altered ≡ false → met_between r m ≡ []
  clean_met unaltered = subst (λ altered. MatchBool altered (met_between r m ≡ [] → ⊥) (met_between r m ≡ [])) unaltered began.met

  spoilt_met : began.now.flight.altered ≡ true → met_between r m ≡ [] → ⊥
  spoilt_met altered = subst (λ altered. MatchBool altered (met_between r m ≡ [] → ⊥) (met_between r m ≡ [])) altered began.met

  all_added : (answer : Answer) (added : Brings view m p (λ gs. began.now.flight.sent ∷ gs ≡ sent_frames answer ++ eto ∷ []) (Some p) (past_start answer) None s) → talker_of answer ≡ Some p
      → Brings view r p (λ gs. gs ≡ sent_frames answer ++ eto ∷ []) None (answer_entries 0 (start_frame start) answer) None s
  all_added answer added talker =
      subst (λ es. Brings view r p (λ gs. gs ≡ sent_frames answer ++ eto ∷ []) None es None s) (sym (taken_entries (start_frame start) answer p talker))
      (brings_more view r m p (λ gs. gs ≡ began.now.flight.sent ∷ []) None (Some p) first began.added s (λ gs. began.now.flight.sent ∷ gs ≡ sent_frames answer ++ eto ∷ []) (λ gs. gs ≡ sent_frames answer ++ eto ∷ []) None (past_start answer) added
      (λ gs hs one more. ap (λ gs. gs ++ hs) one ∙ more))

  cut_added : (answer : Answer) (standing : ℕ) (break : Break) (held_at_end : Option ℕ) → CutBrings view m p (Some p) (past_start answer) standing break held_at_end s → talker_of answer ≡ Some p
      → CutBrings view r p None (answer_entries 0 (start_frame start) answer) (suc standing) break held_at_end s
  cut_added answer standing break held_at_end added talker =
      subst (λ es. CutBrings view r p None es (suc standing) break held_at_end s) (sym (taken_entries (start_frame start) answer p talker)) (cut_brings_more view r m p (λ gs. gs ≡ began.now.flight.sent ∷ []) None (Some p) first began.added s held_at_end (past_start answer) standing break added)

  -- the premise on the entries shows where the drive stands
  near_talker : (answer : Answer) → talker_of answer ≡ Some p → list_all (is_from_here (drive_party r)) (answer_entries 0 (start_frame start) answer) ≡ true → drive_party r ≤ p
  near_talker answer talker from = near_of (start_frame start) answer (drive_party r) p talker (device_source p (omega (arith, began.now.talking.party))) from

  says_talker : (answer : Answer) → talker_of answer ≡ Some p → SaysOf answer r → drive_party r ≡ p
  says_talker answer talker says = sym (subst (λ o. IfSome o (λ p. p ≡ drive_party r)) talker says)

  far_talker : (answer : Answer) → talker_of answer ≡ Some p → LiesAfter answer r → p < drive_party r
  far_talker answer talker after = subst (λ o. IfSome o (λ p. p < drive_party r)) talker after.0

  pub took_answered : (old new : List ℕ) (n : ℕ) → TakesInto view m began.now old new n s → Answered view start n r old new s
  took_answered old new n into =
      let took = into.took in
      let answer = took.answer in
      let entries = taken_entries (start_frame start) answer p took.talker in
      let split = met_parts view r m s None (Some p) (Some p) None first (past_start answer) ring began.now.ring began.added.adds took.added.adds in
      record {
        answer = answer;
        legal = took.legal;
        talked = was_talking answer took.talker;
        whole = record {
          adds = (all_added answer took.added took.talker).adds;
          ring = took.ring;
          held = took.held;
          met_none = split.1 (clean_met took.clean.0, took.clean.1);
          unheard = λ none. unheard_then (devices_of r) (devices_of m) (devices_of s) began.unheard took.unheard;
          brought = λ from. ((all_added answer took.added took.talker).near (near_talker answer took.talker from)).0;
        };
        far = λ after. (all_added answer took.added took.talker).far (far_talker answer took.talker after);
        said = λ is. let at : drive_party r ≡ p = says_talker answer took.talker is in ((all_added answer took.added took.talker).near (omega (arith, at))).1 at ∙ sym (said_by answer p took.talker);
        count = into.count ∙ ap length took.bytes_are;
        within = into.within;
        bytes = into.filled ∙ ap (λ bytes. bytes ++ drop n old) took.bytes_are;
        stops = took.stopped;
        unheard = unheard_then (devices_of r) (devices_of m) (devices_of s) began.unheard took.unheard;
        id = λ sai.
            let id = began.id (says_sai start sai) in
            let last : began.now.own.last ≡ true = ap (λ (own : OwnFrame). own.last) id.2 in
            let byte : byte_of began.now.flight.sent ≡ id.0 = ap byte_of (sym began.now.frame) ∙ ap (λ (own : OwnFrame). byte_of own.frame) id.2 in
            let told : received answer ≡ id_bytes (accessory_at (p - 1) (devices_of r)) = sym took.bytes_are ∙ took.alone last ∙ ap (λ byte. byte ∷ []) byte ∙ ap id_bytes (sym id.1) ∙ ap id_bytes (sym (talker_there p None (devices_of r) began.talked)) in
            subst (λ o. MatchOption o (Each IsNameless 1 (devices_of r)) (λ p. received answer ≡ id_bytes (accessory_at (p - 1) (devices_of r)))) (sym took.talker) told;
      }

  pub not_took_answered : (w : ℕ) → TakesBroken view m began.now w s → NotAnswered view start w r s
  not_took_answered w not_took =
      let answer = not_took.answer in
      let entries = taken_entries (start_frame start) answer p not_took.talker in
      let cut = cut_at (past_start answer) not_took.standing not_took.break in
      let split = met_parts view r m s None (Some p) (Some p) not_took.held_at_end first cut ring began.now.ring began.added.adds not_took.added.adds in
      let all_unheard = unheard_then (devices_of r) (devices_of m) (devices_of s) began.unheard not_took.unheard in
      record {
        answer = answer;
        legal = not_took.legal;
        talked = was_talking answer not_took.talker;
        fitting = not_took.fitting;
        broke = record {
          standing = suc not_took.standing;
          break = not_took.break;
          legal = ap (λ es. can_cut 0 es (suc not_took.standing) not_took.break) entries ∙ not_took.cuts;
          held_at_end = not_took.held_at_end;
          told = λ none. not_took.ended ∙ cut_holds_none (Some p) (past_start answer) not_took.standing not_took.break (and_parts _ _ (subst (λ es. list_all is_no_nrd es ≡ true) entries none)).1;
          adds = (cut_added answer not_took.standing not_took.break not_took.held_at_end not_took.added not_took.talker).adds;
          ring = not_took.ring;
          held = not_took.held;
          met_some = λ none. ⊎_elim (λ altered. spoilt_met altered (split.0 none).0) (λ some. some (split.0 none).1) not_took.spoilt;
          unheard = λ none. all_unheard;
          brought = λ from. (cut_added answer not_took.standing not_took.break not_took.held_at_end not_took.added not_took.talker).near (near_talker answer not_took.talker from);
        };
        ended = not_took.ended ∙ sym (cut_held None first (past_start answer) not_took.standing not_took.break not_took.cuts) ∙ ap (λ es. held_after None (cut_at es (suc not_took.standing) not_took.break)) (sym entries);
        far = λ after. (cut_added answer not_took.standing not_took.break not_took.held_at_end not_took.added not_took.talker).far (far_talker answer not_took.talker after);
        unheard = all_unheard;
      }

pub bytes_answered : {M : Type 0} (view : M → MediumView) (r m s : RingView M) (start : Start) (old new : List ℕ) (result : Option ℕ) → IsRing r → BeginWhole view (start_frame start) r m → TakesBytes view m old new result s
    → MatchOption result (NotAnswered view start (length old) r s) (λ n. Answered view start n r old new s)
bytes_answered view r m s start old new None ring began takes = not_took_answered view r m s start ring began (length old) (takes began.now)
bytes_answered view r m s start old new (Some n) ring began takes = took_answered view r m s start ring began old new n (takes began.now)

-- the room that it leaves
length_answer : (f : Frame) (answer : Answer) → length (answer_entries 0 f answer) ≤ length (received answer) + 3
length_answer f NotTaken = omega arith
length_answer f (ToItsEnd p ds) =
    let many = length-map ds (λ (d : Echo). byte_of d.sent) in
    let echoes = length-map ds (echoed p) in
    let all = length-append (map (echoed p) ds) (entry p eto (outcome.Taken 0) ∷ []) in
    omega (arith, many, echoes, all)
length_answer f (Stopped p ds last) =
    let many = length-map ds (λ (d : Echo). byte_of d.sent) in
    let echoes = length-map ds (echoed p) in
    let all = length-append (map (echoed p) ds) (returned 0 nrd ∷ echoed p last ∷ entry p eto (outcome.Taken 0) ∷ []) in
    let bytes = length-append (bytes_of ds) (byte_of last.sent ∷ []) in
    omega (arith, many, echoes, all, bytes)

length_front : (a : ℕ) (number : Option ℕ) → length (receive_front 0 a number) ≤ 6
length_front a None = omega arith
length_front a (Some n) = omega arith

pub asked_room : {M : Type 0} (view : M → MediumView) (r m : RingView M) (a : ℕ) (number : Option ℕ) (more : ℕ) → Asked view a number r m → more + 6 ≤ spare_of r → more ≤ spare_of m
asked_room view r m a number more asked room = let long = length_front a number in room_after view r m (receive_front 0 a number) more asked.whole (omega (arith, long, room))

pub answered_room : {M : Type 0} (view : M → MediumView) (r s : RingView M) (start : Start) (n more : ℕ) (old new : List ℕ) → Answered view start n r old new s → more + (length old + 3) ≤ spare_of r → more ≤ spare_of s
answered_room view r s start n more old new answered room =
    let long = length_answer (start_frame start) answered.answer in
    room_after view r s (answer_entries 0 (start_frame start) answered.answer) more answered.whole (omega (arith, long, room, answered.count, answered.within))

-- what was taken fits
answered_fits : (answer : Answer) (n w : ℕ) → n ≡ length (received answer) → n ≤ w → is_stopped answer ≡ (n == w) → fits w answer ≡ true
answered_fits NotTaken n w count within stops = refl
answered_fits (ToItsEnd p ds) n w count within stops = let many = length-map ds (λ (d : Echo). byte_of d.sent) in le-leb (length ds) w (omega (arith, count, many, within))
answered_fits (Stopped p ds last) n w count within stops =
    let many = length-map ds (λ (d : Echo). byte_of d.sent) in
    let all = length-append (bytes_of ds) (byte_of last.sent ∷ []) in
    let full = eqb-true n w (sym stops) in
    eq-eqb (suc (length ds)) w (omega (arith, count, many, all, full))

-- ---- all of it

front_no_data : (a : ℕ) (number : Option ℕ) → list_all has_no_data (receive_front 0 a number) ≡ true
front_no_data a None = refl
front_no_data a (Some n) = refl

front_from_here : (q a : ℕ) (number : Option ℕ) → list_all (is_from_here q) (receive_front 0 a number) ≡ true
front_from_here q a None = refl
front_from_here q a (Some n) = refl

or_true : (b c : Bool) → c ≡ true → (b || c) ≡ true
or_true true c is = refl
or_true false c is = is

source_here : (p q : ℕ) → p ≡ q → ((p == 0) || nat_le q p) ≡ true
source_here p q same = or_true (p == 0) (nat_le q p) (le-leb q p (omega (arith, same)))

echoes_here : (p q : ℕ) (ds : List Echo) → p ≡ q → list_all (is_from_here q) (map (echoed p) ds) ≡ true
echoes_here p q [] same = refl
echoes_here p q (d ∷ ds) same = and_from ((p == 0) || nat_le q p) (list_all (is_from_here q) (map (echoed p) ds)) (source_here p q same) (echoes_here p q ds same)

-- each entry of an answer is the host's or of this talker
answer_from_here : (f : Frame) (answer : Answer) (q : ℕ) → IfSome (talker_of answer) (λ p. p ≡ q) → list_all (is_from_here q) (answer_entries 0 f answer) ≡ true
answer_from_here f NotTaken q is = refl
answer_from_here f (ToItsEnd p ds) q same =
    list_all-append (is_from_here q) (map (echoed p) ds) (entry p eto (outcome.Taken 0) ∷ [])
    ∙ and_from (list_all (is_from_here q) (map (echoed p) ds)) (list_all (is_from_here q) (entry p eto (outcome.Taken 0) ∷ [])) (echoes_here p q ds same) (and_from (is_from_here q (entry p eto (outcome.Taken 0))) true (source_here p q same) refl)
answer_from_here f (Stopped p ds last) q same =
    list_all-append (is_from_here q) (map (echoed p) ds) (returned 0 nrd ∷ echoed p last ∷ entry p eto (outcome.Taken 0) ∷ [])
    ∙ and_from (list_all (is_from_here q) (map (echoed p) ds)) (list_all (is_from_here q) (returned 0 nrd ∷ echoed p last ∷ entry p eto (outcome.Taken 0) ∷ [])) (echoes_here p q ds same)
    (and_from (is_from_here q (echoed p last)) (list_all (is_from_here q) (entry p eto (outcome.Taken 0) ∷ [])) (source_here p q same) (and_from (is_from_here q (entry p eto (outcome.Taken 0))) true (source_here p q same) refl))

-- as many answers as frames
ran_length : {M : Type 0} (view : M → MediumView) (v w : DriveView M) (fs : List Frame) (outs : List Out) → Ran view v fs outs w → length outs ≡ length fs
ran_length view v w [] [] ran = refl
ran_length view v w (f ∷ fs) (out ∷ outs) ran = ap suc (ran_length view ran.0 w fs outs ran.2)
ran_length view v w [] (out ∷ outs) ran = absurd ran
ran_length view v w (f ∷ fs) [] ran = absurd ran

-- the receive is one on this ring
is_receive : {M : Type 0} (r : RingView M) (a : ℕ) (number : Option ℕ) (start : Start) (answer : Answer) → a ≤ 30 → IfSome number (λ n. n < 32) → is_answer 0 answer ≡ true → is_exchange (loop_of r) (Receive a number start answer) ≡ true
is_receive r a number start answer low small legal = and_from (is_address a) (is_number number && is_answer 0 answer) (le-leb a 30 low) (and_from (is_number number) (is_answer 0 answer) (number_fits number small) legal)

module _ {M : Type 0} (view : M → MediumView) (a : ℕ) (number : Option ℕ) (start : Start) (r : RingView M) (idle : IsIdle r) (some : 1 ≤ a) (low : a ≤ 30) (small : IfSome number (λ n. n < 32)) where
  abbrev front : List Entry
  front = receive_front 0 a number

  abbrev all : Answer → List Entry
  all answer = answer_entries 0 (start_frame start) answer

  -- the count of devices, as exchanges see it
  as_asked : (answer : Answer) → answers_as_asked (length (devices_of r)) (Receive a number start answer) ≡ true → answers_as_asked (length (roles_of (devices_of r))) (Receive a number start answer) ≡ true
  as_asked answer asked = ap (λ k. answers_as_asked k (Receive a number start answer)) (length-map (devices_of r) (λ (d : DeviceState). d.roles)) ∙ asked

  -- what came to the drive, if it comes after the talker
  abbrev Passed : Answer → ℕ → List Frame → Type 0
  Passed answer standing came = LiesAfter answer r → PassesInPart (length (devices_of r)) (drive_party r) a number (up_to_end a number start answer) standing came

  -- whether a frame was held is read off
  abbrev EndedSo : {s : RingView M} (es : List Entry) → Broke view r es s → Type 0
  EndedSo es broke = broke.held_at_end ≡ held_after None (cut_at es broke.standing broke.break)

  broken : (answer : Answer) (w : ℕ) (s : RingView M) → answers_as_asked (length (devices_of r)) (Receive a number start answer) ≡ true → is_answer 0 answer ≡ true → fits w answer ≡ true
      → (broke : Broke view r (front ++ (all answer ++ commanded 0 unt)) s) → EndedSo (front ++ (all answer ++ commanded 0 unt)) broke → Passed answer broke.standing broke.adds.came → Unheard r s → NotReceived view a number start w r s
  broken answer w s asked legal fit broke ended passed unheard =
      let x = Receive a number start answer in
      let is = is_receive r a number start answer low small legal in
      let told : (broke : Broke view r (entries_of 0 x) s) × EndedSo (entries_of 0 x) broke × Passed answer broke.standing broke.adds.came =
      subst (λ es. (broke : Broke view r es s) × EndedSo es broke × Passed answer broke.standing broke.adds.came) (sym (entries_of-receive 0 a number start answer)) (broke, ended, passed) in
      record {
        answer = answer;
        asked = asked;
        fitting = fit;
        broken = broken_off view x r s idle is (as_asked answer asked) told.0 told.1;
        unheard = unheard;
        stays = unheard_stay r s unheard (broke.adds.places (cut_no_poll (front ++ (all answer ++ commanded 0 unt)) broke.standing broke.break (receive_no_poll a number start answer low small legal)));
        passed = subst (λ (broke : Broke view r (entries_of 0 x) s). Passed answer broke.standing broke.adds.came) (sym (broken_off_broke view x r s idle is (as_asked answer asked) told.0 told.1)) told.2;
      }

  -- no device was told to talk
  pub not_asked : (w : ℕ) (s : RingView M) → Broke view r front s → NotReceived view a number start w r s
  not_asked w s broke = broken NotTaken w s refl refl refl (broke_before view r s front (all NotTaken ++ commanded 0 unt) broke) (broke_before_ended view r s front (all NotTaken ++ commanded 0 unt) broke (quiet_ended view r s front broke (front_quiet a number))) (λ after. let clash = after.1 in cc) (broke.unheard (front_no_data a number))

  module _ (m : RingView M) (asked : Asked view a number r m) where
    front_unheard : Unheard r m
    front_unheard = asked.whole.unheard (front_no_data a number)

    -- the drive comes after the talker still
    after_still : (answer : Answer) → LiesAfter answer r → LiesAfter answer m
    after_still answer after = (subst (λ q. IfSome (talker_of answer) (λ p. p < q)) (sym (ap (λ n. n + 1) asked.whole.adds.before)) after.0, after.1)

    -- and so if it is the talker
    says_still : (answer : Answer) → SaysOf answer r → SaysOf answer m
    says_still answer says = subst (λ q. IfSome (talker_of answer) (λ p. p ≡ q)) (sym (ap (λ n. n + 1) asked.whole.adds.before)) says

    front_brought : Brought (length (devices_of r)) (drive_party r) front asked.whole.adds.came
    front_brought = asked.whole.brought (front_from_here (drive_party r) a number)

    pub not_answered : (w : ℕ) (s : RingView M) → NotAnswered view start w m s → NotReceived view a number start w r s
    not_answered w s off =
        let part = broke_before view m s (all off.answer) (commanded 0 unt) off.broke in
        let whole = broke_after view r m s front (all off.answer ++ commanded 0 unt) idle.free.ring asked.whole part in
        let came : whole.adds.came ≡ asked.whole.adds.came ++ (off.broke.adds.came ++ []) =
        broke_after_came view r m s front (all off.answer ++ commanded 0 unt) idle.free.ring asked.whole part
        ∙ ap (λ gs. asked.whole.adds.came ++ gs) (broke_before_came view m s (all off.answer) (commanded 0 unt) off.broke ∙ sym (append-nil off.broke.adds.came)) in
        let stands = broke_after_standing view r m s front (all off.answer ++ commanded 0 unt) idle.free.ring asked.whole part ∙ ap (λ n. length front + n) (broke_before_standing view m s (all off.answer) (commanded 0 unt) off.broke) in
        let short = cut_within (all off.answer) off.broke.standing off.broke.break off.broke.legal in
        let rest = broke_before_ended view m s (all off.answer) (commanded 0 unt) off.broke off.ended in
        let ended = broke_after_ended view r m s front (all off.answer ++ commanded 0 unt) idle.free.ring asked.whole part (rest ∙ ap (λ before. held_after before (cut_at (all off.answer ++ commanded 0 unt) part.standing part.break)) (sym (front_source a number))) in
        broken off.answer w s (asked_one view r m a number start off.answer idle some low (number_fits number small) asked off.talked) off.legal off.fitting whole ended
        (λ after. record {
          before = asked.whole.adds.came;
          spoken = off.broke.adds.came;
          after = [];
          all = came;
          first = front_brought;
          during = off.far (after_still off.answer after);
          last = inl (omega (arith, stands, short), refl);
        })
        (unheard_then (devices_of r) (devices_of m) (devices_of s) front_unheard off.unheard)

    -- after the answer the ring has the same devices
    module _ (n : ℕ) (old new : List ℕ) (u : RingView M) (answered : Answered view start n m old new u) where
      size_still : length (devices_of u) ≡ length (devices_of r)
      size_still = answered.whole.adds.size ∙ asked.whole.adds.size

      before_still : length u.before ≡ length r.before
      before_still = answered.whole.adds.before ∙ asked.whole.adds.before

      told : answers_as_asked (length (devices_of r)) (Receive a number start answered.answer) ≡ true
      told = asked_one view r m a number start answered.answer idle some low (number_fits number small) asked answered.talked

      pub not_ended : (s : RingView M) (f : Frame) → f ≡ unt → Broke view u (commanded 0 f) s → NotReceived view a number start (length old) r s
      not_ended s f is broke =
          let answer = answered.answer in
          let off = subst (λ f. Broke view u (commanded 0 f) s) is broke in
          let more = broke_after view m u s (all answer) (commanded 0 unt) asked.whole.ring answered.whole off in
          let whole = broke_after view r m s front (all answer ++ commanded 0 unt) idle.free.ring asked.whole more in
          let came : whole.adds.came ≡ asked.whole.adds.came ++ (answered.whole.adds.came ++ off.adds.came) =
          broke_after_came view r m s front (all answer ++ commanded 0 unt) idle.free.ring asked.whole more
          ∙ ap (λ gs. asked.whole.adds.came ++ gs) (broke_after_came view m u s (all answer) (commanded 0 unt) asked.whole.ring answered.whole off) in
          let stands = broke_after_standing view r m s front (all answer ++ commanded 0 unt) idle.free.ring asked.whole more ∙ ap (λ n. length front + n) (broke_after_standing view m u s (all answer) (commanded 0 unt) asked.whole.ring answered.whole off) in
          let rest = broke_after_ended view m u s (all answer) (commanded 0 unt) asked.whole.ring answered.whole off (off.told refl ∙ sym (cut_holds_none (sourcing None (all answer)) (commanded 0 unt) off.standing off.break refl)) in
          let ended = broke_after_ended view r m s front (all answer ++ commanded 0 unt) idle.free.ring asked.whole more (rest ∙ ap (λ before. held_after before (cut_at (all answer ++ commanded 0 unt) more.standing more.break)) (sym (front_source a number))) in
          broken answer (length old) s told answered.legal (answered_fits answer n (length old) answered.count answered.within answered.stops) whole ended
          (λ after. record {
            before = asked.whole.adds.came;
            spoken = answered.whole.adds.came;
            after = off.adds.came;
            all = came;
            first = front_brought;
            during = answered.far (after_still answer after);
            last =
                let after_end : off.standing ≡ whole.standing - up_to_end a number start answer = omega (arith, stands) in
                inr (
                  omega (arith, stands),
                  subst (λ n. CutBrought (length (devices_of r)) (drive_party r) (commanded 0 unt) n off.adds.came) after_end
                      (same_place r u (λ k q. CutBrought k q (commanded 0 unt) off.standing off.adds.came) before_still size_still (off.brought refl)),
                );
          })
          (unheard_then (devices_of r) (devices_of m) (devices_of s) front_unheard (unheard_then (devices_of m) (devices_of u) (devices_of s) answered.unheard (off.unheard refl)))

      pub received_all : (s : RingView M) (f : Frame) → f ≡ unt → Whole view u (commanded 0 f) s → Received view a number start n r old new s
      received_all s f is whole =
          let answer = answered.answer in
          let last = subst (λ f. Whole view u (commanded 0 f) s) is whole in
          let x = Receive a number start answer in
          let more = whole_then view m u s (all answer) (commanded 0 unt) asked.whole.ring answered.whole last in
          let done = whole_then view r m s front (all answer ++ commanded 0 unt) idle.free.ring asked.whole more in
          let came : done.adds.came ≡ asked.whole.adds.came ++ (answered.whole.adds.came ++ last.adds.came) =
          whole_then_came view r m s front (all answer ++ commanded 0 unt) idle.free.ring asked.whole more
          ∙ ap (λ gs. asked.whole.adds.came ++ gs) (whole_then_came view m u s (all answer) (commanded 0 unt) asked.whole.ring answered.whole last) in
          let legal = is_receive r a number start answer low small answered.legal in
          let unheard = unheard_then (devices_of r) (devices_of m) (devices_of s) front_unheard (unheard_then (devices_of m) (devices_of u) (devices_of s) answered.unheard (last.unheard refl)) in
          let answers : done.adds.answers ≡ asked.whole.adds.answers ++ (answered.whole.adds.answers ++ last.adds.answers) =
          whole_then_answers view r m s front (all answer ++ commanded 0 unt) idle.free.ring asked.whole more
          ∙ ap (λ outs. asked.whole.adds.answers ++ outs) (whole_then_answers view m u s (all answer) (commanded 0 unt) asked.whole.ring answered.whole last) in
          let P : List Frame → List Out → Type 0 = λ came answers.
          (LiesAfter answer r → PassesBy (length (devices_of r)) (drive_party r) a number came) × (SaysOf answer r → SpokenBy (length (devices_of r)) (drive_party r) a number start answer came answers) in
          let passed : LiesAfter answer r → PassesBy (length (devices_of r)) (drive_party r) a number done.adds.came = λ after. record {
            before = asked.whole.adds.came;
            spoken = answered.whole.adds.came;
            after = last.adds.came;
            all = came;
            first = asked.whole.brought (front_from_here (drive_party r) a number);
            during = answered.far (after_still answer after);
            last = same_place r u (λ k q. Brought k q (commanded 0 unt) last.adds.came) before_still size_still (last.brought refl);
          } in
          let spoken : SaysOf answer r → SpokenBy (length (devices_of r)) (drive_party r) a number start answer done.adds.came done.adds.answers = λ is.
          let here = says_still answer is in
          record {
            before = asked.whole.adds.came;
            during = answered.whole.adds.came;
            after = last.adds.came;
            all = came;
            first = asked.whole.brought (front_from_here (drive_party r) a number);
            middle = same_place r m (λ k q. Brought k q (all answer) answered.whole.adds.came) asked.whole.adds.before asked.whole.adds.size (answered.whole.brought (answer_from_here (start_frame start) answer (drive_party m) here));
            last = same_place r u (λ k q. Brought k q (commanded 0 unt) last.adds.came) before_still size_still (last.brought refl);
            answers_before = asked.whole.adds.answers;
            answers_during = answered.whole.adds.answers;
            answers_after = last.adds.answers;
            all_answers = answers;
            many_before = ran_length view r.drive m.drive asked.whole.adds.came asked.whole.adds.answers asked.whole.adds.drive;
            many_during = ran_length view m.drive u.drive answered.whole.adds.came answered.whole.adds.answers answered.whole.adds.drive;
            said = answered.said here;
          } in
          let all_done : (whole : Whole view r (entries_of 0 x) s) × P whole.adds.came whole.adds.answers =
          subst (λ es. (whole : Whole view r es s) × P whole.adds.came whole.adds.answers) (sym (entries_of-receive 0 a number start answer)) (done, (passed, spoken)) in
          let made_so : P (made view x r s idle legal (as_asked answer told) refl all_done.0).whole.adds.came (made view x r s idle legal (as_asked answer told) refl all_done.0).whole.adds.answers =
          subst (λ (whole : Whole view r (entries_of 0 x) s). P whole.adds.came whole.adds.answers) (sym (made_whole view x r s idle legal (as_asked answer told) refl all_done.0)) all_done.1 in
          record {
            answer = answer;
            asked = told;
            made = made view x r s idle legal (as_asked answer told) refl all_done.0;
            count = answered.count;
            within = answered.within;
            bytes = answered.bytes;
            stops = answered.stops;
            unheard = unheard;
            id = λ sai. named view r m a number start answer idle some low (number_fits number small) asked front_unheard told (answered.id sai);
            stays = unheard_stay r s unheard (done.adds.places (receive_no_poll a number start answer low small answered.legal));
            passed = made_so.0;
            spoken = made_so.1;
          }
