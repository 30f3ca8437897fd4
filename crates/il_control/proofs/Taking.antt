-- The frames of a talker, one after the other.
use Rattle.il_frames.specs.declared.frame.Frame.{Frame}
use Rattle.std.proofs.Common.{◌||◌, ◌≡◌, ◌≢◌, ◌∙◌, ◌≤◌, ◌<◌, ◌+◌, ◌-◌, ◌++◌, ◌&&◌, ◌==◌, inl, inr, ⊎_elim, ℕ, suc, Bool, true, false, not, List, [], ◌∷◌, Option, Some, None, length, take, drop, set, map, refl, sym, ap, ap₂, subst, arith, append_assoc, append-nil, length-append}
use Rattle.std.proofs.Math.Seq.{take-suc-set, take-length}
use Rattle.std.specs.Prelude.{MatchBool, IfSome, IsSome}
use Rattle.std.specs.List.{list_all}
use Rattle.std.proofs.lemmas.Bool.{and_parts, and_from, eq-eqb, eqb-true, le-leb, leb-true, ne_eqb}
use Rattle.std.proofs.lemmas.List.{map-append, length-map, length-take-le, length-set, length-drop, drop-set-lt, drop-drop, drop-append-le, drop_all, take-append-drop}
use Rattle.std.proofs.lemmas.List.Folds.{list_all-append}
use Rattle.il_frames.specs.declared.entry.Entry.{Entry}
use Rattle.il_frames.specs.declared.entry.Outcome.TheVariants as outcome
use Rattle.il_frames.specs.Frames.{byte_of}
use Rattle.il_device.specs.Takes.{eto}
use Rattle.il_ports.specs.Media.{MediumView}
use Rattle.il_frames.specs.NamedFrames.{entry, nrd}
use Rattle.loop_model.specs.Exchanges.{Echo, Break, Answer, NotTaken, ToItsEnd, Stopped, echoed, returned, break_entries, cut_at, can_cut, is_answer, is_break, is_echo, is_some_data, bytes_of}
use Rattle.loop_model.specs.Reach.{held_at_end as held_after}
use Rattle.il_ring.specs.Plans.{hops_of}
use Rattle.il_ring.specs.Rings.{RingView, IsRing, devices_of, spare_of}
use Rattle.il_ring.specs.Outcomes.{met_between}
use Rattle.il_ring.proofs.Faults.{met_nowhere}
use Rattle.il_control.specs.Calls.{Unheard}
use Rattle.il_control.specs.Brought.{CutBrought}
use Rattle.il_control.specs.Receives.{AddsBy, Brings, CutBrings, IsHolding, ReachesFault, ReachesNoFault, RelaysNext, Ended, DueAt, AtHeld, AtNext, AtEnd, RelayBroken, TakesSoFar, TakesWhole, TakesBroken, RelaysAs, FrontAt, Fronts, Stops, TakesInto, past_start, talker_of, is_stopped, received, fits, frames_of, sent_frames}
use Rattle.il_control.specs.declared.receiving.Front.TheVariants as front
use Rattle.il_control.specs.declared.receiving.Onward.TheVariants as onward
use Rattle.il_control.proofs.HeldAtEnd.{cut_held, echoes_source, severed_holds_none}
use Rattle.il_control.proofs.Calls.{met_parts, unheard_then, unheard_nothing}
use Rattle.il_control.proofs.Spoken.{added_as, after_all, brings_nothing, brings_more, cut_brings_more, cut_entries, cut_legal, cut_more}

-- ---- more data frames before those of an answer

abbrev pub prepended : List Echo → Answer → Answer
prepended ds NotTaken = NotTaken
prepended ds (ToItsEnd p es) = ToItsEnd p (ds ++ es)
prepended ds (Stopped p es last) = Stopped p (ds ++ es) last

prepended_talker : (ds : List Echo) (answer : Answer) → talker_of (prepended ds answer) ≡ talker_of answer
prepended_talker ds NotTaken = refl
prepended_talker ds (ToItsEnd p es) = refl
prepended_talker ds (Stopped p es last) = refl

prepended_stopped : (ds : List Echo) (answer : Answer) → is_stopped (prepended ds answer) ≡ is_stopped answer
prepended_stopped ds NotTaken = refl
prepended_stopped ds (ToItsEnd p es) = refl
prepended_stopped ds (Stopped p es last) = refl

some_data_after : (ds es : List Echo) → is_some_data es ≡ true → is_some_data (ds ++ es) ≡ true
some_data_after [] es some = some
some_data_after (d ∷ ds) es some = refl

prepended_legal : (ds : List Echo) (answer : Answer) → list_all is_echo ds ≡ true → is_answer 0 answer ≡ true → is_answer 0 (prepended ds answer) ≡ true
prepended_legal ds NotTaken echoes legal = refl
prepended_legal ds (ToItsEnd p es) echoes legal =
    let parts = and_parts (not (p == 0)) (is_some_data es && list_all is_echo es) legal in
    let more = and_parts (is_some_data es) (list_all is_echo es) parts.1 in
    and_from (not (p == 0)) (is_some_data (ds ++ es) && list_all is_echo (ds ++ es)) parts.0
    (and_from (is_some_data (ds ++ es)) (list_all is_echo (ds ++ es)) (some_data_after ds es more.0) (list_all-append is_echo ds es ∙ and_from (list_all is_echo ds) (list_all is_echo es) echoes more.1))
prepended_legal ds (Stopped p es last) echoes legal =
    let parts = and_parts (not (p == 0)) (list_all is_echo es && is_echo last) legal in
    let more = and_parts (list_all is_echo es) (is_echo last) parts.1 in
    and_from (not (p == 0)) (list_all is_echo (ds ++ es) && is_echo last) parts.0
    (and_from (list_all is_echo (ds ++ es)) (is_echo last) (list_all-append is_echo ds es ∙ and_from (list_all is_echo ds) (list_all is_echo es) echoes more.0) more.1)

prepended_entries : (ds : List Echo) (answer : Answer) (p : ℕ) → talker_of answer ≡ Some p → past_start (prepended ds answer) ≡ map (echoed p) ds ++ past_start answer
prepended_entries ds NotTaken p is = cc
prepended_entries ds (ToItsEnd q es) p is =
    let same : q ≡ p = cc in
    ap (λ xs. xs ++ entry q eto (outcome.Taken 0) ∷ []) (map-append (echoed q) ds es) ∙ append_assoc (map (echoed q) ds) (map (echoed q) es) (entry q eto (outcome.Taken 0) ∷ [])
    ∙ ap (λ p. map (echoed p) ds ++ past_start (ToItsEnd q es)) same
prepended_entries ds (Stopped q es last) p is =
    let same : q ≡ p = cc in
    ap (λ xs. xs ++ returned 0 nrd ∷ echoed q last ∷ entry q eto (outcome.Taken 0) ∷ []) (map-append (echoed q) ds es)
    ∙ append_assoc (map (echoed q) ds) (map (echoed q) es) (returned 0 nrd ∷ echoed q last ∷ entry q eto (outcome.Taken 0) ∷ [])
    ∙ ap (λ p. map (echoed p) ds ++ past_start (Stopped q es last)) same

prepended_bytes : (ds : List Echo) (answer : Answer) (p : ℕ) → talker_of answer ≡ Some p → received (prepended ds answer) ≡ bytes_of ds ++ received answer
prepended_bytes ds NotTaken p is = cc
prepended_bytes ds (ToItsEnd q es) p is = map-append (λ (d : Echo). byte_of d.sent) ds es
prepended_bytes ds (Stopped q es last) p is = ap (λ bytes. bytes ++ byte_of last.sent ∷ []) (map-append (λ (d : Echo). byte_of d.sent) ds es) ∙ append_assoc (bytes_of ds) (bytes_of es) (byte_of last.sent ∷ [])

prepended_frames : (ds : List Echo) (answer : Answer) (p : ℕ) → talker_of answer ≡ Some p → sent_frames (prepended ds answer) ≡ frames_of ds ++ sent_frames answer
prepended_frames ds NotTaken p is = cc
prepended_frames ds (ToItsEnd q es) p is = map-append (λ (d : Echo). d.sent) ds es
prepended_frames ds (Stopped q es last) p is = ap (λ gs. gs ++ last.sent ∷ []) (map-append (λ (d : Echo). d.sent) ds es) ∙ append_assoc (frames_of ds) (frames_of es) (last.sent ∷ [])

prepended_fits : (ds : List Echo) (answer : Answer) (v w : ℕ) → length ds + v ≡ w → fits v answer ≡ true → fits w (prepended ds answer) ≡ true
prepended_fits ds NotTaken v w sum fit = refl
prepended_fits ds (ToItsEnd q es) v w sum fit = let long = length-append ds es in le-leb (length (ds ++ es)) w (omega (arith, long, sum, leb-true (length es) v fit))
prepended_fits ds (Stopped q es last) v w sum fit = let long = length-append ds es in eq-eqb (suc (length (ds ++ es))) w (omega (arith, long, sum, eqb-true (suc (length es)) v fit))

-- ---- so far

-- nothing
pub so_far_nothing : {M : Type 0} (view : M → MediumView) (m : RingView M) (h : IsHolding m) → TakesSoFar view m h [] m
so_far_nothing view m h = record {
  ds = [];
  echoes = refl;
  bytes_are = refl;
  now = h;
  source = refl;
  alone = λ last. (refl, last, refl);
  added = brings_nothing view m h.flight.source (λ gs. h.flight.sent ∷ gs ≡ h.flight.sent ∷ []) refl;
  met = by h.flight.altered refl;
  unheard = unheard_nothing m;
}
  where
    by : (altered : Bool) → h.flight.altered ≡ altered → MatchBool altered (ReachesFault m h m) (ReachesNoFault m h m)
    by true is = inl is
    by false is = (is, met_nowhere (hops_of m.books.plan) m.books.crossings)

-- a byte whose frame was not altered
pub byte_sent : {M : Type 0} (m : RingView M) (h : IsHolding m) → h.flight.altered ≡ false → byte_of h.flight.now ≡ byte_of h.flight.sent
byte_sent m h unaltered = ap byte_of (h.stood.same unaltered)

-- it was clean if the held frame is not altered
was_clean : {M : Type 0} (view : M → MediumView) (m s : RingView M) (h : IsHolding m) (bytes : List ℕ) (so : TakesSoFar view m h bytes s) → so.now.flight.altered ≡ false → ReachesNoFault m h s
was_clean view m s h bytes so unaltered = subst (λ altered. MatchBool altered (ReachesFault m h s) (ReachesNoFault m h s)) unaltered so.met

was_spoilt : {M : Type 0} (view : M → MediumView) (m s : RingView M) (h : IsHolding m) (bytes : List ℕ) (so : TakesSoFar view m h bytes s) → so.now.flight.altered ≡ true → ReachesFault m h s
was_spoilt view m s h bytes so altered = subst (λ altered. MatchBool altered (ReachesFault m h s) (ReachesNoFault m h s)) altered so.met

-- a talker that goes on did not send its last frame
not_last : (stopped last : Bool) → last ≡ true → (stopped || last) ≡ false → ⊥
not_last true last is goes_on = cc
not_last false last is goes_on = cc

-- one byte more
pub so_far_more : {M : Type 0} (view : M → MediumView) (m n s : RingView M) (h : IsHolding m) (bytes : List ℕ) (byte : ℕ) (so : TakesSoFar view m h bytes n) → RelaysNext view n so.now s → byte ≡ byte_of so.now.flight.now → TakesSoFar view m h (bytes ++ byte ∷ []) s
so_far_more view m n s h bytes byte so went is_byte =
    let p = h.flight.source in
    let d : Echo = record { sent = so.now.flight.sent; back = went.back } in
    let next = went.next.flight.sent in
    let more : Brings view n p (λ gs. gs ≡ next ∷ []) (Some p) (echoed p d ∷ []) (Some p) s = subst (λ p. Brings view n p (λ gs. gs ≡ next ∷ []) (Some p) (echoed p d ∷ []) (Some p) s) so.source went.added in
    let clean = was_clean view m n h bytes so went.unaltered in
    let split = met_parts view m n s (Some p) (Some p) (Some p) (Some p) (map (echoed p) so.ds) (echoed p d ∷ []) h.ring so.now.ring so.added.adds more.adds in
    record {
      ds = so.ds ++ d ∷ [];
      echoes = list_all-append is_echo so.ds (d ∷ []) ∙ and_from (list_all is_echo so.ds) (list_all is_echo (d ∷ [])) so.echoes (and_from (is_echo d) true went.right refl);
      bytes_are = ap (λ bytes. bytes ++ byte ∷ []) so.bytes_are ∙ ap (λ byte. bytes_of so.ds ++ byte ∷ []) (is_byte ∙ byte_sent n so.now went.unaltered) ∙ sym (map-append (λ (d : Echo). byte_of d.sent) so.ds (d ∷ []));
      added = subst (λ es. Brings view m p (λ gs. h.flight.sent ∷ gs ≡ frames_of (so.ds ++ d ∷ []) ++ next ∷ []) (Some p) es (Some p) s) (sym (map-append (echoed p) so.ds (d ∷ [])))
          (brings_more view m n p (λ gs. h.flight.sent ∷ gs ≡ frames_of so.ds ++ so.now.flight.sent ∷ []) (Some p) (Some p) (map (echoed p) so.ds) so.added s (λ gs. gs ≡ next ∷ []) (λ gs. h.flight.sent ∷ gs ≡ frames_of (so.ds ++ d ∷ []) ++ next ∷ []) (Some p) (echoed p d ∷ []) more
          (λ gs hs first last. ap₂ (λ gs hs. gs ++ hs) first last ∙ ap (λ gs. gs ++ next ∷ []) (sym (map-append (λ (d : Echo). d.sent) so.ds (d ∷ [])))));
      now = went.next;
      source = went.source ∙ so.source;
      alone = λ last. absurd (not_last so.now.own.stopped so.now.own.last (so.alone last).1 went.goes_on);
      met = by went.next.flight.altered went.met clean split;
      unheard = unheard_then (devices_of m) (devices_of n) (devices_of s) so.unheard went.unheard;
    }
  where
    by : (altered : Bool) → MatchBool altered (met_between n s ≢ []) (met_between n s ≡ []) → ReachesNoFault m h n
        → (met_between m s ≡ [] → (met_between m n ≡ []) × (met_between n s ≡ [])) × (((met_between m n ≡ []) × (met_between n s ≡ [])) → met_between m s ≡ []) → MatchBool altered (ReachesFault m h s) (ReachesNoFault m h s)
    by true met clean split = inr (λ none. met (split.0 none).1)
    by false met clean split = (clean.0, split.1 (clean.1, met))

-- ---- all

-- after those so far
pub took_then : {M : Type 0} (view : M → MediumView) (m n s : RingView M) (h : IsHolding m) (stops : Bool) (bytes more : List ℕ) (so : TakesSoFar view m h bytes n) → TakesWhole view n so.now stops more s → TakesWhole view m h stops (bytes ++ more) s
took_then view m n s h stops bytes more so took =
    let p = h.flight.source in
    let talker = took.talker ∙ ap (λ p. Some p) so.source in
    let T : List Frame → Type 0 = λ gs. so.now.flight.sent ∷ gs ≡ sent_frames took.answer ++ eto ∷ [] in
    let U : List Frame → Type 0 = λ gs. h.flight.sent ∷ gs ≡ sent_frames (prepended so.ds took.answer) ++ eto ∷ [] in
    let after : Brings view n p T (Some p) (past_start took.answer) None s = subst (λ p. Brings view n p T (Some p) (past_start took.answer) None s) so.source took.added in
    let clean = was_clean view m n h bytes so took.clean.0 in
    let split = met_parts view m n s (Some p) (Some p) (Some p) None (map (echoed p) so.ds) (past_start took.answer) h.ring so.now.ring so.added.adds after.adds in
    record {
      answer = prepended so.ds took.answer;
      talker = prepended_talker so.ds took.answer ∙ talker;
      legal = prepended_legal so.ds took.answer so.echoes took.legal;
      stopped = prepended_stopped so.ds took.answer ∙ took.stopped;
      alone = λ last. let so_alone = so.alone last in ap₂ (λ bytes more. bytes ++ more) so_alone.0 (took.alone so_alone.1) ∙ ap (λ f. byte_of f ∷ []) so_alone.2;
      bytes_are = ap (λ bytes. bytes ++ more) so.bytes_are ∙ ap (λ more. bytes_of so.ds ++ more) took.bytes_are ∙ sym (prepended_bytes so.ds took.answer p talker);
      added = subst (λ es. Brings view m p U (Some p) es None s) (sym (prepended_entries so.ds took.answer p talker))
          (brings_more view m n p (λ gs. h.flight.sent ∷ gs ≡ frames_of so.ds ++ so.now.flight.sent ∷ []) (Some p) (Some p) (map (echoed p) so.ds) so.added s T U None (past_start took.answer) after
          (λ gs hs first last.
          ap (λ gs. gs ++ hs) first ∙ append_assoc (frames_of so.ds) (so.now.flight.sent ∷ []) hs ∙ ap (λ hs. frames_of so.ds ++ hs) last ∙ sym (append_assoc (frames_of so.ds) (sent_frames took.answer) (eto ∷ []))
          ∙ ap (λ gs. gs ++ eto ∷ []) (sym (prepended_frames so.ds took.answer p talker))));
      ring = took.ring;
      held = took.held;
      clean = (clean.0, split.1 (clean.1, took.clean.1));
      unheard = unheard_then (devices_of m) (devices_of n) (devices_of s) so.unheard took.unheard;
    }

pub is_device : {M : Type 0} (m : RingView M) (h : IsHolding m) → not (h.flight.source == 0) ≡ true
is_device m h = ap not (ne_eqb h.flight.source 0 (λ e. omega (arith, e, h.talking.party)))

pub one_device : {M : Type 0} (m : RingView M) (h : IsHolding m) → (not (h.flight.source == 0) && true) ≡ true
one_device m h = and_from (not (h.flight.source == 0)) true (is_device m h) refl

pub not_took_then : {M : Type 0} (view : M → MediumView) (m n s : RingView M) (h : IsHolding m) (bytes : List ℕ) (v w : ℕ) (so : TakesSoFar view m h bytes n) → TakesBroken view n so.now v s → length bytes + v ≡ w → TakesBroken view m h w s
not_took_then view m n s h bytes v w so not_took sum =
    let p = h.flight.source in
    let answer = not_took.answer in
    let talker = not_took.talker ∙ ap (λ p. Some p) so.source in
    let cut = cut_at (past_start answer) not_took.standing not_took.break in
    let after : CutBrings view n p (Some p) (past_start answer) not_took.standing not_took.break not_took.held_at_end s =
    subst (λ p. CutBrings view n p (Some p) (past_start answer) not_took.standing not_took.break not_took.held_at_end s) so.source not_took.added in
    let split = met_parts view m n s (Some p) (Some p) (Some p) not_took.held_at_end (map (echoed p) so.ds) cut h.ring so.now.ring so.added.adds after.adds in
    let standing = after_all (map (echoed p) so.ds) not_took.standing in
    let entries = prepended_entries so.ds answer p talker in
    let many : length bytes ≡ length so.ds = ap length so.bytes_are ∙ length-map so.ds (λ (d : Echo). byte_of d.sent) in
    record {
      answer = prepended so.ds answer;
      talker = prepended_talker so.ds answer ∙ talker;
      legal = prepended_legal so.ds answer so.echoes not_took.legal;
      fitting = prepended_fits so.ds answer v w (omega (arith, many, sum)) not_took.fitting;
      standing = standing;
      break = not_took.break;
      cuts = ap (λ es. can_cut 0 es standing not_took.break) entries ∙ cut_legal (map (echoed p) so.ds) (past_start answer) not_took.standing not_took.break ∙ not_took.cuts;
      held_at_end = not_took.held_at_end;
      ended =
          not_took.ended
          ∙ ap (λ p. held_after (Some p) cut) so.source
          ∙ ap (λ before. held_after before cut) (sym (echoes_source p so.ds (is_device m h)))
          ∙ sym (cut_held (Some p) (map (echoed p) so.ds) (past_start answer) not_took.standing not_took.break not_took.cuts)
          ∙ ap (held_after (Some p)) (sym (cut_entries (map (echoed p) so.ds) (past_start answer) not_took.standing not_took.break))
          ∙ ap (λ es. held_after (Some p) (cut_at es standing not_took.break)) (sym entries);
      added = subst (λ es. CutBrings view m p (Some p) es standing not_took.break not_took.held_at_end s) (sym entries)
          (cut_brings_more view m n p (λ gs. h.flight.sent ∷ gs ≡ frames_of so.ds ++ so.now.flight.sent ∷ []) (Some p) (Some p) (map (echoed p) so.ds) so.added s not_took.held_at_end (past_start answer) not_took.standing not_took.break after);
      ring = not_took.ring;
      held = not_took.held;
      spoilt =
          ⊎_elim
          (λ altered. ⊎_elim (λ before. inl before) (λ some. inr (λ none. some (split.0 none).0)) (was_spoilt view m n h bytes so altered))
          (λ some. inr (λ none. some (split.0 none).1))
          not_took.spoilt;
      unheard = unheard_then (devices_of m) (devices_of n) (devices_of s) so.unheard not_took.unheard;
    }

-- ---- the last step of itself

-- the talker ended after one byte
pub ended_took : {M : Type 0} (view : M → MediumView) (m s : RingView M) (h : IsHolding m) (byte : ℕ) → Ended view m h s → byte ≡ byte_of h.flight.now → TakesWhole view m h false (byte ∷ []) s
ended_took view m s h byte ended is_byte =
    let p = h.flight.source in
    let d : Echo = record { sent = h.flight.sent; back = ended.back } in
    record {
      answer = ToItsEnd p (d ∷ []);
      talker = refl;
      legal = and_from (not (p == 0)) (true && list_all is_echo (d ∷ [])) (is_device m h) (and_from true (list_all is_echo (d ∷ [])) refl (and_from (is_echo d) true ended.right refl));
      stopped = refl;
      bytes_are = ap (λ byte. byte ∷ []) (is_byte ∙ byte_sent m h ended.clean.0);
      alone = λ last. ap (λ byte. byte ∷ []) (is_byte ∙ byte_sent m h ended.clean.0);
      added = added_as view m s p (Some p) (past_start (ToItsEnd p (d ∷ []))) None _ _ ended.added (λ k q gs outs said. (said.0, λ at. ap (λ gs. h.flight.sent ∷ gs) (said.1 at)));
      ring = ended.ring;
      held = ended.held;
      clean = ended.clean;
      unheard = ended.unheard;
    }

-- a break at this entry of an answer
pub breaks_at : {M : Type 0} (view : M → MediumView) (m s : RingView M) (h : IsHolding m) (w : ℕ) (answer : Answer) (xs rest : List Entry) (due : Entry) (break : Break) (held_at_end : Option ℕ) → talker_of answer ≡ Some h.flight.source → is_answer 0 answer ≡ true → fits w answer ≡ true
    → past_start answer ≡ xs ++ due ∷ rest → is_break 0 due break ≡ true → held_at_end ≡ held_after (Some h.flight.source) (xs ++ break_entries due break)
    → AddsBy view m h.flight.source (Some h.flight.source) (xs ++ break_entries due break) held_at_end (λ k q gs outs. CutBrought k q (xs ++ due ∷ []) (after_all xs 0) gs) s → IsRing s → s.books.held ≡ None → ReachesFault m h s → Unheard m s → TakesBroken view m h w s
breaks_at view m s h w answer xs rest due break held_at_end talker legal fit entries is ended added ring held spoilt unheard =
    let standing = after_all xs 0 in
    record {
      answer = answer;
      talker = talker;
      legal = legal;
      fitting = fit;
      standing = standing;
      break = break;
      cuts = ap (λ es. can_cut 0 es standing break) entries ∙ cut_legal xs (due ∷ rest) 0 break ∙ is;
      held_at_end = held_at_end;
      ended = ended ∙ ap (held_after (Some h.flight.source)) (sym (cut_entries xs (due ∷ rest) 0 break)) ∙ ap (λ es. held_after (Some h.flight.source) (cut_at es standing break)) (sym entries);
      added = subst (λ es. CutBrings view m h.flight.source (Some h.flight.source) es standing break held_at_end s) (sym entries)
          (added_as view m s h.flight.source (Some h.flight.source) (cut_at (xs ++ due ∷ rest) standing break) held_at_end (λ k q gs outs. CutBrought k q (xs ++ due ∷ []) standing gs) (λ k q gs outs. CutBrought k q (xs ++ due ∷ rest) standing gs)
          (subst (λ es. AddsBy view m h.flight.source (Some h.flight.source) es held_at_end (λ k q gs outs. CutBrought k q (xs ++ due ∷ []) standing gs) s) (sym (cut_entries xs (due ∷ rest) 0 break)) added)
          (λ k q gs outs cut. subst (λ es. CutBrought k q es standing gs) (append_assoc xs (due ∷ []) rest) (cut_more k q standing break (xs ++ due ∷ []) rest gs (cut_legal xs (due ∷ []) 0 break ∙ is) cut)));
      ring = ring;
      held = held;
      spoilt = spoilt;
      unheard = unheard;
    }

ends_legal : {M : Type 0} (m : RingView M) (h : IsHolding m) (d : Echo) (ds : List Echo) → is_echo d ≡ true → list_all is_echo ds ≡ true → is_answer 0 (ToItsEnd h.flight.source (d ∷ ds)) ≡ true
ends_legal m h d ds echo echoes = and_from (not (h.flight.source == 0)) (true && list_all is_echo (d ∷ ds)) (is_device m h) (and_from true (list_all is_echo (d ∷ ds)) refl (and_from (is_echo d) (list_all is_echo ds) echo echoes))

-- what was added, by what came whole and what was due
pub severed_at : {M : Type 0} (view : M → MediumView) (m s : RingView M) (h : IsHolding m) (off : RelayBroken view m h s) (whole : List Echo) (due : Entry) → off.whole ≡ whole → off.due ≡ due
    → AddsBy view m h.flight.source (Some h.flight.source) (map (echoed h.flight.source) whole ++ break_entries due off.break) None (λ k q gs outs. CutBrought k q (map (echoed h.flight.source) whole ++ due ∷ []) (length whole) gs) s
severed_at view m s h off whole due whole_is due_is =
    let p = h.flight.source in
    subst (λ due. AddsBy view m p (Some p) (map (echoed p) whole ++ break_entries due off.break) None (λ k q gs outs. CutBrought k q (map (echoed p) whole ++ due ∷ []) (length whole) gs) s) due_is
    (subst (λ whole. AddsBy view m p (Some p) (map (echoed p) whole ++ break_entries off.due off.break) None (λ k q gs outs. CutBrought k q (map (echoed p) whole ++ off.due ∷ []) (length whole) gs) s) whole_is off.added)

-- it broke off, with room for two bytes at least
pub severed_not_took : {M : Type 0} (view : M → MediumView) (m s : RingView M) (h : IsHolding m) (w : ℕ) → 2 ≤ w → (off : RelayBroken view m h s) → TakesBroken view m h w s
severed_not_took view m s h w room off = by off.due_at
  where
    by : DueAt h.flight.source h.own off.whole off.due → TakesBroken view m h w s
    by (AtHeld d echo whole due) =
        breaks_at view m s h w (ToItsEnd h.flight.source (d ∷ [])) [] (entry h.flight.source eto (outcome.Taken 0) ∷ []) (echoed h.flight.source d) off.break None refl (ends_legal m h d [] echo refl) (le-leb 1 w (omega (arith, room))) refl
        (subst (λ due. is_break 0 due off.break ≡ true) due off.legal) (severed_holds_none (Some h.flight.source) [] (echoed h.flight.source d) off.break refl (is_device m h)) (severed_at view m s h off [] (echoed h.flight.source d) whole due) off.ring off.held off.spoilt off.unheard
    by (AtNext c d first echo goes_on whole due) =
        breaks_at view m s h w (ToItsEnd h.flight.source (c ∷ d ∷ [])) (echoed h.flight.source c ∷ []) (entry h.flight.source eto (outcome.Taken 0) ∷ []) (echoed h.flight.source d) off.break None refl
        (ends_legal m h c (d ∷ []) first (and_from (is_echo d) true echo refl)) (le-leb 2 w (omega (arith, room))) refl
        (subst (λ due. is_break 0 due off.break ≡ true) due off.legal) (severed_holds_none (Some h.flight.source) (echoed h.flight.source c ∷ []) (echoed h.flight.source d) off.break (one_device m h) (is_device m h)) (severed_at view m s h off (c ∷ []) (echoed h.flight.source d) whole due) off.ring off.held off.spoilt off.unheard
    by (AtEnd d echo whole due) =
        breaks_at view m s h w (ToItsEnd h.flight.source (d ∷ [])) (echoed h.flight.source d ∷ []) [] (entry h.flight.source eto (outcome.Taken 0)) off.break None refl (ends_legal m h d [] echo refl) (le-leb 1 w (omega (arith, room))) refl
        (subst (λ due. is_break 0 due off.break ≡ true) due off.legal) (severed_holds_none (Some h.flight.source) (echoed h.flight.source d ∷ []) (entry h.flight.source eto (outcome.Taken 0)) off.break (one_device m h) (is_device m h)) (severed_at view m s h off (d ∷ []) (entry h.flight.source eto (outcome.Taken 0)) whole due) off.ring off.held off.spoilt off.unheard

-- ---- the places in front of the last one

pub front_start : {M : Type 0} (view : M → MediumView) (m : RingView M) (old : List ℕ) → FrontAt view m 0 old old 0 m
front_start view m old = record { so = λ h. so_far_nothing view m h; rest = refl; many = refl; count_is = refl }

module _ {M : Type 0} (view : M → MediumView) (m n : RingView M) (i : ℕ) (old now : List ℕ) (count : ℕ) (h : IsHolding m) (at : FrontAt view m i old now count n) where
  pub front_held : IsSome n.books.held
  front_held = subst IsSome (sym (at.so h).now.held) refl

  pub front_room : (more : ℕ) → i ≤ length old → more + length old ≤ spare_of m → more ≤ spare_of n
  front_room more within room =
      let so = at.so h in
      let log : length n.books.log ≡ length m.books.log + length so.ds = ap length so.added.adds.log ∙ length-append m.books.log (map (echoed h.flight.source) so.ds) ∙ ap (λ k. length m.books.log + k) (length-map so.ds (echoed h.flight.source)) in
      let taken : length (take i now) ≡ i = length-take-le i now (omega (arith, within, at.many)) in
      let bytes : length (take i now) ≡ length so.ds = ap length so.bytes_are ∙ length-map so.ds (λ (d : Echo). byte_of d.sent) in
      let size = so.added.adds.room in
      omega (arith, log, taken, bytes, size, room, within)

  -- the byte of the held frame
  held_is : (byte : ℕ) → IfSome n.books.held (λ f. byte ≡ byte_of f.now) → byte ≡ byte_of (at.so h).now.flight.now
  held_is byte told = subst (λ held. IfSome held (λ f. byte ≡ byte_of f.now)) (at.so h).now.held told

  -- one more place
  filled : (byte : ℕ) → i < length now → take (i + 1) (set now i byte) ≡ take i now ++ byte ∷ []
  filled byte within = let up : i + 1 ≡ suc i = omega arith in ap (λ k. take k (set now i byte)) up ∙ take-suc-set now i byte within

  pub front_more : (byte : ℕ) (s : RingView M) → i < length now → IfSome n.books.held (λ f. byte ≡ byte_of f.now) → RelaysAs view n onward.More s → TakesSoFar view m h (take (i + 1) (set now i byte)) s
  front_more byte s within told went = subst (λ bytes. TakesSoFar view m h bytes s) (sym (filled byte within)) (so_far_more view m n s h (take i now) byte (at.so h) (went (at.so h).now) (held_is byte told))

  front_took : (byte : ℕ) (s : RingView M) → i < length now → IfSome n.books.held (λ f. byte ≡ byte_of f.now) → RelaysAs view n onward.Ended s → TakesWhole view m h false (take (i + 1) (set now i byte)) s
  front_took byte s within told went = subst (λ bytes. TakesWhole view m h false bytes s) (sym (filled byte within)) (took_then view m n s h false (take i now) (byte ∷ []) (at.so h) (ended_took view n s (at.so h).now byte (went (at.so h).now) (held_is byte told)))

  pub front_ended : (byte : ℕ) (s : RingView M) → i < length now → IfSome n.books.held (λ f. byte ≡ byte_of f.now) → RelaysAs view n onward.Ended s → TakesWhole view m h false (take (count + 1) (set now i byte)) s
  front_ended byte s within told went = subst (λ k. TakesWhole view m h false (take (k + 1) (set now i byte)) s) (sym at.count_is) (front_took byte s within told went)

  pub front_broken : (s : RingView M) → i < length old → RelaysAs view n onward.Broken s → TakesBroken view m h (suc (length old)) s
  front_broken s within went =
      let so = at.so h in
      let room : 2 ≤ suc (length old) - i = omega (arith, within) in
      let taken : length (take i now) ≡ i = length-take-le i now (omega (arith, within, at.many)) in
      not_took_then view m n s h (take i now) (suc (length old) - i) (suc (length old)) so (severed_not_took view n s so.now (suc (length old) - i) room (went so.now)) (omega (arith, taken, within))

-- what comes after the places that are filled
pub front_rest : {M : Type 0} (view : M → MediumView) (m n : RingView M) (i : ℕ) (old now : List ℕ) (count byte : ℕ) → FrontAt view m i old now count n → i < length now → drop (i + 1) (set now i byte) ≡ drop (i + 1) old
front_rest view m n i old now count byte at within =
    let less : i < i + 1 = omega arith in
    drop-set-lt (i + 1) now i byte less ∙ drop-more now ∙ ap (λ xs. drop 1 xs) at.rest ∙ sym (drop-more old)
  where
    drop-more : (xs : List ℕ) → drop (i + 1) xs ≡ drop 1 (drop i xs)
    drop-more xs = sym (drop-drop 1 i xs)

pub front_next : {M : Type 0} (view : M → MediumView) (m n s : RingView M) (i : ℕ) (old now : List ℕ) (count byte : ℕ) → FrontAt view m i old now count n → i < length now → IfSome n.books.held (λ f. byte ≡ byte_of f.now) → RelaysAs view n onward.More s → FrontAt view m (i + 1) old (set now i byte) (count + 1) s
front_next view m n s i old now count byte at within told went = record {
  so = λ h. front_more view m n i old now count h at byte s within told went;
  rest = front_rest view m n i old now count byte at within;
  many = length-set now i byte ∙ at.many;
  count_is = ap (λ k. k + 1) at.count_is;
}

-- the talker ended in front of the last place
pub front_ends : {M : Type 0} (view : M → MediumView) (m n s : RingView M) (i : ℕ) (old now : List ℕ) (count byte : ℕ) → FrontAt view m i old now count n → i < length now → IfSome n.books.held (λ f. byte ≡ byte_of f.now) → RelaysAs view n onward.Ended s → Fronts view m old (set now i byte) (front.Ended (count + 1)) s
front_ends view m n s i old now count byte at within told went =
    let same = at.count_is in (
      omega (arith, same, within, at.many),
      (let long = length-take-le (count + 1) (set now i byte) (omega (arith, same, within, length-set now i byte)) in sym long),
      sym (take-append-drop (count + 1) (set now i byte)) ∙ ap (λ rest. take (count + 1) (set now i byte) ++ rest) (ap (λ k. drop (k + 1) (set now i byte)) same ∙ front_rest view m n i old now count byte at within ∙ ap (λ k. drop (k + 1) old) (sym same)),
      λ h. front_ended view m n i old now count h at byte s within told went,
    )

-- all places are filled
pub front_full : {M : Type 0} (view : M → MediumView) (m s : RingView M) (i : ℕ) (old now : List ℕ) (count : ℕ) → FrontAt view m i old now count s → i ≡ length now → Fronts view m old now front.Full s
front_full view m s i old now count at all = (at.many, λ h. subst (λ bytes. TakesSoFar view m h bytes s) (ap (λ k. take k now) all ∙ take-length now) (at.so h))

-- ---- all places

one_left : (xs : List ℕ) → length xs ≡ 1 → (x : ℕ) × (xs ≡ x ∷ [])
one_left [] one = cc
one_left (x ∷ []) one = (x, refl)
one_left (x ∷ y ∷ xs) one = cc

set_last : (xs : List ℕ) (x y : ℕ) → set (xs ++ x ∷ []) (length xs) y ≡ xs ++ y ∷ []
set_last [] x y = refl
set_last (z ∷ xs) x y = ap (λ xs. z ∷ xs) (set_last xs x y)

module _ {M : Type 0} (view : M → MediumView) (m : RingView M) (old : List ℕ) (last : ℕ) (at : last + 1 ≡ length old) where
  long : length (take last old) ≡ last
  long = length-take-le last old (omega (arith, at))

  pub bytes_broken : (s : RingView M) → ((h : IsHolding m) → TakesBroken view m h (suc (length (take last old))) s) → (h : IsHolding m) → TakesBroken view m h (length old) s
  bytes_broken s broken h = let all : suc (length (take last old)) ≡ length old = omega (arith, long, at) in subst (λ w. TakesBroken view m h w s) all (broken h)

  pub bytes_ended : (s : RingView M) (new : List ℕ) (count : ℕ) → Fronts view m (take last old) new (front.Ended count) s → (h : IsHolding m) → TakesInto view m h old (new ++ drop last old) count s
  bytes_ended s new count ended h =
      let within : count ≤ last = omega (arith, ended.0, long) in
      let rest : drop count (take last old) ++ drop last old ≡ drop count old = sym (drop-append-le count (take last old) (drop last old) ended.0) ∙ ap (drop count) (take-append-drop last old) in
      record {
        bytes = take count new;
        count = ended.1;
        within = omega (arith, within, at);
        filled = ap (λ bytes. bytes ++ drop last old) ended.2 ∙ append_assoc (take count new) (drop count (take last old)) (drop last old) ∙ ap (λ rest. take count new ++ rest) rest;
        took = let other : false ≡ (count == length old) = sym (ne_eqb count (length old) (λ e. omega (arith, e, within, at))) in subst (λ stops. TakesWhole view m h stops (take count new) s) other (ended.3 h);
      }

  pub full_held : (n : RingView M) (new : List ℕ) → Fronts view m (take last old) new front.Full n → IsHolding m → IsSome n.books.held
  full_held n new full h = subst IsSome (sym (full.1 h).now.held) refl

  pub full_room : (n : RingView M) (new : List ℕ) → Fronts view m (take last old) new front.Full n → IsHolding m → (more : ℕ) → more + last ≤ spare_of m → more ≤ spare_of n
  full_room n new full h more room =
      let so = full.1 h in
      let log : length n.books.log ≡ length m.books.log + length so.ds = ap length so.added.adds.log ∙ length-append m.books.log (map (echoed h.flight.source) so.ds) ∙ ap (λ k. length m.books.log + k) (length-map so.ds (echoed h.flight.source)) in
      let bytes : length new ≡ length so.ds = ap length so.bytes_are ∙ length-map so.ds (λ (d : Echo). byte_of d.sent) in
      let size = so.added.adds.room in
      omega (arith, log, bytes, size, room, long, full.0)

  pub full_holding : (n : RingView M) (new : List ℕ) → Fronts view m (take last old) new front.Full n → IsHolding m → IsHolding n
  full_holding n new full h = (full.1 h).now

  pub bytes_stopped : (n s : RingView M) (new : List ℕ) (byte : ℕ) → Fronts view m (take last old) new front.Full n → IfSome n.books.held (λ f. byte ≡ byte_of f.now) → Stops view n true s → (h : IsHolding m) → TakesInto view m h old (set (new ++ drop last old) last byte) (last + 1) s
  bytes_stopped n s new byte full told stops h =
      let so = full.1 h in
      let took = stops so.now in
      let many : length new ≡ last = omega (arith, full.0, long) in
      let one = one_left (drop last old) (length-drop last old ∙ omega (arith, at)) in
      let byte_is : byte ≡ byte_of so.now.flight.sent = subst (λ held. IfSome held (λ f. byte ≡ byte_of f.now)) so.now.held told ∙ byte_sent n so.now took.clean.0 in
      record {
        bytes = new ++ byte ∷ [];
        count = let two = length-append new (byte ∷ []) in omega (arith, two, many);
        within = omega (arith, at);
        filled =
            ap (λ rest. set (new ++ rest) last byte) one.1
            ∙ ap (λ k. set (new ++ one.0 ∷ []) k byte) (sym many)
            ∙ set_last new one.0 byte
            ∙ sym (append-nil (new ++ byte ∷ []))
            ∙ ap (λ rest. (new ++ byte ∷ []) ++ rest) (sym (drop_all (last + 1) old (omega (arith, at))));
        took = let all : true ≡ (last + 1 == length old) = sym (eq-eqb (last + 1) (length old) at) in
            subst (λ stops. TakesWhole view m h stops (new ++ byte ∷ []) s) all (took_then view m n s h true new (byte ∷ []) so (subst (λ byte. TakesWhole view n so.now true (byte ∷ []) s) (sym byte_is) took));
      }

  pub bytes_not_stopped : (n s : RingView M) (new : List ℕ) → Fronts view m (take last old) new front.Full n → Stops view n false s → (h : IsHolding m) → TakesBroken view m h (length old) s
  bytes_not_stopped n s new full stops h = let so = full.1 h in not_took_then view m n s h new 1 (length old) so (stops so.now) (omega (arith, full.0, long, at))
