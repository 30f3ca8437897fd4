-- What a receive does to the course of a log.
use Rattle.std.proofs.Common.{eqb-true, ◌≡◌, ◌∙◌, ◌&&◌, ◌==◌, ◌++◌, ℕ, suc, zero, Bool, true, false, not, List, [], ◌∷◌, map, Option, Some, None, append_assoc, refl, sym, ap, subst}
use Rattle.std.specs.Prelude.{if◌then◌else◌, option_map}
use Rattle.std.specs.List.{list_all}
use Rattle.std.proofs.lemmas.Bool.{and_parts, and_from, not-true}
use Rattle.std.proofs.lemmas.List.Folds.{list_all-append}
use Rattle.std.proofs.lemmas.List.{map-append}
use Rattle.il_frames.specs.declared.entry.Entry.{Entry}
use Rattle.il_frames.specs.declared.entry.Outcome.{Outcome}
use Rattle.il_frames.specs.declared.entry.Outcome.TheVariants as outcome
use Rattle.il_frames.specs.Frames.{class_of, byte_of, is_data, same_but_service}
use Rattle.il_device.specs.Takes.{eto}
use Rattle.il_frames.specs.NamedFrames.{entry, unl, unt, tad, ddt, rfc, nrd}
use Rattle.loop_model.specs.Exchanges.{Echo, Start, Sda, Sst, Sdi, Sai, Answer, NotTaken, ToItsEnd, Stopped, Exchange, Receive, start_frame, returned, commanded, echoed, entries_of, is_echo, is_some_data, is_address, is_number, is_answer, Break, FrameLost, HostAltered, TalkerAltered, is_break, break_entries, cut_at, can_cut, Whole, Cut}
use Rattle.loop_model.specs.Units.{sent_bytes, only_byte, told_status}
use Rattle.loop_model.proofs.UnitLaws.{sent_bytes-append}
use Rattle.trace_readers.specs.declared.exchanges.Fate.{Fate}
use Rattle.trace_readers.specs.declared.exchanges.Fate.TheVariants as fate
use Rattle.trace_readers.specs.declared.effects.Cue.{Cue}
use Rattle.trace_readers.specs.declared.effects.Cue.TheVariants as cue
use Rattle.trace_readers.specs.declared.effects.Progress.TheVariants as progress_to
use Rattle.trace_readers.specs.declared.effects.Told.{Told}
use Rattle.trace_readers.specs.declared.effects.Told.TheVariants as told
use Rattle.trace_readers.specs.declared.effects.Stage.TheVariants as stage
use Rattle.trace_readers.specs.Places.{fate_of}
use Rattle.trace_readers.specs.Effects.{cue_of, Signal, signal_of, Course, ended_ready, unit_ended}
use Rattle.trace_readers.proofs.PassLemmas.{same_self}
use Rattle.trace_readers.proofs.UnitLemmas.{State, Idle, Found, Moved, unit_by, told_unit}
use Rattle.trace_readers.proofs.WalkLemmas.{at, heard, Quiet, Walk, All, Ends, quiet_append, walk_after, returned_is, data_cue, tad_at, ddt_at, unt_at, is_dull_entry, dull_quiet, dull_cut, keeps, told_all, asked_quiet, asked_cut, Unfinished}
use Rattle.trace_readers.proofs.PieceLemmas.{written, Fits, progress_of, Same, Followed, ring, silent_next, silent_cut, whole_step, whole_quiet, cut_step, is_moved, only_lost, poll_walk, like_poll, still_cut, still_whole, poll_step, PollWalk, Open, Shut}
use Rattle.trace_readers.proofs.SendLemmas.{unl_heard}

-- ---- the entries of an answer

-- how the start message ended
abbrev started : Start → Answer → Outcome
started st NotTaken = outcome.Back (start_frame st)
started st (ToItsEnd p ds) = outcome.Taken p
started st (Stopped p ds last) = outcome.Taken p

-- what follows it
abbrev answer_tail : Answer → List Entry
answer_tail NotTaken = []
answer_tail (ToItsEnd p ds) = map (echoed p) ds ++ entry p eto (outcome.Taken 0) ∷ []
answer_tail (Stopped p ds last) =
    map (echoed p) ds ++ returned 0 nrd ∷ echoed p last ∷ entry p eto (outcome.Taken 0) ∷ []

-- from the start message on
abbrev answered : Start → Answer → List Entry
answered st answer = entry 0 (start_frame st) (started st answer) ∷ (answer_tail answer ++ commanded 0 unt)

bare_is : (a : ℕ) (st : Start) (answer : Answer) →
    entries_of 0 (Receive a None st answer)
    ≡ returned 0 unl ∷ returned 0 rfc ∷ returned 0 (tad a) ∷ returned 0 rfc ∷ answered st answer
bare_is a st NotTaken = refl
bare_is a st (ToItsEnd p ds) = refl
bare_is a st (Stopped p ds last) = refl

numbered_is : (a j : ℕ) (st : Start) (answer : Answer) →
    entries_of 0 (Receive a (Some j) st answer)
    ≡ returned 0 unl ∷ returned 0 rfc ∷ returned 0 (tad a) ∷ returned 0 rfc
    ∷ returned 0 (ddt j) ∷ returned 0 rfc ∷ answered st answer
numbered_is a j st NotTaken = refl
numbered_is a j st (ToItsEnd p ds) = refl
numbered_is a j st (Stopped p ds last) = refl

-- from the RFC of the talk address on
abbrev rest_of : Option ℕ → Start → Answer → List Entry
rest_of None st answer = answered st answer
rest_of (Some j) st answer = returned 0 (ddt j) ∷ returned 0 rfc ∷ answered st answer

receive_is : (a : ℕ) (number : Option ℕ) (st : Start) (answer : Answer) →
    entries_of 0 (Receive a number st answer)
    ≡ returned 0 unl ∷ returned 0 rfc ∷ returned 0 (tad a) ∷ returned 0 rfc ∷ rest_of number st answer
receive_is a None st answer = bare_is a st answer
receive_is a (Some j) st answer = numbered_is a j st answer

module _ (k d : ℕ) (low : is_address d ≡ true) where
  abbrev dull : Entry → Bool
  dull = is_dull_entry d low

  dull_echoes : (p : ℕ) (ds : List Echo) → list_all is_echo ds ≡ true → list_all dull (map (echoed p) ds) ≡ true
  dull_echoes p [] e = refl
  dull_echoes p (x ∷ ds) e =
      let parts = and_parts (is_echo x) (list_all is_echo ds) e in
      let said = (and_parts (is_data x.sent) _ parts.0).0 in
      and_from _ _ (rw (data_cue d low (class_of x.sent) (byte_of x.sent) said) refl) (dull_echoes p ds parts.1)

  dull_start : (st : Start) (o : Outcome) → dull (entry 0 (start_frame st) o) ≡ true
  dull_start Sda o = refl
  dull_start Sst o = refl
  dull_start Sdi o = refl
  dull_start Sai o = refl

  dull_unt : list_all dull (commanded 0 unt) ≡ true
  dull_unt = rw (unt_at d low) refl

  dull_tail : (answer : Answer) → is_answer 0 answer ≡ true → list_all dull (answer_tail answer) ≡ true
  dull_tail NotTaken e = refl
  dull_tail (ToItsEnd p ds) e =
      let parts = and_parts (not (p == 0)) (is_some_data ds && list_all is_echo ds) e in
      let both = and_parts (is_some_data ds) (list_all is_echo ds) parts.1 in
      list_all-append dull (map (echoed p) ds) _ ∙ and_from _ _ (dull_echoes p ds both.1) refl
  dull_tail (Stopped p ds last) e =
      let parts = and_parts (not (p == 0)) (list_all is_echo ds && is_echo last) e in
      let both = and_parts (list_all is_echo ds) (is_echo last) parts.1 in
      let said = (and_parts (is_data last.sent) _ both.1).0 in
      list_all-append dull (map (echoed p) ds) _
      ∙ and_from _ _ (dull_echoes p ds both.0) (rw (data_cue d low (class_of last.sent) (byte_of last.sent) said) refl)

  dull_after : (answer : Answer) → is_answer 0 answer ≡ true →
      list_all dull (answer_tail answer ++ commanded 0 unt) ≡ true
  dull_after answer e =
      list_all-append dull (answer_tail answer) (commanded 0 unt) ∙ and_from _ _ (dull_tail answer e) dull_unt

  dull_answered : (st : Start) (answer : Answer) → is_answer 0 answer ≡ true → list_all dull (answered st answer) ≡ true
  dull_answered st answer e = and_from _ _ (dull_start st (started st answer)) (dull_after answer e)

  dull_rest : (number : Option ℕ) (st : Start) (answer : Answer) → is_number number ≡ true →
      is_answer 0 answer ≡ true → list_all dull (rest_of number st answer) ≡ true
  dull_rest None st answer short e = dull_answered st answer e
  dull_rest (Some j) st answer short e =
      and_from _ _ (rw (ddt_at d low j short) refl) (dull_answered st answer e)

  -- ---- where no unit waits for its status, or another device is to talk

  abbrev is_off : State → Bool → Bool
  is_off s true = not (is_moved k d low s)
  is_off s false = true

  -- the talk address came back, and was lost
  tad_off : (s : State) (here : Bool) (bs : List ℕ) → is_off s here ≡ true →
      Quiet (at (stage.Unlistened (progress_of s)) bs) (heard (if here then cue.Talk else cue.Other) fate.Returned ∷ [])
      (at stage.Clear bs)
      × Quiet (at (stage.Unlistened (progress_of s)) bs) (heard (if here then cue.Talk else cue.Other) fate.Lost ∷ [])
      (at stage.Clear bs)
  tad_off Idle true bs off = ((refl, refl), (refl, refl))
  tad_off Idle false bs off = ((refl, refl), (refl, refl))
  tad_off (Found n) true bs off = ((refl, refl), (refl, refl))
  tad_off (Found n) false bs off = ((refl, refl), (refl, refl))
  tad_off (Moved n true bytes) true bs off = cc
  tad_off (Moved n true bytes) false bs off = ((refl, refl), (refl, refl))
  tad_off (Moved n false bytes) true bs off = ((refl, refl), (refl, refl))
  tad_off (Moved n false bytes) false bs off = ((refl, refl), (refl, refl))

  abbrev front : List Signal
  front = heard cue.Unlisten fate.Returned ∷ heard cue.Ready fate.Returned ∷ []

  abbrev opening : ℕ → List Entry
  opening a = returned 0 unl ∷ returned 0 rfc ∷ returned 0 (tad a) ∷ returned 0 rfc ∷ []

  module _ (s : State) (c : Course) (a : ℕ) (fits : Fits s c) (small : is_address a ≡ true) where
    abbrev clear : Course
    clear = at stage.Clear c.bytes

    tad_is : signal_of d (returned 0 (tad a)) ≡ heard (if a == d then cue.Talk else cue.Other) fate.Returned
    tad_is = returned_is d low (tad a) ∙ ap (λ (v : Cue). heard v fate.Returned) (tad_at d low a small)

    off_front : is_off s (a == d) ≡ true → Quiet c (map (signal_of d) (opening a)) clear
    off_front off =
        quiet_append c (at (stage.Unlistened (progress_of s)) c.bytes) clear front
        (signal_of d (returned 0 (tad a)) ∷ signal_of d (returned 0 rfc) ∷ []) (unl_heard k d low s c fits)
        (quiet_append (at (stage.Unlistened (progress_of s)) c.bytes) clear clear (signal_of d (returned 0
        (tad a)) ∷ [])
        (signal_of d (returned 0 rfc) ∷ [])
        (subst (λ (x : Signal). Quiet (at (stage.Unlistened (progress_of s)) c.bytes) (x ∷ []) clear) (sym tad_is)
        ((tad_off s (a == d) c.bytes off).0)) (refl, refl))

    off_whole : (rest : List Entry) → is_off s (a == d) ≡ true → list_all dull rest ≡ true →
        Quiet c (map (signal_of d) (opening a ++ rest)) clear
    off_whole rest off e =
        quiet_append c clear clear (map (signal_of d) (opening a)) (map (signal_of d) rest) (off_front off)
        (dull_quiet d low c.bytes rest e)

    off_cut : (rest : List Entry) (m : ℕ) (b : Break) → is_off s (a == d) ≡ true → list_all dull rest ≡ true →
        can_cut 0 (opening a ++ rest) (suc (suc m)) b ≡ true →
        Quiet c (map (signal_of d) (cut_at (opening a ++ rest) (suc (suc m)) b)) clear
    off_cut rest zero (FrameLost q) off e can =
        quiet_append c (at (stage.Unlistened (progress_of s)) c.bytes) clear front
        (signal_of d (entry 0 (tad a) (outcome.Lost q)) ∷ []) (unl_heard k d low s c fits)
        (subst (λ (v : Cue). Quiet (at (stage.Unlistened (progress_of s)) c.bytes) (heard v fate.Lost ∷ []) clear)
        (sym (tad_at d low a small)) ((tad_off s (a == d) c.bytes off).1))
    off_cut rest zero (HostAltered g) off e can = cc
    off_cut rest zero (TalkerAltered g end) off e can = cc
    off_cut rest (suc zero) (FrameLost q) off e can =
        quiet_append c (at (stage.Unlistened (progress_of s)) c.bytes) clear front
        (signal_of d (returned 0 (tad a)) ∷ signal_of d (entry 0 rfc (outcome.Lost q)) ∷ [])
        (unl_heard k d low s c fits)
        (quiet_append (at (stage.Unlistened (progress_of s)) c.bytes) clear clear (signal_of d (returned 0
        (tad a)) ∷ [])
        (signal_of d (entry 0 rfc (outcome.Lost q)) ∷ [])
        (subst (λ (x : Signal). Quiet (at (stage.Unlistened (progress_of s)) c.bytes) (x ∷ []) clear) (sym tad_is)
        ((tad_off s (a == d) c.bytes off).0)) (refl, refl))
    off_cut rest (suc zero) (HostAltered g) off e can = cc
    off_cut rest (suc zero) (TalkerAltered g end) off e can = cc
    off_cut rest (suc (suc m)) b off e can =
        quiet_append c clear clear (map (signal_of d) (opening a)) (map (signal_of d) (cut_at rest m b)) (off_front off)
        (dull_quiet d low c.bytes (cut_at rest m b) (dull_cut d low rest m b e))

  -- ---- after the bytes of a unit, the drive is to talk

  other_first : (n : ℕ) (bytes : List ℕ) (how : Fate) →
      Quiet (at (stage.Talking n) bytes) (heard cue.Other how ∷ []) (at stage.Clear bytes)
  other_first n bytes fate.Returned = (refl, refl)
  other_first n bytes fate.Altered = (refl, refl)
  other_first n bytes (fate.Taken q) = (refl, refl)
  other_first n bytes fate.Lost = (refl, refl)

  module _ (c : Course) (n : ℕ) (bytes : List ℕ) (fits : Fits (Moved n true bytes) c) where
    on_front : Quiet c (map (signal_of d) (opening d)) (at (stage.Talking n) c.bytes)
    on_front =
        quiet_append c (at (stage.Unlistened (progress_to.Sent n)) c.bytes) (at (stage.Talking n) c.bytes) front
        (signal_of d (returned 0 (tad d)) ∷ signal_of d (returned 0 rfc) ∷ []) (unl_heard k d low
        (Moved n true bytes) c fits)
        (subst (λ (x : Signal). Quiet (at (stage.Unlistened (progress_to.Sent n)) c.bytes)
        (x ∷ heard cue.Ready fate.Returned ∷ []) (at (stage.Talking n) c.bytes)) (sym talk) (refl, (refl, refl)))
      where
        talk : signal_of d (returned 0 (tad d)) ≡ heard cue.Talk fate.Returned
        talk =
            returned_is d low (tad d)
            ∙ ap (λ (v : Cue). heard v fate.Returned) (tad_at d low d low ∙ rw (same_self d) refl)

    -- something else than SST follows
    on_whole : (z : Entry) (es : List Entry) → cue_of d z.frame ≡ cue.Other → list_all dull es ≡ true →
        Quiet c (map (signal_of d) (opening d ++ z ∷ es)) (at stage.Clear c.bytes)
    on_whole z es other e =
        quiet_append c (at (stage.Talking n) c.bytes) (at stage.Clear c.bytes) (map (signal_of d) (opening d))
        (map (signal_of d) (z ∷ es)) on_front
        (quiet_append (at (stage.Talking n) c.bytes) (at stage.Clear c.bytes) (at stage.Clear c.bytes)
        (signal_of d z ∷ []) (map (signal_of d) es)
        (subst (λ (v : Cue). Quiet (at (stage.Talking n) c.bytes) (heard v (fate_of z.frame z.outcome) ∷ [])
        (at stage.Clear c.bytes)) (sym other) (other_first n c.bytes (fate_of z.frame z.outcome)))
        (dull_quiet d low c.bytes es e))

    on_lost : (z : Entry) (es : List Entry) (b : Break) → cue_of d z.frame ≡ cue.Other → is_data z.frame ≡ false →
        is_break 0 z b ≡ true → Quiet (at (stage.Talking n) c.bytes) (map (signal_of d) (break_entries z b))
        (at stage.Clear c.bytes)
    on_lost z es b other silent breaks =
        let lost = only_lost k d low z b silent breaks in
        subst (λ (x : Break). Quiet (at (stage.Talking n) c.bytes) (map (signal_of d) (break_entries z x))
        (at stage.Clear c.bytes)) (sym lost.1)
        (subst (λ (v : Cue). Quiet (at (stage.Talking n) c.bytes) (heard v fate.Lost ∷ []) (at stage.Clear c.bytes))
        (sym other) (other_first n c.bytes fate.Lost))

    on_cut : (z : Entry) (es : List Entry) (m : ℕ) (b : Break) → cue_of d z.frame ≡ cue.Other →
        is_data z.frame ≡ false → list_all dull es ≡ true → can_cut 0 (z ∷ es) m b ≡ true →
        Quiet c (map (signal_of d) (opening d ++ cut_at (z ∷ es) m b)) (at stage.Clear c.bytes)
    on_cut z es zero b other silent e can =
        quiet_append c (at (stage.Talking n) c.bytes) (at stage.Clear c.bytes) (map (signal_of d) (opening d))
        (map (signal_of d) (break_entries z b)) on_front (on_lost z es b other silent can)
    on_cut z es (suc m) b other silent e can =
        on_whole z (cut_at es m b) other (dull_cut d low es m b e)

  -- ---- the status of the drive

  keeps_echo : (p : ℕ) (x : Echo) → (p == 0) ≡ false → is_echo x ≡ true → keeps d low (echoed p x) ≡ true
  keeps_echo p x other e =
      let parts = and_parts (is_data x.sent) (same_but_service x.sent x.back) e in
      rw (data_cue d low (class_of x.sent) (byte_of x.sent) parts.0, parts.1, other) refl

  keeps_eto : (p : ℕ) → (p == 0) ≡ false → keeps d low (entry p eto (outcome.Taken 0)) ≡ true
  keeps_eto p other = rw other refl

  keeps_unt : keeps d low (returned 0 unt) ≡ true
  keeps_unt = rw (unt_at d low) refl

  keeps_echoes : (p : ℕ) (ds : List Echo) → (p == 0) ≡ false → list_all is_echo ds ≡ true →
      list_all (keeps d low) (map (echoed p) ds) ≡ true
  keeps_echoes p [] other e = refl
  keeps_echoes p (x ∷ ds) other e =
      let parts = and_parts (is_echo x) (list_all is_echo ds) e in
      and_from _ _ (keeps_echo p x other parts.0) (keeps_echoes p ds other parts.1)

  keeps_tail : (answer : Answer) → is_answer 0 answer ≡ true → list_all (keeps d low) (answer_tail answer) ≡ true
  keeps_tail NotTaken e = refl
  keeps_tail (ToItsEnd p ds) e =
      let parts = and_parts (not (p == 0)) (is_some_data ds && list_all is_echo ds) e in
      let both = and_parts (is_some_data ds) (list_all is_echo ds) parts.1 in
      let other = not-true (p == 0) parts.0 in
      list_all-append (keeps d low) (map (echoed p) ds) (entry p eto (outcome.Taken 0) ∷ [])
      ∙ and_from _ _ (keeps_echoes p ds other both.1) (and_from _ _ (keeps_eto p other) refl)
  keeps_tail (Stopped p ds last) e =
      let parts = and_parts (not (p == 0)) (list_all is_echo ds && is_echo last) e in
      let both = and_parts (list_all is_echo ds) (is_echo last) parts.1 in
      let other = not-true (p == 0) parts.0 in
      list_all-append (keeps d low) (map (echoed p) ds)
      (returned 0 nrd ∷ echoed p last ∷ entry p eto (outcome.Taken 0) ∷ [])
      ∙ and_from _ _ (keeps_echoes p ds other both.0)
      (and_from (keeps d low (echoed p last)) _ (keeps_echo p last other both.1)
      (and_from _ _ (keeps_eto p other) refl))

  -- the entries between the start message and the last RFC
  abbrev body : Answer → List Entry
  body answer = answer_tail answer ++ returned 0 unt ∷ []

  keeps_body : (answer : Answer) → is_answer 0 answer ≡ true → list_all (keeps d low) (body answer) ≡ true
  keeps_body answer e =
      list_all-append (keeps d low) (answer_tail answer) (returned 0 unt ∷ [])
      ∙ and_from _ _ (keeps_tail answer e) (and_from _ _ keeps_unt refl)

  body_is : (answer : Answer) → answer_tail answer ++ commanded 0 unt ≡ body answer ++ returned 0 rfc ∷ []
  body_is answer = sym (append_assoc (answer_tail answer) (returned 0 unt ∷ []) (returned 0 rfc ∷ []))

  start_heard : (n : ℕ) (bytes : List ℕ) (answer : Answer) →
      Quiet (at (stage.Talking n) bytes) (signal_of d (entry 0 (start_frame Sst) (started Sst answer)) ∷ [])
      (at (stage.Asked n told.Nothing) bytes)
  start_heard n bytes NotTaken = (refl, refl)
  start_heard n bytes (ToItsEnd p ds) = (refl, refl)
  start_heard n bytes (Stopped p ds last) = (refl, refl)

  told_more_all : (bytes : List ℕ) → told_all told.More bytes ≡ told.More
  told_more_all [] = refl
  told_more_all (byte ∷ bytes) = told_more_all bytes

  told_end : (n : ℕ) (all bytes : List ℕ) →
      unit_ended all (ended_ready (stage.Asked n (told_all told.Nothing bytes)))
      ≡ written (option_map (told_unit n true all) (option_map Some (only_byte bytes)))
  told_end n all [] = refl
  told_end n all (byte ∷ []) = refl
  told_end n all (first ∷ second ∷ rest) =
      ap (λ (t : Told). unit_ended all (ended_ready (stage.Asked n t))) (told_more_all rest)

  sent_body : (answer : Answer) → sent_bytes (answered Sst answer) ≡ sent_bytes (body answer)
  sent_body answer =
      sent_bytes-append (answer_tail answer) (commanded 0 unt)
      ∙ sym (sent_bytes-append (answer_tail answer) (returned 0 unt ∷ []))

  module _ (c : Course) (n : ℕ) (bytes : List ℕ) (fits : Fits (Moved n true bytes) c) (answer : Answer)
      (legal : is_answer 0 answer ≡ true) where
    abbrev x : Exchange
    x = Receive d None Sst answer

    asked_walk : Walk (at (stage.Talking n) c.bytes) (map (signal_of d) (answered Sst answer)) (at stage.Clear c.bytes)
        (unit_ended c.bytes (ended_ready (stage.Asked n (told_all told.Nothing (sent_bytes (body answer))))))
    asked_walk =
        walk_after (at (stage.Talking n) c.bytes) (at (stage.Asked n told.Nothing) c.bytes) (at stage.Clear c.bytes)
        (signal_of d (entry 0 (start_frame Sst) (started Sst answer)) ∷ [])
        (map (signal_of d) (answer_tail answer ++ commanded 0 unt)) _ (start_heard n c.bytes answer)
        (Ends (map (signal_of d) (body answer)) (signal_of d (returned 0 rfc))
        (at (stage.Asked n (told_all told.Nothing (sent_bytes (body answer)))) c.bytes)
        (ap (map (signal_of d)) (body_is answer) ∙ map-append (signal_of d) (body answer) (returned 0 rfc ∷ []))
        (asked_quiet d low n told.Nothing c.bytes (body answer) (keeps_body answer legal)) refl refl)

    poll_whole : Followed k d low (Moved n true bytes) c (Whole x)
    poll_whole = record {
      after = at stage.Clear c.bytes;
      ends = unit_ended c.bytes (ended_ready (stage.Asked n (told_all told.Nothing (sent_bytes (body answer)))));
      walk = subst (λ (es : List Entry). Walk c (map (signal_of d) es) (at stage.Clear c.bytes)
          (unit_ended c.bytes (ended_ready (stage.Asked n (told_all told.Nothing (sent_bytes (body answer)))))))
          (sym (receive_is d None Sst answer))
          (walk_after c (at (stage.Talking n) c.bytes) (at stage.Clear c.bytes) (map (signal_of d) (opening d))
          (map (signal_of d) (answered Sst answer)) _ (on_front c n bytes fits) asked_walk);
      fits = refl;
      meant = Same (told_end n c.bytes (sent_bytes (body answer)) ∙ sym same);
    }
      where
        all : sent_bytes (entries_of 0 x) ≡ sent_bytes (body answer)
        all = ap sent_bytes (receive_is d None Sst answer) ∙ sent_body answer

        told_is : told_status (ring k d low) (Whole x) ≡ option_map Some (only_byte (sent_bytes (body answer)))
        told_is = rw (same_self d) (ap (λ (b : List ℕ). option_map Some (only_byte b)) all)

        same : written (unit_by (ring k d low) (Moved n true bytes) (Whole x))
            ≡ written (option_map (told_unit n true c.bytes) (option_map Some (only_byte (sent_bytes (body answer)))))
        same =
            ap (λ (o : Option (Option ℕ)). written (option_map (told_unit n true bytes) o)) told_is
            ∙ ap (λ (b : List ℕ). written (option_map (told_unit n true b)
            (option_map Some (only_byte (sent_bytes (body answer)))))) (sym fits.1)

    -- and where it breaks off
    asked_broken : (m : ℕ) (b : Break) → can_cut 0 (answered Sst answer) m b ≡ true →
        Unfinished (at (stage.Talking n) c.bytes) (map (signal_of d) (cut_at (answered Sst answer) m b)) n c.bytes
    asked_broken zero b can =
        let lost = only_lost k d low (entry 0 (start_frame Sst) (started Sst answer)) b refl can in
        subst (λ (y : Break). Unfinished (at (stage.Talking n) c.bytes)
        (map (signal_of d) (cut_at (answered Sst answer) 0 y)) n c.bytes) (sym lost.1)
        (Ends [] (heard cue.Status fate.Lost) (at (stage.Talking n) c.bytes) refl refl refl refl)
    asked_broken (suc m) b can =
        walk_after (at (stage.Talking n) c.bytes) (at (stage.Asked n told.Nothing) c.bytes) (at stage.Clear c.bytes)
        (signal_of d (entry 0 (start_frame Sst) (started Sst answer)) ∷ [])
        (map (signal_of d) (cut_at (answer_tail answer ++ commanded 0 unt) m b)) _ (start_heard n c.bytes answer)
        (subst (λ (es : List Entry). Unfinished (at (stage.Asked n told.Nothing) c.bytes)
        (map (signal_of d) (cut_at es m b)) n c.bytes) (sym (body_is answer))
        (asked_cut d low n told.Nothing c.bytes (body answer) m b (keeps_body answer legal)
        (subst (λ (es : List Entry). can_cut 0 es m b ≡ true) (body_is answer) can)))

    late_walk : (m : ℕ) (b : Break) → can_cut 0 (answered Sst answer) m b ≡ true →
        PollWalk k d low (Moved n true bytes) c (map (signal_of d) (opening d ++ cut_at (answered Sst answer) m b))
    late_walk m b can =
        Open n (ap (λ (all : List ℕ). Moved n true all) (sym fits.1))
        (walk_after c (at (stage.Talking n) c.bytes) (at stage.Clear c.bytes) (map (signal_of d) (opening d))
        (map (signal_of d) (cut_at (answered Sst answer) m b)) _ (on_front c n bytes fits) (asked_broken m b can))

  -- ---- any receive

  if_off : (b : Bool) (o : Option (Option ℕ)) → b ≡ false → (if b then o else None) ≡ None
  if_off true o e = cc
  if_off false o e = refl

  -- a receive of another device tells no status of the drive
  untold_whole : (a : ℕ) (number : Option ℕ) (st : Start) (answer : Answer) → (a == d) ≡ false →
      told_status (ring k d low) (Whole (Receive a number st answer)) ≡ None
  untold_whole a (Some j) st answer away = refl
  untold_whole a None Sda answer away = refl
  untold_whole a None Sst answer away = if_off (a == d) _ away
  untold_whole a None Sdi answer away = refl
  untold_whole a None Sai answer away = refl

  untold_cut : (a : ℕ) (number : Option ℕ) (st : Start) (answer : Answer) (m : ℕ) (b : Break) → (a == d) ≡ false →
      told_status (ring k d low) (Cut (Receive a number st answer) m b) ≡ None
  untold_cut a (Some j) st answer m b away = refl
  untold_cut a None Sda answer m b away = refl
  untold_cut a None Sst answer m b away = if_off (a == d) _ away
  untold_cut a None Sdi answer m b away = refl
  untold_cut a None Sai answer m b away = refl

  walk_by : (c t : Course) (a : ℕ) (number : Option ℕ) (st : Start) (answer : Answer) →
      Quiet c (map (signal_of d) (opening a ++ rest_of number st answer)) t →
      Walk c (map (signal_of d) (entries_of 0 (Receive a number st answer))) t None
  walk_by c t a number st answer quiet =
      subst (λ (es : List Entry). Walk c (map (signal_of d) es) t None) (sym (receive_is a number st answer))
      (All quiet refl)

  cut_by : (c t : Course) (a : ℕ) (number : Option ℕ) (st : Start) (answer : Answer) (m : ℕ) (b : Break) →
      Quiet c (map (signal_of d) (cut_at (opening a ++ rest_of number st answer) m b)) t →
      Quiet c (map (signal_of d) (cut_at (entries_of 0 (Receive a number st answer)) m b)) t
  cut_by c t a number st answer m b quiet =
      subst (λ (es : List Entry). Quiet c (map (signal_of d) (cut_at es m b)) t) (sym
      (receive_is a number st answer)) quiet

  can_by : (a : ℕ) (number : Option ℕ) (st : Start) (answer : Answer) (m : ℕ) (b : Break) →
      can_cut 0 (entries_of 0 (Receive a number st answer)) m b ≡ true →
      can_cut 0 (opening a ++ rest_of number st answer) m b ≡ true
  can_by a number st answer m b can =
      subst (λ (es : List Entry). can_cut 0 es m b ≡ true) (receive_is a number st answer) can

  -- of another device
  away_whole : (s : State) (c : Course) (a : ℕ) (number : Option ℕ) (st : Start) (answer : Answer) → Fits s c →
      is_address a ≡ true → is_number number ≡ true → is_answer 0 answer ≡ true → (a == d) ≡ false →
      Followed k d low s c (Whole (Receive a number st answer))
  away_whole s c a number st answer fits small short legal away =
      whole_step k d low s c (Receive a number st answer) (at stage.Clear c.bytes)
      (walk_by c (at stage.Clear c.bytes) a number st answer
      (off_whole s c a fits small (rest_of number st answer) (rw away refl) (dull_rest number st answer short legal)))
      refl (untold_whole a number st answer away)
      (silent_next k d low s (Receive a number st answer) (at stage.Clear c.bytes) refl refl)

  away_cut : (s : State) (c : Course) (a : ℕ) (number : Option ℕ) (st : Start) (answer : Answer) (m : ℕ) (b : Break) →
      Fits s c → is_address a ≡ true → is_number number ≡ true → is_answer 0 answer ≡ true → (a == d) ≡ false →
      can_cut 0 (entries_of 0 (Receive a number st answer)) m b ≡ true →
      Followed k d low s c (Cut (Receive a number st answer) m b)
  away_cut s c a number st answer zero (FrameLost q) fits small short legal away can =
      like_poll k d low s c (Receive a number st answer) 0 q (FrameLost q) fits refl refl
      (untold_cut a number st answer 0 (FrameLost q) away)
      (silent_cut k d low s (Receive a number st answer) 0 (FrameLost q)
      (untold_cut a number st answer 0 (FrameLost q) away) refl)
  away_cut s c a number st answer zero (HostAltered g) fits small short legal away can = cc
  away_cut s c a number st answer zero (TalkerAltered g end) fits small short legal away can = cc
  away_cut s c a number st answer (suc zero) (FrameLost q) fits small short legal away can =
      like_poll k d low s c (Receive a number st answer) 1 q (FrameLost q) fits refl refl
      (untold_cut a number st answer 1 (FrameLost q) away)
      (silent_cut k d low s (Receive a number st answer) 1 (FrameLost q)
      (untold_cut a number st answer 1 (FrameLost q) away) refl)
  away_cut s c a number st answer (suc zero) (HostAltered g) fits small short legal away can = cc
  away_cut s c a number st answer (suc zero) (TalkerAltered g end) fits small short legal away can = cc
  away_cut s c a number st answer (suc (suc m)) b fits small short legal away can =
      cut_step k d low s c (Receive a number st answer) (suc (suc m)) b (at stage.Clear c.bytes)
      (cut_by c (at stage.Clear c.bytes) a number st answer (suc (suc m)) b
      (off_cut s c a fits small (rest_of number st answer) m b (rw away refl) (dull_rest number st answer short legal)
      (can_by a number st answer (suc (suc m)) b can))) refl
      (silent_cut k d low s (Receive a number st answer) (suc (suc m)) b
      (untold_cut a number st answer (suc (suc m)) b away) refl)

  -- of the drive, where no unit waits for its status
  still_off : (s : State) → is_moved k d low s ≡ false → is_off s (d == d) ≡ true
  still_off s still = rw (same_self d, still) refl

  still_receive : (s : State) (c : Course) (number : Option ℕ) (st : Start) (answer : Answer) → Fits s c →
      is_number number ≡ true → is_answer 0 answer ≡ true → is_moved k d low s ≡ false →
      Followed k d low s c (Whole (Receive d number st answer))
  still_receive s c number st answer fits short legal still =
      whole_quiet k d low s c (Receive d number st answer) (at stage.Clear c.bytes)
      (walk_by c (at stage.Clear c.bytes) d number st answer
      (off_whole s c d fits low (rest_of number st answer) (still_off s still)
      (dull_rest number st answer short legal)))
      refl (still_whole k d low s (Receive d number st answer) still)
      (silent_next k d low s (Receive d number st answer) (at stage.Clear c.bytes) refl refl)

  shut_walk : (s : State) (c : Course) (xs : List Signal) → is_moved k d low s ≡ false → PollWalk k d low s c xs →
      Quiet c xs (at stage.Clear c.bytes)
  shut_walk s c xs still (Open n is walk) =
      let no : true ≡ false = sym (ap (is_moved k d low) is) ∙ still in cc
  shut_walk s c xs still (Shut still_so quiet) = quiet

  still_receive_cut : (s : State) (c : Course) (number : Option ℕ) (st : Start) (answer : Answer) (m : ℕ) (b : Break) →
      Fits s c → is_number number ≡ true → is_answer 0 answer ≡ true → is_moved k d low s ≡ false →
      can_cut 0 (entries_of 0 (Receive d number st answer)) m b ≡ true →
      Followed k d low s c (Cut (Receive d number st answer) m b)
  still_receive_cut s c number st answer zero (FrameLost q) fits short legal still can =
      cut_step k d low s c (Receive d number st answer) 0 (FrameLost q) (at stage.Clear c.bytes)
      (shut_walk s c _ still (poll_walk k d low s c 0 q refl fits)) refl
      (still_cut k d low s (Receive d number st answer) 0 (FrameLost q) still refl)
  still_receive_cut s c number st answer zero (HostAltered g) fits short legal still can = cc
  still_receive_cut s c number st answer zero (TalkerAltered g end) fits short legal still can = cc
  still_receive_cut s c number st answer (suc zero) (FrameLost q) fits short legal still can =
      cut_step k d low s c (Receive d number st answer) 1 (FrameLost q) (at stage.Clear c.bytes)
      (shut_walk s c _ still (poll_walk k d low s c 1 q refl fits)) refl
      (still_cut k d low s (Receive d number st answer) 1 (FrameLost q) still refl)
  still_receive_cut s c number st answer (suc zero) (HostAltered g) fits short legal still can = cc
  still_receive_cut s c number st answer (suc zero) (TalkerAltered g end) fits short legal still can = cc
  still_receive_cut s c number st answer (suc (suc m)) b fits short legal still can =
      cut_step k d low s c (Receive d number st answer) (suc (suc m)) b (at stage.Clear c.bytes)
      (cut_by c (at stage.Clear c.bytes) d number st answer (suc (suc m)) b
      (off_cut s c d fits low (rest_of number st answer) m b (still_off s still)
      (dull_rest number st answer short legal)
      (can_by d number st answer (suc (suc m)) b can))) refl
      (still_cut k d low s (Receive d number st answer) (suc (suc m)) b still refl)

  -- of the drive, after the bytes of a unit
  module _ (c : Course) (n : ℕ) (bytes : List ℕ) (fits : Fits (Moved n true bytes) c) where
    abbrev now : State
    now = Moved n true bytes

    calm_receive : (number : Option ℕ) (st : Start) (answer : Answer) →
        told_status (ring k d low) (Whole (Receive d number st answer)) ≡ None →
        Quiet c (map (signal_of d) (opening d ++ rest_of number st answer)) (at stage.Clear c.bytes) →
        Followed k d low now c (Whole (Receive d number st answer))
    calm_receive number st answer untold quiet =
        whole_step k d low now c (Receive d number st answer) (at stage.Clear c.bytes)
        (walk_by c (at stage.Clear c.bytes) d number st answer quiet) refl untold refl

    moved_receive : (number : Option ℕ) (st : Start) (answer : Answer) → is_number number ≡ true →
        is_answer 0 answer ≡ true → Followed k d low now c (Whole (Receive d number st answer))
    moved_receive (Some j) st answer short legal =
        calm_receive (Some j) st answer refl
        (on_whole c n bytes fits (returned 0 (ddt j)) (returned 0 rfc ∷ answered st answer) (ddt_at d low j short)
        (dull_answered st answer legal))
    moved_receive None Sda answer short legal =
        calm_receive None Sda answer refl
        (on_whole c n bytes fits (entry 0 (start_frame Sda) (started Sda answer))
        (answer_tail answer ++ commanded 0 unt)
        refl (dull_after answer legal))
    moved_receive None Sst answer short legal = poll_whole c n bytes fits answer legal
    moved_receive None Sdi answer short legal =
        calm_receive None Sdi answer refl
        (on_whole c n bytes fits (entry 0 (start_frame Sdi) (started Sdi answer))
        (answer_tail answer ++ commanded 0 unt)
        refl (dull_after answer legal))
    moved_receive None Sai answer short legal =
        calm_receive None Sai answer refl
        (on_whole c n bytes fits (entry 0 (start_frame Sai) (started Sai answer))
        (answer_tail answer ++ commanded 0 unt)
        refl (dull_after answer legal))

    -- what breaks off before its start message at the latest; and after
    calm_cut_by : (number : Option ℕ) (st : Start) (answer : Answer) (m : ℕ) (b : Break) →
        ((i : ℕ) (e : Break) → told_status (ring k d low) (Cut (Receive d number st answer) i e) ≡ None) →
        ((i : ℕ) → can_cut 0 (rest_of number st answer) i b ≡ true →
        Quiet c (map (signal_of d) (opening d ++ cut_at (rest_of number st answer) i b)) (at stage.Clear c.bytes)) →
        can_cut 0 (entries_of 0 (Receive d number st answer)) m b ≡ true →
        Followed k d low now c (Cut (Receive d number st answer) m b)
    calm_cut_by number st answer zero (FrameLost q) untold late can =
        like_poll k d low now c (Receive d number st answer) zero q (FrameLost q) fits refl refl
        (untold zero (FrameLost q))
        (silent_cut k d low now (Receive d number st answer) zero (FrameLost q) (untold zero (FrameLost q)) refl)
    calm_cut_by number st answer zero (HostAltered g) untold late can = cc
    calm_cut_by number st answer zero (TalkerAltered g end) untold late can = cc
    calm_cut_by number st answer (suc zero) (FrameLost q) untold late can =
        like_poll k d low now c (Receive d number st answer) (suc zero) q (FrameLost q) fits refl refl
        (untold (suc zero) (FrameLost q))
        (silent_cut k d low now (Receive d number st answer) (suc zero) (FrameLost q) (untold (suc zero)
        (FrameLost q)) refl)
    calm_cut_by number st answer (suc zero) (HostAltered g) untold late can = cc
    calm_cut_by number st answer (suc zero) (TalkerAltered g end) untold late can = cc
    calm_cut_by number st answer (suc (suc zero)) (FrameLost q) untold late can =
        like_poll k d low now c (Receive d number st answer) (suc (suc zero)) q (FrameLost q) fits refl refl
        (untold (suc (suc zero)) (FrameLost q))
        (silent_cut k d low now (Receive d number st answer) (suc (suc zero)) (FrameLost q) (untold (suc (suc zero))
        (FrameLost q)) refl)
    calm_cut_by number st answer (suc (suc zero)) (HostAltered g) untold late can = cc
    calm_cut_by number st answer (suc (suc zero)) (TalkerAltered g end) untold late can = cc
    calm_cut_by number st answer (suc (suc (suc zero))) (FrameLost q) untold late can =
        like_poll k d low now c (Receive d number st answer) (suc (suc (suc zero))) q (FrameLost q) fits refl refl
        (untold (suc (suc (suc zero))) (FrameLost q))
        (silent_cut k d low now (Receive d number st answer) (suc (suc (suc zero))) (FrameLost q) (untold (suc (suc
        (suc zero))) (FrameLost q)) refl)
    calm_cut_by number st answer (suc (suc (suc zero))) (HostAltered g) untold late can = cc
    calm_cut_by number st answer (suc (suc (suc zero))) (TalkerAltered g end) untold late can = cc
    calm_cut_by number st answer (suc (suc (suc (suc m)))) b untold late can =
        cut_step k d low now c (Receive d number st answer) (suc (suc (suc (suc m)))) b (at stage.Clear c.bytes)
        (cut_by c (at stage.Clear c.bytes) d number st answer (suc (suc (suc (suc m)))) b
        (late m (can_by d number st answer (suc (suc (suc (suc m)))) b can))) refl
        (silent_cut k d low now (Receive d number st answer) (suc (suc (suc (suc m)))) b
        (untold (suc (suc (suc (suc m)))) b) refl)

    poll_cut : (answer : Answer) (m : ℕ) (b : Break) → is_answer 0 answer ≡ true →
        can_cut 0 (entries_of 0 (Receive d None Sst answer)) m b ≡ true →
        Followed k d low now c (Cut (Receive d None Sst answer) m b)
    poll_cut answer zero (FrameLost q) legal can =
        poll_step k d low now c (Receive d None Sst answer) zero (FrameLost q) refl (rw (same_self d) refl)
        (poll_walk k d low now c zero q refl fits)
    poll_cut answer zero (HostAltered g) legal can = cc
    poll_cut answer zero (TalkerAltered g end) legal can = cc
    poll_cut answer (suc zero) (FrameLost q) legal can =
        poll_step k d low now c (Receive d None Sst answer) (suc zero) (FrameLost q) refl (rw (same_self d) refl)
        (poll_walk k d low now c (suc zero) q refl fits)
    poll_cut answer (suc zero) (HostAltered g) legal can = cc
    poll_cut answer (suc zero) (TalkerAltered g end) legal can = cc
    poll_cut answer (suc (suc zero)) (FrameLost q) legal can =
        poll_step k d low now c (Receive d None Sst answer) (suc (suc zero)) (FrameLost q) refl (rw (same_self d) refl)
        (poll_walk k d low now c (suc (suc zero)) q refl fits)
    poll_cut answer (suc (suc zero)) (HostAltered g) legal can = cc
    poll_cut answer (suc (suc zero)) (TalkerAltered g end) legal can = cc
    poll_cut answer (suc (suc (suc zero))) (FrameLost q) legal can =
        poll_step k d low now c (Receive d None Sst answer) (suc (suc (suc zero))) (FrameLost q) refl (rw
        (same_self d) refl)
        (poll_walk k d low now c (suc (suc (suc zero))) q refl fits)
    poll_cut answer (suc (suc (suc zero))) (HostAltered g) legal can = cc
    poll_cut answer (suc (suc (suc zero))) (TalkerAltered g end) legal can = cc
    poll_cut answer (suc (suc (suc (suc m)))) b legal can =
        poll_step k d low now c (Receive d None Sst answer) (suc (suc (suc (suc m)))) b refl (rw (same_self d) refl)
        (subst (λ (es : List Entry). PollWalk k d low now c (map (signal_of d) (cut_at es (suc (suc (suc (suc m)))) b)))
        (sym (receive_is d None Sst answer))
        (late_walk c n bytes fits answer legal m b (can_by d None Sst answer (suc (suc (suc (suc m)))) b can)))

    moved_cut : (number : Option ℕ) (st : Start) (answer : Answer) (m : ℕ) (b : Break) → is_number number ≡ true →
        is_answer 0 answer ≡ true → can_cut 0 (entries_of 0 (Receive d number st answer)) m b ≡ true →
        Followed k d low now c (Cut (Receive d number st answer) m b)
    moved_cut (Some j) st answer m b short legal can =
        calm_cut_by (Some j) st answer m b (λ i e. refl)
        (λ i on. on_cut c n bytes fits (returned 0 (ddt j)) (returned 0 rfc ∷ answered st answer) i b
        (ddt_at d low j short) refl (dull_answered st answer legal) on) can
    moved_cut None Sda answer m b short legal can =
        calm_cut_by None Sda answer m b (λ i e. refl)
        (λ i on. on_cut c n bytes fits (entry 0 (start_frame Sda) (started Sda answer))
        (answer_tail answer ++ commanded 0 unt) i b refl refl (dull_after answer legal) on) can
    moved_cut None Sst answer m b short legal can = poll_cut answer m b legal can
    moved_cut None Sdi answer m b short legal can =
        calm_cut_by None Sdi answer m b (λ i e. refl)
        (λ i on. on_cut c n bytes fits (entry 0 (start_frame Sdi) (started Sdi answer))
        (answer_tail answer ++ commanded 0 unt) i b refl refl (dull_after answer legal) on) can
    moved_cut None Sai answer m b short legal can =
        calm_cut_by None Sai answer m b (λ i e. refl)
        (λ i on. on_cut c n bytes fits (entry 0 (start_frame Sai) (started Sai answer))
        (answer_tail answer ++ commanded 0 unt) i b refl refl (dull_after answer legal) on) can

  drive_whole : (s : State) (c : Course) (number : Option ℕ) (st : Start) (answer : Answer) → Fits s c →
      is_number number ≡ true → is_answer 0 answer ≡ true → Followed k d low s c (Whole (Receive d number st answer))
  drive_whole Idle c number st answer fits short legal = still_receive Idle c number st answer fits short legal refl
  drive_whole (Found n) c number st answer fits short legal =
      still_receive (Found n) c number st answer fits short legal refl
  drive_whole (Moved n true bytes) c number st answer fits short legal =
      moved_receive c n bytes fits number st answer short legal
  drive_whole (Moved n false bytes) c number st answer fits short legal =
      still_receive (Moved n false bytes) c number st answer fits short legal refl

  drive_cut : (s : State) (c : Course) (number : Option ℕ) (st : Start) (answer : Answer) (m : ℕ) (b : Break) →
      Fits s c → is_number number ≡ true → is_answer 0 answer ≡ true →
      can_cut 0 (entries_of 0 (Receive d number st answer)) m b ≡ true →
      Followed k d low s c (Cut (Receive d number st answer) m b)
  drive_cut Idle c number st answer m b fits short legal can =
      still_receive_cut Idle c number st answer m b fits short legal refl can
  drive_cut (Found n) c number st answer m b fits short legal can =
      still_receive_cut (Found n) c number st answer m b fits short legal refl can
  drive_cut (Moved n true bytes) c number st answer m b fits short legal can =
      moved_cut c n bytes fits number st answer m b short legal can
  drive_cut (Moved n false bytes) c number st answer m b fits short legal can =
      still_receive_cut (Moved n false bytes) c number st answer m b fits short legal refl can

  receive_by : (here : Bool) (s : State) (c : Course) (a : ℕ) (number : Option ℕ) (st : Start) (answer : Answer) →
      Fits s c → is_address a ≡ true → is_number number ≡ true → is_answer 0 answer ≡ true → (a == d) ≡ here →
      Followed k d low s c (Whole (Receive a number st answer))
  receive_by true s c a number st answer fits small short legal is =
      subst (λ (i : ℕ). Followed k d low s c (Whole (Receive i number st answer))) (sym (eqb-true a d is))
      (drive_whole s c number st answer fits short legal)
  receive_by false s c a number st answer fits small short legal is =
      away_whole s c a number st answer fits small short legal is

  receive_cut_by : (here : Bool) (s : State) (c : Course) (a : ℕ) (number : Option ℕ) (st : Start) (answer : Answer)
      (m : ℕ) (b : Break) → Fits s c → is_address a ≡ true → is_number number ≡ true → is_answer 0 answer ≡ true →
      can_cut 0 (entries_of 0 (Receive a number st answer)) m b ≡ true → (a == d) ≡ here →
      Followed k d low s c (Cut (Receive a number st answer) m b)
  receive_cut_by true s c a number st answer m b fits small short legal can is =
      subst (λ (i : ℕ). Followed k d low s c (Cut (Receive i number st answer) m b)) (sym (eqb-true a d is))
      (drive_cut s c number st answer m b fits short legal
      (subst (λ (i : ℕ). can_cut 0 (entries_of 0 (Receive i number st answer)) m b ≡ true) (eqb-true a d is) can))
  receive_cut_by false s c a number st answer m b fits small short legal can is =
      away_cut s c a number st answer m b fits small short legal is can

  pub receive_whole : (s : State) (c : Course) (a : ℕ) (number : Option ℕ) (st : Start) (answer : Answer) → Fits s c →
      (is_address a && (is_number number && is_answer 0 answer)) ≡ true →
      Followed k d low s c (Whole (Receive a number st answer))
  receive_whole s c a number st answer fits legal =
      let parts = and_parts (is_address a) (is_number number && is_answer 0 answer) legal in
      let both = and_parts (is_number number) (is_answer 0 answer) parts.1 in
      receive_by (a == d) s c a number st answer fits parts.0 both.0 both.1 refl

  pub receive_cut : (s : State) (c : Course) (a : ℕ) (number : Option ℕ) (st : Start) (answer : Answer) (m : ℕ)
      (b : Break) → Fits s c → (is_address a && (is_number number && is_answer 0 answer)) ≡ true →
      can_cut 0 (entries_of 0 (Receive a number st answer)) m b ≡ true →
      Followed k d low s c (Cut (Receive a number st answer) m b)
  receive_cut s c a number st answer m b fits legal can =
      let parts = and_parts (is_address a) (is_number number && is_answer 0 answer) legal in
      let both = and_parts (is_number number) (is_answer 0 answer) parts.1 in
      receive_cut_by (a == d) s c a number st answer m b fits parts.0 both.0 both.1 can refl
