-- What the entries of one piece do to the course of a log: no entry but its last ends a unit.
use Rattle.std.proofs.Common.{◌≡◌, ◌∙◌, ◌+◌, ◌&&◌, ◌==◌, ◌++◌, ℕ, suc, zero, Bool, true, false, not, List, [], ◌∷◌, map, length, nat_lt, Option, Some, None, append-nil, append_assoc, refl, sym, ap, subst, arith}
use Rattle.std.specs.Prelude.{if◌then◌else◌}
use Rattle.std.specs.List.{list_all}
use Rattle.std.proofs.lemmas.Bool.{and_parts, and_from, not-true}
use Rattle.std.proofs.lemmas.Bool.Decides.{nat_tests}
use Rattle.il_frames.specs.declared.frame.Class.{Class}
use Rattle.il_frames.specs.declared.frame.Class.TheVariants as class
use Rattle.il_frames.specs.declared.frame.Frame.{Frame}
use Rattle.il_frames.specs.declared.entry.Entry.{Entry}
use Rattle.il_frames.specs.declared.entry.Outcome.{Outcome}
use Rattle.il_frames.specs.declared.entry.Outcome.TheVariants as outcome
use Rattle.il_frames.specs.Frames.{class_of, byte_of, is_data, is_data_class, same_but_service}
use Rattle.il_device.specs.Takes.{ete}
use Rattle.il_frames.specs.NamedFrames.{entry, rfc}
use Rattle.loop_model.specs.Exchanges.{Echo, is_echo, returned, echoed, bytes_of, is_address, is_number, Break, FrameLost, HostAltered, TalkerAltered, is_altered, is_end, cut_at, can_cut}
use Rattle.loop_model.specs.Units.{RecordUnit, sent_bytes}
use Rattle.loop_model.proofs.UnitLaws.{one_byte}
use Rattle.trace_readers.specs.declared.exchanges.Fate.{Fate}
use Rattle.trace_readers.specs.declared.exchanges.Fate.TheVariants as fate
use Rattle.trace_readers.specs.declared.effects.Cue.{Cue}
use Rattle.trace_readers.specs.declared.effects.Cue.TheVariants as cue
use Rattle.trace_readers.specs.declared.effects.Progress.TheVariants as progress_to
use Rattle.trace_readers.specs.declared.effects.Told.{Told}
use Rattle.trace_readers.specs.declared.effects.Stage.{Stage}
use Rattle.trace_readers.specs.declared.effects.Stage.TheVariants as stage
use Rattle.trace_readers.specs.Places.{fate_of}
use Rattle.trace_readers.specs.Effects.{bytes_and, bytes_after, ended_by_loss, command_cue, class_cue, cue_of, Signal, signal_of, Course, course_step, unit_told, after_heard, byte_sent, stage_after, ended, unfinished, unit_ended, told_more}
use Rattle.trace_readers.specs.declared.effects.Ended.{Ended}
use Rattle.trace_readers.specs.Expected.{write_unit}
use Rattle.trace_readers.proofs.PassLemmas.{same_frame_self}

-- ---- walks

abbrev pub at : Stage → List ℕ → Course
at s bytes = record { stage = s; bytes = bytes }

abbrev pub heard : Cue → Fate → Signal
heard c f = record { cue = c; fate = f }

-- these signals end no unit
abbrev pub Quiet : Course → List Signal → Course → Type 0
Quiet c [] t = c ≡ t
Quiet c (x ∷ xs) t = (unit_told c x ≡ None) × Quiet (course_step c x) xs t

-- none of these signals but the last ends a unit
pub data Walk (c : Course) (xs : List Signal) (t : Course) (o : Option RecordUnit) : Type 0 where
  All : Quiet c xs t → o ≡ None → Walk c xs t o
  Ends : (front : List Signal) (x : Signal) (u : Course) → xs ≡ front ++ x ∷ [] → Quiet c front u →
      course_step u x ≡ t → unit_told u x ≡ o → Walk c xs t o

pub quiet_append : (c u t : Course) (xs ys : List Signal) → Quiet c xs u → Quiet u ys t → Quiet c (xs ++ ys) t
quiet_append c u t [] ys first second = subst (λ (b : Course). Quiet b ys t) (sym first) second
quiet_append c u t (x ∷ xs) ys first second = (first.0, quiet_append (course_step c x) u t xs ys first.1 second)

pub walk_after : (c u t : Course) (xs ys : List Signal) (o : Option RecordUnit) → Quiet c xs u → Walk u ys t o →
    Walk c (xs ++ ys) t o
walk_after c u t xs ys o first (All second none) = All (quiet_append c u t xs ys first second) none
walk_after c u t xs ys o first (Ends front x v is second to ends) =
    Ends (xs ++ front) x v
    (ap (λ (zs : List Signal). xs ++ zs) is ∙ sym (append_assoc xs front (x ∷ [])))
    (quiet_append c u v xs front first second) to ends

-- ---- stages

-- outside an answer of the drive
abbrev pub is_outside : Stage → Bool
is_outside (stage.Talking n) = false
is_outside (stage.Asked n t) = false
is_outside s = true

-- nor is it where a unit can go on
abbrev pub is_idle : Stage → Bool
is_idle (stage.Sought n) = false
is_idle (stage.Sent n) = false
is_idle (stage.Talking n) = false
is_idle (stage.Asked n t) = false
is_idle s = true

abbrev pub is_command : Cue → Bool
is_command cue.Unlisten = true
is_command cue.Listen = true
is_command cue.Seek = true
is_command cue.Write = true
is_command cue.Other = true
is_command c = false

pub idle_after : (s : Stage) (c : Cue) → is_outside s ≡ true → is_command c ≡ true → is_idle (after_heard s c) ≡ true
idle_after s cue.Unlisten outside kind = refl
idle_after (stage.Unlistened p) cue.Listen outside kind = refl
idle_after s cue.Listen outside kind = refl
idle_after (stage.Listening p) cue.Seek outside kind = refl
idle_after s cue.Seek outside kind = refl
idle_after (stage.Listening (progress_to.Sought n)) cue.Write outside kind = refl
idle_after (stage.Listening p) cue.Write outside kind = refl
idle_after s cue.Write outside kind = refl
idle_after (stage.Asked n t) cue.Other outside kind = cc
idle_after s cue.Other outside kind = refl
idle_after s c outside kind = cc

pub outside_idle : (s : Stage) → is_idle s ≡ true → is_outside s ≡ true
outside_idle (stage.Talking n) idle = cc
outside_idle (stage.Asked n t) idle = cc
outside_idle s idle = refl

pub ready_idle : (s : Stage) (bytes : List ℕ) → is_idle s ≡ true →
    Quiet (at s bytes) (heard cue.Ready fate.Returned ∷ []) (at s bytes)
ready_idle (stage.Asked n t) bytes idle = cc
ready_idle s bytes idle = (refl, refl)

pub command_quiet : (s : Stage) (c : Cue) (bytes : List ℕ) → is_command c ≡ true →
    Quiet (at s bytes) (heard c fate.Returned ∷ []) (at (after_heard s c) bytes)
command_quiet s cue.Unlisten bytes kind = (refl, refl)
command_quiet s cue.Listen bytes kind = (refl, refl)
command_quiet s cue.Seek bytes kind = (refl, refl)
command_quiet s cue.Write bytes kind = (refl, refl)
command_quiet s cue.Other bytes kind = (refl, refl)
command_quiet s c bytes kind = cc

pub command_heard : (s : Stage) (c : Cue) (bytes : List ℕ) → is_outside s ≡ true → is_command c ≡ true →
    Quiet (at s bytes) (heard c fate.Returned ∷ heard cue.Ready fate.Returned ∷ []) (at (after_heard s c) bytes)
command_heard s c bytes outside kind =
    quiet_append (at s bytes) (at (after_heard s c) bytes) (at (after_heard s c) bytes) (heard c fate.Returned ∷ [])
    (heard cue.Ready fate.Returned ∷ []) (command_quiet s c bytes kind)
    (ready_idle (after_heard s c) bytes (idle_after s c outside kind))

-- ---- data of the host that are no bytes of a unit

abbrev pub is_mute : Stage → Bool
is_mute stage.Clear = true
is_mute (stage.Listening p) = true
is_mute stage.Seeking = true
is_mute (stage.High h) = true
is_mute (stage.Sought n) = true
is_mute s = false

abbrev pub after_bytes : Stage → List ℕ → Stage
after_bytes s [] = s
after_bytes s (byte ∷ bytes) = after_bytes (byte_sent s byte) bytes

mute_after : (s : Stage) (byte : ℕ) → is_mute s ≡ true → is_mute (byte_sent s byte) ≡ true
mute_after stage.Clear byte mute = refl
mute_after (stage.Listening p) byte mute = refl
mute_after stage.Seeking byte mute = refl
mute_after (stage.High h) byte mute = refl
mute_after (stage.Sought n) byte mute = refl
mute_after s byte mute = cc

mute_byte : (s : Stage) (byte : ℕ) (bytes : List ℕ) → is_mute s ≡ true →
    Quiet (at s bytes) (heard (cue.Data byte) fate.Returned ∷ []) (at (byte_sent s byte) bytes)
mute_byte stage.Clear byte bytes mute = (refl, refl)
mute_byte (stage.Listening p) byte bytes mute = (refl, refl)
mute_byte stage.Seeking byte bytes mute = (refl, refl)
mute_byte (stage.High h) byte bytes mute = (refl, refl)
mute_byte (stage.Sought n) byte bytes mute = (refl, refl)
mute_byte s byte bytes mute = cc

-- lost, and altered
mute_broken : (s : Stage) (byte : ℕ) (bytes : List ℕ) → is_mute s ≡ true →
    Quiet (at s bytes) (heard (cue.Data byte) fate.Lost ∷ []) (at stage.Clear bytes)
    × Quiet (at s bytes) (heard (cue.Data byte) fate.Altered ∷ []) (at stage.Clear bytes)
mute_broken stage.Clear byte bytes mute = ((refl, refl), (refl, refl))
mute_broken (stage.Listening p) byte bytes mute = ((refl, refl), (refl, refl))
mute_broken stage.Seeking byte bytes mute = ((refl, refl), (refl, refl))
mute_broken (stage.High h) byte bytes mute = ((refl, refl), (refl, refl))
mute_broken (stage.Sought n) byte bytes mute = ((refl, refl), (refl, refl))
mute_broken s byte bytes mute = cc

-- the unit is unfinished, of these bytes
abbrev pub Unfinished : Course → List Signal → ℕ → List ℕ → Type 0
Unfinished c xs n bytes = Walk c xs (at stage.Clear bytes) (Some (write_unit n bytes None))

-- ---- where no unit is open, and within a status

abbrev pub is_dull : Cue → Bool
is_dull cue.Unlisten = false
is_dull c = true

dull_step : (c : Cue) (f : Fate) (bytes : List ℕ) → is_dull c ≡ true →
    Quiet (at stage.Clear bytes) (heard c f ∷ []) (at stage.Clear bytes)
dull_step cue.Unlisten f bytes dull = cc
dull_step c fate.Returned bytes dull = (refl, refl)
dull_step c fate.Altered bytes dull = (refl, refl)
dull_step c (fate.Taken q) bytes dull = (refl, refl)
dull_step c fate.Lost bytes dull = (refl, refl)

abbrev is_kept : Cue → Bool
is_kept (cue.Data byte) = true
is_kept cue.Other = true
is_kept c = false

abbrev is_come : Fate → Bool
is_come fate.Returned = true
is_come (fate.Taken q) = true
is_come f = false

abbrev told_by : Told → Cue → Told
told_by t (cue.Data byte) = told_more t byte
told_by t c = t

abbrev pub told_all : Told → List ℕ → Told
told_all t [] = t
told_all t (byte ∷ bytes) = told_all (told_more t byte) bytes

asked_step : (n : ℕ) (t : Told) (bytes : List ℕ) (c : Cue) (f : Fate) → is_kept c ≡ true → is_come f ≡ true →
    Quiet (at (stage.Asked n t) bytes) (heard c f ∷ []) (at (stage.Asked n (told_by t c)) bytes)
asked_step n t bytes (cue.Data byte) fate.Returned kept come = (refl, refl)
asked_step n t bytes (cue.Data byte) (fate.Taken q) kept come = (refl, refl)
asked_step n t bytes (cue.Data byte) f kept come = cc
asked_step n t bytes cue.Other fate.Returned kept come = (refl, refl)
asked_step n t bytes cue.Other (fate.Taken q) kept come = (refl, refl)
asked_step n t bytes cue.Other f kept come = cc
asked_step n t bytes c f kept come = cc

told_command : (t : Told) (b1 b2 b3 b4 b5 : Bool) →
    told_by t (if b1 then cue.Unlisten else if b2 then cue.Write else if b3 then cue.Seek
    else if b4 then cue.Listen else if b5 then cue.Talk else cue.Other) ≡ t
told_command t true b2 b3 b4 b5 = refl
told_command t false true b3 b4 b5 = refl
told_command t false false true b4 b5 = refl
told_command t false false false true b5 = refl
told_command t false false false false true = refl
told_command t false false false false false = refl

told_ready : (t : Told) (b1 b2 b3 : Bool) →
    told_by t (if b1 then cue.Ready else if b2 then cue.Failed else if b3 then cue.Status else cue.Other) ≡ t
told_ready t true b2 b3 = refl
told_ready t false true b3 = refl
told_ready t false false true = refl
told_ready t false false false = refl

lost_asked : (n : ℕ) (t : Told) (bytes : List ℕ) (c : Cue) →
    Unfinished (at (stage.Asked n t) bytes) (heard c fate.Lost ∷ []) n bytes
lost_asked n t bytes (cue.Data byte) = Ends [] _ (at (stage.Asked n t) bytes) refl refl refl refl
lost_asked n t bytes c = Ends [] _ (at (stage.Asked n t) bytes) refl refl refl refl

no_host_data : (a b c : Bool) → (a && b) ≡ false → (a && (b && c)) ≡ true → ⊥
no_host_data true true c p q = cc
no_host_data true false c p q = cc
no_host_data false b c p q = cc

-- ---- commands that are lost

command_bytes : (s : Stage) (c : Cue) (bytes : List ℕ) → is_command c ≡ true → bytes_after s c bytes ≡ bytes
command_bytes s (cue.Data byte) bytes kind = cc
command_bytes s c bytes kind = refl

no_end : (s : Stage) (c : Cue) → is_outside s ≡ true → is_command c ≡ true → is_dull c ≡ true →
    ended_by_loss s c ≡ None
no_end (stage.Writing n) (cue.Data byte) outside kind dull = cc
no_end (stage.Writing n) c outside kind dull = refl
no_end (stage.Sent n) (cue.Data byte) outside kind dull = cc
no_end (stage.Sent n) cue.Unlisten outside kind dull = cc
no_end (stage.Sent n) c outside kind dull = refl
no_end (stage.Unlistened (progress_to.Sent n)) cue.Ready outside kind dull = cc
no_end (stage.Unlistened (progress_to.Sent n)) cue.Talk outside kind dull = cc
no_end (stage.Unlistened p) c outside kind dull = refl
no_end (stage.Talking n) c outside kind dull = cc
no_end (stage.Asked n t) c outside kind dull = cc
no_end s c outside kind dull = refl

pub lost_command : (s : Stage) (c : Cue) (bytes : List ℕ) → is_outside s ≡ true → is_command c ≡ true →
    is_dull c ≡ true → Quiet (at s bytes) (heard c fate.Lost ∷ []) (at stage.Clear bytes)
lost_command s c bytes outside kind dull = (
  ap (unit_ended (bytes_after s c bytes)) (no_end s c outside kind dull),
  ap (at stage.Clear) (command_bytes s c bytes kind),
)

-- what a command other than UNL leads to
abbrev is_led : Stage → Bool
is_led (stage.Unlistened p) = false
is_led s = is_idle s

led : (s : Stage) (c : Cue) → is_outside s ≡ true → is_command c ≡ true → is_dull c ≡ true →
    is_led (after_heard s c) ≡ true
led s cue.Unlisten outside kind dull = cc
led (stage.Unlistened p) cue.Listen outside kind dull = refl
led s cue.Listen outside kind dull = refl
led (stage.Listening p) cue.Seek outside kind dull = refl
led s cue.Seek outside kind dull = refl
led (stage.Listening (progress_to.Sought n)) cue.Write outside kind dull = refl
led (stage.Listening p) cue.Write outside kind dull = refl
led s cue.Write outside kind dull = refl
led (stage.Asked n t) cue.Other outside kind dull = cc
led s cue.Other outside kind dull = refl
led s c outside kind dull = cc

ready_lost : (s : Stage) (bytes : List ℕ) → is_led s ≡ true →
    Quiet (at s bytes) (heard cue.Ready fate.Lost ∷ []) (at stage.Clear bytes)
ready_lost (stage.Unlistened p) bytes is = cc
ready_lost (stage.Sought n) bytes is = cc
ready_lost (stage.Sent n) bytes is = cc
ready_lost (stage.Talking n) bytes is = cc
ready_lost (stage.Asked n t) bytes is = cc
ready_lost s bytes is = (refl, refl)

-- RFC after it is lost
pub command_unready : (s : Stage) (c : Cue) (bytes : List ℕ) → is_outside s ≡ true → is_command c ≡ true →
    is_dull c ≡ true →
    Quiet (at s bytes) (heard c fate.Returned ∷ heard cue.Ready fate.Lost ∷ []) (at stage.Clear bytes)
command_unready s c bytes outside kind dull =
    quiet_append (at s bytes) (at (after_heard s c) bytes) (at stage.Clear bytes) (heard c fate.Returned ∷ [])
    (heard cue.Ready fate.Lost ∷ []) (command_quiet s c bytes kind)
    (ready_lost (after_heard s c) bytes (led s c outside kind dull))

-- ---- frames

module _ (d : ℕ) (low : is_address d ≡ true) where
  pub lad_at : (a : ℕ) → is_address a ≡ true → command_cue d (0x20 + a) ≡ (if a == d then cue.Listen else cue.Other)
  lad_at a small = grind (arith, nat_tests)

  pub tad_at : (a : ℕ) → is_address a ≡ true → command_cue d (0x40 + a) ≡ (if a == d then cue.Talk else cue.Other)
  tad_at a small = grind (arith, nat_tests)

  pub ddl_at : (n : ℕ) → is_number (Some n) ≡ true →
      command_cue d (0xA0 + n) ≡ (if n == 2 then cue.Write else if n == 4 then cue.Seek else cue.Other)
  ddl_at n small = grind (arith, nat_tests)

  pub ddt_at : (n : ℕ) → is_number (Some n) ≡ true → command_cue d (0xC0 + n) ≡ cue.Other
  ddt_at n small = grind (arith, nat_tests)

  pub unt_at : command_cue d 0x5F ≡ cue.Other
  unt_at = grind (arith, nat_tests)

  -- a frame that came back as it was
  pub returned_is : (f : Frame) → signal_of d (returned 0 f) ≡ heard (cue_of d f) fate.Returned
  returned_is f = rw (same_frame_self f) refl

  pub data_cue : (c : Class) (byte : ℕ) → is_data_class c ≡ true → class_cue d c byte ≡ cue.Data byte
  data_cue class.Dab byte e = refl
  data_cue class.Dsr byte e = refl
  data_cue class.End byte e = refl
  data_cue class.Esr byte e = refl
  data_cue c byte e = cc

  pub echo_is : (p : ℕ) (e : Echo) → is_echo e ≡ true →
      signal_of d (echoed p e) ≡ heard (cue.Data (byte_of e.sent)) fate.Returned
  echo_is p e echo =
      let parts = and_parts (is_data e.sent) (same_but_service e.sent e.back) echo in
      rw (parts.1, data_cue (class_of e.sent) (byte_of e.sent) parts.0) refl

  -- ---- a command, and RFC after it

  -- the entries of a command before others
  pub commanded_walk : (f : Frame) (c : Cue) (s : Stage) (bytes : List ℕ) (ys : List Signal) (t : Course)
      (o : Option RecordUnit) → cue_of d f ≡ c → is_outside s ≡ true → is_command c ≡ true →
      Walk (at (after_heard s c) bytes) ys t o →
      Walk (at s bytes) (signal_of d (returned 0 f) ∷ signal_of d (returned 0 rfc) ∷ ys) t o
  commanded_walk f c s bytes ys t o is outside kind rest =
      walk_after (at s bytes) (at (after_heard s c) bytes) t
      (signal_of d (returned 0 f) ∷ signal_of d (returned 0 rfc) ∷ []) ys o
      (subst (λ (x : Signal). Quiet (at s bytes) (x ∷ heard cue.Ready fate.Returned ∷ []) (at (after_heard s c) bytes))
      (sym (returned_is f ∙ ap (λ (v : Cue). heard v fate.Returned) is)) (command_heard s c bytes outside kind)) rest

  -- ---- data of the host that are no bytes of a unit

  pub mute_data : (s : Stage) (bytes : List ℕ) (ds : List Echo) → is_mute s ≡ true → list_all is_echo ds ≡ true →
      Quiet (at s bytes) (map (signal_of d) (map (echoed 0) ds)) (at (after_bytes s (bytes_of ds)) bytes)
  mute_data s bytes [] mute e = refl
  mute_data s bytes (x ∷ ds) mute e =
      let parts = and_parts (is_echo x) (list_all is_echo ds) e in
      quiet_append (at s bytes) (at (byte_sent s (byte_of x.sent)) bytes) _ (signal_of d (echoed 0 x) ∷ [])
      (map (signal_of d) (map (echoed 0) ds))
      (subst (λ (y : Signal). Quiet (at s bytes) (y ∷ []) (at (byte_sent s (byte_of x.sent)) bytes))
      (sym (echo_is 0 x parts.0)) (mute_byte s (byte_of x.sent) bytes mute))
      (mute_data (byte_sent s (byte_of x.sent)) bytes ds (mute_after s (byte_of x.sent) mute) parts.1)

  -- how a data frame of the host can break off
  pub lost_data : (f : Frame) (q : ℕ) → is_data f ≡ true →
      signal_of d (entry 0 f (outcome.Lost q)) ≡ heard (cue.Data (byte_of f)) fate.Lost
  lost_data f q e = rw (data_cue (class_of f) (byte_of f) e) refl

  pub altered_data : (p : ℕ) (f g : Frame) → is_altered f g ≡ true →
      signal_of d (entry p f (outcome.Back g)) ≡ heard (cue.Data (byte_of f)) fate.Altered
  altered_data p f g e =
      let parts = and_parts (is_data f) (not (same_but_service f g)) e in
      rw (data_cue (class_of f) (byte_of f) parts.0, not-true _ parts.1) refl

  pub mute_cut : (s : Stage) (bytes : List ℕ) (ds : List Echo) (m : ℕ) (b : Break) → is_mute s ≡ true →
      list_all is_echo ds ≡ true → can_cut 0 (map (echoed 0) ds) m b ≡ true →
      Quiet (at s bytes) (map (signal_of d) (cut_at (map (echoed 0) ds) m b)) (at stage.Clear bytes)
  mute_cut s bytes [] m b mute e can = cc
  mute_cut s bytes (x ∷ ds) zero (FrameLost q) mute e can =
      let parts = and_parts (is_echo x) (list_all is_echo ds) e in
      subst (λ (y : Signal). Quiet (at s bytes) (y ∷ []) (at stage.Clear bytes))
      (sym (lost_data x.sent q (and_parts (is_data x.sent) _ parts.0).0)) (mute_broken s (byte_of x.sent) bytes mute).0
  mute_cut s bytes (x ∷ ds) zero (HostAltered g) mute e can =
      subst (λ (y : Signal). Quiet (at s bytes) (y ∷ []) (at stage.Clear bytes))
      (sym (altered_data 0 x.sent g can)) (mute_broken s (byte_of x.sent) bytes mute).1
  mute_cut s bytes (x ∷ ds) zero (TalkerAltered g end) mute e can = cc
  mute_cut s bytes (x ∷ ds) (suc m) b mute e can =
      let parts = and_parts (is_echo x) (list_all is_echo ds) e in
      quiet_append (at s bytes) (at (byte_sent s (byte_of x.sent)) bytes) _ (signal_of d (echoed 0 x) ∷ [])
      (map (signal_of d) (cut_at (map (echoed 0) ds) m b))
      (subst (λ (y : Signal). Quiet (at s bytes) (y ∷ []) (at (byte_sent s (byte_of x.sent)) bytes))
      (sym (echo_is 0 x parts.0)) (mute_byte s (byte_of x.sent) bytes mute))
      (mute_cut (byte_sent s (byte_of x.sent)) bytes ds m b (mute_after s (byte_of x.sent) mute) parts.1 can)

  -- ---- the bytes of a unit

  pub sent_data : (n : ℕ) (bytes : List ℕ) (ds : List Echo) → list_all is_echo ds ≡ true →
      Quiet (at (stage.Sent n) bytes) (map (signal_of d) (map (echoed 0) ds)) (at (stage.Sent n) (bytes ++ bytes_of ds))
  sent_data n bytes [] e = ap (λ (b : List ℕ). at (stage.Sent n) b) (sym (append-nil bytes))
  sent_data n bytes (x ∷ ds) e =
      let parts = and_parts (is_echo x) (list_all is_echo ds) e in
      let byte = byte_of x.sent in
      quiet_append (at (stage.Sent n) bytes) (at (stage.Sent n) (bytes ++ byte ∷ [])) _ (signal_of d (echoed 0 x) ∷ [])
      (map (signal_of d) (map (echoed 0) ds))
      (subst (λ (y : Signal). Quiet (at (stage.Sent n) bytes) (y ∷ []) (at (stage.Sent n) (bytes ++ byte ∷ [])))
      (sym (echo_is 0 x parts.0)) (refl, refl))
      (subst (λ (all : List ℕ). Quiet (at (stage.Sent n) (bytes ++ byte ∷ [])) (map (signal_of d) (map (echoed 0) ds))
      (at (stage.Sent n) all))
      (append_assoc bytes (byte ∷ []) (bytes_of ds)) (sent_data n (bytes ++ byte ∷ []) ds parts.1))

  -- the last byte of a unit was lost, or altered
  last_byte : (u : Stage) (n : ℕ) (bytes before : List ℕ) (f : Frame) (o : Outcome) (how : Fate) → is_data f ≡ true →
      signal_of d (entry 0 f o) ≡ heard (cue.Data (byte_of f)) how →
      bytes_and u (byte_of f) bytes ≡ before ++ byte_of f ∷ [] →
      stage_after u (cue.Data (byte_of f)) how ≡ stage.Clear → ended u (cue.Data (byte_of f)) how ≡ unfinished n →
      Unfinished (at u bytes) (signal_of d (entry 0 f o) ∷ []) n (before ++ sent_bytes (entry 0 f o ∷ []))
  last_byte u n bytes before f o how said is more clear ends =
      subst (λ (all : List ℕ). Unfinished (at u bytes) (signal_of d (entry 0 f o) ∷ []) n (before ++ all))
      (sym (one_byte (is_data f) (byte_of f) [] said))
      (subst (λ (y : Signal). Unfinished (at u bytes) (y ∷ []) n (before ++ byte_of f ∷ [])) (sym is)
      (Ends [] (heard (cue.Data (byte_of f)) how) (at u bytes) refl refl
      (ap (λ (s : Stage). at s (bytes_and u (byte_of f) bytes)) clear ∙ ap (at stage.Clear) more)
      (ap (λ (x : Option Ended). unit_ended (bytes_and u (byte_of f) bytes) x) ends
      ∙ ap (λ (b : List ℕ). unit_ended b (unfinished n)) more)))

  pub sent_cut : (n : ℕ) (bytes : List ℕ) (ds : List Echo) (m : ℕ) (b : Break) → list_all is_echo ds ≡ true →
      can_cut 0 (map (echoed 0) ds) m b ≡ true →
      Unfinished (at (stage.Sent n) bytes) (map (signal_of d) (cut_at (map (echoed 0) ds) m b)) n
      (bytes ++ sent_bytes (cut_at (map (echoed 0) ds) m b))
  sent_cut n bytes [] m b e can = cc
  sent_cut n bytes (x ∷ ds) zero (FrameLost q) e can =
      let parts = and_parts (is_echo x) (list_all is_echo ds) e in
      let said = (and_parts (is_data x.sent) _ parts.0).0 in
      last_byte (stage.Sent n) n bytes bytes x.sent (outcome.Lost q) fate.Lost said (lost_data x.sent q said) refl refl refl
  sent_cut n bytes (x ∷ ds) zero (HostAltered g) e can =
      let parts = and_parts (is_echo x) (list_all is_echo ds) e in
      let said = (and_parts (is_data x.sent) _ parts.0).0 in
      last_byte (stage.Sent n) n bytes bytes x.sent (outcome.Back g) fate.Altered said (altered_data 0 x.sent g can) refl refl
      refl
  sent_cut n bytes (x ∷ ds) zero (TalkerAltered g end) e can = cc
  sent_cut n bytes (x ∷ ds) (suc m) b e can =
      let parts = and_parts (is_echo x) (list_all is_echo ds) e in
      let said = (and_parts (is_data x.sent) _ parts.0).0 in
      let byte = byte_of x.sent in
      let rest = sent_bytes (cut_at (map (echoed 0) ds) m b) in
      let same : (bytes ++ byte ∷ []) ++ rest ≡ bytes ++ sent_bytes (echoed 0 x ∷ cut_at (map (echoed 0) ds) m b) =
      append_assoc bytes (byte ∷ []) rest ∙ ap (λ (all : List ℕ). bytes ++ all) (sym (one_byte
      (is_data x.sent) byte rest said)) in
      subst (λ (all : List ℕ). Unfinished (at (stage.Sent n) bytes) (map (signal_of d) (echoed 0 x ∷ cut_at (map
      (echoed 0) ds) m b)) n all) same
      (walk_after (at (stage.Sent n) bytes) (at (stage.Sent n) (bytes ++ byte ∷ [])) _ (signal_of d (echoed 0 x) ∷ [])
      (map (signal_of d) (cut_at (map (echoed 0) ds) m b)) _
      (subst (λ (y : Signal). Quiet (at (stage.Sent n) bytes) (y ∷ []) (at (stage.Sent n) (bytes ++ byte ∷ [])))
      (sym (echo_is 0 x parts.0)) (refl, refl))
      (sent_cut n (bytes ++ byte ∷ []) ds m b parts.1 can))

  -- ---- where no unit is open

  abbrev pub is_dull_entry : Entry → Bool
  is_dull_entry e = is_dull (cue_of d e.frame)

  pub dull_quiet : (bytes : List ℕ) (es : List Entry) → list_all is_dull_entry es ≡ true →
      Quiet (at stage.Clear bytes) (map (signal_of d) es) (at stage.Clear bytes)
  dull_quiet bytes [] e = refl
  dull_quiet bytes (x ∷ es) e =
      let parts = and_parts (is_dull_entry x) (list_all is_dull_entry es) e in
      quiet_append (at stage.Clear bytes) (at stage.Clear bytes) (at stage.Clear bytes) (signal_of d x ∷ [])
      (map (signal_of d) es) (dull_step (cue_of d x.frame) (fate_of x.frame x.outcome) bytes parts.0)
      (dull_quiet bytes es parts.1)

  pub dull_cut : (es : List Entry) (m : ℕ) (b : Break) → list_all is_dull_entry es ≡ true →
      list_all is_dull_entry (cut_at es m b) ≡ true
  dull_cut [] m b e = refl
  dull_cut (x ∷ es) zero (FrameLost q) e = and_from _ _ (and_parts (is_dull_entry x) _ e).0 refl
  dull_cut (x ∷ es) zero (HostAltered g) e = and_from _ _ (and_parts (is_dull_entry x) _ e).0 refl
  dull_cut (x ∷ es) zero (TalkerAltered g end) e = and_from _ _ (and_parts (is_dull_entry x) _ e).0 refl
  dull_cut (x ∷ es) (suc m) b e =
      let parts = and_parts (is_dull_entry x) (list_all is_dull_entry es) e in
      and_from _ _ parts.0 (dull_cut es m b parts.1)

  -- ---- the drive's status

  -- an entry of an answer
  abbrev pub keeps : Entry → Bool
  keeps e =
      is_kept (cue_of d e.frame)
      && (is_come (fate_of e.frame e.outcome) && not ((e.source == 0) && is_data e.frame))

  told_class : (t : Told) (c : Class) (byte : ℕ) (rest : List ℕ) →
      told_all (told_by t (class_cue d c byte)) rest
      ≡ told_all t ((if is_data_class c then byte ∷ [] else []) ++ rest)
  told_class t class.Dab byte rest = refl
  told_class t class.Dsr byte rest = refl
  told_class t class.End byte rest = refl
  told_class t class.Esr byte rest = refl
  told_class t class.Cmd byte rest = ap (λ (u : Told). told_all u rest) (told_command t _ _ _ _ _)
  told_class t class.Rdy byte rest = ap (λ (u : Told). told_all u rest) (told_ready t _ _ _)
  told_class t class.Idy byte rest = refl
  told_class t class.Isr byte rest = refl

  keeps_parts : (e : Entry) → keeps e ≡ true →
      (is_kept (cue_of d e.frame) ≡ true) × (is_come (fate_of e.frame e.outcome) ≡ true)
      × (((e.source == 0) && is_data e.frame) ≡ false)
  keeps_parts e is =
      let parts = and_parts (is_kept (cue_of d e.frame)) _ is in
      let both = and_parts (is_come (fate_of e.frame e.outcome)) _ parts.1 in
      (parts.0, both.0, not-true _ both.1)

  pub asked_quiet : (n : ℕ) (t : Told) (bytes : List ℕ) (es : List Entry) → list_all keeps es ≡ true →
      Quiet (at (stage.Asked n t) bytes) (map (signal_of d) es) (at (stage.Asked n (told_all t (sent_bytes es))) bytes)
  asked_quiet n t bytes [] e = refl
  asked_quiet n t bytes (x ∷ es) e =
      let parts = and_parts (keeps x) (list_all keeps es) e in
      let kept = keeps_parts x parts.0 in
      let c = cue_of d x.frame in
      subst (λ (u : Told). Quiet (at (stage.Asked n t) bytes) (map (signal_of d) (x ∷ es)) (at (stage.Asked n u) bytes))
      (told_class t (class_of x.frame) (byte_of x.frame) (sent_bytes es))
      (quiet_append (at (stage.Asked n t) bytes) (at (stage.Asked n (told_by t c)) bytes) _ (signal_of d x ∷ [])
      (map (signal_of d) es) (asked_step n t bytes c (fate_of x.frame x.outcome) kept.0 kept.1)
      (asked_quiet n (told_by t c) bytes es parts.1))

  failed_asked : (p n : ℕ) (t : Told) (bytes : List ℕ) (end : Outcome) → is_end 0 end ≡ true →
      Unfinished (at (stage.Asked n t) bytes) (signal_of d (entry p ete end) ∷ []) n bytes
  failed_asked p n t bytes (outcome.Back f) e = cc
  failed_asked p n t bytes (outcome.Taken q) e = Ends [] _ (at (stage.Asked n t) bytes) refl refl refl refl
  failed_asked p n t bytes (outcome.Lost q) e = Ends [] _ (at (stage.Asked n t) bytes) refl refl refl refl

  -- an answer that breaks off, where its entries before RFC are these
  pub asked_cut : (n : ℕ) (t : Told) (bytes : List ℕ) (es : List Entry) (m : ℕ) (b : Break) →
      list_all keeps es ≡ true → can_cut 0 (es ++ returned 0 rfc ∷ []) m b ≡ true →
      Unfinished (at (stage.Asked n t) bytes) (map (signal_of d) (cut_at (es ++ returned 0 rfc ∷ []) m b)) n bytes
  asked_cut n t bytes [] zero (FrameLost q) e can = lost_asked n t bytes cue.Ready
  asked_cut n t bytes [] zero (HostAltered g) e can = cc
  asked_cut n t bytes [] zero (TalkerAltered g end) e can = cc
  asked_cut n t bytes [] (suc m) b e can = cc
  asked_cut n t bytes (x ∷ es) zero (FrameLost q) e can = lost_asked n t bytes (cue_of d x.frame)
  asked_cut n t bytes (x ∷ es) zero (HostAltered g) e can =
      let parts = and_parts (keeps x) (list_all keeps es) e in
      absurd (no_host_data (x.source == 0) (is_data x.frame) _ (keeps_parts x parts.0).2 can)
  asked_cut n t bytes (x ∷ es) zero (TalkerAltered g end) e can =
      let both = and_parts (is_altered x.frame g) (is_end 0 end) (and_parts (not (x.source == 0)) _ can).1 in
      walk_after (at (stage.Asked n t) bytes) (at (stage.Asked n t) bytes) _
      (signal_of d (entry x.source x.frame (outcome.Back g)) ∷ []) (signal_of d (entry x.source ete end) ∷ []) _
      (subst (λ (y : Signal). Quiet (at (stage.Asked n t) bytes) (y ∷ []) (at (stage.Asked n t) bytes))
      (sym (altered_data x.source x.frame g both.0)) (refl, refl))
      (failed_asked x.source n t bytes end both.1)
  asked_cut n t bytes (x ∷ es) (suc m) b e can =
      let parts = and_parts (keeps x) (list_all keeps es) e in
      let kept = keeps_parts x parts.0 in
      let c = cue_of d x.frame in
      walk_after (at (stage.Asked n t) bytes) (at (stage.Asked n (told_by t c)) bytes) _ (signal_of d x ∷ [])
      (map (signal_of d) (cut_at (es ++ returned 0 rfc ∷ []) m b)) _
      (asked_step n t bytes c (fate_of x.frame x.outcome) kept.0 kept.1)
      (asked_cut n (told_by t c) bytes es m b parts.1 can)

  pub writing_data : (n : ℕ) (bytes : List ℕ) (x : Echo) (ds : List Echo) → list_all is_echo (x ∷ ds) ≡ true →
      Quiet (at (stage.Writing n) bytes) (map (signal_of d) (map (echoed 0) (x ∷ ds)))
      (at (stage.Sent n) (bytes_of (x ∷ ds)))
  writing_data n bytes x ds e =
      let parts = and_parts (is_echo x) (list_all is_echo ds) e in
      let byte = byte_of x.sent in
      quiet_append (at (stage.Writing n) bytes) (at (stage.Sent n) (byte ∷ [])) (at (stage.Sent n) (bytes_of (x ∷ ds)))
      (signal_of d (echoed 0 x) ∷ []) (map (signal_of d) (map (echoed 0) ds))
      (subst (λ (y : Signal). Quiet (at (stage.Writing n) bytes) (y ∷ []) (at (stage.Sent n) (byte ∷ [])))
      (sym (echo_is 0 x parts.0)) (refl, refl))
      (sent_data n (byte ∷ []) ds parts.1)

  pub writing_cut : (n : ℕ) (bytes : List ℕ) (ds : List Echo) (m : ℕ) (b : Break) → list_all is_echo ds ≡ true →
      can_cut 0 (map (echoed 0) ds) m b ≡ true →
      Unfinished (at (stage.Writing n) bytes) (map (signal_of d) (cut_at (map (echoed 0) ds) m b)) n
      (sent_bytes (cut_at (map (echoed 0) ds) m b))
  writing_cut n bytes [] m b e can = cc
  writing_cut n bytes (x ∷ ds) zero (FrameLost q) e can =
      let parts = and_parts (is_echo x) (list_all is_echo ds) e in
      let said = (and_parts (is_data x.sent) _ parts.0).0 in
      last_byte (stage.Writing n) n bytes [] x.sent (outcome.Lost q) fate.Lost said (lost_data x.sent q said) refl refl refl
  writing_cut n bytes (x ∷ ds) zero (HostAltered g) e can =
      let parts = and_parts (is_echo x) (list_all is_echo ds) e in
      let said = (and_parts (is_data x.sent) _ parts.0).0 in
      last_byte (stage.Writing n) n bytes [] x.sent (outcome.Back g) fate.Altered said (altered_data 0 x.sent g can) refl refl
      refl
  writing_cut n bytes (x ∷ ds) zero (TalkerAltered g end) e can = cc
  writing_cut n bytes (x ∷ ds) (suc m) b e can =
      let parts = and_parts (is_echo x) (list_all is_echo ds) e in
      let said = (and_parts (is_data x.sent) _ parts.0).0 in
      let byte = byte_of x.sent in
      let rest = sent_bytes (cut_at (map (echoed 0) ds) m b) in
      subst (λ (all : List ℕ). Unfinished (at (stage.Writing n) bytes)
      (map (signal_of d) (echoed 0 x ∷ cut_at (map (echoed 0) ds) m b)) n all)
      (sym (one_byte (is_data x.sent) byte rest said))
      (walk_after (at (stage.Writing n) bytes) (at (stage.Sent n) (byte ∷ [])) _ (signal_of d (echoed 0 x) ∷ [])
      (map (signal_of d) (cut_at (map (echoed 0) ds) m b)) _
      (subst (λ (y : Signal). Quiet (at (stage.Writing n) bytes) (y ∷ []) (at (stage.Sent n) (byte ∷ [])))
      (sym (echo_is 0 x parts.0)) (refl, refl))
      (sent_cut n (byte ∷ []) ds m b parts.1 can))

pub positive : (n : ℕ) → nat_lt 0 (suc n) ≡ true
positive n = grind (arith, nat_tests)

-- a send that breaks off within its data sent some
pub some_sent : (ds : List Echo) (m : ℕ) (b : Break) → list_all is_echo ds ≡ true →
    can_cut 0 (map (echoed 0) ds) m b ≡ true →
    nat_lt 0 (length (sent_bytes (cut_at (map (echoed 0) ds) m b))) ≡ true
some_sent [] m b e can = cc
some_sent (x ∷ ds) zero (FrameLost q) e can =
    rw ((and_parts (is_data x.sent) _ (and_parts (is_echo x) (list_all is_echo ds) e).0).0) refl
some_sent (x ∷ ds) zero (HostAltered g) e can =
    rw ((and_parts (is_data x.sent) _ (and_parts (is_echo x) (list_all is_echo ds) e).0).0) refl
some_sent (x ∷ ds) zero (TalkerAltered g end) e can = cc
some_sent (x ∷ ds) (suc m) b e can =
    rw ((and_parts (is_data x.sent) _ (and_parts (is_echo x) (list_all is_echo ds) e).0).0) (positive _)
