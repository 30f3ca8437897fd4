-- Whether the host held a frame as broken entries ended: a lost NRD alone leaves one held.
use Rattle.std.proofs.Common.{Bool, ◌≡◌, ◌∙◌, ◌++◌, ◌&&◌, ◌==◌, ℕ, zero, suc, true, false, not, List, [], ◌∷◌, Option, Some, None, map, sym, ap, refl}
use Rattle.std.specs.List.{list_all}
use Rattle.std.proofs.lemmas.Bool.{and_from, and_parts}
use Rattle.std.proofs.lemmas.List.Folds.{list_all-append}
use Rattle.il_frames.specs.declared.frame.Class.{Class}
use Rattle.il_frames.specs.declared.frame.Class.TheVariants as class
use Rattle.il_frames.specs.declared.frame.Frame.{Frame}
use Rattle.il_frames.specs.declared.entry.Entry.{Entry}
use Rattle.il_frames.specs.declared.entry.Outcome.{Outcome}
use Rattle.il_frames.specs.declared.entry.Outcome.TheVariants as outcome
use Rattle.il_frames.specs.Frames.{class_of, framed, is_data, same_class}
use Rattle.il_frames.specs.NamedFrames.{entry, nrd, is_frame, is_lost, is_lost_nrd, is_no_nrd}
use Rattle.loop_model.specs.Exchanges.{Echo, Start, Sda, Sst, Sdi, Sai, start_frame, Break, FrameLost, HostAltered, TalkerAltered, echoed, returned, commanded, entries_of, Send, break_entries, cut_at, can_cut, is_echo, is_host_echo, receive_front}
use Rattle.il_ports.specs.Media.{MediumView}
use Rattle.il_ring.specs.Rings.{RingView}
use Rattle.il_control.specs.Calls.{Broke}
use Rattle.loop_model.specs.Reach.{held_at_end, sourcing_after}
use Rattle.loop_model.proofs.ReachLaws.{sourcing, held_at_end-append}

not_zero : (b : Bool) → not b ≡ true → b ≡ false
not_zero true is = cc
not_zero false is = refl

-- ---- no NRD

no_lost_nrd : (e : Entry) → is_no_nrd e ≡ true → is_lost_nrd e ≡ false
no_lost_nrd e other = by (e.source == 0) (is_frame e.frame nrd) (is_lost e.outcome) other
  where
    by : (a b c : Bool) → not b ≡ true → (a && (b && c)) ≡ false
    by true true c is = cc
    by false true c is = cc
    by true false c is = refl
    by false false c is = refl

-- entries without NRD leave none held
pub none_held_after : (before : Option ℕ) (es : List Entry) → list_all is_no_nrd es ≡ true → held_at_end before es ≡ None
none_held_after before [] quiet = refl
none_held_after before (e ∷ []) quiet = rw (no_lost_nrd e (and_parts (is_no_nrd e) true quiet).0) refl
none_held_after before (e ∷ next ∷ es) quiet = none_held_after (sourcing_after before e) (next ∷ es) (and_parts (is_no_nrd e) (list_all is_no_nrd (next ∷ es)) quiet).1

-- a break brings none
cut_quiet : (es : List Entry) (n : ℕ) (b : Break) → list_all is_no_nrd es ≡ true → list_all is_no_nrd (cut_at es n b) ≡ true
cut_quiet [] n b quiet = refl
cut_quiet (e ∷ es) zero b quiet = break_quiet b
  where
    here : is_no_nrd e ≡ true
    here = (and_parts (is_no_nrd e) (list_all is_no_nrd es) quiet).0

    break_quiet : (b : Break) → list_all is_no_nrd (break_entries e b) ≡ true
    break_quiet (FrameLost q) = and_from (is_no_nrd e) true here refl
    break_quiet (HostAltered f) = and_from (is_no_nrd e) true here refl
    break_quiet (TalkerAltered f end) = and_from (is_no_nrd e) true here refl
cut_quiet (e ∷ es) (suc n) b quiet = let parts = and_parts (is_no_nrd e) (list_all is_no_nrd es) quiet in and_from (is_no_nrd e) (list_all is_no_nrd (cut_at es n b)) parts.0 (cut_quiet es n b parts.1)

pub cut_holds_none : (before : Option ℕ) (es : List Entry) (n : ℕ) (b : Break) → list_all is_no_nrd es ≡ true → held_at_end before (cut_at es n b) ≡ None
cut_holds_none before es n b quiet = none_held_after before (cut_at es n b) (cut_quiet es n b quiet)

pub quiet_parts : (xs ys : List Entry) → list_all is_no_nrd (xs ++ ys) ≡ true → (list_all is_no_nrd xs ≡ true) × (list_all is_no_nrd ys ≡ true)
quiet_parts xs ys quiet = and_parts (list_all is_no_nrd xs) (list_all is_no_nrd ys) (sym (list_all-append is_no_nrd xs ys) ∙ quiet)

-- ---- entries of devices

abbrev pub is_of_device : Entry → Bool
is_of_device e = not (e.source == 0)

-- leave none held
devices_hold_none : (before : Option ℕ) (es : List Entry) → list_all is_of_device es ≡ true → held_at_end before es ≡ None
devices_hold_none before [] are = refl
devices_hold_none before (e ∷ []) are = rw (not_zero (e.source == 0) (and_parts (is_of_device e) true are).0) refl
devices_hold_none before (e ∷ next ∷ es) are = devices_hold_none (sourcing_after before e) (next ∷ es) (and_parts (is_of_device e) (list_all is_of_device (next ∷ es)) are).1

with_break : (xs : List Entry) (due : Entry) (b : Break) → list_all is_of_device xs ≡ true → is_of_device due ≡ true → list_all is_of_device (xs ++ break_entries due b) ≡ true
with_break xs due b are is = list_all-append is_of_device xs (break_entries due b) ∙ and_from (list_all is_of_device xs) (list_all is_of_device (break_entries due b)) are (broken b)
  where
    broken : (b : Break) → list_all is_of_device (break_entries due b) ≡ true
    broken (FrameLost q) = and_from (is_of_device due) true is refl
    broken (HostAltered f) = and_from (is_of_device due) true is refl
    broken (TalkerAltered f end) = and_from (is_of_device due) (is_of_device due && true) is (and_from (is_of_device due) true is refl)

-- a break of a device's frame, after others of devices, and after an NRD that came back
pub severed_holds_none : (before : Option ℕ) (xs : List Entry) (due : Entry) (b : Break) → list_all is_of_device xs ≡ true → is_of_device due ≡ true → None ≡ held_at_end before (xs ++ break_entries due b)
severed_holds_none before xs due b are is = sym (devices_hold_none before (xs ++ break_entries due b) (with_break xs due b are is))

after_nrd : (before : Option ℕ) (es : List Entry) → list_all is_of_device es ≡ true → held_at_end before (returned 0 nrd ∷ es) ≡ None
after_nrd before [] are = refl
after_nrd before (e ∷ es) are = devices_hold_none before (e ∷ es) are

pub stopped_holds_none : (before : Option ℕ) (xs : List Entry) (due : Entry) (b : Break) → list_all is_of_device xs ≡ true → is_of_device due ≡ true → None ≡ held_at_end before (returned 0 nrd ∷ xs ++ break_entries due b)
stopped_holds_none before xs due b are is = sym (after_nrd before (xs ++ break_entries due b) (with_break xs due b are is))

-- ---- after other entries

-- a cut has an entry, and so what is before it shows only who sourced data
pub cut_held : (before : Option ℕ) (xs ys : List Entry) (n : ℕ) (b : Break) → can_cut 0 ys n b ≡ true → held_at_end before (xs ++ cut_at ys n b) ≡ held_at_end (sourcing before xs) (cut_at ys n b)
cut_held before xs [] n b legal = cc
cut_held before xs (y ∷ ys) zero (FrameLost q) legal = held_at_end-append before xs (entry y.source y.frame (outcome.Lost q)) []
cut_held before xs (y ∷ ys) zero (HostAltered f) legal = held_at_end-append before xs (entry y.source y.frame (outcome.Back f)) []
cut_held before xs (y ∷ ys) zero (TalkerAltered f end) legal = held_at_end-append before xs (entry y.source y.frame (outcome.Back f)) _
cut_held before xs (y ∷ ys) (suc n) b legal = held_at_end-append before xs y (cut_at ys n b)

-- frames of a talker leave it the one that sources data
pub echoes_source : (p : ℕ) (ds : List Echo) → not (p == 0) ≡ true → sourcing (Some p) (map (echoed p) ds) ≡ Some p
echoes_source p [] device = refl
echoes_source p (d ∷ ds) device = ap (λ before. sourcing before (map (echoed p) ds)) (rw (not_zero (p == 0) device) refl) ∙ echoes_source p ds device

-- ---- exchanges

pub command_quiet : (f : Frame) → same_class (class_of f) class.Cmd ≡ true → list_all is_no_nrd (commanded 0 f) ≡ true
command_quiet f is = by f.class f.byte is
  where
    by : (k : Class) (byte : ℕ) → same_class k class.Cmd ≡ true → list_all is_no_nrd (commanded 0 (framed k byte)) ≡ true
    by class.Cmd byte is = refl
    by _ byte is = cc

data_quiet : (k : Class) (byte : ℕ) → same_class k class.Dab ≡ true → is_frame (framed k byte) nrd ≡ false
data_quiet class.Dab byte is = refl
data_quiet _ byte is = cc

sends_quiet : (ds : List Echo) → list_all is_host_echo ds ≡ true → list_all is_no_nrd (map (echoed 0) ds) ≡ true
sends_quiet [] are = refl
sends_quiet (d ∷ ds) are =
    let parts = and_parts (is_host_echo d) (list_all is_host_echo ds) are in
    let dab = (and_parts (same_class (class_of d.sent) class.Dab) (is_echo d) parts.0).0 in
    and_from (is_no_nrd (echoed 0 d)) (list_all is_no_nrd (map (echoed 0) ds)) (ap not (data_quiet d.sent.class d.sent.byte dab)) (sends_quiet ds parts.1)

pub send_quiet : (a : ℕ) (number : Option ℕ) (ds : List Echo) → list_all is_host_echo ds ≡ true → list_all is_no_nrd (entries_of 0 (Send a number ds)) ≡ true
send_quiet a None ds are = sends_quiet ds are
send_quiet a (Some n) ds are = sends_quiet ds are

-- a start message and an echo are none
pub start_quiet : (start : Start) (o : Outcome) → is_no_nrd (entry 0 (start_frame start) o) ≡ true
start_quiet Sda o = refl
start_quiet Sst o = refl
start_quiet Sdi o = refl
start_quiet Sai o = refl

pub echo_quiet : (p : ℕ) (d : Echo) → is_echo d ≡ true → is_no_nrd (echoed p d) ≡ true
echo_quiet p d is = by d.sent.class d.sent.byte (and_parts (is_data d.sent) _ is).0
  where
    by : (k : Class) (byte : ℕ) → is_data (framed k byte) ≡ true → not (is_frame (framed k byte) nrd) ≡ true
    by class.Dab byte is = refl
    by class.Dsr byte is = refl
    by class.End byte is = refl
    by class.Esr byte is = refl
    by _ byte is = cc

pub front_quiet : (a : ℕ) (number : Option ℕ) → list_all is_no_nrd (receive_front 0 a number) ≡ true
front_quiet a None = refl
front_quiet a (Some n) = refl

pub front_source : (a : ℕ) (number : Option ℕ) → sourcing None (receive_front 0 a number) ≡ None
front_source a None = refl
front_source a (Some n) = refl

pub quiet_then : (xs ys : List Entry) → list_all is_no_nrd xs ≡ true → list_all is_no_nrd ys ≡ true → list_all is_no_nrd (xs ++ ys) ≡ true
quiet_then xs ys first more = list_all-append is_no_nrd xs ys ∙ and_from (list_all is_no_nrd xs) (list_all is_no_nrd ys) first more

-- ---- broken calls

-- read off broken entries without NRD
pub quiet_ended : {M : Type 0} (view : M → MediumView) (r s : RingView M) (es : List Entry) (broke : Broke view r es s) → list_all is_no_nrd es ≡ true → broke.held_at_end ≡ held_at_end None (cut_at es broke.standing broke.break)
quiet_ended view r s es broke quiet = broke.told quiet ∙ sym (cut_holds_none None es broke.standing broke.break quiet)
