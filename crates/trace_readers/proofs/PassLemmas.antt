-- Each whole or broken exchange leads from between two exchanges to between two exchanges: the machine reads
-- every list of them, so a log at which it stops is the beginning of none.
use Rattle.std.proofs.Common.{nat_le, eqb-true, ◌≡◌, ◌<◌, ◌∙◌, ◌+◌, nat_lt, ◌&&◌, ◌||◌, ◌==◌, ◌++◌, ℕ, suc, zero, Bool, true, false, not, List, [], ◌∷◌, map, flat_map, Option, Some, None, refl, sym, ap, subst, arith}
use Rattle.std.specs.List.{list_all}
use Rattle.std.proofs.lemmas.Bool.{and_parts, and_from, agree_below_at, leb-true, ltb-true, not-true, both_ways}
use Rattle.std.proofs.lemmas.Bool.Decides.{nat_tests}
use Rattle.il_frames.specs.declared.frame.Class.{Class}
use Rattle.il_frames.specs.declared.frame.Class.TheVariants as class
use Rattle.il_frames.specs.declared.frame.Frame.{Frame}
use Rattle.il_frames.specs.declared.entry.Entry.{Entry}
use Rattle.il_frames.specs.declared.entry.Outcome.{Outcome}
use Rattle.il_frames.specs.declared.entry.Outcome.TheVariants as outcome
use Rattle.il_frames.specs.Frames.{framed, class_of, byte_of, same_class, is_data, same_but_service}
use Rattle.il_frames.specs.Messages.{message_of, message_at}
use Rattle.il_device.specs.Takes.{eto, ete}
use Rattle.loop_model.specs.Loops.{host_loop}
use Rattle.il_frames.specs.NamedFrames.{entry, command, unl, unt, lad, tad, ddl, ddt, rfc, nrd, aad}
use Rattle.loop_model.specs.Exchanges.{Echo, Start, Sda, Sst, Sdi, Sai, Answer, NotTaken, ToItsEnd, Stopped, Exchange, Command, Address, Send, Receive, Identify, start_frame, returned, commanded, echoed, numbered, receive_front, answer_entries, entries_of, is_echo, is_host_echo, is_some_data, is_number, is_answer, is_address, is_talk_address, is_exchange, Break, FrameLost, HostAltered, TalkerAltered, break_entries, is_altered, is_end, is_break, cut_at, can_cut, Piece, Whole, Cut, piece_entries, is_piece, Reading}
use Rattle.trace_readers.specs.declared.exchanges.Fate.{Fate}
use Rattle.trace_readers.specs.declared.exchanges.Tail.{Tail}
use Rattle.trace_readers.specs.declared.exchanges.Tail.TheVariants as tail
use Rattle.trace_readers.specs.declared.exchanges.Place.{Place}
use Rattle.trace_readers.specs.declared.exchanges.Place.TheVariants as place
use Rattle.trace_readers.specs.Places.{fate_of, plain, begun_by, after_returned, after_data, after_end, after_start, hears, is_within, after_command, step, step_from, place_after}

-- ---- places after appended logs

pub place_after-append : (k : ℕ) (at : Option Place) (first second : List Entry) →
    place_after k at (first ++ second) ≡ place_after k (place_after k at first) second
place_after-append k at [] second = refl
place_after-append k at (e ∷ first) second = place_after-append k (step_from k at e) first second

pub no_place : (k : ℕ) (log : List Entry) → place_after k None log ≡ None
no_place k [] = refl
no_place k (e ∷ log) = no_place k log

-- ---- a list of entries that the machine reads, each of which can also break off

abbrev pub Passes : ℕ → Place → List Entry → Place → Type 0
Passes k s [] t = s ≡ t
Passes k s (e ∷ es) t =
    (u : Place) × (step k s e ≡ Some u)
    × ((b : Break) → is_break 0 e b ≡ true → place_after k (Some s) (break_entries e b) ≡ Some plain)
    × Passes k u es t

pub passes_whole : (k : ℕ) (s t : Place) (es : List Entry) → Passes k s es t → place_after k (Some s) es ≡ Some t
passes_whole k s t [] w = ap Some w
passes_whole k s t (e ∷ es) w = ap (λ (at : Option Place). place_after k at es) w.1 ∙ passes_whole k w.0 t es w.3

pub passes_cut : (k : ℕ) (s t : Place) (es : List Entry) (n : ℕ) (b : Break) → Passes k s es t →
    can_cut 0 es n b ≡ true →
    place_after k (Some s) (cut_at es n b) ≡ Some plain
passes_cut k s t [] n b w can = cc
passes_cut k s t (e ∷ es) zero b w can = w.2 b can
passes_cut k s t (e ∷ es) (suc n) b w can =
    ap (λ (at : Option Place). place_after k at (cut_at es n b)) w.1 ∙ passes_cut k w.0 t es n b w.3 can

pub passes_append : (k : ℕ) (s t u : Place) (xs ys : List Entry) → Passes k s xs t → Passes k t ys u →
    Passes k s (xs ++ ys) u
passes_append k s t u [] ys w v = subst (λ (p : Place). Passes k p ys u) (sym w) v
passes_append k s t u (e ∷ xs) ys w v = (w.0, w.1, w.2, passes_append k w.0 t u xs ys w.3 v)

-- ---- single entries

pub same_self : (n : ℕ) → (n == n) ≡ true
same_self n = grind (arith, nat_tests)

pub same_frame_self : (f : Frame) → same_but_service f f ≡ true
same_frame_self f = and_from _ _ (same_self _) (same_self (byte_of f))

-- a frame of the host that is no data frame and is to come back
returned_passes : (k : ℕ) (s next : Place) (f : Frame) → is_data f ≡ false →
    ((o : Outcome) → step k s (entry 0 f o) ≡ after_returned next (fate_of f o)) → Passes k s (returned 0 f ∷ []) next
returned_passes k s next f silent steps =
    (next, steps (outcome.Back f) ∙ rw (same_frame_self f) refl, breaks, refl)
  where
    breaks : (b : Break) → is_break 0 (returned 0 f) b ≡ true →
        place_after k (Some s) (break_entries (returned 0 f) b) ≡ Some plain
    breaks (FrameLost q) legal = steps (outcome.Lost q)
    breaks (HostAltered g) legal = absurd (both_ways _ (rw silent refl) legal)
    breaks (TalkerAltered g end) legal = cc

-- a data or end frame of a party other than the host
spoken_passes : (k p : ℕ) (s next : Place) (d : Echo) → (p == 0) ≡ false → is_echo d ≡ true →
    ((o : Outcome) → step k s (entry p d.sent o) ≡ after_data next (place.Failed p) (fate_of d.sent o)) →
    Passes k s (echoed p d ∷ []) next
spoken_passes k p s next d other echo steps =
    let parts = and_parts (is_data d.sent) (same_but_service d.sent d.back) echo in
    (next, steps (outcome.Back d.back) ∙ rw parts.1 refl, breaks, refl)
  where
    altered : (g : Frame) → is_altered d.sent g ≡ true →
        step k s (entry p d.sent (outcome.Back g)) ≡ Some (place.Failed p)
    altered g legal =
        steps (outcome.Back g) ∙ rw (not-true _ ((and_parts (is_data d.sent) (not
        (same_but_service d.sent g)) legal).1)) refl

    ended : (end : Outcome) → is_end 0 end ≡ true → step k (place.Failed p) (entry p ete end) ≡ Some plain
    ended (outcome.Back f) legal = cc
    ended (outcome.Taken q) legal = rw (same_self p, legal) refl
    ended (outcome.Lost q) legal = rw (same_self p) refl

    breaks : (b : Break) → is_break 0 (echoed p d) b ≡ true →
        place_after k (Some s) (break_entries (echoed p d) b) ≡ Some plain
    breaks (FrameLost q) legal = steps (outcome.Lost q)
    breaks (HostAltered g) legal = absurd (both_ways _ (rw other refl) legal)
    breaks (TalkerAltered g end) legal =
        let both =
        and_parts (is_altered d.sent g) (is_end 0 end) ((and_parts (not (p == 0))
        (is_altered d.sent g && is_end 0 end) legal).1) in
        ap (λ (at : Option Place). step_from k at (entry p ete end)) (altered g both.0) ∙ ended end both.1

-- a data frame of the host
said_passes : (k : ℕ) (t : Tail) (d : Echo) → hears t ≡ true → is_host_echo d ≡ true →
    Passes k (place.Between t) (echoed 0 d ∷ []) (place.Between tail.Data)
said_passes k t d hearing echo =
    let parts = and_parts (same_class (class_of d.sent) class.Dab) (is_echo d) echo in
    let same = (and_parts (is_data d.sent) (same_but_service d.sent d.back) parts.1).1 in
    (place.Between tail.Data, steps (outcome.Back d.back) ∙ rw same refl, breaks, refl)
  where
    of_class : (c : Class) (o : Outcome) (ended : Fate) → same_class c class.Dab ≡ true →
        begun_by k t c (byte_of d.sent) o ended ≡ after_data (place.Between tail.Data) plain ended
    of_class class.Dab o ended e = rw hearing refl
    of_class c o ended e = cc

    steps : (o : Outcome) →
        step k (place.Between t) (entry 0 d.sent o) ≡ after_data (place.Between tail.Data) plain (fate_of d.sent o)
    steps o =
        of_class (class_of d.sent) o (fate_of d.sent o) ((and_parts (same_class (class_of d.sent) class.Dab)
        (is_echo d) echo).0)

    breaks : (b : Break) → is_break 0 (echoed 0 d) b ≡ true →
        place_after k (Some (place.Between t)) (break_entries (echoed 0 d) b) ≡ Some plain
    breaks (FrameLost q) legal = steps (outcome.Lost q)
    breaks (HostAltered g) legal =
        steps (outcome.Back g) ∙ rw (not-true _ ((and_parts (is_data d.sent) (not
        (same_but_service d.sent g)) legal).1)) refl
    breaks (TalkerAltered g end) legal = cc

-- ETO, which the host takes
ended_passes : (k p : ℕ) (s : Place) → ((o : Outcome) →
    step k s (entry p eto o) ≡ after_end place.Answered (fate_of eto o)) →
    (p == 0) ≡ false → Passes k s (entry p eto (outcome.Taken 0) ∷ []) place.Answered
ended_passes k p s steps other = (place.Answered, steps (outcome.Taken 0), breaks, refl)
  where
    breaks : (b : Break) → is_break 0 (entry p eto (outcome.Taken 0)) b ≡ true →
        place_after k (Some s) (break_entries (entry p eto (outcome.Taken 0)) b) ≡ Some plain
    breaks (FrameLost q) legal = steps (outcome.Lost q)
    breaks (HostAltered g) legal = absurd (both_ways _ (rw other refl) legal)
    breaks (TalkerAltered g end) legal = absurd (both_ways _ (rw other refl) legal)

-- ---- commands

rfc_passes : (k : ℕ) (s next : Place) → ((o : Outcome) →
    step k s (entry 0 rfc o) ≡ after_returned next (fate_of rfc o)) →
    Passes k s (returned 0 rfc ∷ []) next
rfc_passes k s next steps = returned_passes k s next rfc refl steps

command_passes : (k : ℕ) (t : Tail) (byte : ℕ) → is_within 0x40 0x5E byte ≡ false →
    Passes k (place.Between t) (commanded 0 (command byte)) (place.Between (after_command t byte))
command_passes k t byte plain_command =
    passes_append k (place.Between t) (place.Commanded (after_command t byte)) (place.Between (after_command t byte))
    (returned 0 (command byte) ∷ []) (returned 0 rfc ∷ [])
    (returned_passes k (place.Between t) (place.Commanded (after_command t byte)) (command byte) refl
    (λ o. rw plain_command refl))
    (rfc_passes k (place.Commanded (after_command t byte)) (place.Between (after_command t byte)) (λ o. refl))

unl_passes : (k : ℕ) (t : Tail) → Passes k (place.Between t) (commanded 0 unl) (place.Between tail.Unlisten)
unl_passes k t = command_passes k t 0x3F refl

lad_passes : (k a : ℕ) → is_address a ≡ true →
    Passes k (place.Between tail.Unlisten) (commanded 0 (lad a)) (place.Between tail.Listen)
lad_passes k a low =
    subst (λ (t : Tail). Passes k (place.Between tail.Unlisten) (commanded 0 (lad a)) (place.Between t)) next
    (command_passes k tail.Unlisten (0x20 + a) (agree_below_at (λ b. is_within 0x40 0x5E (0x20 + b))
    (λ b. false) 31 a refl small))
  where
    small : a < 31
    small = omega (arith, leb-true a 30 low)

    next : after_command tail.Unlisten (0x20 + a) ≡ tail.Listen
    next = grind (arith, nat_tests)

ddl_passes : (k n : ℕ) → nat_lt n 32 ≡ true →
    Passes k (place.Between tail.Listen) (commanded 0 (ddl n)) (place.Between tail.Data)
ddl_passes k n low =
    subst (λ (t : Tail). Passes k (place.Between tail.Listen) (commanded 0 (ddl n)) (place.Between t)) next
    (command_passes k tail.Listen (0xA0 + n) (agree_below_at (λ b. is_within 0x40 0x5E (0xA0 + b))
    (λ b. false) 32 n refl (ltb-true n 32 low)))
  where
    next : after_command tail.Listen (0xA0 + n) ≡ tail.Data
    next = grind (arith, nat_tests)

tad_passes : (k a : ℕ) → is_address a ≡ true → Passes k (place.Between tail.Unlisten) (commanded 0 (tad a)) place.Told
tad_passes k a low =
    passes_append k (place.Between tail.Unlisten) place.Addressed place.Told (returned 0 (tad a) ∷ [])
    (returned 0 rfc ∷ [])
    (returned_passes k (place.Between tail.Unlisten) place.Addressed (tad a) refl (λ o. rw talk refl))
    (rfc_passes k place.Addressed place.Told (λ o. refl))
  where
    talk : is_within 0x40 0x5E (0x40 + a) ≡ true
    talk = agree_below_at (λ b. is_within 0x40 0x5E (0x40 + b)) (λ b. true) 31 a refl (omega (arith, leb-true a 30 low))

ddt_passes : (k n : ℕ) → nat_lt n 32 ≡ true → Passes k place.Told (commanded 0 (ddt n)) place.Starting
ddt_passes k n low =
    passes_append k place.Told place.Numbered place.Starting (returned 0 (ddt n) ∷ []) (returned 0 rfc ∷ [])
    (returned_passes k place.Told place.Numbered (ddt n) refl (λ o. rw within refl))
    (rfc_passes k place.Numbered place.Starting (λ o. refl))
  where
    within : is_within 0xC0 0xDF (0xC0 + n) ≡ true
    within = agree_below_at (λ b. is_within 0xC0 0xDF (0xC0 + b)) (λ b. true) 32 n refl (ltb-true n 32 low)

-- ---- sends

echoes_said : (k : ℕ) (ds : List Echo) → list_all is_host_echo ds ≡ true →
    Passes k (place.Between tail.Data) (map (echoed 0) ds) (place.Between tail.Data)
echoes_said k [] e = refl
echoes_said k (d ∷ ds) e =
    let parts = and_parts (is_host_echo d) (list_all is_host_echo ds) e in
    passes_append k (place.Between tail.Data) (place.Between tail.Data) (place.Between tail.Data) (echoed 0 d ∷ [])
    (map (echoed 0) ds)
    (said_passes k tail.Data d refl parts.0) (echoes_said k ds parts.1)

-- what a log ends by after data
abbrev after_said : Tail → List Echo → Tail
after_said t [] = t
after_said t (d ∷ ds) = tail.Data

said_all : (k : ℕ) (t : Tail) (ds : List Echo) → hears t ≡ true → list_all is_host_echo ds ≡ true →
    Passes k (place.Between t) (map (echoed 0) ds) (place.Between (after_said t ds))
said_all k t [] hearing e = refl
said_all k t (d ∷ ds) hearing e =
    let parts = and_parts (is_host_echo d) (list_all is_host_echo ds) e in
    passes_append k (place.Between t) (place.Between tail.Data) (place.Between tail.Data) (echoed 0 d ∷ []) (map
    (echoed 0) ds)
    (said_passes k t d hearing parts.0) (echoes_said k ds parts.1)

abbrev after_ddl : Option ℕ → Tail
after_ddl None = tail.Listen
after_ddl (Some n) = tail.Data

hears_ddl : (number : Option ℕ) → hears (after_ddl number) ≡ true
hears_ddl None = refl
hears_ddl (Some n) = refl

ddl_if : (k : ℕ) (number : Option ℕ) → is_number number ≡ true →
    Passes k (place.Between tail.Listen) (numbered 0 ddl number) (place.Between (after_ddl number))
ddl_if k None e = refl
ddl_if k (Some n) e = ddl_passes k n e

-- ---- receives

abbrev after_ddt : Option ℕ → Place
after_ddt None = place.Told
after_ddt (Some n) = place.Starting

ddt_if : (k : ℕ) (number : Option ℕ) → is_number number ≡ true →
    Passes k place.Told (numbered 0 ddt number) (after_ddt number)
ddt_if k None e = refl
ddt_if k (Some n) e = ddt_passes k n e

front_passes : (k : ℕ) (t : Tail) (a : ℕ) (number : Option ℕ) → is_address a ≡ true → is_number number ≡ true →
    Passes k (place.Between t) (receive_front 0 a number) (after_ddt number)
front_passes k t a number low short =
    passes_append k (place.Between t) (place.Between tail.Unlisten) (after_ddt number) (commanded 0 unl)
    (commanded 0 (tad a) ++ numbered 0 ddt number)
    (unl_passes k t)
    (passes_append k (place.Between tail.Unlisten) place.Told (after_ddt number) (commanded 0 (tad a))
    (numbered 0 ddt number)
    (tad_passes k a low) (ddt_if k number short))

-- a start message is due after a talk address, with a DDT or without
start_steps : (k : ℕ) (number : Option ℕ) (start : Start) (o : Outcome) →
    step k (after_ddt number) (entry 0 (start_frame start) o) ≡ after_start (fate_of (start_frame start) o)
start_steps k None Sda o = refl
start_steps k None Sst o = refl
start_steps k None Sdi o = refl
start_steps k None Sai o = refl
start_steps k (Some n) Sda o = refl
start_steps k (Some n) Sst o = refl
start_steps k (Some n) Sdi o = refl
start_steps k (Some n) Sai o = refl

start_silent : (start : Start) → is_data (start_frame start) ≡ false
start_silent Sda = refl
start_silent Sst = refl
start_silent Sdi = refl
start_silent Sai = refl

-- a start message with an outcome that leads on
start_passes : (k : ℕ) (number : Option ℕ) (start : Start) (o : Outcome) (next : Place) →
    after_start (fate_of (start_frame start) o) ≡ Some next →
    Passes k (after_ddt number) (entry 0 (start_frame start) o ∷ []) next
start_passes k number start o next leads = (next, start_steps k number start o ∙ leads, breaks, refl)
  where
    breaks : (b : Break) → is_break 0 (entry 0 (start_frame start) o) b ≡ true →
        place_after k (Some (after_ddt number)) (break_entries (entry 0 (start_frame start) o) b) ≡ Some plain
    breaks (FrameLost q) legal = start_steps k number start (outcome.Lost q)
    breaks (HostAltered g) legal = absurd (both_ways _ (rw (start_silent start) refl) legal)
    breaks (TalkerAltered g end) legal = cc

abbrev after_echoes : Bool → List Echo → Bool
after_echoes spoke [] = spoke
after_echoes spoke (d ∷ ds) = after_echoes true ds

spoken_on : (ds : List Echo) → after_echoes true ds ≡ true
spoken_on [] = refl
spoken_on (d ∷ ds) = spoken_on ds

spoken_some : (ds : List Echo) → is_some_data ds ≡ true → after_echoes false ds ≡ true
spoken_some [] e = cc
spoken_some (d ∷ ds) e = spoken_on ds

data_silent : (d : Echo) → is_echo d ≡ true → is_data d.sent ≡ true
data_silent d e = (and_parts (is_data d.sent) (same_but_service d.sent d.back) e).0

talk_steps : (k p : ℕ) (spoke : Bool) (d : Echo) → (p == 0) ≡ false → is_echo d ≡ true → (o : Outcome) →
    step k (place.Talking p spoke) (entry p d.sent o) ≡ after_data (place.Talking p true) (place.Failed p)
    (fate_of d.sent o)
talk_steps k p spoke d other echo o = rw (other, data_silent d echo, same_self p) refl

echoes_spoken : (k p : ℕ) (spoke : Bool) (ds : List Echo) → (p == 0) ≡ false → list_all is_echo ds ≡ true →
    Passes k (place.Talking p spoke) (map (echoed p) ds) (place.Talking p (after_echoes spoke ds))
echoes_spoken k p spoke [] other e = refl
echoes_spoken k p spoke (d ∷ ds) other e =
    let parts = and_parts (is_echo d) (list_all is_echo ds) e in
    passes_append k (place.Talking p spoke) (place.Talking p true) (place.Talking p (after_echoes true ds))
    (echoed p d ∷ []) (map (echoed p) ds)
    (spoken_passes k p (place.Talking p spoke) (place.Talking p true) d other parts.0
    (talk_steps k p spoke d other parts.0))
    (echoes_spoken k p true ds other parts.1)

answer_passes : (k : ℕ) (number : Option ℕ) (start : Start) (answer : Answer) → is_answer 0 answer ≡ true →
    Passes k (after_ddt number) (answer_entries 0 (start_frame start) answer) place.Answered
answer_passes k number start NotTaken e =
    start_passes k number start (outcome.Back (start_frame start)) place.Answered (rw (same_frame_self
    (start_frame start)) refl)
answer_passes k number start (ToItsEnd p ds) e =
    let parts = and_parts (not (p == 0)) (is_some_data ds && list_all is_echo ds) e in
    let both = and_parts (is_some_data ds) (list_all is_echo ds) parts.1 in
    let other = not-true (p == 0) parts.0 in
    passes_append k (after_ddt number) (place.Talking p false) place.Answered
    (entry 0 (start_frame start) (outcome.Taken p) ∷ []) (map (echoed p) ds ++ entry p eto (outcome.Taken 0) ∷ [])
    (start_passes k number start (outcome.Taken p) (place.Talking p false) (rw other refl))
    (passes_append k (place.Talking p false) (place.Talking p (after_echoes false ds)) place.Answered
    (map (echoed p) ds) (entry p eto (outcome.Taken 0) ∷ [])
    (echoes_spoken k p false ds other both.1)
    (ended_passes k p (place.Talking p (after_echoes false ds)) (λ o. rw
    (other, spoken_some ds both.0, same_self p) refl) other))
answer_passes k number start (Stopped p ds last) e =
    let parts = and_parts (not (p == 0)) (list_all is_echo ds && is_echo last) e in
    let both = and_parts (list_all is_echo ds) (is_echo last) parts.1 in
    let other = not-true (p == 0) parts.0 in
    passes_append k (after_ddt number) (place.Talking p false) place.Answered
    (entry 0 (start_frame start) (outcome.Taken p) ∷ [])
    (map (echoed p) ds ++ returned 0 nrd ∷ echoed p last ∷ entry p eto (outcome.Taken 0) ∷ [])
    (start_passes k number start (outcome.Taken p) (place.Talking p false) (rw other refl))
    (passes_append k (place.Talking p false) (place.Talking p (after_echoes false ds)) place.Answered
    (map (echoed p) ds) (returned 0 nrd ∷ echoed p last ∷ entry p eto (outcome.Taken 0) ∷ [])
    (echoes_spoken k p false ds other both.0)
    (passes_append k (place.Talking p (after_echoes false ds)) (place.Stopping p) place.Answered
    (returned 0 nrd ∷ []) (echoed p last ∷ entry p eto (outcome.Taken 0) ∷ [])
    (returned_passes k (place.Talking p (after_echoes false ds)) (place.Stopping p) nrd refl (λ o. refl))
    (passes_append k (place.Stopping p) (place.Stopped p) place.Answered (echoed p last ∷ []) (entry p eto
    (outcome.Taken 0) ∷ [])
    (spoken_passes k p (place.Stopping p) (place.Stopped p) last other both.1 (λ o. rw
    (data_silent last both.1, same_self p) refl))
    (ended_passes k p (place.Stopped p) (λ o. rw (same_self p) refl) other))))

-- ---- exchanges

-- the place after a frame that is not to come back as it was
single_passes : (k : ℕ) (t : Tail) (f : Frame) (o : Outcome) → is_data f ≡ false →
    step k (place.Between t) (entry 0 f o) ≡ Some plain → ((q : ℕ) →
    step k (place.Between t) (entry 0 f (outcome.Lost q)) ≡ Some plain) →
    Passes k (place.Between t) (entry 0 f o ∷ []) plain
single_passes k t f o silent leads lost = (plain, leads, breaks, refl)
  where
    breaks : (b : Break) → is_break 0 (entry 0 f o) b ≡ true →
        place_after k (Some (place.Between t)) (break_entries (entry 0 f o) b) ≡ Some plain
    breaks (FrameLost q) legal = lost q
    breaks (HostAltered g) legal = absurd (both_ways _ (rw silent refl) legal)
    breaks (TalkerAltered g end) legal = cc

-- a byte that gives no talk address
talk_byte : (byte : ℕ) → is_within 0x40 0x5E byte ≡ true → is_talk_address (message_at class.Cmd byte) ≡ true
talk_byte byte within =
    let parts = and_parts (nat_le 0x40 byte) (nat_le byte 0x5E) within in
    let small : byte < 95 = omega (arith, leb-true byte 0x5E parts.1) in
    let known =
    agree_below_at (λ b. not (is_within 0x40 0x5E b) || is_talk_address (message_at class.Cmd b))
    (λ b. true) 95 byte refl small in
    left_out (is_within 0x40 0x5E byte) _ within known
  where
    left_out : (b c : Bool) → b ≡ true → (not b || c) ≡ true → c ≡ true
    left_out true c p q = q
    left_out false c p q = cc

off_if : (b : Bool) → (b ≡ true → ⊥) → b ≡ false
off_if true never = absurd (never refl)
off_if false never = refl

pub no_talk_byte : (byte : ℕ) → is_talk_address (message_at class.Cmd byte) ≡ false → is_within 0x40 0x5E byte ≡ false
no_talk_byte byte silent = off_if _ (λ within. both_ways _ silent (talk_byte byte within))

some_command : (k : ℕ) (t : Tail) (c : Class) (byte : ℕ) → same_class c class.Cmd ≡ true →
    is_talk_address (message_at c byte) ≡ false →
    (u : Tail) × Passes k (place.Between t) (commanded 0 (framed c byte)) (place.Between u)
some_command k t class.Cmd byte e silent = (after_command t byte, command_passes k t byte (no_talk_byte byte silent))
some_command k t c byte e silent = cc

equal_numbers : (m n : ℕ) → (m == n) ≡ true → m ≡ n
equal_numbers m n e = eqb-true m n e

pub exchange_passes : (k d : ℕ) (t : Tail) (x : Exchange) → is_exchange (host_loop k d) x ≡ true →
    (u : Tail) × Passes k (place.Between t) (entries_of 0 x) (place.Between u)
exchange_passes k d t (Command f) e =
    let parts = and_parts (same_class (class_of f) class.Cmd) (not (is_talk_address (message_of f))) e in
    some_command k t (class_of f) (byte_of f) parts.0 (not-true _ parts.1)
exchange_passes k d t (Address devices) e = (
  tail.Plain,
  single_passes k t (aad 1) (outcome.Back (aad (suc devices))) refl
      (rw (equal_numbers devices k e, same_self (0x80 + suc k)) refl) (λ q. refl),
)
exchange_passes k d t (Send a number ds) e =
    let parts = and_parts (is_address a) (is_number number && list_all is_host_echo ds) e in
    let both = and_parts (is_number number) (list_all is_host_echo ds) parts.1 in
    let last = place.Between (after_said (after_ddl number) ds) in (
      after_said (after_ddl number) ds,
      passes_append k (place.Between t) (place.Between tail.Unlisten) last (commanded 0 unl)
          (commanded 0 (lad a) ++ (numbered 0 ddl number ++ map (echoed 0) ds)) (unl_passes k t)
          (passes_append k (place.Between tail.Unlisten) (place.Between tail.Listen) last (commanded 0 (lad a))
          (numbered 0 ddl number ++ map (echoed 0) ds) (lad_passes k a parts.0)
          (passes_append k (place.Between tail.Listen) (place.Between (after_ddl number)) last (numbered 0 ddl number)
          (map (echoed 0) ds) (ddl_if k number both.0) (said_all k (after_ddl number) ds (hears_ddl number) both.1))),
    )
exchange_passes k d t (Receive a number start answer) e =
    let parts = and_parts (is_address a) (is_number number && is_answer 0 answer) e in
    let both = and_parts (is_number number) (is_answer 0 answer) parts.1 in
    let answered = answer_entries 0 (start_frame start) answer in (
      tail.Plain,
      passes_append k (place.Between t) (place.Between tail.Unlisten) plain (commanded 0 unl)
          (commanded 0 (tad a) ++ ((numbered 0 ddt number ++ answered) ++ commanded 0 unt)) (unl_passes k t)
          (passes_append k (place.Between tail.Unlisten) place.Told plain (commanded 0 (tad a))
          ((numbered 0 ddt number ++ answered) ++ commanded 0 unt) (tad_passes k a parts.0)
          (passes_append k place.Told place.Answered plain (numbered 0 ddt number ++ answered) (commanded 0 unt)
          (passes_append k place.Told (after_ddt number) place.Answered (numbered 0 ddt number) answered
          (ddt_if k number both.0) (answer_passes k number start answer both.1))
          (passes_append k place.Answered (place.Commanded tail.Plain) plain (returned 0 unt ∷ []) (returned 0 rfc ∷ [])
          (returned_passes k place.Answered (place.Commanded tail.Plain) unt refl (λ o. refl))
          (rfc_passes k (place.Commanded tail.Plain) plain (λ o. refl))))),
    )
exchange_passes k d t (Identify f) e =
    (tail.Plain, single_passes k t (framed class.Idy 0x00) (outcome.Back f) refl (rw e refl) (λ q. refl))

-- ---- lists of exchanges

piece_place : (k d : ℕ) (t : Tail) (p : Piece) → is_piece (host_loop k d) p ≡ true →
    (u : Tail) × (place_after k (Some (place.Between t)) (piece_entries 0 p) ≡ Some (place.Between u))
piece_place k d t (Whole x) e =
    let passed = exchange_passes k d t x e in
    (passed.0, passes_whole k (place.Between t) (place.Between passed.0) (entries_of 0 x) passed.1)
piece_place k d t (Cut x n b) e =
    let parts = and_parts (is_exchange (host_loop k d) x) (can_cut 0 (entries_of 0 x) n b) e in
    let passed = exchange_passes k d t x parts.0 in
    (tail.Plain, passes_cut k (place.Between t) (place.Between passed.0) (entries_of 0 x) n b passed.1 parts.1)

pieces_place : (k d : ℕ) (t : Tail) (ps : List Piece) → list_all (is_piece (host_loop k d)) ps ≡ true →
    (u : Tail) × (place_after k (Some (place.Between t)) (flat_map (piece_entries 0) ps) ≡ Some (place.Between u))
pieces_place k d t [] e = (t, refl)
pieces_place k d t (p ∷ ps) e =
    let parts = and_parts (is_piece (host_loop k d) p) (list_all (is_piece (host_loop k d)) ps) e in
    let first = piece_place k d t p parts.0 in
    let rest = pieces_place k d first.0 ps parts.1 in (
      rest.0,
      place_after-append k (Some (place.Between t)) (piece_entries 0 p) (flat_map (piece_entries 0) ps)
          ∙ ap (λ (at : Option Place). place_after k at (flat_map (piece_entries 0) ps)) first.1 ∙ rest.1,
    )

-- a list of whole and broken exchanges leads to between two exchanges
pub reading_place : (k d : ℕ) (log : List Entry) → Reading (host_loop k d) log →
    (u : Tail) × (place_after k (Some plain) log ≡ Some (place.Between u))
reading_place k d log r =
    let all = pieces_place k d tail.Plain r.pieces r.legal in
    (all.0, ap (place_after k (Some plain)) r.entries ∙ all.1)

-- where the machine has stopped the log is the beginning of no such list
pub no_prefix : (k d : ℕ) (log rest : List Entry) → place_after k (Some plain) log ≡ None →
    Reading (host_loop k d) (log ++ rest) → ⊥
no_prefix k d log rest stopped r =
    let all = reading_place k d (log ++ rest) r in
    let none : place_after k (Some plain) (log ++ rest) ≡ None =
    place_after-append k (Some plain) log rest ∙ ap (λ (at : Option Place). place_after k at rest) stopped
    ∙ no_place k rest in
    let same : None ≡ Some (place.Between all.0) = sym none ∙ all.1 in
    cc
