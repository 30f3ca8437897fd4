-- Laws of the crossings that a log stands for and of the frames that it brings to a party.
use Rattle.std.proofs.Common.{sum_by, count_by, length, ◌≡◌, ℕ, zero, suc, ◌++◌, ◌+◌, ◌&&◌, ◌||◌, ◌⊎◌, inl, inr, ◌==◌, ◌∙◌, Bool, true, false, not, cond, nat_lt, nat_le, filter, ◌≤◌, ◌↔◌, if◌then◌else◌, List, [], ◌∷◌, map, flat_map, Option, Some, None, refl, sym, ap, arith, subst, append_assoc, append-nil}
use Rattle.std.specs.List.{list_all}
use Rattle.std.proofs.lemmas.Bool.{and_parts, and_from, and_left, and_right, not-true, or_right, or_cases, or_parts}
use Rattle.std.proofs.lemmas.Bool.Decides.{nat_tests}
use Rattle.std.proofs.lemmas.List.Sums.{sum_by-append}
use Rattle.il_frames.specs.declared.frame.Class.{Class}
use Rattle.il_frames.specs.declared.frame.Class.TheVariants as class
use Rattle.il_frames.specs.declared.frame.Frame.{Frame}
use Rattle.il_frames.specs.declared.entry.Entry.{Entry}
use Rattle.il_frames.specs.declared.entry.Outcome.{Outcome}
use Rattle.il_frames.specs.declared.entry.Outcome.TheVariants as outcome
use Rattle.il_frames.specs.Frames.{framed, class_of, same_class}
use Rattle.il_device.specs.Takes.{ete}
use Rattle.loop_model.specs.Loops.{host_loop}
use Rattle.il_frames.specs.NamedFrames.{entry, unl, unt, lad, tad, ddl, ddt, nrd, is_frame, is_lost, is_lost_nrd, is_no_nrd}
use Rattle.loop_model.specs.Reach.{links_of, brings_to, met, taken_by, sourcing_after, held_at_end, links_so_far, passes_so_far, TellsHeld}
use Rattle.loop_model.specs.Exchanges.{Echo, Exchange, Command, Address, Send, Receive, Identify, Start, Sda, Sst, Sdi, Sai, Answer, NotTaken, ToItsEnd, Stopped, start_frame, answer_entries, commanded, echoed, numbered, entries_of, is_host_echo, is_echo, is_number, is_address, is_exchange, Break, FrameLost, HostAltered, TalkerAltered, break_entries, cut_at, Piece, Whole, Cut, piece_entries, is_piece, Reading, IsWhole}
use Rattle.loop_model.proofs.ExchangeLaws.{stands, stands_as, exchange_stands, whole_stands}

-- ---- the held frame

-- the device that sources data after a log
abbrev pub sourcing : Option ℕ → List Entry → Option ℕ
sourcing before [] = before
sourcing before (e ∷ log) = sourcing (sourcing_after before e) log

-- whether a frame was held at the end of an appended log is told by the second part, and the device that sourced
-- data before it by the first
pub held_at_end-append : (before : Option ℕ) (first : List Entry) (e : Entry) (rest : List Entry) → held_at_end before (first ++ e ∷ rest) ≡ held_at_end (sourcing before first) (e ∷ rest)
held_at_end-append before [] e rest = refl
held_at_end-append before (x ∷ []) e rest = refl
held_at_end-append before (x ∷ y ∷ first) e rest = held_at_end-append (sourcing_after before x) (y ∷ first) e rest

not_lost_nrd : (e : Entry) → is_lost e.outcome ≡ false → is_lost_nrd e ≡ false
not_lost_nrd e kept = and_right (e.source == 0) _ (and_right (is_frame e.frame nrd) _ kept)

stands_not_lost : (f : Frame) (o : Outcome) → stands_as f o ≡ true → is_lost o ≡ false
stands_not_lost f (outcome.Back g) s = refl
stands_not_lost f (outcome.Taken q) s = refl
stands_not_lost f (outcome.Lost q) s = cc

none_held : (before : Option ℕ) (log : List Entry) → list_all stands log ≡ true → held_at_end before log ≡ None
none_held before [] s = refl
none_held before (e ∷ []) s =
    let here = (and_parts (stands e) true s).0 in
    let kept = not_lost_nrd e (stands_not_lost e.frame e.outcome here) in
    rw kept refl
none_held before (e ∷ next ∷ log) s = none_held (sourcing_after before e) (next ∷ log) ((and_parts (stands e) _ s).1)

-- after a whole log no frame is held
pub held_at_end-whole : (size drive : ℕ) (log : List Entry) → IsWhole (host_loop size drive) log → held_at_end None log ≡ None
held_at_end-whole size drive log w =
    ap (held_at_end None) w.reading.entries
    ∙ none_held None (flat_map (piece_entries 0) w.reading.pieces) (whole_stands (host_loop size drive) w.reading.pieces w.reading.legal w.whole)

-- a device took a frame of the host
abbrev pub is_taken : Outcome → Bool
is_taken (outcome.Back f) = false
is_taken (outcome.Taken q) = true
is_taken (outcome.Lost q) = false

-- no NRD stands before the first frame of the host that a device took
abbrev pub starts_before_nrd : List Entry → Bool
starts_before_nrd [] = true
starts_before_nrd (e ∷ es) =
    not (is_frame e.frame nrd) && (((e.source == 0) && is_taken e.outcome) || starts_before_nrd es)

other_frame : (e : Entry) → is_frame e.frame nrd ≡ false → is_lost_nrd e ≡ false
other_frame e other = and_right (e.source == 0) _ (and_left (is_frame e.frame nrd) _ other)

held_if : (b : Bool) (before : Option ℕ) → b ≡ false → (if b then before else None) ≡ None
held_if true before e = cc
held_if false before e = refl

-- a log whose last entry is no lost NRD
last_tells : (e : Entry) (before after : Option ℕ) → is_lost_nrd e ≡ false → held_at_end before (e ∷ []) ≡ held_at_end after (e ∷ [])
last_tells e before after other = held_if (is_lost_nrd e) before other ∙ sym (held_if (is_lost_nrd e) after other)

break_tells : (due : Entry) (b : Break) → is_frame due.frame nrd ≡ false → TellsHeld (break_entries due b)
break_tells due (FrameLost q) other before = last_tells (entry due.source due.frame (outcome.Lost q)) before None (other_frame (entry due.source due.frame (outcome.Lost q)) other)
break_tells due (HostAltered f) other before = last_tells (entry due.source due.frame (outcome.Back f)) before None (not_lost_nrd (entry due.source due.frame (outcome.Back f)) refl)
break_tells due (TalkerAltered f end) other before =
    last_tells (entry due.source ete end) (sourcing_after before (entry due.source due.frame (outcome.Back f))) (sourcing_after None (entry due.source due.frame (outcome.Back f)))
    (other_frame (entry due.source ete end) refl)

taken_tells : (e : Entry) (before : Option ℕ) → ((e.source == 0) && is_taken e.outcome) ≡ true → sourcing_after before e ≡ sourcing_after None e
taken_tells e before taken =
    let parts = and_parts (e.source == 0) (is_taken e.outcome) taken in
    rw (parts.0) (by_outcome e.outcome parts.1)
  where
    by_outcome : (o : Outcome) → is_taken o ≡ true → taken_by o before ≡ taken_by o None
    by_outcome (outcome.Back f) t = cc
    by_outcome (outcome.Taken q) t = refl
    by_outcome (outcome.Lost q) t = cc

step_tells : (e : Entry) (log : List Entry) → is_frame e.frame nrd ≡ false → (((e.source == 0) && is_taken e.outcome) ≡ true) ⊎ TellsHeld log → TellsHeld (e ∷ log)
step_tells e [] other either before = last_tells e before None (other_frame e other)
step_tells e (x ∷ log) other (inl taken) before = ap (λ (o : Option ℕ). held_at_end o (x ∷ log)) (taken_tells e before taken)
step_tells e (x ∷ log) other (inr tells) before = tells (sourcing_after before e) ∙ sym (tells (sourcing_after None e))

cut_tells : (es : List Entry) (n : ℕ) (b : Break) → starts_before_nrd es ≡ true → TellsHeld (cut_at es n b)
cut_tells [] n b starts = λ before. refl
cut_tells (e ∷ es) zero b starts = break_tells e b (not-true _ ((and_parts (not (is_frame e.frame nrd)) _ starts).0))
cut_tells (e ∷ es) (suc n) b starts =
    let parts = and_parts (not (is_frame e.frame nrd)) (((e.source == 0) && is_taken e.outcome) || starts_before_nrd es) starts in
    step_tells e (cut_at es n b) (not-true _ parts.0)
    (further (or_cases ((e.source == 0) && is_taken e.outcome) (starts_before_nrd es) parts.1) (cut_tells es n b))
  where
    further : (((e.source == 0) && is_taken e.outcome) ≡ true) ⊎ (starts_before_nrd es ≡ true) → (starts_before_nrd es ≡ true → TellsHeld (cut_at es n b)) → (((e.source == 0) && is_taken e.outcome) ≡ true) ⊎ TellsHeld (cut_at es n b)
    further (inl taken) tells = inl taken
    further (inr starts) tells = inr (tells starts)

-- ---- exchanges start before an NRD

starts-append : (front rest : List Entry) → list_all is_no_nrd front ≡ true → starts_before_nrd rest ≡ true → starts_before_nrd (front ++ rest) ≡ true
starts-append [] rest others starts = starts
starts-append (e ∷ front) rest others starts =
    let parts = and_parts (is_no_nrd e) (list_all is_no_nrd front) others in
    and_from (is_no_nrd e) _ parts.0 (or_right ((e.source == 0) && is_taken e.outcome) _ (starts-append front rest parts.1 starts))

command_no_nrd : (k : Class) (byte : ℕ) → same_class k class.Cmd ≡ true → list_all is_no_nrd (commanded 0 (framed k byte)) ≡ true
command_no_nrd class.Cmd byte e = refl
command_no_nrd k byte e = cc

numbered_no_nrd : (frame : ℕ → Frame) (number : Option ℕ) → ((n : ℕ) → same_class (class_of (frame n)) class.Cmd ≡ true) → list_all is_no_nrd (numbered 0 frame number) ≡ true
numbered_no_nrd frame None e = refl
numbered_no_nrd frame (Some n) e = command_no_nrd (frame n).class (frame n).byte (e n)

dab_no_nrd : (k : Class) (byte : ℕ) → same_class k class.Dab ≡ true → is_frame (framed k byte) nrd ≡ false
dab_no_nrd class.Dab byte e = refl
dab_no_nrd k byte e = cc

echoes_no_nrd : (ds : List Echo) → list_all is_host_echo ds ≡ true → list_all is_no_nrd (map (echoed 0) ds) ≡ true
echoes_no_nrd [] e = refl
echoes_no_nrd (d ∷ ds) e =
    let parts = and_parts (is_host_echo d) (list_all is_host_echo ds) e in
    let dab = (and_parts (same_class (class_of d.sent) class.Dab) (is_echo d) parts.0).0 in
    and_from _ _ (ap not (dab_no_nrd d.sent.class d.sent.byte dab)) (echoes_no_nrd ds parts.1)

start_no_nrd : (start : Start) → is_frame (start_frame start) nrd ≡ false
start_no_nrd Sda = refl
start_no_nrd Sst = refl
start_no_nrd Sdi = refl
start_no_nrd Sai = refl

answer_starts : (start : Start) (answer : Answer) → starts_before_nrd (answer_entries 0 (start_frame start) answer ++ commanded 0 unt) ≡ true
answer_starts start NotTaken = rw (start_no_nrd start) refl
answer_starts start (ToItsEnd p ds) = rw (start_no_nrd start) refl
answer_starts start (Stopped p ds last) = rw (start_no_nrd start) refl

exchange_starts : (size drive : ℕ) (x : Exchange) → is_exchange (host_loop size drive) x ≡ true → starts_before_nrd (entries_of 0 x) ≡ true
exchange_starts size drive (Command f) e = starts-append (commanded 0 f) [] (command_no_nrd f.class f.byte ((and_parts (same_class (class_of f) class.Cmd) _ e).0)) refl
exchange_starts size drive (Address devices) e = refl
exchange_starts size drive (Send a number ds) e =
    let numbers = and_parts (is_number number) (list_all is_host_echo ds) ((and_parts (is_address a) _ e).1) in
    starts-append (commanded 0 unl ++ commanded 0 (lad a) ++ numbered 0 ddl number) (map (echoed 0) ds)
    (numbered_no_nrd ddl number (λ n. refl))
    (subst (λ (es : List Entry). starts_before_nrd es ≡ true) (append-nil (map (echoed 0) ds)) (starts-append (map (echoed 0) ds) [] (echoes_no_nrd ds numbers.1) refl))
exchange_starts size drive (Receive a number start answer) e =
    subst (λ (es : List Entry). starts_before_nrd es ≡ true)
    (sym (append_assoc (commanded 0 unl ++ commanded 0 (tad a) ++ numbered 0 ddt number) (answer_entries 0 (start_frame start) answer) (commanded 0 unt)))
    (starts-append (commanded 0 unl ++ commanded 0 (tad a) ++ numbered 0 ddt number) (answer_entries 0 (start_frame start) answer ++ commanded 0 unt)
    (numbered_no_nrd ddt number (λ n. refl)) (answer_starts start answer))
exchange_starts size drive (Identify f) e = refl

-- ---- whole and broken logs tell by themselves

joined_tells : (first second : List Entry) → TellsHeld first → TellsHeld second → TellsHeld (first ++ second)
joined_tells first [] a b = subst TellsHeld (sym (append-nil first)) a
joined_tells first (e ∷ rest) a b = λ before.
    held_at_end-append before first e rest ∙ (b (sourcing before first) ∙ (sym (b (sourcing None first)) ∙ sym (held_at_end-append None first e rest)))

piece_tells : (size drive : ℕ) (p : Piece) → is_piece (host_loop size drive) p ≡ true → TellsHeld (piece_entries 0 p)
piece_tells size drive (Whole x) legal = λ before. none_held before (entries_of 0 x) (exchange_stands (host_loop size drive) x legal) ∙ sym (none_held None (entries_of 0 x) (exchange_stands (host_loop size drive) x legal))
piece_tells size drive (Cut x n b) legal = cut_tells (entries_of 0 x) n b (exchange_starts size drive x ((and_parts (is_exchange (host_loop size drive) x) _ legal).0))

pieces_tell : (size drive : ℕ) (ps : List Piece) → list_all (is_piece (host_loop size drive)) ps ≡ true → TellsHeld (flat_map (piece_entries 0) ps)
pieces_tell size drive [] legal = λ before. refl
pieces_tell size drive (p ∷ ps) legal =
    let parts = and_parts (is_piece (host_loop size drive) p) (list_all (is_piece (host_loop size drive)) ps) legal in
    joined_tells (piece_entries 0 p) (flat_map (piece_entries 0) ps) (piece_tells size drive p parts.0) (pieces_tell size drive ps parts.1)

-- a list of whole and broken exchanges tells by itself whether a frame was held
pub reading_tells : (size drive : ℕ) (log : List Entry) → Reading (host_loop size drive) log → TellsHeld log
reading_tells size drive log r = subst TellsHeld (sym r.entries) (pieces_tell size drive r.pieces r.legal)

-- ---- planned hops

nothing_kept : (test : ℕ → Bool) (hop : ℕ) (hops : List ℕ) → filter test (hop ∷ hops) ≡ [] → (test hop ≡ false) × (filter test hops ≡ [])
nothing_kept test hop hops e = by_test (test hop) e
  where
    by_test : (b : Bool) → cond b (hop ∷ filter test hops) (filter test hops) ≡ [] → (b ≡ false) × (filter test hops ≡ [])
    by_test true none = cc
    by_test false none = (refl, none)

kept_nothing : (test : ℕ → Bool) (hop : ℕ) (hops : List ℕ) → test hop ≡ false → filter test hops ≡ [] → filter test (hop ∷ hops) ≡ []
kept_nothing test hop hops out none = rw out none

or_false : (a b : Bool) → a ≡ false → b ≡ false → (a || b) ≡ false
or_false true b p q = p
or_false false b p q = q

-- a hop is met between two counts
abbrev pub is_met : ℕ → ℕ → ℕ → Bool
is_met before now hop = nat_lt before hop && nat_le hop now

met_or_not : (a b c hop : ℕ) → a ≤ b → b ≤ c → is_met a c hop ≡ (is_met a b hop || is_met b c hop)
met_or_not a b c hop ab bc = grind (arith, nat_tests)

-- no planned hop is met over a span exactly where none is met over either part of it
pub met-split : (hops : List ℕ) (a b c : ℕ) → a ≤ b → b ≤ c → (met hops a c ≡ []) ↔ ((met hops a b ≡ []) × (met hops b c ≡ []))
met-split [] a b c ab bc = (λ e. (refl, refl), λ e. refl)
met-split (hop ∷ hops) a b c ab bc =
    let rest = met-split hops a b c ab bc in
    let here = met_or_not a b c hop ab bc in (
      λ e.
          let outer = nothing_kept (is_met a c) hop hops e in
          let tests = or_parts (is_met a b hop) (is_met b c hop) (sym here ∙ outer.0) in
          let others = rest.0 outer.1 in
          (kept_nothing (is_met a b) hop hops tests.0 others.0, kept_nothing (is_met b c) hop hops tests.1 others.1),
      λ e.
          let first = nothing_kept (is_met a b) hop hops e.0 in
          let second = nothing_kept (is_met b c) hop hops e.1 in
          kept_nothing (is_met a c) hop hops (here ∙ or_false (is_met a b hop) (is_met b c hop) first.0 second.0) (rest.1 (first.1, second.1)),
    )

-- ---- the counts of a ring

-- more entries add their crossings, whatever frame is held after them
pub links_so_far-append : (k : ℕ) (first second : List Entry) (held : Option ℕ) → links_so_far k (first ++ second) held ≡ sum_by (links_of k) first + links_so_far k second held
links_so_far-append k first second held = let sums = sum_by-append (links_of k) first second in rw sums (omega arith)

-- and their passes
pub passes_so_far-append : (k party : ℕ) (first second : List Entry) (held : Option ℕ) → passes_so_far k party (first ++ second) held ≡ count_by (brings_to k party) first + passes_so_far k party second held
passes_so_far-append k party first second held = let sums = sum_by-append (λ e. cond (brings_to k party e) 1 0) first second in rw sums (omega arith)

length_met : (test : Bool) (hop : ℕ) (hops : List ℕ) → length (cond test (hop ∷ hops) hops) ≡ cond test 1 0 + length hops
length_met true hop hops = omega arith
length_met false hop hops = omega arith

split_met : (first second : Bool) → (first && second) ≡ false → cond (first || second) 1 0 ≡ cond first 1 0 + cond second 1 0
split_met true true e = cc
split_met true false e = refl
split_met false true e = refl
split_met false false e = refl

met_once : (a b c hop : ℕ) → (is_met a b hop && is_met b c hop) ≡ false
met_once a b c hop = grind (arith, nat_tests)

-- the planned hops that are met over a span are as many as those over both parts of it
pub length-met : (hops : List ℕ) (a b c : ℕ) → a ≤ b → b ≤ c → length (met hops a c) ≡ length (met hops a b) + length (met hops b c)
length-met [] a b c ab bc = refl
length-met (hop ∷ hops) a b c ab bc =
    let rest = length-met hops a b c ab bc in
    let here = met_or_not a b c hop ab bc in
    let outer = length_met (is_met a c hop) hop (met hops a c) in
    let first = length_met (is_met a b hop) hop (met hops a b) in
    let second = length_met (is_met b c hop) hop (met hops b c) in
    let split = ap (λ (t : Bool). cond t 1 0) here ∙ split_met (is_met a b hop) (is_met b c hop) (met_once a b c hop) in
    outer ∙ omega (arith, rest, first, second, split)
