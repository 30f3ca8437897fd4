-- Exchanges that broke off: which frames came to the drive, and that those of a seek or a receive changed no record.
use Rattle.std.proofs.Common.{◌≡◌, ◌∙◌, ◌≤◌, ◌++◌, ◌&&◌, ◌||◌, ◌⊎◌, inl, inr, ⊎_elim, ℕ, zero, suc, Bool, true, false, not, List, [], ◌∷◌, Option, Some, None, map, refl, sym, ap, subst, arith, append_assoc}
use Rattle.std.specs.Prelude.{◌==◌, nat_le, IfSome}
use Rattle.std.specs.List.{list_all}
use Rattle.std.proofs.lemmas.Bool.{and_parts, and_from, le-leb}
use Rattle.il_frames.specs.declared.frame.Frame.{Frame}
use Rattle.il_frames.specs.declared.entry.Entry.{Entry}
use Rattle.il_frames.specs.declared.entry.Outcome.TheVariants as outcome
use Rattle.il_frames.specs.Frames.{is_data, same_but_service}
use Rattle.il_frames.specs.Messages.{message_of}
use Rattle.il_device.specs.declared.device.Out.{Out}
use Rattle.il_device.specs.Takes.{eto}
use Rattle.il_ports.specs.Media.{MediumView}
use Rattle.il_drive.specs.State.{DriveView}
use Rattle.il_drive.specs.Steps.{Step, Now, Reads, Writes, Did, IsStill}
use Rattle.il_drive.specs.Table.{drive_step}
use Rattle.il_drive.specs.Runs.{Ran}
use Rattle.il_drive.proofs.Reading.{nothing_read}
use Rattle.il_drive.proofs.ExchangesAddressed.{message_of-tad}
use Rattle.il_drive.proofs.ExchangesStill.{makes_listener, NoneListens, listens-data, receive_leaves}
use Rattle.il_frames.specs.NamedFrames.{entry, unl, unt, rfc, nrd, tad, ddt}
use Rattle.loop_model.specs.Exchanges.{Echo, Answer, NotTaken, ToItsEnd, Stopped, Start, Sda, Receive, start_frame, echoed, returned, commanded, numbered, answer_entries, entries_of, is_answer, is_echo, is_some_data}
use Rattle.loop_model.specs.Reach.{brings_to}
use Rattle.loop_model.proofs.UnitLaws.{entries_of-receive}
use Rattle.il_ring.specs.Journeys.{is_exact}
use Rattle.il_control.specs.Brought.{ComesAs, MayComeAs, BroughtIf, CutBrought, is_auto_address, is_from_here}
use Rattle.il_control.specs.Receives.{talker_of}
use Rattle.il_record.specs.Runs.{LeavesRecords}

-- ---- the medium's count

fell_never : {M X : Type 0} (view : M → MediumView) (st : Step X) (x : X) (m n : M) → Did view st x m n → (view m).faults ≤ (view n).faults
fell_never view (Now value) x m n did = subst (λ n. (view m).faults ≤ (view n).faults) (sym did.1) (omega arith)
fell_never view (Reads k good bad) x m n did = ⊎_elim (λ gave. let same = gave.count in omega (arith, same)) (λ failed. failed.1.later) did.1
fell_never view (Writes k bytes good bad) x m n did = ⊎_elim (λ took. let same = took.2 in omega (arith, same)) (λ torn. torn.2.later) did.1

-- frames never take the count of the medium down
pub counts_up : {M : Type 0} (view : M → MediumView) (fs : List Frame) (outs : List Out) (v w : DriveView M) → Ran view v fs outs w → (view v.medium).faults ≤ (view w.medium).faults
counts_up view [] [] v w ran = subst (λ w. (view v.medium).faults ≤ (view w.medium).faults) (sym ran) (omega arith)
counts_up view (f ∷ fs) (out ∷ outs) v w ran =
    let one = fell_never view (drive_step (view v.medium).record_count v.state f) (ran.0.state, out) v.medium ran.0.medium ran.1 in
    let more = counts_up view fs outs ran.0 w ran.2 in
    omega (arith, one, more)
counts_up view _ _ v w ran = absurd ran

-- ---- frames that make no listener

-- a data or end frame, or a message that goes on as it is and makes no listener
abbrev pub no_listener : Frame → Bool
no_listener f = is_data f || (is_exact (message_of f) && (not (is_auto_address (message_of f)) && not (makes_listener (message_of f))))

not_true : (b : Bool) → not b ≡ true → b ≡ false
not_true true h = cc
not_true false h = refl

may_listen : (q : ℕ) (f g : Frame) → no_listener f ≡ true → MayComeAs q f g → makes_listener (message_of g) ≡ false
may_listen q f g none comes = by (is_data f) refl
  where
    by : (b : Bool) → is_data f ≡ b → makes_listener (message_of g) ≡ false
    by true h = (listens-data (g ∷ []) (comes.data_frame h, tt)).0
    by false h =
        let rest : (is_exact (message_of f) && (not (is_auto_address (message_of f)) && not (makes_listener (message_of f)))) ≡ true = sym (ap (λ b. b || (is_exact (message_of f) && (not (is_auto_address (message_of f)) && not (makes_listener (message_of f))))) h) ∙ none in
        let one = and_parts (is_exact (message_of f)) (not (is_auto_address (message_of f)) && not (makes_listener (message_of f))) rest in
        let two = and_parts (not (is_auto_address (message_of f))) (not (makes_listener (message_of f))) one.1 in
        ap (λ f. makes_listener (message_of f)) (comes.other one.0 (not_true (is_auto_address (message_of f)) two.0)) ∙ not_true (makes_listener (message_of f)) two.1

pub comes_may : (q : ℕ) (f g : Frame) → ComesAs q f g → MayComeAs q f g
comes_may q f g comes = record { data_frame = λ is. (comes.data_frame is).0; address = comes.address; poll = comes.poll; other = comes.other }

-- what came of entries whose frames make none
cut_listens : (k q n : ℕ) (es : List Entry) (gs : List Frame) → list_all (λ e. no_listener e.frame) es ≡ true → CutBrought k q es n gs → NoneListens gs
cut_listens k q n [] gs none came = subst NoneListens (sym came) tt
cut_listens k q zero (e ∷ es) gs none came =
    let both = and_parts (no_listener e.frame) (list_all (λ e. no_listener e.frame) es) none in
    ⊎_elim (λ nothing. subst NoneListens (sym nothing) tt) (λ one. subst NoneListens (sym one.2) (may_listen q e.frame one.0 both.0 one.1, tt)) came
cut_listens k q (suc n) (e ∷ es) gs none came =
    let both = and_parts (no_listener e.frame) (list_all (λ e. no_listener e.frame) es) none in
    by (brings_to k q e) gs came both.0 (λ gs came. cut_listens k q n es gs both.1 came)
  where
    by : (b : Bool) (gs : List Frame) → BroughtIf b (ComesAs q e.frame) (CutBrought k q es n) gs → no_listener e.frame ≡ true → ((gs : List Frame) → CutBrought k q es n gs → NoneListens gs) → NoneListens gs
    by false gs came here rest = rest gs came
    by true [] came here rest = absurd came
    by true (g ∷ gs) came here rest = (may_listen q e.frame g here (comes_may q e.frame g came.0), rest gs came.1)

-- ---- a receive

echoes_none : (p : ℕ) (ds : List Echo) (rest : List Entry) → list_all is_echo ds ≡ true → list_all (λ e. no_listener e.frame) rest ≡ true → list_all (λ e. no_listener e.frame) (map (echoed p) ds ++ rest) ≡ true
echoes_none p [] rest legal more = more
echoes_none p (d ∷ ds) rest legal more =
    let both = and_parts (is_echo d) (list_all is_echo ds) legal in
    and_from (no_listener d.sent) (list_all (λ e. no_listener e.frame) (map (echoed p) ds ++ rest)) (by d both.0) (echoes_none p ds rest both.1 more)
  where
    by : (d : Echo) → is_echo d ≡ true → no_listener d.sent ≡ true
    by d h = ap (λ b. b || (is_exact (message_of d.sent) && (not (is_auto_address (message_of d.sent)) && not (makes_listener (message_of d.sent))))) (and_parts (is_data d.sent) (same_but_service d.sent d.back) h).0

start_none : (s : Start) → no_listener (start_frame s) ≡ true
start_none Sda = refl
start_none _ = refl

answer_none : (s : Start) (answer : Answer) → is_answer 0 answer ≡ true → list_all (λ e. no_listener e.frame) (answer_entries 0 (start_frame s) answer ++ commanded 0 unt) ≡ true
answer_none s NotTaken legal = and_from (no_listener (start_frame s)) true (start_none s) refl
answer_none s (ToItsEnd p ds) legal =
    let echoes = (and_parts (is_some_data ds) (list_all is_echo ds) (and_parts (not (p == 0)) (is_some_data ds && list_all is_echo ds) legal).1).1 in
    and_from (no_listener (start_frame s)) _ (start_none s)
    (subst (λ es. list_all (λ e. no_listener e.frame) es ≡ true) (sym (append_assoc (map (echoed p) ds) (entry p eto (outcome.Taken 0) ∷ []) (commanded 0 unt))) (echoes_none p ds (entry p eto (outcome.Taken 0) ∷ commanded 0 unt) echoes refl))
answer_none s (Stopped p ds last) legal =
    let parts = and_parts (list_all is_echo ds) (is_echo last) (and_parts (not (p == 0)) (list_all is_echo ds && is_echo last) legal).1 in
    let end : List Entry = returned 0 nrd ∷ echoed p last ∷ entry p eto (outcome.Taken 0) ∷ [] in
    let tail : list_all (λ e. no_listener e.frame) (end ++ commanded 0 unt) ≡ true = echoes_none p (last ∷ []) (entry p eto (outcome.Taken 0) ∷ commanded 0 unt) (and_from (is_echo last) true parts.1 refl) refl in
    and_from (no_listener (start_frame s)) _ (start_none s)
    (subst (λ es. list_all (λ e. no_listener e.frame) es ≡ true) (sym (append_assoc (map (echoed p) ds) end (commanded 0 unt))) (echoes_none p ds (end ++ commanded 0 unt) parts.0 tail))

tad_none : (a : ℕ) → a ≤ 30 → no_listener (tad a) ≡ true
tad_none a low = ap (λ m. is_exact m && (not (is_auto_address m) && not (makes_listener m))) (message_of-tad a low)

-- a DDT makes no listener either
number_none : (number : Option ℕ) → IfSome number (λ n. no_listener (ddt n) ≡ true) → (rest : List Entry) → list_all (λ e. no_listener e.frame) rest ≡ true → list_all (λ e. no_listener e.frame) (numbered 0 ddt number ++ rest) ≡ true
number_none None low rest all = all
number_none (Some n) low rest all = and_from (no_listener (ddt n)) _ low all

-- after UNL
behind_none : (a : ℕ) (number : Option ℕ) (s : Start) (answer : Answer) → a ≤ 30 → IfSome number (λ n. no_listener (ddt n) ≡ true) → is_answer 0 answer ≡ true
    → list_all (λ e. no_listener e.frame) (returned 0 rfc ∷ commanded 0 (tad a) ++ (numbered 0 ddt number ++ (answer_entries 0 (start_frame s) answer ++ commanded 0 unt))) ≡ true
behind_none a number s answer low small legal = and_from (no_listener (tad a)) _ (tad_none a low) (number_none number small _ (answer_none s answer legal))

first_unl : (k q n : ℕ) (es : List Entry) (gs : List Frame) → list_all (λ e. no_listener e.frame) es ≡ true → CutBrought k q (returned 0 unl ∷ es) n gs → (gs ≡ []) ⊎ ((more : List Frame) × (gs ≡ unl ∷ more) × NoneListens more)
first_unl k q zero es gs none came = ⊎_elim (λ nothing. inl nothing) (λ one. inr ([], one.2 ∙ ap (λ g. g ∷ []) (one.1.other refl refl), tt)) came
first_unl k q (suc n) es [] none came = absurd came
first_unl k q (suc n) es (g ∷ gs) none came = inr (gs, ap (λ g. g ∷ gs) (came.0.other refl refl), cut_listens k q n es gs none came.1)

nothing_ran : {M : Type 0} (view : M → MediumView) (outs : List Out) (v w : DriveView M) → Ran view v [] outs w → IsStill (view v.medium) (view w.medium)
nothing_ran view [] v w ran = subst (λ w. IsStill (view v.medium) (view w.medium)) (sym ran) (nothing_read (view v.medium)).still
nothing_ran view (out ∷ outs) v w ran = absurd ran

-- A receive that broke off changed no record.
pub receive_cut : {M : Type 0} (view : M → MediumView) (k q n a : ℕ) (number : Option ℕ) (s : Start) (answer : Answer) (gs : List Frame) (outs : List Out) (v w : DriveView M) → a ≤ 30 → IfSome number (λ n. no_listener (ddt n) ≡ true) → is_answer 0 answer ≡ true
    → CutBrought k q (entries_of 0 (Receive a number s answer)) n gs → Ran view v gs outs w → LeavesRecords view v w
receive_cut view k q n a number s answer gs outs v w low small legal came ran = record {
  still = ⊎_elim
      (λ nothing. nothing_ran view outs v w (subst (λ gs. Ran view v gs outs w) nothing ran))
      (λ some. receive_leaves view some.0 outs v w some.2 (subst (λ gs. Ran view v gs outs w) some.1 ran))
      (first_unl k q n (returned 0 rfc ∷ commanded 0 (tad a) ++ (numbered 0 ddt number ++ (answer_entries 0 (start_frame s) answer ++ commanded 0 unt))) gs (behind_none a number s answer low small legal) (subst (λ es. CutBrought k q es n gs) (entries_of-receive 0 a number s answer) came));
  count = counts_up view gs outs v w ran;
}

-- ---- all entries are of the host or of the drive

from_drive : (q p : ℕ) (ds : List Echo) (rest : List Entry) → q ≤ p → list_all (is_from_here q) rest ≡ true → list_all (is_from_here q) (map (echoed p) ds ++ rest) ≡ true
from_drive q p [] rest near all = all
from_drive q p (d ∷ ds) rest near all = and_from (is_from_here q (echoed p d)) _ (here (p == 0)) (from_drive q p ds rest near all)
  where
    here : (b : Bool) → (b || nat_le q p) ≡ true
    here true = refl
    here false = le-leb q p near

-- no device took the start message, or the drive did or one after it
answer_near : (q : ℕ) (s : Start) (answer : Answer) → IfSome (talker_of answer) (λ p. q ≤ p) → list_all (is_from_here q) (answer_entries 0 (start_frame s) answer ++ commanded 0 unt) ≡ true
answer_near q s NotTaken near = refl
answer_near q s (ToItsEnd p ds) near = subst (λ es. list_all (is_from_here q) es ≡ true) (sym (append_assoc (map (echoed p) ds) (entry p eto (outcome.Taken 0) ∷ []) (commanded 0 unt))) (from_drive q p ds (entry p eto (outcome.Taken 0) ∷ commanded 0 unt) near (from_drive q p (record { sent = eto; back = eto } ∷ []) (commanded 0 unt) near refl))
answer_near q s (Stopped p ds last) near =
    subst (λ es. list_all (is_from_here q) es ≡ true) (sym (append_assoc (map (echoed p) ds) (returned 0 nrd ∷ echoed p last ∷ entry p eto (outcome.Taken 0) ∷ []) (commanded 0 unt)))
    (from_drive q p ds (returned 0 nrd ∷ echoed p last ∷ entry p eto (outcome.Taken 0) ∷ commanded 0 unt) near (from_drive q p (last ∷ record { sent = eto; back = eto } ∷ []) (commanded 0 unt) near refl))

pub receive_near : (q a : ℕ) (number : Option ℕ) (s : Start) (answer : Answer) → IfSome (talker_of answer) (λ p. q ≤ p) → list_all (is_from_here q) (entries_of 0 (Receive a number s answer)) ≡ true
receive_near q a None s answer near = answer_near q s answer near
receive_near q a (Some n) s answer near = answer_near q s answer near

pub receive_from_here : (q a : ℕ) (number : Option ℕ) (s : Start) (answer : Answer) → IfSome (talker_of answer) (λ p. p ≡ q) → list_all (is_from_here q) (entries_of 0 (Receive a number s answer)) ≡ true
receive_from_here q a number s answer at = receive_near q a number s answer (by answer at)
  where
    by : (answer : Answer) → IfSome (talker_of answer) (λ p. p ≡ q) → IfSome (talker_of answer) (λ p. q ≤ p)
    by NotTaken at = tt
    by _ at = omega (arith, at)
