-- Laws of a loop that is led by its controller: where the host hands control to nobody, all is as by the
-- host's log alone.
use Rattle.std.proofs.Common.{◌≡◌, ◌↔◌, ℕ, zero, suc, ◌++◌, ◌&&◌, ◌||◌, ◌==◌, ◌∙◌, Bool, true, false, not, if◌then◌else◌, List, [], ◌∷◌, map, flat_map, Option, Some, None, refl, sym, ap}
use Rattle.std.proofs.lemmas.Bool.{and_parts, and_from, not-true, eqb-true}
use Rattle.std.proofs.lemmas.List.Folds.{list_all-append}
use Rattle.il_frames.specs.declared.frame.Frame.{Frame}
use Rattle.il_frames.specs.declared.message.Message.{Message}
use Rattle.il_frames.specs.declared.message.Message.TheVariants as msg
use Rattle.il_frames.specs.declared.entry.Entry.{Entry}
use Rattle.il_frames.specs.declared.entry.Outcome.{Outcome}
use Rattle.il_frames.specs.declared.entry.Outcome.TheVariants as outcome
use Rattle.il_frames.specs.Messages.{message_of}
use Rattle.il_device.specs.declared.roles.Roles.{Roles}
use Rattle.il_device.specs.Takes.{eto}
use Rattle.loop_model.specs.Loops.{Loop}
use Rattle.il_frames.specs.NamedFrames.{entry, unt, ddl, ddt, nrd}
use Rattle.loop_model.specs.Roles.{roles_along, roles_after_entry, roles_after, talkers, is_at_most_one, is_spoken, is_in_turn, has_one_talker, OneTalker}
use Rattle.loop_model.specs.Exchanges.{Echo, Start, Sda, Sst, Sdi, Sai, Answer, NotTaken, ToItsEnd, Stopped, Exchange, Command, Address, Send, Receive, Identify, start_frame, answer_entries, returned, commanded, echoed, numbered, entries_of, Break, FrameLost, HostAltered, TalkerAltered, break_entries, cut_at, Piece, Whole, Cut, piece_entries, Reading}
use Rattle.il_frames.specs.NamedFrames.{is_ifc}
use Rattle.loop_model.specs.Leading.{handed_to, handed_or_back, controller_after_entry, controller_after, is_of_controller, roles_led_entry, roles_led, is_in_turn_led, has_one_talker_led, OneTalkerLed, are_commands_led, is_handing_over, is_no_lend, has_no_lend}

-- ---- appended logs

-- the controller after an appended log is the one after it from the one between
pub controller_after-append : (c : ℕ) (first second : List Entry) → controller_after c (first ++ second) ≡ controller_after (controller_after c first) second
controller_after-append c [] second = refl
controller_after-append c (e ∷ first) second = controller_after-append (controller_after_entry c e) first second

-- the roles after an appended log are the roles after it from the roles and the controller between
pub roles_led-append : (c : ℕ) (rs : List Roles) (first second : List Entry) → roles_led c rs (first ++ second) ≡ roles_led (controller_after c first) (roles_led c rs first) second
roles_led-append c rs [] second = refl
roles_led-append c rs (e ∷ first) second = roles_led-append (controller_after_entry c e) (roles_led_entry c rs e) first second

and_assoc : (a b c : Bool) → (a && (b && c)) ≡ ((a && b) && c)
and_assoc true b c = refl
and_assoc false b c = refl

-- commands of an appended log are led where those of both parts are
pub are_commands_led-append : (c : ℕ) (first second : List Entry) → are_commands_led c (first ++ second) ≡ (are_commands_led c first && are_commands_led (controller_after c first) second)
are_commands_led-append c [] second = refl
are_commands_led-append c (e ∷ first) second =
    ap (λ (b : Bool). (is_spoken (message_of e.frame) || is_of_controller c e) && b) (are_commands_led-append (controller_after_entry c e) first second)
    ∙ and_assoc (is_spoken (message_of e.frame) || is_of_controller c e) (are_commands_led (controller_after_entry c e) first) _

at_most_one_first : (c : ℕ) (rs : List Roles) (log : List Entry) → has_one_talker_led c rs log ≡ (is_at_most_one (talkers rs) && has_one_talker_led c rs log)
at_most_one_first c rs [] = twice (is_at_most_one (talkers rs))
  where
    twice : (a : Bool) → a ≡ (a && a)
    twice true = refl
    twice false = refl
at_most_one_first c rs (e ∷ log) = twice (is_at_most_one (talkers rs)) _
  where
    twice : (a b : Bool) → (a && b) ≡ (a && (a && b))
    twice true b = refl
    twice false b = refl

-- one talker of an appended log is one talker of both parts
pub has_one_talker_led-append : (c : ℕ) (rs : List Roles) (first second : List Entry) → has_one_talker_led c rs (first ++ second) ≡ (has_one_talker_led c rs first && has_one_talker_led (controller_after c first) (roles_led c rs first) second)
has_one_talker_led-append c rs [] second = at_most_one_first c rs second
has_one_talker_led-append c rs (e ∷ first) second =
    let few = is_at_most_one (talkers rs) in
    let turn = is_in_turn_led c (talkers rs) e in
    let rest = has_one_talker_led (controller_after_entry c e) (roles_led_entry c rs e) first in
    let after = has_one_talker_led (controller_after c (e ∷ first)) (roles_led c rs (e ∷ first)) second in
    ap (λ (b : Bool). few && (turn && b)) (has_one_talker_led-append (controller_after_entry c e) (roles_led_entry c rs e) first second)
    ∙ (ap (λ (b : Bool). few && b) (and_assoc turn rest after) ∙ and_assoc few (turn && rest) after)

-- ---- control stays with the host

not_handed : (o : Outcome) (m : Message) → is_handing_over o m ≡ false → handed_to 0 o m ≡ 0
not_handed (outcome.Taken k) msg.Tct calm = cc
not_handed (outcome.Taken k) m calm = refl
not_handed (outcome.Back f) m calm = refl
not_handed (outcome.Lost q) m calm = refl

host_keeps : (o : Outcome) (m : Message) → is_handing_over o m ≡ false → handed_or_back 0 o m ≡ 0
host_keeps o m calm = by_ifc (is_ifc m)
  where
    by_ifc : (b : Bool) → (if b then 0 else handed_to 0 o m) ≡ 0
    by_ifc true = refl
    by_ifc false = not_handed o m calm

and_true : (b : Bool) → (b && true) ≡ b
and_true true = refl
and_true false = refl

-- after an entry that is no lend the host controls as before
stays_entry : (e : Entry) → is_no_lend e ≡ true → controller_after_entry 0 e ≡ 0
stays_entry e calm = by_source (e.source == 0) calm
  where
    by_source : (b : Bool) → not (is_handing_over e.outcome (message_of e.frame) && b) ≡ true → (if b then handed_or_back 0 e.outcome (message_of e.frame) else 0) ≡ 0
    by_source false calm = refl
    by_source true calm = host_keeps e.outcome (message_of e.frame) (sym (and_true _) ∙ not-true _ calm)

led_by_host : (rs : List Roles) (e : Entry) → roles_led_entry 0 rs e ≡ roles_after_entry rs e
led_by_host rs e = by_source (e.source == 0) (λ same. eqb-true e.source 0 same)
  where
    by_source : (b : Bool) → (b ≡ true → e.source ≡ 0) → (if b || (b && is_ifc (message_of e.frame)) then roles_along e.source e.outcome 1 (message_of e.frame) rs else rs) ≡ (if b then roles_along 0 e.outcome 1 (message_of e.frame) rs else rs)
    by_source true same = ap (λ (s : ℕ). roles_along s e.outcome 1 (message_of e.frame) rs) (same refl)
    by_source false same = refl

in_turn_of_host : (ps : List ℕ) (e : Entry) → is_in_turn_led 0 ps e ≡ is_in_turn ps e
in_turn_of_host [] e = ap (λ (b : Bool). not (is_spoken (message_of e.frame)) || b) (twice (e.source == 0) _)
  where
    twice : (a b : Bool) → (a && (a && b)) ≡ (a && b)
    twice true b = refl
    twice false b = refl
in_turn_of_host (p ∷ ps) e = refl

-- where the host hands control to nobody it keeps it
pub controller_after-no_lend : (log : List Entry) → has_no_lend log ≡ true → controller_after 0 log ≡ 0
controller_after-no_lend [] calm = refl
controller_after-no_lend (e ∷ log) calm =
    let parts = and_parts (is_no_lend e) (has_no_lend log) calm in
    ap (λ (c : ℕ). controller_after c log) (stays_entry e parts.0) ∙ controller_after-no_lend log parts.1

-- the roles are then those by the host's entries
pub roles_led-no_lend : (rs : List Roles) (log : List Entry) → has_no_lend log ≡ true → roles_led 0 rs log ≡ roles_after rs log
roles_led-no_lend rs [] calm = refl
roles_led-no_lend rs (e ∷ log) calm =
    let parts = and_parts (is_no_lend e) (has_no_lend log) calm in
    ap (λ (c : ℕ). roles_led c (roles_led_entry 0 rs e) log) (stays_entry e parts.0)
    ∙ (ap (λ (ss : List Roles). roles_led 0 ss log) (led_by_host rs e) ∙ roles_led-no_lend (roles_after_entry rs e) log parts.1)

one_talker_of_host : (rs : List Roles) (log : List Entry) → has_no_lend log ≡ true → has_one_talker_led 0 rs log ≡ has_one_talker rs log
one_talker_of_host rs [] calm = refl
one_talker_of_host rs (e ∷ log) calm =
    let parts = and_parts (is_no_lend e) (has_no_lend log) calm in
    let few = is_at_most_one (talkers rs) in
    ap (λ (b : Bool). few && (b && has_one_talker_led (controller_after_entry 0 e) (roles_led_entry 0 rs e) log)) (in_turn_of_host (talkers rs) e)
    ∙ (ap (λ (c : ℕ). few && (is_in_turn (talkers rs) e && has_one_talker_led c (roles_led_entry 0 rs e) log)) (stays_entry e parts.0)
    ∙ (ap (λ (ss : List Roles). few && (is_in_turn (talkers rs) e && has_one_talker_led 0 ss log)) (led_by_host rs e)
    ∙ ap (λ (b : Bool). few && (is_in_turn (talkers rs) e && b)) (one_talker_of_host (roles_after_entry rs e) log parts.1)))

-- and the log then has one talker exactly where it has one by the host's entries
pub OneTalkerLed-no_lend : (rs : List Roles) (log : List Entry) → has_no_lend log ≡ true → OneTalkerLed 0 rs log ↔ OneTalker rs log
OneTalkerLed-no_lend rs log calm = (
  λ one. sym (one_talker_of_host rs log calm) ∙ one,
  λ one. one_talker_of_host rs log calm ∙ one,
)

-- ---- exchanges lend nothing

both : (xs ys : List Entry) → has_no_lend xs ≡ true → has_no_lend ys ≡ true → has_no_lend (xs ++ ys) ≡ true
both xs ys a b = list_all-append is_no_lend xs ys ∙ and_from (has_no_lend xs) (has_no_lend ys) a b

echoes_lend_nothing : (p : ℕ) (ds : List Echo) → has_no_lend (map (echoed p) ds) ≡ true
echoes_lend_nothing p [] = refl
echoes_lend_nothing p (d ∷ ds) = echoes_lend_nothing p ds

numbered_lends_nothing : (c : ℕ) (frame : ℕ → Frame) (number : Option ℕ) → has_no_lend (numbered c frame number) ≡ true
numbered_lends_nothing c frame None = refl
numbered_lends_nothing c frame (Some n) = refl

start_is_no_lend : (c p : ℕ) (s : Start) (rest : List Entry) → has_no_lend rest ≡ true → has_no_lend (entry c (start_frame s) (outcome.Taken p) ∷ rest) ≡ true
start_is_no_lend c p Sda rest calm = calm
start_is_no_lend c p Sst rest calm = calm
start_is_no_lend c p Sdi rest calm = calm
start_is_no_lend c p Sai rest calm = calm

answer_lends_nothing : (c : ℕ) (s : Start) (a : Answer) → has_no_lend (answer_entries c (start_frame s) a) ≡ true
answer_lends_nothing c s NotTaken = refl
answer_lends_nothing c s (ToItsEnd p ds) =
    let end = entry p eto (outcome.Taken c) ∷ [] in
    start_is_no_lend c p s (map (echoed p) ds ++ end) (both (map (echoed p) ds) end (echoes_lend_nothing p ds) refl)
answer_lends_nothing c s (Stopped p ds last) =
    let end = returned c nrd ∷ echoed p last ∷ entry p eto (outcome.Taken c) ∷ [] in
    start_is_no_lend c p s (map (echoed p) ds ++ end) (both (map (echoed p) ds) end (echoes_lend_nothing p ds) refl)

exchange_lends_nothing : (c : ℕ) (x : Exchange) → has_no_lend (entries_of c x) ≡ true
exchange_lends_nothing c (Command f) = refl
exchange_lends_nothing c (Address devices) = refl
exchange_lends_nothing c (Send a number ds) = both (numbered c ddl number) _ (numbered_lends_nothing c ddl number) (echoes_lend_nothing c ds)
exchange_lends_nothing c (Receive a number s answer) =
    let answered = answer_entries c (start_frame s) answer in
    both (numbered c ddt number ++ answered) (commanded c unt)
    (both (numbered c ddt number) answered (numbered_lends_nothing c ddt number) (answer_lends_nothing c s answer)) refl
exchange_lends_nothing c (Identify f) = refl

break_lends_nothing : (due : Entry) (b : Break) → has_no_lend (break_entries due b) ≡ true
break_lends_nothing due (FrameLost q) = refl
break_lends_nothing due (HostAltered f) = refl
break_lends_nothing due (TalkerAltered f (outcome.Back g)) = refl
break_lends_nothing due (TalkerAltered f (outcome.Taken q)) = refl
break_lends_nothing due (TalkerAltered f (outcome.Lost q)) = refl

cut_lends_nothing : (es : List Entry) (n : ℕ) (b : Break) → has_no_lend es ≡ true → has_no_lend (cut_at es n b) ≡ true
cut_lends_nothing [] n b calm = refl
cut_lends_nothing (e ∷ es) zero b calm = break_lends_nothing e b
cut_lends_nothing (e ∷ es) (suc n) b calm =
    let parts = and_parts (is_no_lend e) (has_no_lend es) calm in
    and_from (is_no_lend e) _ parts.0 (cut_lends_nothing es n b parts.1)

pieces_lend_nothing : (c : ℕ) (ps : List Piece) → has_no_lend (flat_map (piece_entries c) ps) ≡ true
pieces_lend_nothing c [] = refl
pieces_lend_nothing c (Whole x ∷ ps) = both (entries_of c x) _ (exchange_lends_nothing c x) (pieces_lend_nothing c ps)
pieces_lend_nothing c (Cut x n b ∷ ps) = both (cut_at (entries_of c x) n b) _ (cut_lends_nothing (entries_of c x) n b (exchange_lends_nothing c x)) (pieces_lend_nothing c ps)

-- in a list of exchanges, whole and broken, the host hands control to nobody
pub has_no_lend-reading : (l : Loop) (log : List Entry) → Reading l log → has_no_lend log ≡ true
has_no_lend-reading l log r = ap has_no_lend r.entries ∙ pieces_lend_nothing l.controller r.pieces
