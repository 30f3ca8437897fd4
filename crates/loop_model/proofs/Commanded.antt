-- In a list of exchanges, whole and broken, each command, ready and identify frame is the controller's.
use Rattle.std.proofs.Common.{◌≡◌, ◌∙◌, ◌++◌, ◌==◌, ◌&&◌, ◌||◌, ℕ, zero, suc, Bool, true, false, not, map, flat_map, List, [], ◌∷◌, Option, Some, None, refl, ap}
use Rattle.std.specs.List.{list_all}
use Rattle.std.proofs.lemmas.Bool.{and_from, and_parts, eq-eqb, or_left, or_right}
use Rattle.std.proofs.lemmas.List.Folds.{list_all-append}
use Rattle.il_frames.specs.declared.entry.Entry.{Entry}
use Rattle.il_frames.specs.declared.entry.Outcome.TheVariants as outcome
use Rattle.il_frames.specs.declared.frame.Class.{Class}
use Rattle.il_frames.specs.declared.frame.Class.TheVariants as class
use Rattle.il_frames.specs.declared.frame.Frame.{Frame}
use Rattle.il_frames.specs.Frames.{framed, is_data, is_data_class, same_but_service}
use Rattle.il_frames.specs.Messages.{message_at, message_of}
use Rattle.il_frames.specs.NamedFrames.{aad, ddl, ddt, entry, nrd, rfc, unl, lad, tad, unt}
use Rattle.il_device.specs.Takes.{eto}
use Rattle.loop_model.specs.Exchanges.{Answer, NotTaken, ToItsEnd, Stopped, Break, FrameLost, HostAltered, TalkerAltered, Echo, Exchange, Command, Address, Send, Receive, Identify, Piece, Whole, Cut, Reading, Start, answer_entries, break_entries, can_cut, commanded, cut_at, echoed, entries_of, is_answer, is_echo, is_exchange, is_number, is_address, is_piece, is_some_data, numbered, piece_entries, returned, start_frame}
use Rattle.loop_model.specs.Leading.{are_commands_led, controller_after_entry, has_no_lend, is_no_lend, is_of_controller, is_taking_back}
use Rattle.loop_model.specs.Loops.{Loop, host_loop}
use Rattle.loop_model.specs.Roles.{is_spoken}
use Rattle.loop_model.proofs.LeadingLaws.{controller_after-no_lend, has_no_lend-reading}

-- the frame is spoken, or the entry is party c's
abbrev is_commanded : ℕ → Entry → Bool
is_commanded c e = is_spoken (message_of e.frame) || (e.source == c)

abbrev are_commanded : ℕ → List Entry → Bool
are_commanded c es = list_all (is_commanded c) es

both : (c : ℕ) (xs ys : List Entry) → are_commanded c xs ≡ true → are_commanded c ys ≡ true → are_commanded c (xs ++ ys) ≡ true
both c xs ys a b = list_all-append (is_commanded c) xs ys ∙ and_from (are_commanded c xs) (are_commanded c ys) a b

own : (c : ℕ) (f : Frame) (o : _) → is_commanded c (entry c f o) ≡ true
own c f o = or_right (is_spoken (message_of f)) (c == c) (eq-eqb c c refl)

-- a data or end frame is spoken
said : (k : Class) (byte : ℕ) → is_data_class k ≡ true → is_spoken (message_at k byte) ≡ true
said class.Dab byte is = refl
said class.Dsr byte is = refl
said class.End byte is = refl
said class.Esr byte is = refl
said k byte is = cc

spoken_of : (c : ℕ) (e : Entry) → is_data e.frame ≡ true → is_commanded c e ≡ true
spoken_of c e is = or_left (is_spoken (message_of e.frame)) (e.source == c) (said e.frame.class e.frame.byte is)

echoes_commanded : (c p : ℕ) (ds : List Echo) → list_all is_echo ds ≡ true → are_commanded c (map (echoed p) ds) ≡ true
echoes_commanded c p [] all = refl
echoes_commanded c p (d ∷ ds) all =
    let parts = and_parts (is_echo d) (list_all is_echo ds) all in
    and_from (is_commanded c (echoed p d)) (are_commanded c (map (echoed p) ds)) (spoken_of c (echoed p d) (and_parts (is_data d.sent) (same_but_service d.sent d.back) parts.0).0) (echoes_commanded c p ds parts.1)

command_commanded : (c : ℕ) (f : Frame) → are_commanded c (commanded c f) ≡ true
command_commanded c f = and_from (is_commanded c (returned c f)) _ (own c f (outcome.Back f)) (and_from (is_commanded c (returned c rfc)) true (own c rfc (outcome.Back rfc)) refl)

numbered_commanded : (c : ℕ) (frame : ℕ → Frame) (number : Option ℕ) → are_commanded c (numbered c frame number) ≡ true
numbered_commanded c frame None = refl
numbered_commanded c frame (Some n) = command_commanded c (frame n)

own_echoes : (c : ℕ) (ds : List Echo) → are_commanded c (map (echoed c) ds) ≡ true
own_echoes c [] = refl
own_echoes c (d ∷ ds) = and_from (is_commanded c (echoed c d)) (are_commanded c (map (echoed c) ds)) (own c d.sent (outcome.Back d.back)) (own_echoes c ds)

answer_commanded : (c : ℕ) (s : Start) (a : Answer) → is_answer c a ≡ true → are_commanded c (answer_entries c (start_frame s) a) ≡ true
answer_commanded c s NotTaken legal = and_from (is_commanded c (returned c (start_frame s))) true (own c (start_frame s) (outcome.Back (start_frame s))) refl
answer_commanded c s (ToItsEnd p ds) legal =
    let end : List Entry = entry p eto (outcome.Taken c) ∷ [] in
    let parts = and_parts (not (p == c)) (is_some_data ds && list_all is_echo ds) legal in
    let echoes = (and_parts (is_some_data ds) (list_all is_echo ds) parts.1).1 in
    and_from (is_commanded c (entry c (start_frame s) (outcome.Taken p))) (are_commanded c (map (echoed p) ds ++ end)) (own c (start_frame s) (outcome.Taken p)) (both c (map (echoed p) ds) end (echoes_commanded c p ds echoes) refl)
answer_commanded c s (Stopped p ds last) legal =
    let end : List Entry = returned c nrd ∷ echoed p last ∷ entry p eto (outcome.Taken c) ∷ [] in
    let parts = and_parts (not (p == c)) (list_all is_echo ds && is_echo last) legal in
    let echoes = and_parts (list_all is_echo ds) (is_echo last) parts.1 in
    let byte = spoken_of c (echoed p last) (and_parts (is_data last.sent) (same_but_service last.sent last.back) echoes.1).0 in
    and_from (is_commanded c (entry c (start_frame s) (outcome.Taken p))) (are_commanded c (map (echoed p) ds ++ end)) (own c (start_frame s) (outcome.Taken p))
    (both c (map (echoed p) ds) end (echoes_commanded c p ds echoes.0) (and_from (is_commanded c (returned c nrd)) _ (own c nrd (outcome.Back nrd)) (and_from (is_commanded c (echoed p last)) true byte refl)))

exchange_commanded : (l : Loop) (x : Exchange) → is_exchange l x ≡ true → are_commanded l.controller (entries_of l.controller x) ≡ true
exchange_commanded l (Command f) legal = command_commanded l.controller f
exchange_commanded l (Address devices) legal =
    and_from (is_commanded l.controller (entry l.controller (aad 1) (outcome.Back (aad (suc devices))))) true (own l.controller (aad 1) (outcome.Back (aad (suc devices)))) refl
exchange_commanded l (Send a number ds) legal =
    let c = l.controller in
    let bytes : List Entry = map (echoed c) ds in
    both c (commanded c unl) (commanded c (lad a) ++ numbered c ddl number ++ bytes) (command_commanded c unl)
    (both c (commanded c (lad a)) (numbered c ddl number ++ bytes) (command_commanded c (lad a)) (both c (numbered c ddl number) bytes (numbered_commanded c ddl number) (own_echoes c ds)))
exchange_commanded l (Receive a number s answer) legal =
    let c = l.controller in
    let answered = answer_entries c (start_frame s) answer in
    let parts = and_parts (is_address a) (is_number number && is_answer c answer) legal in
    let is = (and_parts (is_number number) (is_answer c answer) parts.1).1 in
    both c (commanded c unl) (commanded c (tad a) ++ numbered c ddt number ++ answered ++ commanded c unt) (command_commanded c unl)
    (both c (commanded c (tad a)) (numbered c ddt number ++ answered ++ commanded c unt) (command_commanded c (tad a))
    (both c (numbered c ddt number ++ answered) (commanded c unt) (both c (numbered c ddt number) answered (numbered_commanded c ddt number) (answer_commanded c s answer is)) (command_commanded c unt)))
exchange_commanded l (Identify f) legal =
    and_from (is_commanded l.controller (entry l.controller (framed class.Idy 0x00) (outcome.Back f))) true (own l.controller (framed class.Idy 0x00) (outcome.Back f)) refl

break_commanded : (c : ℕ) (due : Entry) (b : Break) → is_commanded c due ≡ true → are_commanded c (break_entries due b) ≡ true
break_commanded c due (FrameLost q) is = and_from (is_commanded c due) true is refl
break_commanded c due (HostAltered f) is = and_from (is_commanded c due) true is refl
break_commanded c due (TalkerAltered f end) is = and_from (is_commanded c due) true is refl

cut_commanded : (c : ℕ) (es : List Entry) (n : ℕ) (b : Break) → are_commanded c es ≡ true → are_commanded c (cut_at es n b) ≡ true
cut_commanded c [] n b all = refl
cut_commanded c (e ∷ es) zero b all = break_commanded c e b (and_parts (is_commanded c e) (are_commanded c es) all).0
cut_commanded c (e ∷ es) (suc n) b all =
    let parts = and_parts (is_commanded c e) (are_commanded c es) all in
    and_from (is_commanded c e) (are_commanded c (cut_at es n b)) parts.0 (cut_commanded c es n b parts.1)

pieces_commanded : (l : Loop) (ps : List Piece) → list_all (is_piece l) ps ≡ true → are_commanded l.controller (flat_map (piece_entries l.controller) ps) ≡ true
pieces_commanded l [] legal = refl
pieces_commanded l (Whole x ∷ ps) legal =
    let parts = and_parts (is_exchange l x) (list_all (is_piece l) ps) legal in
    both l.controller (entries_of l.controller x) _ (exchange_commanded l x parts.0) (pieces_commanded l ps parts.1)
pieces_commanded l (Cut x n b ∷ ps) legal =
    let parts = and_parts (is_piece l (Cut x n b)) (list_all (is_piece l) ps) legal in
    let cut = and_parts (is_exchange l x) (can_cut l.controller (entries_of l.controller x) n b) parts.0 in
    both l.controller (cut_at (entries_of l.controller x) n b) _ (cut_commanded l.controller (entries_of l.controller x) n b (exchange_commanded l x cut.0)) (pieces_commanded l ps parts.1)

-- by the words of a log in which control may be handed over
led_commanded : (log : List Entry) → has_no_lend log ≡ true → are_commanded 0 log ≡ true → are_commands_led 0 log ≡ true
led_commanded [] calm all = refl
led_commanded (e ∷ log) calm all =
    let no_lend = and_parts (is_no_lend e) (has_no_lend log) calm in
    let parts = and_parts (is_commanded 0 e) (are_commanded 0 log) all in
    let one : (is_no_lend e && true) ≡ true = and_from (is_no_lend e) true no_lend.0 refl in
    let stays : controller_after_entry 0 e ≡ 0 = controller_after-no_lend (e ∷ []) one in
    and_from (is_spoken (message_of e.frame) || is_of_controller 0 e) (are_commands_led (controller_after_entry 0 e) log) (by (is_spoken (message_of e.frame)) (e.source == 0) (is_taking_back e) parts.0)
    (ap (λ c. are_commands_led c log) stays ∙ led_commanded log no_lend.1 parts.1)
  where
    by : (spoken here back : Bool) → (spoken || here) ≡ true → (spoken || (here || back)) ≡ true
    by true here back is = refl
    by false true back is = refl
    by false false back is = cc

-- those of exchanges of the host are
pub commands-reading : (k q : ℕ) (log : List Entry) → Reading (host_loop k q) log → are_commands_led 0 log ≡ true
commands-reading k q log r =
    led_commanded log (has_no_lend-reading (host_loop k q) log r) (ap (are_commanded 0) r.entries ∙ pieces_commanded (host_loop k q) r.pieces r.legal)
