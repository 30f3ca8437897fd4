-- Laws of roles and talkers.
use Rattle.std.proofs.Common.{◌≡◌, ◌↔◌, ℕ, suc, ◌++◌, ◌&&◌, ◌==◌, ◌∙◌, Bool, true, false, not, if◌then◌else◌, List, [], ◌∷◌, map, flat_map, Option, Some, None, refl, sym, ap, arith}
use Rattle.std.specs.List.{list_all}
use Rattle.std.proofs.lemmas.Bool.{and_parts, and_from, agree_below_at, leb-true, ltb-true, not-true}
use Rattle.std.proofs.lemmas.List.Folds.{list_all-append}
use Rattle.il_frames.specs.declared.frame.Class.{Class}
use Rattle.il_frames.specs.declared.frame.Class.TheVariants as class
use Rattle.il_frames.specs.declared.message.Message.{Message}
use Rattle.il_frames.specs.declared.message.Message.TheVariants as msg
use Rattle.il_frames.specs.declared.entry.Entry.{Entry}
use Rattle.il_frames.specs.declared.entry.Outcome.{Outcome}
use Rattle.il_frames.specs.declared.entry.Outcome.TheVariants as outcome
use Rattle.il_frames.specs.Frames.{framed, class_of, same_class, is_data, is_data_class, same_but_service}
use Rattle.il_frames.specs.Messages.{message_of, message_at}
use Rattle.loop_model.specs.Loops.{host_loop}
use Rattle.il_frames.specs.NamedFrames.{unl, unt, lad, tad, ddl, ddt}
use Rattle.loop_model.specs.Reach.{is_reached}
use Rattle.il_device.specs.declared.roles.Roles.{Roles}
use Rattle.il_device.specs.Roles.{is_own, takes_address}
use Rattle.loop_model.specs.Roles.{roles_by, passed_on, roles_along, roles_after_entry, roles_after, talkers_from, talkers, is_at_most_one, is_in_turn, has_one_talker, OneTalker}
use Rattle.loop_model.specs.Exchanges.{Echo, Exchange, Command, Address, Send, Receive, Identify, start_frame, answer_entries, returned, commanded, echoed, numbered, entries_of, is_echo, is_host_echo, is_number, is_address, is_talk_address, is_exchange, Piece, Whole, Cut, piece_entries, is_piece, are_whole, IsWhole}

-- ---- appended logs

-- the roles after an appended log are the roles after it from the roles between
pub roles_after-append : (rs : List Roles) (first second : List Entry) → roles_after rs (first ++ second) ≡ roles_after (roles_after rs first) second
roles_after-append rs [] second = refl
roles_after-append rs (e ∷ first) second = roles_after-append (roles_after_entry rs e) first second

and_twice : (a b : Bool) → (a && b) ≡ (a && (a && b))
and_twice true b = refl
and_twice false b = refl

and_inner : (a b c d : Bool) → (a && (b && (c && d))) ≡ ((a && (b && c)) && d)
and_inner true true c d = refl
and_inner true false c d = refl
and_inner false b c d = refl

at_most_one_first : (rs : List Roles) (log : List Entry) → has_one_talker rs log ≡ (is_at_most_one (talkers rs) && has_one_talker rs log)
at_most_one_first rs [] = same (is_at_most_one (talkers rs))
  where
    same : (a : Bool) → a ≡ (a && a)
    same true = refl
    same false = refl
at_most_one_first rs (e ∷ log) = and_twice (is_at_most_one (talkers rs)) (is_in_turn (talkers rs) e && has_one_talker (roles_after_entry rs e) log)

has_one_talker-append : (rs : List Roles) (first second : List Entry) → has_one_talker rs (first ++ second) ≡ (has_one_talker rs first && has_one_talker (roles_after rs first) second)
has_one_talker-append rs [] second = at_most_one_first rs second
has_one_talker-append rs (e ∷ first) second =
    ap (λ (b : Bool). is_at_most_one (talkers rs) && (is_in_turn (talkers rs) e && b)) (has_one_talker-append (roles_after_entry rs e) first second)
    ∙ and_inner (is_at_most_one (talkers rs)) (is_in_turn (talkers rs) e) (has_one_talker (roles_after_entry rs e) first) (has_one_talker (roles_after rs (e ∷ first)) second)

-- one talker of an appended log is one talker of both parts, of the second from the roles between
pub OneTalker-append : (rs : List Roles) (first second : List Entry) → OneTalker rs (first ++ second) ↔ (OneTalker rs first × OneTalker (roles_after rs first) second)
OneTalker-append rs first second = (
  λ one. and_parts _ _ (sym (has_one_talker-append rs first second) ∙ one),
  λ both. has_one_talker-append rs first second ∙ and_from _ _ both.0 both.1,
)

-- ---- no device talks after a whole log

-- the device does not talk
abbrev pub is_quiet : Roles → Bool
is_quiet r = not r.talks

-- the entry's frame gives no talk address
abbrev pub gives_no_talk : Entry → Bool
gives_no_talk e = not (is_talk_address (message_of e.frame))

pub quiet_if : (b : Bool) (r s : Roles) → is_quiet r ≡ true → is_quiet s ≡ true → is_quiet (if b then r else s) ≡ true
quiet_if true r s a c = a
quiet_if false r s a c = c

pub quiet_by : (m : Message) (r : Roles) → is_talk_address m ≡ false → is_quiet r ≡ true → is_quiet (roles_by m r) ≡ true
quiet_by msg.Ifc r e q = refl
quiet_by msg.Aau r e q = refl
quiet_by (msg.Aad a) r e q = quiet_if (takes_address r.address a) _ r q q
quiet_by (msg.Tad a) r e q = cc
quiet_by msg.Unt r e q = refl
quiet_by (msg.Lad a) r e q = quiet_if (is_own r.address a) _ r refl q
quiet_by msg.Unl r e q = q
quiet_by m r e q = q

pub no_talk_if : (b : Bool) (m n : Message) → is_talk_address m ≡ false → is_talk_address n ≡ false → is_talk_address (if b then m else n) ≡ false
no_talk_if true m n a c = a
no_talk_if false m n a c = c

pub no_talk_on : (m : Message) (r : Roles) → is_talk_address m ≡ false → is_talk_address (passed_on m r) ≡ false
no_talk_on (msg.Aad a) r e = no_talk_if (takes_address r.address a) _ _ (no_talk_if (a == 30) msg.Iaa (msg.Aad (suc a)) refl refl) refl
no_talk_on m r e = e

quiet_along : (o : Outcome) (party : ℕ) (m : Message) (rs : List Roles) → is_talk_address m ≡ false → list_all is_quiet rs ≡ true → list_all is_quiet (roles_along 0 o party m rs) ≡ true
quiet_along o party m [] e q = refl
quiet_along o party m (r ∷ rs) e q =
    let parts = and_parts (is_quiet r) (list_all is_quiet rs) q in
    and_from _ _ (quiet_if (is_reached 0 o party) _ r (quiet_by m r e parts.0) parts.0)
    (quiet_along o (suc party) _ rs (no_talk_if (is_reached 0 o party) _ m (no_talk_on m r e) e) parts.1)

lists_if : (b : Bool) (rs ss : List Roles) → list_all is_quiet rs ≡ true → list_all is_quiet ss ≡ true → list_all is_quiet (if b then rs else ss) ≡ true
lists_if true rs ss a c = a
lists_if false rs ss a c = c

-- a log without talk addresses leaves quiet devices quiet
pub quiet_log : (rs : List Roles) (log : List Entry) → list_all gives_no_talk log ≡ true → list_all is_quiet rs ≡ true → list_all is_quiet (roles_after rs log) ≡ true
quiet_log rs [] e q = q
quiet_log rs (x ∷ log) e q =
    let parts = and_parts (gives_no_talk x) (list_all gives_no_talk log) e in
    quiet_log (roles_after_entry rs x) log parts.1
    (lists_if (x.source == 0) _ rs (quiet_along x.outcome 1 (message_of x.frame) rs (not-true _ parts.0) q) q)

-- an UNT that came back leaves no talker
untalked : (party : ℕ) (rs : List Roles) → list_all is_quiet (roles_along 0 (outcome.Back unt) party msg.Unt rs) ≡ true
untalked party [] = refl
untalked party (r ∷ rs) = untalked (suc party) rs

untalked_log : (rs : List Roles) → list_all is_quiet (roles_after rs (commanded 0 unt)) ≡ true
untalked_log rs = quiet_log (roles_along 0 (outcome.Back unt) 1 msg.Unt rs) (returned 0 (framed class.Rdy 0) ∷ []) refl (untalked 1 rs)

pub lad_no_talk : (a : ℕ) → is_address a ≡ true → gives_no_talk (returned 0 (lad a)) ≡ true
lad_no_talk a e = agree_below_at (λ b. gives_no_talk (returned 0 (lad b))) (λ b. true) 31 a refl (omega (arith, leb-true a 30 e))

pub ddl_no_talk : (number : Option ℕ) → is_number number ≡ true → list_all gives_no_talk (numbered 0 ddl number) ≡ true
ddl_no_talk None e = refl
ddl_no_talk (Some n) e = and_from _ _ (agree_below_at (λ b. gives_no_talk (returned 0 (ddl b))) (λ b. true) 32 n refl (ltb-true n 32 e)) refl

pub data_no_talk : (k : Class) (byte : ℕ) → is_data_class k ≡ true → is_talk_address (message_at k byte) ≡ false
data_no_talk class.Dab byte e = refl
data_no_talk class.Dsr byte e = refl
data_no_talk class.End byte e = refl
data_no_talk class.Esr byte e = refl
data_no_talk k byte e = cc

pub echoes_no_talk : (ds : List Echo) → list_all is_host_echo ds ≡ true → list_all gives_no_talk (map (echoed 0) ds) ≡ true
echoes_no_talk [] e = refl
echoes_no_talk (d ∷ ds) e =
    let parts = and_parts (is_host_echo d) (list_all is_host_echo ds) e in
    let echo = (and_parts (same_class (class_of d.sent) class.Dab) (is_echo d) parts.0).1 in
    let sent = (and_parts (is_data d.sent) (same_but_service d.sent d.back) echo).0 in
    and_from _ _ (ap not (data_no_talk d.sent.class d.sent.byte sent)) (echoes_no_talk ds parts.1)

-- a whole exchange leaves quiet devices quiet
quiet_exchange : (size drive : ℕ) (rs : List Roles) (x : Exchange) → is_exchange (host_loop size drive) x ≡ true → list_all is_quiet rs ≡ true → list_all is_quiet (roles_after rs (entries_of 0 x)) ≡ true
quiet_exchange size drive rs (Command f) e q = quiet_log rs (commanded 0 f) (and_from _ _ ((and_parts (same_class (class_of f) class.Cmd) _ e).1) refl) q
quiet_exchange size drive rs (Address devices) e q = quiet_log rs (entries_of 0 (Address devices)) refl q
quiet_exchange size drive rs (Send a number ds) e q =
    let parts = and_parts (is_address a) _ e in
    let numbers = and_parts (is_number number) (list_all is_host_echo ds) parts.1 in
    quiet_log rs (entries_of 0 (Send a number ds))
    (and_from _ _ (lad_no_talk a parts.0)
    (list_all-append gives_no_talk (numbered 0 ddl number) (map (echoed 0) ds)
    ∙ and_from _ _ (ddl_no_talk number numbers.0) (echoes_no_talk ds numbers.1))) q
quiet_exchange size drive rs (Receive a number start answer) e q =
    let front = commanded 0 unl ++ commanded 0 (tad a) ++ numbered 0 ddt number ++ answer_entries 0 (start_frame start) answer in
    ap (list_all is_quiet) (roles_after-append rs front (commanded 0 unt)) ∙ untalked_log (roles_after rs front)
quiet_exchange size drive rs (Identify f) e q = quiet_log rs (entries_of 0 (Identify f)) refl q

quiet_whole : (size drive : ℕ) (rs : List Roles) (ps : List Piece) → list_all (is_piece (host_loop size drive)) ps ≡ true → are_whole ps ≡ true → list_all is_quiet rs ≡ true → list_all is_quiet (roles_after rs (flat_map (piece_entries 0) ps)) ≡ true
quiet_whole size drive rs [] legal whole q = q
quiet_whole size drive rs (Whole x ∷ ps) legal whole q =
    let parts = and_parts (is_exchange (host_loop size drive) x) (list_all (is_piece (host_loop size drive)) ps) legal in
    ap (list_all is_quiet) (roles_after-append rs (entries_of 0 x) (flat_map (piece_entries 0) ps))
    ∙ quiet_whole size drive (roles_after rs (entries_of 0 x)) ps parts.1 whole (quiet_exchange size drive rs x parts.0 q)
quiet_whole size drive rs (Cut x n b ∷ ps) legal whole q = cc

pub no_talkers : (party : ℕ) (rs : List Roles) → list_all is_quiet rs ≡ true → talkers_from party rs ≡ []
no_talkers party [] q = refl
no_talkers party (r ∷ rs) q =
    let parts = and_parts (is_quiet r) (list_all is_quiet rs) q in
    rw (not-true r.talks parts.0, no_talkers (suc party) rs parts.1) refl

quiet_role : (party : ℕ) (b : Bool) (ps : List ℕ) → ((if b then party ∷ [] else []) ++ ps) ≡ [] → (not b ≡ true) × (ps ≡ [])
quiet_role party true ps e = cc
quiet_role party false ps e = (refl, e)

pub all_quiet : (party : ℕ) (rs : List Roles) → talkers_from party rs ≡ [] → list_all is_quiet rs ≡ true
all_quiet party [] e = refl
all_quiet party (r ∷ rs) e =
    let parts = quiet_role party r.talks (talkers_from (suc party) rs) e in
    and_from _ _ parts.0 (all_quiet (suc party) rs parts.1)

-- where no device talks before a whole log, none talks after it
pub talkers-whole : (size drive : ℕ) (rs : List Roles) (log : List Entry) → talkers rs ≡ [] → IsWhole (host_loop size drive) log → talkers (roles_after rs log) ≡ []
talkers-whole size drive rs log silent w =
    no_talkers 1 (roles_after rs log)
    (ap (λ (l : List Entry). list_all is_quiet (roles_after rs l)) w.reading.entries
    ∙ quiet_whole size drive rs w.reading.pieces w.reading.legal w.whole (all_quiet 1 rs silent))
