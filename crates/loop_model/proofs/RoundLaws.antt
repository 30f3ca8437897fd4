-- From numbered devices of which none talks, each whole or broken exchange whose device answers by its own
-- address has one talker.
use Rattle.std.proofs.Common.{◌≡◌, ◌∙◌, ◌-◌, ◌++◌, ◌&&◌, ◌||◌, ◌==◌, ℕ, zero, suc, Bool, true, false, not, List, [], ◌∷◌, Option, Some, None, map, length, refl, sym, ap, subst, arith, append_assoc, eqb-true, eq-eqb}
use Rattle.std.specs.Prelude.{if◌then◌else◌, nat_le}
use Rattle.std.specs.List.{list_all}
use Rattle.std.proofs.lemmas.Bool.{and_parts, and_from, or_right, not-true, leb-true, ltb-true, agree_below_at}
use Rattle.std.proofs.lemmas.List.Folds.{list_all-append}
use Rattle.il_frames.specs.declared.frame.Class.{Class}
use Rattle.il_frames.specs.declared.frame.Class.TheVariants as class
use Rattle.il_frames.specs.declared.frame.Frame.{Frame}
use Rattle.il_frames.specs.declared.message.Message.{Message}
use Rattle.il_frames.specs.declared.message.Message.TheVariants as msg
use Rattle.il_frames.specs.declared.entry.Entry.{Entry}
use Rattle.il_frames.specs.declared.entry.Outcome.{Outcome}
use Rattle.il_frames.specs.declared.entry.Outcome.TheVariants as outcome
use Rattle.il_frames.specs.Frames.{class_of, same_class, is_data, is_data_class, same_but_service}
use Rattle.il_frames.specs.Messages.{Row, One, Group, message_in, commands, message_at, message_of}
use Rattle.il_device.specs.Takes.{eto, ete}
use Rattle.il_device.specs.declared.roles.Roles.{Roles}
use Rattle.loop_model.specs.Loops.{host_loop}
use Rattle.il_frames.specs.NamedFrames.{entry, unl, unt, lad, tad, ddl, ddt, rfc, nrd}
use Rattle.loop_model.specs.Roles.{roles_along, roles_after_entry, roles_after, talkers, is_at_most_one, is_end_of_talk, is_spoken, may_speak, is_in_turn, has_one_talker, OneTalker, are_numbered, is_aau}
use Rattle.loop_model.specs.Exchanges.{Echo, Exchange, Command, Address, Send, Receive, Identify, Start, Sda, Sst, Sdi, Sai, Answer, NotTaken, ToItsEnd, Stopped, Break, FrameLost, HostAltered, TalkerAltered, Piece, Whole, Cut, start_frame, returned, commanded, echoed, numbered, answer_entries, entries_of, break_entries, cut_at, can_cut, is_break, is_altered, is_echo, is_host_echo, is_number, is_address, is_talk_address, is_answer, is_some_data, is_exchange, is_piece, piece_entries, is_end, is_asked_for, answers_as_asked}
use Rattle.loop_model.proofs.RoleLaws.{gives_no_talk, quiet_log, no_talkers, all_quiet, lad_no_talk, ddl_no_talk, echoes_no_talk}
use Rattle.loop_model.proofs.RoleSteps.{changes_roles, keeps_roles, kept_entry, one_talker-kept, one_talker-addressed}
use Rattle.loop_model.proofs.ExchangeLaws.{host_echoes}
use Rattle.loop_model.proofs.UnitLaws.{entries_of-receive}
use Rattle.loop_model.proofs.TalkLaws.{gives_no_aau, are_numbered-log, talkers-tad, length-roles_after}

-- ---- logs that may break off anywhere

-- however the frame ends, at most one device talks after it
abbrev pub IsCalm : List Roles → Entry → Type 0
IsCalm rs e = (o : Outcome) → is_at_most_one (talkers (roles_after_entry rs (entry e.source e.frame o))) ≡ true

-- along the log at most one device talks, whose turn it is, and that holds however a frame of it ends
abbrev pub IsSafe : List Roles → List Entry → Type 0
IsSafe rs [] = is_at_most_one (talkers rs) ≡ true
IsSafe rs (e ∷ es) =
    (is_at_most_one (talkers rs) ≡ true) × (is_in_turn (talkers rs) e ≡ true) × IsCalm rs e × IsSafe (roles_after_entry rs e) es

safe_first : (rs : List Roles) (es : List Entry) → IsSafe rs es → is_at_most_one (talkers rs) ≡ true
safe_first rs [] safe = safe
safe_first rs (e ∷ es) safe = safe.0

pub OneTalker-safe : (rs : List Roles) (es : List Entry) → IsSafe rs es → OneTalker rs es
OneTalker-safe rs [] safe = safe
OneTalker-safe rs (e ∷ es) safe =
    and_from (is_at_most_one (talkers rs)) _ safe.0 (and_from (is_in_turn (talkers rs) e) _ safe.1 (OneTalker-safe (roles_after_entry rs e) es safe.3))

safe_append : (rs : List Roles) (front rest : List Entry) → IsSafe rs front → IsSafe (roles_after rs front) rest → IsSafe rs (front ++ rest)
safe_append rs [] rest a b = b
safe_append rs (e ∷ front) rest a b = (a.0, a.1, a.2, safe_append (roles_after_entry rs e) front rest a.3 b)

-- ---- breaks

chosen_not : (s : ℕ) (x rs : List Roles) → not (s == 0) ≡ true → (if s == 0 then x else rs) ≡ rs
chosen_not s x rs other = rw (not-true (s == 0) other) refl

speaks_on : (ps : List ℕ) (s : ℕ) (m n : Message) → not (s == 0) ≡ true → may_speak ps s m ≡ true → may_speak ps s n ≡ true
speaks_on [] s m n other may = let host = (and_parts (s == 0) (not (is_end_of_talk m)) may).0 in let off = not-true (s == 0) other in cc
speaks_on (p ∷ ps) s m n other may = may

data_spoken : (k : Class) (byte : ℕ) → is_data_class k ≡ true → is_spoken (message_at k byte) ≡ true
data_spoken class.Dab byte e = refl
data_spoken class.Dsr byte e = refl
data_spoken class.End byte e = refl
data_spoken class.Esr byte e = refl
data_spoken k byte e = cc

in_turn_spoken : (spoken may : Bool) → spoken ≡ true → (not spoken || may) ≡ true → may ≡ true
in_turn_spoken true may s t = t
in_turn_spoken false may s t = cc

broken_talk : (rs : List Roles) (due : Entry) (b : Break) → IsSafe rs (due ∷ []) → is_break 0 due b ≡ true → OneTalker rs (break_entries due b)
broken_talk rs due (FrameLost q) safe e = OneTalker-safe rs (entry due.source due.frame (outcome.Lost q) ∷ []) (safe.0, safe.1, safe.2, safe.2 (outcome.Lost q))
broken_talk rs due (HostAltered f) safe e = OneTalker-safe rs (entry due.source due.frame (outcome.Back f) ∷ []) (safe.0, safe.1, safe.2, safe.2 (outcome.Back f))
broken_talk rs due (TalkerAltered f end) safe e =
    let parts = and_parts (not (due.source == 0)) (is_altered due.frame f && is_end 0 end) e in
    let altered = (and_parts (is_altered due.frame f) (is_end 0 end) parts.1).0 in
    let sent = (and_parts (is_data due.frame) (not (same_but_service due.frame f)) altered).0 in
    let spoken = data_spoken due.frame.class due.frame.byte sent in
    let may = in_turn_spoken (is_spoken (message_of due.frame)) (may_speak (talkers rs) due.source (message_of due.frame)) spoken safe.1 in
    let on = speaks_on (talkers rs) due.source (message_of due.frame) (message_of ete) parts.0 may in
    let first = chosen_not due.source (roles_along 0 (outcome.Back f) 1 (message_of due.frame) rs) rs parts.0 in
    let second = chosen_not due.source (roles_along 0 end 1 (message_of ete) rs) rs parts.0 in
    and_from (is_at_most_one (talkers rs)) _ safe.0 (and_from (is_in_turn (talkers rs) (entry due.source due.frame (outcome.Back f))) _ safe.1
    (ap (λ (ss : List Roles). has_one_talker ss (entry due.source ete end ∷ [])) first
    ∙ and_from (is_at_most_one (talkers rs)) _ safe.0 (and_from (is_in_turn (talkers rs) (entry due.source ete end)) _ on
    (ap (λ (ss : List Roles). is_at_most_one (talkers ss)) second ∙ safe.0))))

-- a safe log has one talker wherever it breaks off
pub OneTalker-cut : (rs : List Roles) (es : List Entry) (n : ℕ) (b : Break) → IsSafe rs es → can_cut 0 es n b ≡ true → OneTalker rs (cut_at es n b)
OneTalker-cut rs [] n b safe can = cc
OneTalker-cut rs (e ∷ es) zero b safe can = broken_talk rs e b (safe.0, safe.1, safe.2, safe_first (roles_after_entry rs e) es safe.3) can
OneTalker-cut rs (e ∷ es) (suc n) b safe can =
    and_from (is_at_most_one (talkers rs)) _ safe.0 (and_from (is_in_turn (talkers rs) e) _ safe.1 (OneTalker-cut (roles_after_entry rs e) es n b safe.3 can))

-- ---- parts of exchanges

-- the entry is no data or end frame, and no ETO or ETE
abbrev pub is_mute : Entry → Bool
is_mute e = not (is_spoken (message_of e.frame))

mute_turn : (ps : List ℕ) (e : Entry) → is_mute e ≡ true → is_in_turn ps e ≡ true
mute_turn ps e mute = rw (not-true (is_spoken (message_of e.frame)) mute) refl

-- mute entries without talk address, whoever talks
pub safe_mute : (rs : List Roles) (es : List Entry) → is_at_most_one (talkers rs) ≡ true → list_all gives_no_talk es ≡ true → list_all is_mute es ≡ true → IsSafe rs es
safe_mute rs [] one calm mute = one
safe_mute rs (e ∷ es) one calm mute =
    let quiet = and_parts (gives_no_talk e) (list_all gives_no_talk es) calm in
    let silent = and_parts (is_mute e) (list_all is_mute es) mute in (
      one,
      mute_turn (talkers rs) e silent.0,
      λ o. one_talker-kept rs (entry e.source e.frame o) one quiet.0,
      safe_mute (roles_after_entry rs e) es (one_talker-kept rs e one quiet.0) quiet.1 silent.1,
    )

-- entries of the host where none talks
safe_silent : (rs : List Roles) (es : List Entry) → talkers rs ≡ [] → list_all gives_no_talk es ≡ true → list_all (is_in_turn []) es ≡ true → IsSafe rs es
safe_silent rs [] silent calm turns = ap is_at_most_one silent
safe_silent rs (e ∷ es) silent calm turns =
    let quiet = and_parts (gives_no_talk e) (list_all gives_no_talk es) calm in
    let turn = and_parts (is_in_turn [] e) (list_all (is_in_turn []) es) turns in
    let next = quiet_log rs (e ∷ []) (and_from (gives_no_talk e) true quiet.0 refl) (all_quiet 1 rs silent) in (
      ap is_at_most_one silent,
      ap (λ (ps : List ℕ). is_in_turn ps e) silent ∙ turn.0,
      λ o. one_talker-kept rs (entry e.source e.frame o) (ap is_at_most_one silent) quiet.0,
      safe_silent (roles_after_entry rs e) es (no_talkers 1 (roles_after_entry rs e) next) quiet.1 turn.1,
    )

-- an entry that changes no role, and is in turn while party p talks
abbrev pub is_held : ℕ → Entry → Bool
is_held p e = keeps_roles e && is_in_turn (p ∷ []) e

-- such entries while party p talks; it then talks still
safe_held : (rs : List Roles) (p : ℕ) (es : List Entry) → talkers rs ≡ p ∷ [] → list_all (is_held p) es ≡ true →
    IsSafe rs es × (talkers (roles_after rs es) ≡ p ∷ [])
safe_held rs p [] talks held = (ap is_at_most_one talks, talks)
safe_held rs p (e ∷ es) talks held =
    let parts = and_parts (is_held p e) (list_all (is_held p) es) held in
    let here = and_parts (keeps_roles e) (is_in_turn (p ∷ []) e) parts.0 in
    let one = ap is_at_most_one talks in
    let same = kept_entry rs e here.0 in
    let rest = safe_held rs p es talks parts.1 in (
      (
        one,
        ap (λ (ps : List ℕ). is_in_turn ps e) talks ∙ here.1,
        λ o. ap (λ (ss : List Roles). is_at_most_one (talkers ss)) (kept_entry rs (entry e.source e.frame o) here.0) ∙ one,
        subst (λ (ss : List Roles). IsSafe ss es) (sym same) rest.0,
      ),
      ap (λ (ss : List Roles). talkers (roles_after ss es)) same ∙ rest.1,
    )

-- ---- commands

-- no row of the table is a data message, ETO or ETE
abbrev AllMute : List Row → Type 0
AllMute [] = Unit {0}
AllMute (One at m ∷ rows) = (is_spoken m ≡ false) × AllMute rows
AllMute (Group first count m ∷ rows) = ((n : ℕ) → is_spoken (m n) ≡ false) × AllMute rows

mute_if : (b : Bool) (m n : Message) → is_spoken m ≡ false → is_spoken n ≡ false → is_spoken (if b then m else n) ≡ false
mute_if true m n p q = p
mute_if false m n p q = q

mute_in : (rows : List Row) (byte : ℕ) (other : ℕ → Message) → AllMute rows → ((n : ℕ) → is_spoken (other n) ≡ false) → is_spoken (message_in rows byte other) ≡ false
mute_in [] byte other mute rest = rest byte
mute_in (One at m ∷ rows) byte other mute rest = mute_if (byte == at) m (message_in rows byte other) mute.0 (mute_in rows byte other mute.1 rest)
mute_in (Group first count m ∷ rows) byte other mute rest =
    mute_if _ (m (byte - first)) (message_in rows byte other) (mute.0 (byte - first)) (mute_in rows byte other mute.1 rest)

commands_mute : AllMute commands
commands_mute = (
  refl,
  (
    refl,
    (
      refl,
      (
        refl,
        (
          refl,
          (
            refl,
            (
              refl,
              (
                refl,
                (
                  refl,
                  (
                    refl,
                    (
                      refl,
                      (
                        λ n. refl,
                        (
                          refl,
                          (
                            λ n. refl,
                            (
                              refl,
                              (
                                λ n. refl,
                                (
                                  λ n. refl,
                                  (
                                    refl,
                                    (
                                      refl,
                                      (
                                        refl,
                                        (
                                          refl,
                                          (
                                            refl,
                                            (
                                              λ n. refl,
                                              (λ n. refl, tt),
                                            ),
                                          ),
                                        ),
                                      ),
                                    ),
                                  ),
                                ),
                              ),
                            ),
                          ),
                        ),
                      ),
                    ),
                  ),
                ),
              ),
            ),
          ),
        ),
      ),
    ),
  ),
)

mute_command : (k : Class) (byte : ℕ) → same_class k class.Cmd ≡ true → is_spoken (message_at k byte) ≡ false
mute_command class.Cmd byte e = mute_in commands byte msg.OtherCmd commands_mute (λ n. refl)
mute_command k byte e = cc

is_mute-command : (f : Frame) → same_class f.class class.Cmd ≡ true → is_mute (returned 0 f) ≡ true
is_mute-command f e = ap not (mute_command f.class f.byte e)

-- ---- sends

host_turn : (k : Class) (byte : ℕ) (o : Outcome) → same_class k class.Dab ≡ true → is_in_turn [] (entry 0 (record { class = k; byte = byte }) o) ≡ true
host_turn class.Dab byte o e = refl
host_turn k byte o e = cc

echoes_turn : (ds : List Echo) → list_all is_host_echo ds ≡ true → list_all (is_in_turn []) (map (echoed 0) ds) ≡ true
echoes_turn [] e = refl
echoes_turn (d ∷ ds) e =
    let parts = and_parts (is_host_echo d) (list_all is_host_echo ds) e in
    let dab = (and_parts (same_class (class_of d.sent) class.Dab) (is_echo d) parts.0).0 in
    and_from _ _ (host_turn d.sent.class d.sent.byte (outcome.Back d.back) dab) (echoes_turn ds parts.1)

numbered_turn : (frame : ℕ → Frame) (number : Option ℕ) → ((n : ℕ) → same_class (frame n).class class.Cmd ≡ true) → list_all (is_in_turn []) (numbered 0 frame number) ≡ true
numbered_turn frame None cmd = refl
numbered_turn frame (Some n) cmd = and_from _ _ (mute_turn [] (returned 0 (frame n)) (is_mute-command (frame n) (cmd n))) refl

safe_send : (size drive : ℕ) (rs : List Roles) (a : ℕ) (number : Option ℕ) (ds : List Echo) → is_exchange (host_loop size drive) (Send a number ds) ≡ true →
    talkers rs ≡ [] → IsSafe rs (entries_of 0 (Send a number ds))
safe_send size drive rs a number ds legal silent =
    let parts = and_parts (is_address a) (is_number number && list_all is_host_echo ds) legal in
    let numbers = and_parts (is_number number) (list_all is_host_echo ds) parts.1 in
    safe_silent rs (entries_of 0 (Send a number ds)) silent
    (and_from _ _ (lad_no_talk a parts.0)
    (list_all-append gives_no_talk (numbered 0 ddl number) (map (echoed 0) ds)
    ∙ and_from _ _ (ddl_no_talk number numbers.0) (echoes_no_talk ds numbers.1)))
    (and_from _ _ (mute_turn [] (returned 0 (lad a)) (is_mute-command (lad a) refl))
    (list_all-append (is_in_turn []) (numbered 0 ddl number) (map (echoed 0) ds)
    ∙ and_from _ _ (numbered_turn ddl number (λ n. refl)) (echoes_turn ds numbers.1)))

-- ---- receives

abbrev is_tad : ℕ → Message → Bool
is_tad n (msg.Tad m) = m == n
is_tad n m = false

is_tad-true : (n : ℕ) (m : Message) → is_tad n m ≡ true → m ≡ msg.Tad n
is_tad-true n (msg.Tad m) e = ap msg.Tad (eqb-true m n e)
is_tad-true n m e = cc

-- the frame of a talk address says it
pub message_of-tad : (a : ℕ) → is_address a ≡ true → message_of (tad a) ≡ msg.Tad a
message_of-tad a low =
    let small = leb-true a 30 low in
    is_tad-true a (message_of (tad a)) (agree_below_at (λ b. is_tad b (message_of (tad b))) (λ b. true) 31 a refl (omega (arith, small)))

-- the entries of a receive up to its talk address
abbrev pub talk_front : ℕ → List Entry
talk_front a = returned 0 unl ∷ returned 0 rfc ∷ returned 0 (tad a) ∷ []

quiet_front : (rs : List Roles) → talkers rs ≡ [] → talkers (roles_after rs (commanded 0 unl)) ≡ []
quiet_front rs silent = no_talkers 1 (roles_after rs (commanded 0 unl)) (quiet_log rs (commanded 0 unl) refl (all_quiet 1 rs silent))

safe_receive : (rs : List Roles) (a : ℕ) (tail : List Entry) → are_numbered 1 rs ≡ true → talkers rs ≡ [] → is_address a ≡ true →
    IsSafe (roles_after rs (talk_front a)) tail → IsSafe rs (talk_front a ++ tail)
safe_receive rs a tail numbers silent low safe =
    let between = roles_after rs (commanded 0 unl) in
    let still = quiet_front rs silent in
    let numbered_still = are_numbered-log rs (commanded 0 unl) refl numbers in
    safe_append rs (commanded 0 unl) (returned 0 (tad a) ∷ tail) (safe_silent rs (commanded 0 unl) silent refl refl) (
      ap is_at_most_one still,
      mute_turn (talkers between) (returned 0 (tad a)) (is_mute-command (tad a) refl),
      λ o. one_talker-addressed between a (entry 0 (tad a) o) numbered_still still (message_of-tad a low),
      safe,
    )

start_mute : (s : Start) (o : Outcome) → (gives_no_talk (entry 0 (start_frame s) o) ≡ true) × (is_mute (entry 0 (start_frame s) o) ≡ true) × (keeps_roles (entry 0 (start_frame s) o) ≡ true)
start_mute Sda o = (refl, refl, refl)
start_mute Sst o = (refl, refl, refl)
start_mute Sdi o = (refl, refl, refl)
start_mute Sai o = (refl, refl, refl)

ddt_mute : (number : Option ℕ) → is_number number ≡ true →
    (list_all gives_no_talk (numbered 0 ddt number) ≡ true) × (list_all is_mute (numbered 0 ddt number) ≡ true) × (list_all keeps_roles (numbered 0 ddt number) ≡ true)
ddt_mute None e = (refl, refl, refl)
ddt_mute (Some n) e =
    let low = ltb-true n 32 e in (
      and_from _ _ (agree_below_at (λ b. gives_no_talk (returned 0 (ddt b))) (λ b. true) 32 n refl low) refl,
      and_from _ _ (is_mute-command (ddt n) refl) refl,
      and_from _ _ (agree_below_at (λ b. keeps_roles (returned 0 (ddt b))) (λ b. true) 32 n refl low) refl,
    )

held_mute : (p : ℕ) (es : List Entry) → list_all keeps_roles es ≡ true → list_all is_mute es ≡ true → list_all (is_held p) es ≡ true
held_mute p [] keeps mute = refl
held_mute p (e ∷ es) keeps mute =
    let kept = and_parts (keeps_roles e) (list_all keeps_roles es) keeps in
    let silent = and_parts (is_mute e) (list_all is_mute es) mute in
    and_from _ _ (and_from _ _ kept.0 (mute_turn (p ∷ []) e silent.0)) (held_mute p es kept.1 silent.1)

pub data_keeps : (k : Class) (byte : ℕ) → is_data_class k ≡ true → changes_roles (message_at k byte) ≡ false
data_keeps class.Dab byte e = refl
data_keeps class.Dsr byte e = refl
data_keeps class.End byte e = refl
data_keeps class.Esr byte e = refl
data_keeps k byte e = cc

echo_held : (p : ℕ) (d : Echo) → is_echo d ≡ true → is_held p (echoed p d) ≡ true
echo_held p d e =
    let sent = (and_parts (is_data d.sent) (same_but_service d.sent d.back) e).0 in
    and_from (keeps_roles (echoed p d)) _ (ap not (data_keeps d.sent.class d.sent.byte sent)) (or_right (not (is_spoken (message_of d.sent))) (p == p) (eq-eqb p p refl))

echoes_held : (p : ℕ) (ds : List Echo) → list_all is_echo ds ≡ true → list_all (is_held p) (map (echoed p) ds) ≡ true
echoes_held p [] e = refl
echoes_held p (d ∷ ds) e =
    let parts = and_parts (is_echo d) (list_all is_echo ds) e in
    and_from _ _ (echo_held p d parts.0) (echoes_held p ds parts.1)

eto_held : (p : ℕ) → is_held p (entry p eto (outcome.Taken 0)) ≡ true
eto_held p = eq-eqb p p refl

start_held : (p : ℕ) (s : Start) (o : Outcome) → is_held p (entry 0 (start_frame s) o) ≡ true
start_held p s o = let mute = start_mute s o in and_from _ _ mute.2 (mute_turn (p ∷ []) (entry 0 (start_frame s) o) mute.1)

-- the device that took a start message
abbrev pub answering : Answer → Option ℕ
answering NotTaken = None
answering (ToItsEnd p ds) = Some p
answering (Stopped p ds last) = Some p

answer_held : (s : Start) (answer : Answer) (p : ℕ) → answering answer ≡ Some p → is_answer 0 answer ≡ true →
    list_all (is_held p) (answer_entries 0 (start_frame s) answer) ≡ true
answer_held s NotTaken p e legal = cc
answer_held s (ToItsEnd q ds) p e legal =
    let same : q ≡ p = cc in
    let echoes = (and_parts (is_some_data ds) (list_all is_echo ds) ((and_parts (not (q == 0)) _ legal).1)).1 in
    subst (λ (x : ℕ). list_all (is_held x) (answer_entries 0 (start_frame s) (ToItsEnd q ds)) ≡ true) same
    (and_from _ _ (start_held q s (outcome.Taken q))
    (list_all-append (is_held q) (map (echoed q) ds) (entry q eto (outcome.Taken 0) ∷ [])
    ∙ and_from _ _ (echoes_held q ds echoes) (and_from _ _ (eto_held q) refl)))
answer_held s (Stopped q ds last) p e legal =
    let same : q ≡ p = cc in
    let echoes = and_parts (list_all is_echo ds) (is_echo last) ((and_parts (not (q == 0)) _ legal).1) in
    subst (λ (x : ℕ). list_all (is_held x) (answer_entries 0 (start_frame s) (Stopped q ds last)) ≡ true) same
    (and_from _ _ (start_held q s (outcome.Taken q))
    (list_all-append (is_held q) (map (echoed q) ds) (returned 0 nrd ∷ echoed q last ∷ entry q eto (outcome.Taken 0) ∷ [])
    ∙ and_from _ _ (echoes_held q ds echoes.0) (and_from _ _ (echo_held q last echoes.1) (and_from _ _ (eto_held q) refl))))

-- after the talk address of a device that then answers
safe_answer : (rs : List Roles) (number : Option ℕ) (s : Start) (answer : Answer) (p : ℕ) → talkers rs ≡ p ∷ [] → answering answer ≡ Some p →
    is_number number ≡ true → is_answer 0 answer ≡ true →
    IsSafe rs (returned 0 rfc ∷ (numbered 0 ddt number ++ (answer_entries 0 (start_frame s) answer ++ commanded 0 unt)))
safe_answer rs number s answer p talks who low legal =
    let ddts = ddt_mute number low in
    let middle = returned 0 rfc ∷ (numbered 0 ddt number ++ answer_entries 0 (start_frame s) answer) in
    let held =
    list_all-append (is_held p) (numbered 0 ddt number) (answer_entries 0 (start_frame s) answer)
    ∙ and_from _ _ (held_mute p (numbered 0 ddt number) ddts.2 ddts.1) (answer_held s answer p who legal) in
    let safe = safe_held rs p middle talks held in
    subst (λ (es : List Entry). IsSafe rs (returned 0 rfc ∷ es)) (append_assoc (numbered 0 ddt number) (answer_entries 0 (start_frame s) answer) (commanded 0 unt))
    (safe_append rs middle (commanded 0 unt) safe.0 (safe_mute (roles_after rs middle) (commanded 0 unt) (ap is_at_most_one safe.1) refl refl))

-- after a talk address to which nobody answers
safe_unanswered : (rs : List Roles) (number : Option ℕ) (s : Start) → is_at_most_one (talkers rs) ≡ true → is_number number ≡ true →
    IsSafe rs (returned 0 rfc ∷ (numbered 0 ddt number ++ (returned 0 (start_frame s) ∷ commanded 0 unt)))
safe_unanswered rs number s one low =
    let ddts = ddt_mute number low in
    let start = start_mute s (outcome.Back (start_frame s)) in
    safe_mute rs (returned 0 rfc ∷ (numbered 0 ddt number ++ (returned 0 (start_frame s) ∷ commanded 0 unt))) one
    (list_all-append gives_no_talk (numbered 0 ddt number) (returned 0 (start_frame s) ∷ commanded 0 unt) ∙ and_from _ _ ddts.0 (and_from _ _ start.0 refl))
    (list_all-append is_mute (numbered 0 ddt number) (returned 0 (start_frame s) ∷ commanded 0 unt) ∙ and_from _ _ ddts.1 (and_from _ _ start.1 refl))

-- ---- exchanges

safe_taken : (rs : List Roles) (a p : ℕ) (number : Option ℕ) (s : Start) (answer : Answer) → are_numbered 1 rs ≡ true → talkers rs ≡ [] →
    is_address a ≡ true → is_number number ≡ true → is_answer 0 answer ≡ true → answering answer ≡ Some p → is_asked_for (length rs) a p ≡ true →
    IsSafe rs (entries_of 0 (Receive a number s answer))
safe_taken rs a p number s answer numbers silent low small legal who asked =
    let parts = and_parts (p == a) (nat_le 1 a && nat_le a (length rs)) asked in
    let range = and_parts (nat_le 1 a) (nat_le a (length rs)) parts.1 in
    let between = roles_after rs (commanded 0 unl) in
    let many = length-roles_after rs (commanded 0 unl) in
    let talks =
    talkers-tad between a (returned 0 (tad a)) (are_numbered-log rs (commanded 0 unl) refl numbers) (quiet_front rs silent) refl (message_of-tad a low)
    (leb-true 1 a range.0) (omega (arith, many, leb-true a (length rs) range.1)) refl in
    subst (IsSafe rs) (sym (entries_of-receive 0 a number s answer))
    (safe_receive rs a (returned 0 rfc ∷ (numbered 0 ddt number ++ (answer_entries 0 (start_frame s) answer ++ commanded 0 unt))) numbers silent low
    (safe_answer (roles_after rs (talk_front a)) number s answer p (talks ∙ ap (λ (q : ℕ). q ∷ []) (sym (eqb-true p a parts.0))) who small legal))

receive_legal : (size drive a : ℕ) (number : Option ℕ) (s : Start) (answer : Answer) → is_exchange (host_loop size drive) (Receive a number s answer) ≡ true →
    (is_address a ≡ true) × (is_number number ≡ true) × (is_answer 0 answer ≡ true)
receive_legal size drive a number s answer e =
    let parts = and_parts (is_address a) (is_number number && is_answer 0 answer) e in
    let more = and_parts (is_number number) (is_answer 0 answer) parts.1 in
    (parts.0, more.0, more.1)

-- a legal exchange of numbered devices of which none talks, whose device answers by its own address, is
-- safe
pub safe_exchange : (size drive : ℕ) (rs : List Roles) (x : Exchange) → is_exchange (host_loop size drive) x ≡ true → answers_as_asked (length rs) x ≡ true →
    are_numbered 1 rs ≡ true → talkers rs ≡ [] → IsSafe rs (entries_of 0 x)
safe_exchange size drive rs (Command f) legal asked numbers silent =
    let parts = and_parts (same_class f.class class.Cmd) (not (is_talk_address (message_of f))) legal in
    safe_silent rs (commanded 0 f) silent (and_from _ _ parts.1 refl) (and_from _ _ (mute_turn [] (returned 0 f) (is_mute-command f parts.0)) refl)
safe_exchange size drive rs (Address devices) legal asked numbers silent = safe_silent rs (entries_of 0 (Address devices)) silent refl refl
safe_exchange size drive rs (Send a number ds) legal asked numbers silent = safe_send size drive rs a number ds legal silent
safe_exchange size drive rs (Receive a number s NotTaken) legal asked numbers silent =
    let parts = receive_legal size drive a number s NotTaken legal in
    let between = roles_after rs (commanded 0 unl) in
    let one = one_talker-addressed between a (returned 0 (tad a)) (are_numbered-log rs (commanded 0 unl) refl numbers) (quiet_front rs silent) (message_of-tad a parts.0) in
    subst (IsSafe rs) (sym (entries_of-receive 0 a number s NotTaken))
    (safe_receive rs a (returned 0 rfc ∷ (numbered 0 ddt number ++ (returned 0 (start_frame s) ∷ commanded 0 unt))) numbers silent parts.0
    (safe_unanswered (roles_after rs (talk_front a)) number s one parts.1))
safe_exchange size drive rs (Receive a number s (ToItsEnd p ds)) legal asked numbers silent =
    let parts = receive_legal size drive a number s (ToItsEnd p ds) legal in
    safe_taken rs a p number s (ToItsEnd p ds) numbers silent parts.0 parts.1 parts.2 refl asked
safe_exchange size drive rs (Receive a number s (Stopped p ds last)) legal asked numbers silent =
    let parts = receive_legal size drive a number s (Stopped p ds last) legal in
    safe_taken rs a p number s (Stopped p ds last) numbers silent parts.0 parts.1 parts.2 refl asked
safe_exchange size drive rs (Identify f) legal asked numbers silent = safe_silent rs (entries_of 0 (Identify f)) silent refl refl

-- the exchange of a piece
abbrev pub exchange_in : Piece → Exchange
exchange_in (Whole x) = x
exchange_in (Cut x n b) = x

-- ---- addresses after an exchange

-- the exchange is not the command AAU
abbrev pub keeps_addresses : Exchange → Bool
keeps_addresses (Command f) = gives_no_aau (returned 0 f)
keeps_addresses x = true

data_no_aau : (k : Class) (byte : ℕ) → is_data_class k ≡ true → is_aau (message_at k byte) ≡ false
data_no_aau class.Dab byte e = refl
data_no_aau class.Dsr byte e = refl
data_no_aau class.End byte e = refl
data_no_aau class.Esr byte e = refl
data_no_aau k byte e = cc

echo_no_aau : (p : ℕ) (d : Echo) → is_echo d ≡ true → gives_no_aau (echoed p d) ≡ true
echo_no_aau p d e = ap not (data_no_aau d.sent.class d.sent.byte ((and_parts (is_data d.sent) (same_but_service d.sent d.back) e).0))

echoes_no_aau : (p : ℕ) (ds : List Echo) → list_all is_echo ds ≡ true → list_all gives_no_aau (map (echoed p) ds) ≡ true
echoes_no_aau p [] e = refl
echoes_no_aau p (d ∷ ds) e =
    let parts = and_parts (is_echo d) (list_all is_echo ds) e in
    and_from _ _ (echo_no_aau p d parts.0) (echoes_no_aau p ds parts.1)

lad_no_aau : (a : ℕ) → is_address a ≡ true → gives_no_aau (returned 0 (lad a)) ≡ true
lad_no_aau a low = let small = leb-true a 30 low in agree_below_at (λ b. gives_no_aau (returned 0 (lad b))) (λ b. true) 31 a refl (omega (arith, small))

tad_no_aau : (a : ℕ) → is_address a ≡ true → gives_no_aau (returned 0 (tad a)) ≡ true
tad_no_aau a low = ap (λ (m : Message). not (is_aau m)) (message_of-tad a low)

ddl_no_aau : (number : Option ℕ) → is_number number ≡ true → list_all gives_no_aau (numbered 0 ddl number) ≡ true
ddl_no_aau None e = refl
ddl_no_aau (Some n) e = and_from _ _ (agree_below_at (λ b. gives_no_aau (returned 0 (ddl b))) (λ b. true) 32 n refl (ltb-true n 32 e)) refl

ddt_no_aau : (number : Option ℕ) → is_number number ≡ true → list_all gives_no_aau (numbered 0 ddt number) ≡ true
ddt_no_aau None e = refl
ddt_no_aau (Some n) e = and_from _ _ (agree_below_at (λ b. gives_no_aau (returned 0 (ddt b))) (λ b. true) 32 n refl (ltb-true n 32 e)) refl

start_no_aau : (s : Start) (o : Outcome) → gives_no_aau (entry 0 (start_frame s) o) ≡ true
start_no_aau Sda o = refl
start_no_aau Sst o = refl
start_no_aau Sdi o = refl
start_no_aau Sai o = refl

answer_no_aau : (s : Start) (answer : Answer) → is_answer 0 answer ≡ true → list_all gives_no_aau (answer_entries 0 (start_frame s) answer) ≡ true
answer_no_aau s NotTaken legal = and_from _ _ (start_no_aau s (outcome.Back (start_frame s))) refl
answer_no_aau s (ToItsEnd p ds) legal =
    let echoes = (and_parts (is_some_data ds) (list_all is_echo ds) ((and_parts (not (p == 0)) _ legal).1)).1 in
    and_from _ _ (start_no_aau s (outcome.Taken p))
    (list_all-append gives_no_aau (map (echoed p) ds) (entry p eto (outcome.Taken 0) ∷ []) ∙ and_from _ _ (echoes_no_aau p ds echoes) refl)
answer_no_aau s (Stopped p ds last) legal =
    let echoes = and_parts (list_all is_echo ds) (is_echo last) ((and_parts (not (p == 0)) _ legal).1) in
    and_from _ _ (start_no_aau s (outcome.Taken p))
    (list_all-append gives_no_aau (map (echoed p) ds) (returned 0 nrd ∷ echoed p last ∷ entry p eto (outcome.Taken 0) ∷ [])
    ∙ and_from _ _ (echoes_no_aau p ds echoes.0) (and_from _ _ (echo_no_aau p last echoes.1) refl))

exchange_no_aau : (size drive : ℕ) (x : Exchange) → is_exchange (host_loop size drive) x ≡ true → keeps_addresses x ≡ true → list_all gives_no_aau (entries_of 0 x) ≡ true
exchange_no_aau size drive (Command f) legal keeps = and_from _ _ keeps refl
exchange_no_aau size drive (Address devices) legal keeps = refl
exchange_no_aau size drive (Send a number ds) legal keeps =
    let parts = and_parts (is_address a) (is_number number && list_all is_host_echo ds) legal in
    let numbers = and_parts (is_number number) (list_all is_host_echo ds) parts.1 in
    and_from _ _ (lad_no_aau a parts.0)
    (list_all-append gives_no_aau (numbered 0 ddl number) (map (echoed 0) ds)
    ∙ and_from _ _ (ddl_no_aau number numbers.0) (echoes_no_aau 0 ds (host_echoes (host_loop size drive) ds numbers.1)))
exchange_no_aau size drive (Receive a number s answer) legal keeps =
    let parts = receive_legal size drive a number s answer legal in
    ap (list_all gives_no_aau) (entries_of-receive 0 a number s answer)
    ∙ and_from _ _ (tad_no_aau a parts.0)
    (list_all-append gives_no_aau (numbered 0 ddt number) (answer_entries 0 (start_frame s) answer ++ commanded 0 unt)
    ∙ and_from _ _ (ddt_no_aau number parts.1)
    (list_all-append gives_no_aau (answer_entries 0 (start_frame s) answer) (commanded 0 unt) ∙ and_from _ _ (answer_no_aau s answer parts.2) refl))
exchange_no_aau size drive (Identify f) legal keeps = refl

break_no_aau : (due : Entry) (b : Break) → gives_no_aau due ≡ true → list_all gives_no_aau (break_entries due b) ≡ true
break_no_aau due (FrameLost q) e = and_from (gives_no_aau due) true e refl
break_no_aau due (HostAltered f) e = and_from (gives_no_aau due) true e refl
break_no_aau due (TalkerAltered f end) e = and_from (gives_no_aau due) true e refl

cut_no_aau : (es : List Entry) (n : ℕ) (b : Break) → list_all gives_no_aau es ≡ true → list_all gives_no_aau (cut_at es n b) ≡ true
cut_no_aau [] n b e = refl
cut_no_aau (x ∷ es) zero b e = break_no_aau x b ((and_parts (gives_no_aau x) (list_all gives_no_aau es) e).0)
cut_no_aau (x ∷ es) (suc n) b e =
    let parts = and_parts (gives_no_aau x) (list_all gives_no_aau es) e in
    and_from _ _ parts.0 (cut_no_aau es n b parts.1)

-- a whole or broken exchange other than the command AAU leaves numbered devices numbered
pub are_numbered-piece : (size drive : ℕ) (rs : List Roles) (p : Piece) → is_piece (host_loop size drive) p ≡ true → keeps_addresses (exchange_in p) ≡ true →
    are_numbered 1 rs ≡ true → are_numbered 1 (roles_after rs (piece_entries 0 p)) ≡ true
are_numbered-piece size drive rs (Whole x) legal keeps numbers = are_numbered-log rs (entries_of 0 x) (exchange_no_aau size drive x legal keeps) numbers
are_numbered-piece size drive rs (Cut x n b) legal keeps numbers =
    let parts = and_parts (is_exchange (host_loop size drive) x) (can_cut 0 (entries_of 0 x) n b) legal in
    are_numbered-log rs (cut_at (entries_of 0 x) n b) (cut_no_aau (entries_of 0 x) n b (exchange_no_aau size drive x parts.0 keeps)) numbers
