-- Laws for following roles and talkers along a log, a few entries at a time.
use Rattle.std.proofs.Common.{◌≡◌, ◌≤◌, ◌<◌, ◌⊎◌, inl, inr, lit<, ℕ, suc, ◌+◌, ◌++◌, ◌==◌, ◌∙◌, Bool, true, false, not, if◌then◌else◌, List, [], ◌∷◌, map, length, Option, Some, None, refl, sym, ap, ap₂, arith, le_trans}
use Rattle.std.specs.List.{list_all}
use Rattle.std.proofs.lemmas.Bool.{and_parts, and_from, not-true, lt-ltb, le-leb, ne_eqb, eq-eqb, eqb-true, cases_eq}
use Rattle.il_frames.specs.declared.message.Message.{Message}
use Rattle.il_frames.specs.declared.message.Message.TheVariants as msg
use Rattle.il_frames.specs.declared.frame.Frame.{Frame}
use Rattle.il_frames.specs.declared.entry.Entry.{Entry}
use Rattle.il_frames.specs.declared.entry.Outcome.{Outcome}
use Rattle.il_frames.specs.declared.entry.Outcome.TheVariants as outcome
use Rattle.il_frames.specs.Messages.{message_of}
use Rattle.il_frames.specs.NamedFrames.{aau, rfc, aad}
use Rattle.loop_model.specs.Reach.{is_reached}
use Rattle.il_device.specs.declared.roles.Roles.{Roles}
use Rattle.il_device.specs.Roles.{no_roles, is_own}
use Rattle.loop_model.specs.Roles.{roles_by, passed_on, roles_along, roles_after_entry, roles_after, talkers_from, talkers, is_at_most_one, is_in_turn, OneTalker, are_numbered}
use Rattle.loop_model.specs.Exchanges.{is_talk_address, Command, Address, entries_of}
use Rattle.loop_model.proofs.RoleLaws.{gives_no_talk, is_quiet, quiet_if, quiet_by, no_talk_if, no_talk_on, quiet_log, no_talkers, all_quiet}

-- ---- entries that change no role

-- the message changes roles
abbrev pub changes_roles : Message → Bool
changes_roles msg.Ifc = true
changes_roles msg.Aau = true
changes_roles (msg.Aad a) = true
changes_roles (msg.Tad a) = true
changes_roles (msg.Lad a) = true
changes_roles msg.Unl = true
changes_roles msg.Unt = true
changes_roles m = false

-- the entry's frame changes none
abbrev pub keeps_roles : Entry → Bool
keeps_roles e = not (changes_roles (message_of e.frame))

kept_by : (m : Message) (r : Roles) → changes_roles m ≡ false → (roles_by m r ≡ r) × (passed_on m r ≡ m)
kept_by msg.Ifc r e = cc
kept_by msg.Aau r e = cc
kept_by (msg.Aad a) r e = cc
kept_by (msg.Tad a) r e = cc
kept_by (msg.Lad a) r e = cc
kept_by msg.Unl r e = cc
kept_by msg.Unt r e = cc
kept_by m r e = (refl, refl)

if_equal : {A : Type 0} (b : Bool) (x y : A) → x ≡ y → (if b then x else y) ≡ y
if_equal true x y e = e
if_equal false x y e = refl

kept_along : (o : Outcome) (party : ℕ) (m : Message) (rs : List Roles) → changes_roles m ≡ false → roles_along 0 o party m rs ≡ rs
kept_along o party m [] e = refl
kept_along o party m (r ∷ rs) e =
    let kept = kept_by m r e in
    let here = if_equal (is_reached 0 o party) (roles_by m r) r kept.0 in
    let passed = if_equal (is_reached 0 o party) (passed_on m r) m kept.1 in
    ap₂ (λ x xs. x ∷ xs) here (ap (λ (n : Message). roles_along 0 o (suc party) n rs) passed ∙ kept_along o (suc party) m rs e)

pub kept_entry : (rs : List Roles) (e : Entry) → keeps_roles e ≡ true → roles_after_entry rs e ≡ rs
kept_entry rs e keeps = if_equal (e.source == 0) _ rs (kept_along e.outcome 1 (message_of e.frame) rs (not-true _ keeps))

-- a log without role messages keeps all roles
pub roles_after-kept : (rs : List Roles) (log : List Entry) → list_all keeps_roles log ≡ true → roles_after rs log ≡ rs
roles_after-kept rs [] keeps = refl
roles_after-kept rs (e ∷ log) keeps =
    let parts = and_parts (keeps_roles e) (list_all keeps_roles log) keeps in
    ap (λ (ss : List Roles). roles_after ss log) (kept_entry rs e parts.0) ∙ roles_after-kept rs log parts.1

-- ---- where no device talks

-- a log without talk addresses has one talker where none talks before it and only the host sends data
pub OneTalker-silent : (rs : List Roles) (log : List Entry) → talkers rs ≡ [] → list_all gives_no_talk log ≡ true → list_all (is_in_turn []) log ≡ true → OneTalker rs log
OneTalker-silent rs [] silent calm turns = ap is_at_most_one silent
OneTalker-silent rs (e ∷ log) silent calm turns =
    let quiet = and_parts (gives_no_talk e) (list_all gives_no_talk log) calm in
    let turn = and_parts (is_in_turn [] e) (list_all (is_in_turn []) log) turns in
    let first = quiet_log rs (e ∷ []) (and_from (gives_no_talk e) true quiet.0 refl) (all_quiet 1 rs silent) in
    and_from (is_at_most_one (talkers rs)) _ (ap is_at_most_one silent) (and_from (is_in_turn (talkers rs) e) _ (ap (λ (ps : List ℕ). is_in_turn ps e) silent ∙ turn.0)
    (OneTalker-silent (roles_after_entry rs e) log (no_talkers 1 (roles_after_entry rs e) first) quiet.1 turn.1))

-- ---- addressing

-- devices with the addresses from a on, without talk or listen role
abbrev pub addressed_from : ℕ → List Roles → List Roles
addressed_from a [] = []
addressed_from a (r ∷ rs) = record { address = Some a; talks = false; listens = false } ∷ addressed_from (suc a) rs

-- as many devices without roles
abbrev pub cleared : List Roles → List Roles
cleared rs = map (λ r. no_roles) rs

cleared_along : (party : ℕ) (rs : List Roles) → roles_along 0 (outcome.Back aau) party msg.Aau rs ≡ cleared rs
cleared_along party [] = refl
cleared_along party (r ∷ rs) = ap (λ (ss : List Roles). no_roles ∷ ss) (cleared_along (suc party) rs)

-- AAD a along devices without address gives them the addresses from a on
aad_along : (f : Frame) (party a : ℕ) (rs : List Roles) → 0 < a → a + length rs ≤ 31 → roles_along 0 (outcome.Back f) party (msg.Aad a) (cleared rs) ≡ addressed_from a rs
aad_along f party a [] low room = refl
aad_along f party a (r ∷ []) low room =
    let takes = lt-ltb 0 a low in
    let in_range = le-leb a 30 (omega arith) in
    rw (takes, in_range) refl
aad_along f party a (r ∷ s ∷ rs) low room =
    let takes = lt-ltb 0 a low in
    let in_range = le-leb a 30 (omega arith) in
    let below = ne_eqb a 30 (λ e. omega arith) in
    let rest = aad_along f (suc party) (suc a) (s ∷ rs) (omega arith) (omega arith) in
    rw (takes, in_range, below) (ap (λ (ss : List Roles). record { address = Some a; talks = false; listens = false } ∷ ss) rest)

-- after AAU no device has a role or an address
pub roles_after-aau : (rs : List Roles) → roles_after rs (entries_of 0 (Command aau)) ≡ cleared rs
roles_after-aau rs = kept_along (outcome.Back rfc) 1 msg.Rfc (roles_along 0 (outcome.Back aau) 1 msg.Aau rs) refl ∙ cleared_along 1 rs

-- after AAU and AAD each device has its number as address, and no role, whatever it had before
pub roles_after-addressing : (rs : List Roles) (devices : ℕ) → length rs ≤ 30 → roles_after rs (entries_of 0 (Command aau) ++ entries_of 0 (Address devices)) ≡ addressed_from 1 rs
roles_after-addressing rs devices room =
    ap (λ (ss : List Roles). roles_after ss (entries_of 0 (Address devices))) (roles_after-aau rs)
    ∙ aad_along (aad (suc devices)) 1 1 rs (lit< tt) (omega arith)

-- ---- at most one device talks

at_most_one : (ps : List ℕ) → length ps ≤ 1 → is_at_most_one ps ≡ true
at_most_one [] few = refl
at_most_one (p ∷ []) few = refl
at_most_one (p ∷ q ∷ ps) few = absurd (omega arith)

few_of : (ps : List ℕ) → is_at_most_one ps ≡ true → length ps ≤ 1
few_of [] one = omega arith
few_of (p ∷ []) one = omega arith
few_of (p ∷ q ∷ ps) one = cc

fewer_first : (party : ℕ) (old new : Bool) (ps qs : List ℕ) → (not old ≡ true → not new ≡ true) → length qs ≤ length ps → length ((if new then party ∷ [] else []) ++ qs) ≤ length ((if old then party ∷ [] else []) ++ ps)
fewer_first party true true ps qs quiet few = omega arith
fewer_first party true false ps qs quiet few = omega arith
fewer_first party false false ps qs quiet few = few
fewer_first party false true ps qs quiet few = let silent = quiet refl in cc

fewer_along : (o : Outcome) (party q : ℕ) (m : Message) (rs : List Roles) → is_talk_address m ≡ false → length (talkers_from q (roles_along 0 o party m rs)) ≤ length (talkers_from q rs)
fewer_along o party q m [] calm = omega arith
fewer_along o party q m (r ∷ rs) calm =
    fewer_first q r.talks ((if is_reached 0 o party then roles_by m r else r).talks) (talkers_from (suc q) rs) _
    (λ quiet. quiet_if (is_reached 0 o party) (roles_by m r) r (quiet_by m r calm quiet) quiet)
    (fewer_along o (suc party) (suc q) _ rs (no_talk_if (is_reached 0 o party) _ m (no_talk_on m r calm) calm))

-- an entry without talk address leaves at most one talker where there was at most one
pub one_talker-kept : (rs : List Roles) (e : Entry) → is_at_most_one (talkers rs) ≡ true → gives_no_talk e ≡ true → is_at_most_one (talkers (roles_after_entry rs e)) ≡ true
one_talker-kept rs e one calm = by_source (e.source == 0)
  where
    fewer : length (talkers (roles_along 0 e.outcome 1 (message_of e.frame) rs)) ≤ length (talkers rs)
    fewer = fewer_along e.outcome 1 1 (message_of e.frame) rs (not-true _ calm)

    by_source : (b : Bool) → is_at_most_one (talkers (if b then roles_along 0 e.outcome 1 (message_of e.frame) rs else rs)) ≡ true
    by_source true = at_most_one _ (le_trans fewer (few_of (talkers rs) one))
    by_source false = one

pub are_numbered-addressed : (a : ℕ) (rs : List Roles) → are_numbered a (addressed_from a rs) ≡ true
are_numbered-addressed a [] = refl
are_numbered-addressed a (r ∷ rs) = and_from (a == a) _ (eq-eqb a a refl) (are_numbered-addressed (suc a) rs)

pub not_own : (a party : ℕ) (r : Roles) → (party ≡ a → ⊥) → is_own r.address party ≡ true → is_own r.address a ≡ false
not_own a party r other own = by_address r.address own
  where
    by_address : (o : Option ℕ) → is_own o party ≡ true → is_own o a ≡ false
    by_address None e = cc
    by_address (Some b) e = let same = eqb-true b party e in ne_eqb b a (λ x. other (sym same ∙ x))

silenced : (a : ℕ) (r : Roles) → is_own r.address a ≡ false → is_quiet (roles_by (msg.Tad a) r) ≡ true
silenced a r other = rw other refl

-- a device with another number does not talk after TAD a
pub quiet_other : (o : Outcome) (party a : ℕ) (r : Roles) → (party ≡ a → ⊥) → is_own r.address party ≡ true → is_quiet r ≡ true → is_quiet (if is_reached 0 o party then roles_by (msg.Tad a) r else r) ≡ true
quiet_other o party a r other own quiet = quiet_if (is_reached 0 o party) (roles_by (msg.Tad a) r) r (silenced a r (not_own a party r other own)) quiet

-- TAD passes each device as it is
pub tad_passes : (o : Outcome) (party q a : ℕ) (rs : List Roles) → talkers_from q (roles_along 0 o q (if is_reached 0 o party then msg.Tad a else msg.Tad a) rs) ≡ talkers_from q (roles_along 0 o q (msg.Tad a) rs)
tad_passes o party q a rs = ap (λ (n : Message). talkers_from q (roles_along 0 o q n rs)) (if_equal (is_reached 0 o party) (msg.Tad a) (msg.Tad a) refl)

pub no_head : (party : ℕ) (b : Bool) (ps qs : List ℕ) → not b ≡ true → ps ≡ qs → ((if b then party ∷ [] else []) ++ ps) ≡ qs
no_head party true ps qs quiet e = cc
no_head party false ps qs quiet e = e

pub none_behind : (o : Outcome) (party a : ℕ) (rs : List Roles) → a < party → are_numbered party rs ≡ true → list_all is_quiet rs ≡ true → talkers_from party (roles_along 0 o party (msg.Tad a) rs) ≡ []
none_behind o party a [] below numbers quiet = refl
none_behind o party a (r ∷ rs) below numbers quiet =
    let own = and_parts (is_own r.address party) (are_numbered (suc party) rs) numbers in
    let silent = and_parts (is_quiet r) (list_all is_quiet rs) quiet in
    no_head party _ _ [] (quiet_other o party a r (λ e. omega arith) own.0 silent.0)
    (tad_passes o party (suc party) a rs ∙ none_behind o (suc party) a rs (omega arith) own.1 silent.1)

alone : (party : ℕ) (b : Bool) (ps : List ℕ) → ps ≡ [] → is_at_most_one ((if b then party ∷ [] else []) ++ ps) ≡ true
alone party true ps e = rw e refl
alone party false ps e = rw e refl

one_along : (o : Outcome) (party a : ℕ) (rs : List Roles) → are_numbered party rs ≡ true → list_all is_quiet rs ≡ true → is_at_most_one (talkers_from party (roles_along 0 o party (msg.Tad a) rs)) ≡ true
one_along o party a [] numbers quiet = refl
one_along o party a (r ∷ rs) numbers quiet =
    let own = and_parts (is_own r.address party) (are_numbered (suc party) rs) numbers in
    let silent = and_parts (is_quiet r) (list_all is_quiet rs) quiet in
    let rest = one_along o (suc party) a rs own.1 silent.1 in
    by_place own silent (cases_eq party a) rest
  where
    by_place : (is_own r.address party ≡ true) × (are_numbered (suc party) rs ≡ true) → (is_quiet r ≡ true) × (list_all is_quiet rs ≡ true) → (party ≡ a) ⊎ (party ≡ a → ⊥) → is_at_most_one (talkers_from (suc party) (roles_along 0 o (suc party) (msg.Tad a) rs)) ≡ true → is_at_most_one (talkers_from party (roles_along 0 o party (msg.Tad a) (r ∷ rs))) ≡ true
    by_place own silent (inl here) rest = alone party _ _ (tad_passes o party (suc party) a rs ∙ none_behind o (suc party) a rs (omega arith) own.1 silent.1)
    by_place own silent (inr other) rest =
        ap is_at_most_one (no_head party _ _ _ (quiet_other o party a r other own.0 silent.0) (tad_passes o party (suc party) a rs)) ∙ rest

-- where each device has its number as address and none talks, at most one talks after a talk address
pub one_talker-addressed : (rs : List Roles) (a : ℕ) (e : Entry) → are_numbered 1 rs ≡ true → talkers rs ≡ [] → message_of e.frame ≡ msg.Tad a → is_at_most_one (talkers (roles_after_entry rs e)) ≡ true
one_talker-addressed rs a e numbers silent tad = by_source (e.source == 0)
  where
    by_source : (b : Bool) → is_at_most_one (talkers (if b then roles_along 0 e.outcome 1 (message_of e.frame) rs else rs)) ≡ true
    by_source true = ap (λ (m : Message). is_at_most_one (talkers (roles_along 0 e.outcome 1 m rs))) tad ∙ one_along e.outcome 1 a rs numbers (all_quiet 1 rs silent)
    by_source false = ap is_at_most_one silent
