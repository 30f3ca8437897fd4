-- What parties hear by the entries that a log gained.
use Rattle.std.proofs.Common.{◌≡◌, ◌∙◌, ◌-◌, ◌++◌, ◌&&◌, ◌==◌, ℕ, zero, suc, Bool, true, false, not, List, [], ◌∷◌, Option, Some, None, map, take, get_or, refl, sym, ap, ap₂}
use Rattle.std.specs.Prelude.{if◌then◌else◌, drop}
use Rattle.std.specs.List.{list_all}
use Rattle.std.proofs.lemmas.Bool.{and_parts, and_from, not-true, agree_below_at, ltb-true}
use Rattle.std.proofs.lemmas.List.{take-append-drop}
use Rattle.std.proofs.lemmas.List.Folds.{list_all-append}
use Rattle.il_frames.specs.declared.frame.Frame.{Frame}
use Rattle.il_frames.specs.declared.message.Message.{Message}
use Rattle.il_frames.specs.declared.message.Message.TheVariants as msg
use Rattle.il_frames.specs.declared.entry.Entry.{Entry}
use Rattle.il_frames.specs.declared.entry.Outcome.{Outcome}
use Rattle.il_frames.specs.declared.entry.Outcome.TheVariants as outcome
use Rattle.il_frames.specs.Frames.{byte_of, is_data, same_but_service}
use Rattle.il_frames.specs.Messages.{message_of}
use Rattle.il_device.specs.declared.roles.Roles.{Roles}
use Rattle.il_device.specs.Roles.{no_roles, is_own, takes_address}
use Rattle.il_device.specs.Takes.{eto, ete}
use Rattle.il_frames.specs.NamedFrames.{entry, unl, unt, tad, ddt, rfc, nrd}
use Rattle.loop_model.specs.Exchanges.{Echo, Answer, NotTaken, ToItsEnd, Stopped, Start, Sda, Receive, Break, FrameLost, HostAltered, TalkerAltered, start_frame, returned, commanded, echoed, numbered, answer_entries, entries_of, break_entries, cut_at, can_cut, is_break, is_altered, is_echo, is_number, is_address, is_answer}
use Rattle.loop_model.specs.Hearing.{roles_at, brings_byte, heard_of, heard_by}
use Rattle.loop_model.specs.Reach.{is_reached, brings_to}
use Rattle.loop_model.specs.Roles.{roles_by, passed_on, roles_along, roles_after_entry}
use Rattle.loop_model.proofs.HearLaws.{heard_by-append, heard_by-no_data}
use Rattle.loop_model.proofs.RoleSteps.{changes_roles}
use Rattle.loop_model.proofs.RoundLaws.{data_keeps, message_of-tad}
use Rattle.loop_model.proofs.UnitLaws.{entries_of-receive}
use Rattle.il_record.proofs.Readings.{end_echoes, stop_echoes}

-- ---- broken entries

not_intact : (listens data_frame other intact rest : Bool) (bytes : List ℕ) → intact ≡ false → (if listens && (data_frame && (other && (intact && rest))) then bytes else []) ≡ []
not_intact true true true true rest bytes is = cc
not_intact _ _ _ _ rest bytes is = refl

-- nothing is heard of an entry whose frame came back altered
heard_altered : (k party : ℕ) (rs : List Roles) (due : Entry) (f : Frame) → is_altered due.frame f ≡ true → heard_of k party rs (entry due.source due.frame (outcome.Back f)) ≡ []
heard_altered k party rs due f altered =
    let other = (and_parts (is_data due.frame) (not (same_but_service due.frame f)) altered).1 in
    not_intact (roles_at party rs).listens (is_data due.frame) (not (due.source == party)) (same_but_service due.frame f) true (byte_of due.frame ∷ []) (not-true (same_but_service due.frame f) other)

-- nothing is heard of a break
pub heard_by-break : (k party : ℕ) (rs : List Roles) (due : Entry) (b : Break) → is_break 0 due b ≡ true → heard_by k party rs (break_entries due b) ≡ []
heard_by-break k party rs due (FrameLost q) legal =
    ap (λ (bytes : List ℕ). bytes ++ [])
    (not_intact (roles_at party rs).listens (is_data due.frame) (not (due.source == party)) false (brings_to k party (entry due.source due.frame (outcome.Lost q))) (byte_of due.frame ∷ []) refl)
heard_by-break k party rs due (HostAltered f) legal =
    ap (λ (bytes : List ℕ). bytes ++ []) (heard_altered k party rs due f (and_parts (due.source == 0) (is_altered due.frame f) legal).1)
heard_by-break k party rs due (TalkerAltered f end) legal =
    let altered = (and_parts (is_altered due.frame f) _ (and_parts (not (due.source == 0)) _ legal).1).0 in
    let first : Entry = entry due.source due.frame (outcome.Back f) in
    ap₂ (λ (a b : List ℕ). a ++ b) (heard_altered k party rs due f altered) (heard_by-no_data k party (roles_after_entry rs first) (entry due.source ete end ∷ []) refl)

-- of a broken log is heard what is heard of the entries before the break
pub heard_by-cut : (k party : ℕ) (rs : List Roles) (es : List Entry) (n : ℕ) (b : Break) → can_cut 0 es n b ≡ true → heard_by k party rs (cut_at es n b) ≡ heard_by k party rs (take n es)
heard_by-cut k party rs [] n b legal = cc
heard_by-cut k party rs (e ∷ es) zero b legal = heard_by-break k party rs e b legal
heard_by-cut k party rs (e ∷ es) (suc n) b legal = ap (λ (bytes : List ℕ). heard_of k party rs e ++ bytes) (heard_by-cut k party (roles_after_entry rs e) es n b legal)

first_none : (front rest : List ℕ) → front ++ rest ≡ [] → front ≡ []
first_none [] rest none = refl
first_none (byte ∷ front) rest none = cc

-- nothing, where nothing is heard of it whole
pub heard_by-cut_none : (k party : ℕ) (rs : List Roles) (es : List Entry) (n : ℕ) (b : Break) → can_cut 0 es n b ≡ true → heard_by k party rs es ≡ [] → heard_by k party rs (cut_at es n b) ≡ []
heard_by-cut_none k party rs es n b legal none =
    let parts = heard_by-append k party rs (take n es) (drop n es) in
    heard_by-cut k party rs es n b legal
    ∙ first_none (heard_by k party rs (take n es)) _ (sym parts ∙ ap (heard_by k party rs) (take-append-drop n es) ∙ none)

-- nothing of one entry that broke off
pub heard_by-cut_one : (k party : ℕ) (rs : List Roles) (e : Entry) (n : ℕ) (b : Break) → can_cut 0 (e ∷ []) n b ≡ true → heard_by k party rs (cut_at (e ∷ []) n b) ≡ []
heard_by-cut_one k party rs e zero b legal = heard_by-break k party rs e b legal
heard_by-cut_one k party rs e (suc n) b legal = cc

-- ---- where no device listens

-- the device does not listen
abbrev is_deaf : Roles → Bool
is_deaf r = not r.listens

-- the message has no device listen
abbrev makes_no_listener : Message → Bool
makes_no_listener (msg.Lad a) = false
makes_no_listener m = true

-- nor has the frame of the entry
abbrev makes_none : Entry → Bool
makes_none e = makes_no_listener (message_of e.frame)

deaf_if : (b : Bool) (r s : Roles) → is_deaf r ≡ true → is_deaf s ≡ true → is_deaf (if b then r else s) ≡ true
deaf_if true r s a c = a
deaf_if false r s a c = c

deaf_by : (m : Message) (r : Roles) → makes_no_listener m ≡ true → is_deaf r ≡ true → is_deaf (roles_by m r) ≡ true
deaf_by msg.Ifc r none deaf = refl
deaf_by msg.Aau r none deaf = refl
deaf_by (msg.Aad a) r none deaf = deaf_if (takes_address r.address a) _ r deaf deaf
deaf_by (msg.Tad a) r none deaf = deaf_if (is_own r.address a) _ _ refl deaf
deaf_by msg.Unt r none deaf = deaf
deaf_by (msg.Lad a) r none deaf = cc
deaf_by msg.Unl r none deaf = refl
deaf_by m r none deaf = deaf

none_if : (b : Bool) (m n : Message) → makes_no_listener m ≡ true → makes_no_listener n ≡ true → makes_no_listener (if b then m else n) ≡ true
none_if true m n a c = a
none_if false m n a c = c

none_on : (m : Message) (r : Roles) → makes_no_listener m ≡ true → makes_no_listener (passed_on m r) ≡ true
none_on (msg.Aad a) r none = none_if (takes_address r.address a) _ _ (none_if (a == 30) msg.Iaa (msg.Aad (suc a)) refl refl) refl
none_on m r none = none

deaf_along : (o : Outcome) (party : ℕ) (m : Message) (rs : List Roles) → makes_no_listener m ≡ true → list_all is_deaf rs ≡ true → list_all is_deaf (roles_along 0 o party m rs) ≡ true
deaf_along o party m [] none deaf = refl
deaf_along o party m (r ∷ rs) none deaf =
    let parts = and_parts (is_deaf r) (list_all is_deaf rs) deaf in
    and_from _ _ (deaf_if (is_reached 0 o party) _ r (deaf_by m r none parts.0) parts.0)
    (deaf_along o (suc party) _ rs (none_if (is_reached 0 o party) _ m (none_on m r none) none) parts.1)

lists_if : (b : Bool) (rs ss : List Roles) → list_all is_deaf rs ≡ true → list_all is_deaf ss ≡ true → list_all is_deaf (if b then rs else ss) ≡ true
lists_if true rs ss a c = a
lists_if false rs ss a c = c

deaf_entry : (rs : List Roles) (e : Entry) → makes_none e ≡ true → list_all is_deaf rs ≡ true → list_all is_deaf (roles_after_entry rs e) ≡ true
deaf_entry rs e none deaf = lists_if (e.source == 0) _ rs (deaf_along e.outcome 1 (message_of e.frame) rs none deaf) deaf

-- UNL that came back
unlistened : (party : ℕ) (rs : List Roles) → list_all is_deaf (roles_along 0 (outcome.Back unl) party msg.Unl rs) ≡ true
unlistened party [] = refl
unlistened party (r ∷ rs) = unlistened (suc party) rs

deaf_at : (i : ℕ) (rs : List Roles) → list_all is_deaf rs ≡ true → (get_or rs i no_roles).listens ≡ false
deaf_at i [] deaf = refl
deaf_at zero (r ∷ rs) deaf = not-true r.listens (and_parts (is_deaf r) (list_all is_deaf rs) deaf).0
deaf_at (suc i) (r ∷ rs) deaf = deaf_at i rs (and_parts (is_deaf r) (list_all is_deaf rs) deaf).1

not_heard : (listens brings : Bool) (bytes : List ℕ) → listens ≡ false → (if listens && brings then bytes else []) ≡ []
not_heard true brings bytes deaf = cc
not_heard false brings bytes deaf = refl

-- where no device listens, and none is told to, nothing is heard
pub heard_by-deaf : (k party : ℕ) (rs : List Roles) (es : List Entry) → list_all is_deaf rs ≡ true → list_all makes_none es ≡ true → heard_by k party rs es ≡ []
heard_by-deaf k party rs [] deaf none = refl
heard_by-deaf k party rs (e ∷ es) deaf none =
    let parts = and_parts (makes_none e) (list_all makes_none es) none in
    ap₂ (λ (a b : List ℕ). a ++ b) (not_heard (roles_at party rs).listens (brings_byte k party e) (byte_of e.frame ∷ []) (deaf_at (party - 1) rs deaf))
    (heard_by-deaf k party (roles_after_entry rs e) es (deaf_entry rs e parts.0 deaf) parts.1)

-- ---- a receive

keeps_makes_none : (m : Message) → changes_roles m ≡ false → makes_no_listener m ≡ true
keeps_makes_none (msg.Lad a) keeps = cc
keeps_makes_none m keeps = refl

echo_makes_none : (p : ℕ) (d : Echo) → is_echo d ≡ true → makes_none (echoed p d) ≡ true
echo_makes_none p d legal = keeps_makes_none (message_of d.sent) (data_keeps d.sent.class d.sent.byte (and_parts (is_data d.sent) (same_but_service d.sent d.back) legal).0)

echoes_make_none : (p : ℕ) (ds : List Echo) → list_all is_echo ds ≡ true → list_all makes_none (map (echoed p) ds) ≡ true
echoes_make_none p [] legal = refl
echoes_make_none p (d ∷ ds) legal =
    let parts = and_parts (is_echo d) (list_all is_echo ds) legal in
    and_from (makes_none (echoed p d)) _ (echo_makes_none p d parts.0) (echoes_make_none p ds parts.1)

start_makes_none : (s : Start) → makes_no_listener (message_of (start_frame s)) ≡ true
start_makes_none Sda = refl
start_makes_none _ = refl

answer_makes_none : (s : Start) (answer : Answer) → is_answer 0 answer ≡ true → list_all makes_none (answer_entries 0 (start_frame s) answer) ≡ true
answer_makes_none s NotTaken legal = and_from _ true (start_makes_none s) refl
answer_makes_none s (ToItsEnd p ds) legal =
    let echoes = end_echoes p ds legal in
    let end : List Entry = entry p eto (outcome.Taken 0) ∷ [] in
    and_from _ _ (start_makes_none s) (list_all-append makes_none (map (echoed p) ds) end ∙ and_from _ true (echoes_make_none p ds echoes.1) refl)
answer_makes_none s (Stopped p ds last) legal =
    let echoes = stop_echoes p ds last legal in
    let end : List Entry = returned 0 nrd ∷ echoed p last ∷ entry p eto (outcome.Taken 0) ∷ [] in
    and_from _ _ (start_makes_none s)
    (list_all-append makes_none (map (echoed p) ds) end ∙ and_from _ _ (echoes_make_none p ds echoes.0) (and_from (makes_none (echoed p last)) true (echo_makes_none p last echoes.1) refl))

number_makes_none : (number : Option ℕ) → is_number number ≡ true → list_all makes_none (numbered 0 ddt number) ≡ true
number_makes_none None legal = refl
number_makes_none (Some n) legal = and_from _ true (agree_below_at (λ b. makes_none (returned 0 (ddt b))) (λ b. true) 32 n refl (ltb-true n 32 legal)) refl

-- no party hears anything of a receive: after UNL nobody listens, and none is told to
pub heard_by-receive : (k party a : ℕ) (rs : List Roles) (number : Option ℕ) (s : Start) (answer : Answer) → is_address a ≡ true → is_number number ≡ true → is_answer 0 answer ≡ true → heard_by k party rs (entries_of 0 (Receive a number s answer)) ≡ []
heard_by-receive k party a rs number s answer low small legal =
    let tail : List Entry = answer_entries 0 (start_frame s) answer ++ commanded 0 unt in
    let rest : List Entry = returned 0 rfc ∷ returned 0 (tad a) ∷ returned 0 rfc ∷ (numbered 0 ddt number ++ tail) in
    let now : List Roles = roles_along 0 (outcome.Back unl) 1 msg.Unl rs in
    let tail_none : list_all makes_none tail ≡ true = list_all-append makes_none (answer_entries 0 (start_frame s) answer) (commanded 0 unt) ∙ and_from _ true (answer_makes_none s answer legal) refl in
    let numbered_none : list_all makes_none (numbered 0 ddt number ++ tail) ≡ true = list_all-append makes_none (numbered 0 ddt number) tail ∙ and_from _ _ (number_makes_none number small) tail_none in
    let none : list_all makes_none rest ≡ true = and_from (makes_none (returned 0 (tad a))) _ (ap makes_no_listener (message_of-tad a low)) numbered_none in
    ap (heard_by k party rs) (entries_of-receive 0 a number s answer)
    ∙ heard_by-append k party rs (returned 0 unl ∷ []) rest
    ∙ ap₂ (λ (a b : List ℕ). a ++ b) (heard_by-no_data k party rs (returned 0 unl ∷ []) refl) (heard_by-deaf k party now rest (unlistened 1 rs) none)
