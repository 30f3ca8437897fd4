-- A send to a numbered device is heard by that device, byte for byte, and by no other.
use Rattle.std.proofs.Common.{◌≡◌, ◌≤◌, ◌<◌, ◌∙◌, ◌+◌, ◌-◌, ◌++◌, ◌&&◌, ◌==◌, ℕ, zero, suc, Bool, true, false, not, List, [], ◌∷◌, Option, None, Some, map, length, get_or, refl, sym, ap, arith, eqb-true}
use Rattle.std.specs.Prelude.{if◌then◌else◌}
use Rattle.std.specs.List.{list_all}
use Rattle.std.proofs.lemmas.Bool.{and_parts, and_from, leb-true, ltb-true, ne_eqb, agree_below_at}
use Rattle.il_frames.specs.declared.frame.Frame.{Frame}
use Rattle.il_frames.specs.declared.message.Message.{Message}
use Rattle.il_frames.specs.declared.message.Message.TheVariants as msg
use Rattle.il_frames.specs.declared.entry.Outcome.TheVariants as outcome
use Rattle.il_frames.specs.Frames.{byte_of, is_data, same_but_service}
use Rattle.il_frames.specs.Messages.{message_of}
use Rattle.il_device.specs.declared.roles.Roles.{Roles}
use Rattle.il_device.specs.Roles.{no_roles, is_own}
use Rattle.il_frames.specs.NamedFrames.{lad, unl, ddl, rfc}
use Rattle.loop_model.specs.Roles.{roles_by, roles_along, roles_after_entry, roles_after, are_numbered}
use Rattle.loop_model.specs.Hearing.{roles_at, brings_byte, heard_by, has_no_data}
use Rattle.loop_model.specs.Exchanges.{Echo, Send, echoed, returned, commanded, numbered, entries_of, is_echo, is_address, is_number, bytes_of}
use Rattle.loop_model.proofs.RoleSteps.{keeps_roles, kept_entry, roles_after-kept, not_own}
use Rattle.loop_model.proofs.RoleLaws.{roles_after-append}
use Rattle.loop_model.proofs.TalkLaws.{are_numbered-log, length-roles_after}
use Rattle.loop_model.proofs.HearLaws.{heard_by-append, heard_by-no_data}
use Rattle.loop_model.proofs.RoundLaws.{data_keeps}

-- a data frame of the host that came back is heard by each listener
heard_one : (listens data_frame other intact reached : Bool) (byte : ℕ) → listens ≡ true → data_frame ≡ true → other ≡ true → intact ≡ true → reached ≡ true →
    (if listens && (data_frame && (other && (intact && reached))) then byte ∷ [] else []) ≡ byte ∷ []
heard_one listens data_frame other intact reached byte a b c d e = rw (a, b, c, d, e) refl

-- while a device listens it hears the bytes of the host's data frames
pub heard_by-data : (k party : ℕ) (rs : List Roles) (ds : List Echo) → not (0 == party) ≡ true → (roles_at party rs).listens ≡ true → list_all is_echo ds ≡ true →
    heard_by k party rs (map (echoed 0) ds) ≡ bytes_of ds
heard_by-data k party rs [] device listens e = refl
heard_by-data k party rs (d ∷ ds) device listens e =
    let parts = and_parts (is_echo d) (list_all is_echo ds) e in
    let echo = and_parts (is_data d.sent) (same_but_service d.sent d.back) parts.0 in
    let stay = kept_entry rs (echoed 0 d) (ap not (data_keeps d.sent.class d.sent.byte echo.0)) in
    ap (λ (bytes : List ℕ). bytes ++ heard_by k party (roles_after_entry rs (echoed 0 d)) (map (echoed 0) ds))
    (heard_one (roles_at party rs).listens (is_data d.sent) (not (0 == party)) (same_but_service d.sent d.back) true (byte_of d.sent) listens echo.0 device echo.1 refl)
    ∙ ap (λ (ss : List Roles). byte_of d.sent ∷ heard_by k party ss (map (echoed 0) ds)) stay
    ∙ ap (λ (bytes : List ℕ). byte_of d.sent ∷ bytes) (heard_by-data k party rs ds device listens parts.1)

-- ---- the device that is told to listen

-- the numbered device at a place has its number as address
numbered_at : (party i : ℕ) (rs : List Roles) → are_numbered party rs ≡ true → i < length rs → is_own (get_or rs i no_roles).address (party + i) ≡ true
numbered_at party i [] numbers here = absurd (omega (arith, here))
numbered_at party zero (r ∷ rs) numbers here =
    ap (is_own r.address) (omega arith) ∙ (and_parts (is_own r.address party) (are_numbered (suc party) rs) numbers).0
numbered_at party (suc i) (r ∷ rs) numbers here =
    let sum : party + suc i ≡ suc party + i = omega arith in
    ap (is_own (get_or rs i no_roles).address) sum ∙ numbered_at (suc party) i rs ((and_parts (is_own r.address party) (are_numbered (suc party) rs) numbers).1) (omega (arith, here))

-- a listen address that came back, place by place
lad_at : (f : Frame) (party a i : ℕ) (rs : List Roles) → i < length rs →
    get_or (roles_along 0 (outcome.Back f) party (msg.Lad a) rs) i no_roles ≡ roles_by (msg.Lad a) (get_or rs i no_roles)
lad_at f party a i [] here = absurd (omega (arith, here))
lad_at f party a zero (r ∷ rs) here = refl
lad_at f party a (suc i) (r ∷ rs) here = lad_at f (suc party) a i rs (omega (arith, here))

abbrev is_lad : ℕ → Message → Bool
is_lad n (msg.Lad m) = m == n
is_lad n m = false

is_lad-true : (n : ℕ) (m : Message) → is_lad n m ≡ true → m ≡ msg.Lad n
is_lad-true n (msg.Lad m) e = ap msg.Lad (eqb-true m n e)
is_lad-true n m e = cc

-- the frame of a listen address says it
pub message_of-lad : (a : ℕ) → is_address a ≡ true → message_of (lad a) ≡ msg.Lad a
message_of-lad a low =
    let small = leb-true a 30 low in
    is_lad-true a (message_of (lad a)) (agree_below_at (λ b. is_lad b (message_of (lad b))) (λ b. true) 31 a refl (omega (arith, small)))

listens_by : (a : ℕ) (r : Roles) → is_own r.address a ≡ true → (roles_by (msg.Lad a) r).listens ≡ true
listens_by a r own = rw own refl

-- after its listen address, the numbered device listens
pub listens-lad : (rs : List Roles) (a : ℕ) → are_numbered 1 rs ≡ true → is_address a ≡ true → 1 ≤ a → a ≤ length rs →
    (roles_at a (roles_after_entry rs (returned 0 (lad a)))).listens ≡ true
listens-lad rs a numbers low some here =
    let place : 1 + (a - 1) ≡ a = omega (arith, some) in
    let own = ap (is_own (roles_at a rs).address) (sym place) ∙ numbered_at 1 (a - 1) rs numbers (omega (arith, some, here)) in
    ap (λ (m : Message). (roles_at a (roles_along 0 (outcome.Back (lad a)) 1 m rs)).listens) (message_of-lad a low)
    ∙ ap (λ (r : Roles). r.listens) (lad_at (lad a) 1 a (a - 1) rs (omega (arith, some, here)))
    ∙ listens_by a (roles_at a rs) own

no_own : (a : ℕ) → 1 ≤ a → not (0 == a) ≡ true
no_own a some = ap not (ne_eqb 0 a (λ e. omega (arith, e, some)))

-- DDL leaves all roles
ddl_keeps : (number : Option ℕ) → is_number number ≡ true → list_all keeps_roles (numbered 0 ddl number) ≡ true
ddl_keeps None e = refl
ddl_keeps (Some n) e = and_from _ _ (agree_below_at (λ b. keeps_roles (returned 0 (ddl b))) (λ b. true) 32 n refl (ltb-true n 32 e)) refl

-- no data are in what goes before the data of a send
no_data_before : (a : ℕ) (number : Option ℕ) → list_all has_no_data (commanded 0 unl ++ commanded 0 (lad a) ++ numbered 0 ddl number) ≡ true
no_data_before a None = refl
no_data_before a (Some n) = refl

-- the roles of all devices before the data of a send
abbrev pub roles_told : List Roles → ℕ → Option ℕ → List Roles
roles_told rs a number = roles_after rs (commanded 0 unl ++ commanded 0 (lad a) ++ numbered 0 ddl number)

roles_told_are : (rs : List Roles) (a : ℕ) (number : Option ℕ) → is_number number ≡ true → roles_told rs a number ≡ roles_after_entry (roles_after_entry rs (returned 0 unl)) (returned 0 (lad a))
roles_told_are rs a number e =
    roles_after-append rs (commanded 0 unl ++ commanded 0 (lad a)) (numbered 0 ddl number)
    ∙ roles_after-kept (roles_after rs (commanded 0 unl ++ commanded 0 (lad a))) (numbered 0 ddl number) (ddl_keeps number e)
    ∙ kept_entry (roles_after_entry (roles_after rs (commanded 0 unl)) (returned 0 (lad a))) (returned 0 rfc) refl
    ∙ ap (λ (ss : List Roles). roles_after_entry ss (returned 0 (lad a))) (kept_entry (roles_after_entry rs (returned 0 unl)) (returned 0 rfc) refl)

-- the device that is told to listen does then
pub told_listens : (rs : List Roles) (a : ℕ) (number : Option ℕ) → are_numbered 1 rs ≡ true → is_address a ≡ true → 1 ≤ a → a ≤ length rs → is_number number ≡ true → (roles_at a (roles_told rs a number)).listens ≡ true
told_listens rs a number numbers low some here e =
    let cleared = roles_after_entry rs (returned 0 unl) in
    ap (λ (ss : List Roles). (roles_at a ss).listens) (roles_told_are rs a number e)
    ∙ listens-lad cleared a (are_numbered-log rs (returned 0 unl ∷ []) refl numbers) low some (omega (arith, here, length-roles_after rs (returned 0 unl ∷ [])))

-- what is heard of a send is what is heard of its data
heard_of_data : (k party a : ℕ) (rs : List Roles) (number : Option ℕ) (ds : List Echo) → heard_by k party rs (entries_of 0 (Send a number ds)) ≡ heard_by k party (roles_told rs a number) (map (echoed 0) ds)
heard_of_data k party a rs number ds =
    let front = commanded 0 unl ++ commanded 0 (lad a) ++ numbered 0 ddl number in
    heard_by-append k party rs front (map (echoed 0) ds)
    ∙ ap (λ (bytes : List ℕ). bytes ++ heard_by k party (roles_told rs a number) (map (echoed 0) ds)) (heard_by-no_data k party rs front (no_data_before a number))

-- a send to a numbered device is heard by it, byte for byte
pub heard_by-send : (k a : ℕ) (rs : List Roles) (number : Option ℕ) (ds : List Echo) → are_numbered 1 rs ≡ true → is_address a ≡ true → 1 ≤ a → a ≤ length rs → is_number number ≡ true → list_all is_echo ds ≡ true →
    heard_by k a rs (entries_of 0 (Send a number ds)) ≡ bytes_of ds
heard_by-send k a rs number ds numbers low some here e echoes =
    heard_of_data k a a rs number ds ∙ heard_by-data k a (roles_told rs a number) ds (no_own a some) (told_listens rs a number numbers low some here e) echoes

-- ---- the others

-- unlisten that came back, place by place
unl_at : (f : Frame) (party i : ℕ) (rs : List Roles) → (get_or (roles_along 0 (outcome.Back f) party msg.Unl rs) i no_roles).listens ≡ false
unl_at f party i [] = refl
unl_at f party zero (r ∷ rs) = refl
unl_at f party (suc i) (r ∷ rs) = unl_at f (suc party) i rs

silent_by : (a : ℕ) (r : Roles) → is_own r.address a ≡ false → r.listens ≡ false → (roles_by (msg.Lad a) r).listens ≡ false
silent_by a r other silent = rw other silent

-- another device than the one told does not listen then
pub others_do_not : (rs : List Roles) (a party : ℕ) (number : Option ℕ) → are_numbered 1 rs ≡ true → is_address a ≡ true → 1 ≤ party → party ≤ length rs → (party ≡ a → ⊥) → is_number number ≡ true
    → (roles_at party (roles_told rs a number)).listens ≡ false
others_do_not rs a party number numbers low some here other e =
    let cleared = roles_after_entry rs (returned 0 unl) in
    let place : 1 + (party - 1) ≡ party = omega (arith, some) in
    let within : party - 1 < length cleared = omega (arith, some, here, length-roles_after rs (returned 0 unl ∷ [])) in
    let own = ap (is_own (roles_at party cleared).address) (sym place) ∙ numbered_at 1 (party - 1) cleared (are_numbered-log rs (returned 0 unl ∷ []) refl numbers) within in
    ap (λ (ss : List Roles). (roles_at party ss).listens) (roles_told_are rs a number e)
    ∙ ap (λ (m : Message). (roles_at party (roles_along 0 (outcome.Back (lad a)) 1 m cleared)).listens) (message_of-lad a low)
    ∙ ap (λ (r : Roles). r.listens) (lad_at (lad a) 1 a (party - 1) cleared within)
    ∙ silent_by a (roles_at party cleared) (not_own a party (roles_at party cleared) other own) (unl_at unl 1 (party - 1) rs)

-- one that does not listen hears nothing of the host's data
unheard_data : (k party : ℕ) (rs : List Roles) (ds : List Echo) → (roles_at party rs).listens ≡ false → list_all is_echo ds ≡ true → heard_by k party rs (map (echoed 0) ds) ≡ []
unheard_data k party rs [] silent e = refl
unheard_data k party rs (d ∷ ds) silent e =
    let parts = and_parts (is_echo d) (list_all is_echo ds) e in
    let stay = kept_entry rs (echoed 0 d) (ap not (data_keeps d.sent.class d.sent.byte (and_parts (is_data d.sent) (same_but_service d.sent d.back) parts.0).0)) in
    ap (λ listens. (if listens && brings_byte k party (echoed 0 d) then byte_of d.sent ∷ [] else []) ++ heard_by k party (roles_after_entry rs (echoed 0 d)) (map (echoed 0) ds)) silent
    ∙ ap (λ (ss : List Roles). heard_by k party ss (map (echoed 0) ds)) stay ∙ unheard_data k party rs ds silent parts.1

-- and no other hears anything of it
pub heard_by-others : (k a party : ℕ) (rs : List Roles) (number : Option ℕ) (ds : List Echo) → are_numbered 1 rs ≡ true → is_address a ≡ true → 1 ≤ party → party ≤ length rs → (party ≡ a → ⊥)
    → is_number number ≡ true → list_all is_echo ds ≡ true → heard_by k party rs (entries_of 0 (Send a number ds)) ≡ []
heard_by-others k a party rs number ds numbers low some here other e echoes =
    heard_of_data k party a rs number ds ∙ unheard_data k party (roles_told rs a number) ds (others_do_not rs a party number numbers low some here other e) echoes
