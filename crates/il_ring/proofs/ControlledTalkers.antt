-- Laws of a ring that some party leads: what a frame of any source does to the roles, and who talks then.
use Rattle.std.proofs.Common.{◌≡◌, ◌≤◌, ◌<◌, inl, inr, ◌∙◌, ◌+◌, ◌++◌, ◌==◌, ◌&&◌, ◌||◌, ℕ, suc, Bool, true, false, List, [], ◌∷◌, Option, Some, None, if◌then◌else◌, length, refl, sym, ap, ap₂, arith}
use Rattle.std.specs.List.{list_all}
use Rattle.std.proofs.lemmas.Bool.{and_parts, and_from, or_from, or_left, or_right, cases_eq, eq-eqb, ne_eqb}
use Rattle.il_frames.specs.declared.frame.Frame.{Frame}
use Rattle.il_frames.specs.declared.entry.Entry.{Entry}
use Rattle.il_frames.specs.declared.entry.Outcome.{Outcome}
use Rattle.il_frames.specs.declared.entry.Outcome.TheVariants as outcome
use Rattle.il_frames.specs.declared.message.Message.{Message}
use Rattle.il_frames.specs.declared.message.Message.TheVariants as msg
use Rattle.il_frames.specs.Messages.{message_of}
use Rattle.il_frames.specs.NamedFrames.{entry, ifc}
use Rattle.il_device.specs.declared.roles.Roles.{Roles}
use Rattle.il_device.specs.Roles.{is_own, takes_address}
use Rattle.loop_model.specs.Reach.{is_reached}
use Rattle.loop_model.specs.Roles.{are_numbered, is_aau, is_at_most_one, passed_on, roles_along, roles_by, talkers, talkers_from}
use Rattle.loop_model.specs.Exchanges.{is_talk_address}
use Rattle.loop_model.specs.Leading.{OneTalkerLed, controller_after, controller_after_entry, handed_or_back, has_one_talker_led, is_in_turn_led, is_of_controller, roles_led, roles_led_entry}
use Rattle.loop_model.proofs.LeadingLaws.{has_one_talker_led-append}
use Rattle.loop_model.proofs.RoleLaws.{is_quiet, no_talk_if, no_talk_on, quiet_by, quiet_if}
use Rattle.loop_model.proofs.RoleSteps.{changes_roles, no_head, not_own}

-- ---- messages of any source along the ring

-- a choice between equals
pub same_if : {A : Type 0} (b : Bool) (x y : A) → x ≡ y → (if b then x else y) ≡ y
same_if true x y e = e
same_if false x y e = refl

-- if one of two does not hold, the other does
or_other : (a b : Bool) → a ≡ false → (a || b) ≡ true → b ≡ true
or_other true b off either = cc
or_other false b off either = either

-- and what follows from the other holds in its place
or_on : (a b c : Bool) → (a || b) ≡ true → (b ≡ true → c ≡ true) → (a || c) ≡ true
or_on true b c either on = refl
or_on false b c either on = on either

-- one that changes no role leaves them all
unchanged_by : (m : Message) (r : Roles) → changes_roles m ≡ false → (roles_by m r ≡ r) × (passed_on m r ≡ m)
unchanged_by msg.Ifc r e = cc
unchanged_by msg.Aau r e = cc
unchanged_by (msg.Aad a) r e = cc
unchanged_by (msg.Tad a) r e = cc
unchanged_by (msg.Lad a) r e = cc
unchanged_by msg.Unl r e = cc
unchanged_by msg.Unt r e = cc
unchanged_by m r e = (refl, refl)

-- and so it does all along the ring
unchanged_along : (s : ℕ) (o : Outcome) (party : ℕ) (m : Message) (rs : List Roles) → changes_roles m ≡ false → roles_along s o party m rs ≡ rs
unchanged_along s o party m [] e = refl
unchanged_along s o party m (r ∷ rs) e =
    let kept = unchanged_by m r e in
    let here = same_if (is_reached s o party) (roles_by m r) r kept.0 in
    let passed = same_if (is_reached s o party) (passed_on m r) m kept.1 in
    ap₂ (λ x xs. x ∷ xs) here (ap (λ n. roles_along s o (suc party) n rs) passed ∙ unchanged_along s o (suc party) m rs e)

-- no message changes how many devices there are
pub length_along : (s : ℕ) (o : Outcome) (party : ℕ) (m : Message) (rs : List Roles) → length (roles_along s o party m rs) ≡ length rs
length_along s o party m [] = refl
length_along s o party m (r ∷ rs) = ap suc (length_along s o (suc party) _ rs)

-- an address that a choice leaves
address_if : (b : Bool) (r s : Roles) → r.address ≡ s.address → (if b then r else s).address ≡ s.address
address_if true r s e = e
address_if false r s e = refl

-- a device that has an address takes no other
not_taken : (o : Option ℕ) (party a : ℕ) → is_own o party ≡ true → takes_address o a ≡ false
not_taken None party a own = cc
not_taken (Some b) party a own = refl

-- a device that has an address keeps it, but at AAU
address_kept : (m : Message) (party : ℕ) (r : Roles) → is_aau m ≡ false → is_own r.address party ≡ true → ((roles_by m r).address ≡ r.address) × (passed_on m r ≡ m)
address_kept msg.Ifc party r e own = (refl, refl)
address_kept msg.Aau party r e own = cc
address_kept (msg.Aad a) party r e own =
    let full = not_taken r.address party a own in
    (rw full refl, rw full refl)
address_kept (msg.Tad a) party r e own = (by_own (is_own r.address a), refl)
  where
    by_own : (b : Bool) → (if b then record r { talks = true; listens = false } else record r { talks = false }).address ≡ r.address
    by_own true = refl
    by_own false = refl
address_kept msg.Unt party r e own = (refl, refl)
address_kept (msg.Lad a) party r e own = (address_if (is_own r.address a) (record r { talks = false; listens = true }) r refl, refl)
address_kept msg.Unl party r e own = (refl, refl)
address_kept m party r e own = (refl, refl)

-- numbered devices stay numbered, but at AAU
pub numbered_along : (s : ℕ) (o : Outcome) (party : ℕ) (m : Message) (rs : List Roles) → is_aau m ≡ false → are_numbered party rs ≡ true → are_numbered party (roles_along s o party m rs) ≡ true
numbered_along s o party m [] e numbers = refl
numbered_along s o party m (r ∷ rs) e numbers =
    let own = and_parts (is_own r.address party) (are_numbered (suc party) rs) numbers in
    let kept = address_kept m party r e own.0 in
    let here = address_if (is_reached s o party) (roles_by m r) r kept.0 in
    let on = same_if (is_reached s o party) (passed_on m r) m kept.1 in
    and_from _ _ (ap (λ x. is_own x party) here ∙ own.0)
    (ap (λ n. are_numbered (suc party) (roles_along s o (suc party) n rs)) on ∙ numbered_along s o (suc party) m rs e own.1)

-- ---- none talks but one

-- of these, none talks but possibly party q
abbrev pub silent_but : ℕ → ℕ → List Roles → Bool
silent_but q party [] = true
silent_but q party (r ∷ rs) = ((party == q) || is_quiet r) && silent_but q (suc party) rs

-- if all are quiet, none talks but possibly any one
pub all_silent : (q party : ℕ) (rs : List Roles) → list_all is_quiet rs ≡ true → silent_but q party rs ≡ true
all_silent q party [] quiet = refl
all_silent q party (r ∷ rs) quiet =
    let parts = and_parts (is_quiet r) (list_all is_quiet rs) quiet in
    and_from ((party == q) || is_quiet r) _ (or_right (party == q) (is_quiet r) parts.0) (all_silent q (suc party) rs parts.1)

-- none talks past the one that may
none_past : (q party : ℕ) (rs : List Roles) → q < party → silent_but q party rs ≡ true → talkers_from party rs ≡ []
none_past q party [] past but = refl
none_past q party (r ∷ rs) past but =
    let parts = and_parts ((party == q) || is_quiet r) (silent_but q (suc party) rs) but in
    no_head party r.talks _ [] (or_other (party == q) (is_quiet r) (ne_eqb party q (λ e. omega (arith, e, past))) parts.0) (none_past q (suc party) rs (omega (arith, past)) parts.1)

-- one party, or none
alone : (party : ℕ) (b : Bool) (ps : List ℕ) → ps ≡ [] → is_at_most_one ((if b then party ∷ [] else []) ++ ps) ≡ true
alone party true ps e = rw e refl
alone party false ps e = rw e refl

-- then at most one talks
pub few_but : (q party : ℕ) (rs : List Roles) → silent_but q party rs ≡ true → is_at_most_one (talkers_from party rs) ≡ true
few_but q party [] but = refl
few_but q party (r ∷ rs) but =
    let parts = and_parts ((party == q) || is_quiet r) (silent_but q (suc party) rs) but in
    elim (cases_eq party q) [
      | inl here ↦ alone party r.talks _ (none_past q (suc party) rs (omega (arith, here)) parts.1)
      | inr other ↦
          ap is_at_most_one (no_head party r.talks (talkers_from (suc party) rs) _ (or_other (party == q) (is_quiet r) (ne_eqb party q other) parts.0) refl)
          ∙ few_but q (suc party) rs parts.1
    ]

-- a message that is no talk address makes nobody talk
pub silent_along : (q s : ℕ) (o : Outcome) (party : ℕ) (m : Message) (rs : List Roles) → is_talk_address m ≡ false → silent_but q party rs ≡ true → silent_but q party (roles_along s o party m rs) ≡ true
silent_along q s o party m [] e but = refl
silent_along q s o party m (r ∷ rs) e but =
    let parts = and_parts ((party == q) || is_quiet r) (silent_but q (suc party) rs) but in
    and_from _ _ (or_on (party == q) (is_quiet r) _ parts.0 (λ quiet. quiet_if (is_reached s o party) (roles_by m r) r (quiet_by m r e quiet) quiet))
    (silent_along q s o (suc party) _ rs (no_talk_if (is_reached s o party) _ m (no_talk_on m r e) e) parts.1)

-- UNT and IFC that came back end all talking
pub untalked : (s : ℕ) (f : Frame) (party : ℕ) (rs : List Roles) → list_all is_quiet (roles_along s (outcome.Back f) party msg.Unt rs) ≡ true
untalked s f party [] = refl
untalked s f party (r ∷ rs) = untalked s f (suc party) rs

-- so does IFC
pub cleared : (s : ℕ) (f : Frame) (party : ℕ) (rs : List Roles) → list_all is_quiet (roles_along s (outcome.Back f) party msg.Ifc rs) ≡ true
cleared s f party [] = refl
cleared s f party (r ∷ rs) = cleared s f (suc party) rs

-- ---- talk addresses

-- a device with another address does not talk after TAD a
silenced : (a : ℕ) (r : Roles) → is_own r.address a ≡ false → is_quiet (roles_by (msg.Tad a) r) ≡ true
silenced a r other = rw other refl

-- nor if it was quiet before, reached or not
turned : (a : ℕ) (b : Bool) (r : Roles) → is_own r.address a ≡ false → (b ≡ false → is_quiet r ≡ true) → is_quiet (if b then roles_by (msg.Tad a) r else r) ≡ true
turned a true r other quiet = silenced a r other
turned a false r other quiet = quiet refl

-- if the only one that may talk is reached, the one that TAD does not reach is silent
unreached : (a q s : ℕ) (o : Outcome) (party : ℕ) (quiet : Bool) → ((q == a) || is_reached s o q) ≡ true → (party ≡ a → ⊥) → ((party == q) || quiet) ≡ true → is_reached s o party ≡ false → quiet ≡ true
unreached a q s o party quiet to other but missed = elim (cases_eq party q) [
  | inl same ↦ let none = or_from (q == a) (is_reached s o q) (ne_eqb q a (λ e. other (same ∙ e))) (ap (is_reached s o) (sym same) ∙ missed) in cc
  | inr apart ↦ or_other (party == q) quiet (ne_eqb party q apart) but
]

-- after TAD a that reached the one that talked, none talks but possibly party a
pub told_along : (a q s : ℕ) (o : Outcome) (party : ℕ) (rs : List Roles) → ((q == a) || is_reached s o q) ≡ true → are_numbered party rs ≡ true → silent_but q party rs ≡ true
    → silent_but a party (roles_along s o party (msg.Tad a) rs) ≡ true
told_along a q s o party [] to numbers but = refl
told_along a q s o party (r ∷ rs) to numbers but =
    let own = and_parts (is_own r.address party) (are_numbered (suc party) rs) numbers in
    let parts = and_parts ((party == q) || is_quiet r) (silent_but q (suc party) rs) but in
    and_from ((party == a) || is_quiet (if is_reached s o party then roles_by (msg.Tad a) r else r)) _
    (elim (cases_eq party a) [
      | inl here ↦ or_left (party == a) _ (eq-eqb party a here)
      | inr other ↦ or_right (party == a) _ (turned a (is_reached s o party) r (not_own a party r other own.0) (unreached a q s o party (is_quiet r) to other parts.0))
    ])
    (ap (λ n. silent_but a (suc party) (roles_along s o (suc party) n rs)) (same_if (is_reached s o party) (msg.Tad a) (msg.Tad a) refl)
    ∙ told_along a q s o (suc party) rs to own.1 parts.1)

-- after TAD a that came back none past party a talks
none_told : (s : ℕ) (f : Frame) (party a : ℕ) (rs : List Roles) → a < party → are_numbered party rs ≡ true → talkers_from party (roles_along s (outcome.Back f) party (msg.Tad a) rs) ≡ []
none_told s f party a [] past numbers = refl
none_told s f party a (r ∷ rs) past numbers =
    let own = and_parts (is_own r.address party) (are_numbered (suc party) rs) numbers in
    no_head party _ _ [] (silenced a r (not_own a party r (λ e. omega (arith, e, past)) own.0)) (none_told s f (suc party) a rs (omega (arith, past)) own.1)

-- the device with that address talks
talks_told : (own : Bool) (r : Roles) → own ≡ true → (if own then record r { talks = true; listens = false } else record r { talks = false }).talks ≡ true
talks_told true r e = refl
talks_told false r e = cc

-- and if none follows it is alone
head_alone : (party : ℕ) (b : Bool) (ps : List ℕ) → b ≡ true → ps ≡ [] → ((if b then party ∷ [] else []) ++ ps) ≡ party ∷ []
head_alone party true ps e f = rw f refl
head_alone party false ps e f = cc

-- party a talks alone
pub one_told : (s : ℕ) (f : Frame) (party a : ℕ) (rs : List Roles) → are_numbered party rs ≡ true → party ≤ a → a < party + length rs → talkers_from party (roles_along s (outcome.Back f) party (msg.Tad a) rs) ≡ a ∷ []
one_told s f party a [] numbers low high = absurd (omega (arith, low, high))
one_told s f party a (r ∷ rs) numbers low high =
    let own = and_parts (is_own r.address party) (are_numbered (suc party) rs) numbers in
    elim (cases_eq party a) [
      | inl here ↦
          head_alone party _ _ (talks_told (is_own r.address a) r (ap (is_own r.address) (sym here) ∙ own.0)) (none_told s f (suc party) a rs (omega (arith, here)) own.1)
          ∙ ap (λ p. p ∷ []) here
      | inr other ↦
          no_head party _ _ (a ∷ []) (silenced a r (not_own a party r other own.0))
          (one_told s f (suc party) a rs own.1 (omega (arith, low, other)) (omega (arith, high)))
    ]

-- ---- a ring that party c leads

-- a choice by what holds
chosen : {A : Type 0} (b : Bool) (x y : A) → b ≡ true → (if b then x else y) ≡ x
chosen true x y e = refl
chosen false x y e = cc

-- a frame of party c changes the roles as it goes round
pub own_entry : (c : ℕ) (rs : List Roles) (f : Frame) (o : Outcome) → roles_led_entry c rs (entry c f o) ≡ roles_along c o 1 (message_of f) rs
own_entry c rs f o = chosen (is_of_controller c (entry c f o)) _ rs (or_left (c == c) _ (eq-eqb c c refl))

-- an IFC of the host does so too
pub ifc_entry : (c : ℕ) (rs : List Roles) (o : Outcome) → roles_led_entry c rs (entry 0 ifc o) ≡ roles_along 0 o 1 msg.Ifc rs
ifc_entry c rs o = chosen (is_of_controller c (entry 0 ifc o)) _ rs (or_right (0 == c) true refl)

-- a frame that changes no role leaves them all, whoever sent it
pub kept_entry : (c : ℕ) (rs : List Roles) (e : Entry) → changes_roles (message_of e.frame) ≡ false → roles_led_entry c rs e ≡ rs
kept_entry c rs e keeps = same_if (is_of_controller c e) _ rs (unchanged_along e.source e.outcome 1 (message_of e.frame) rs keeps)

-- neither IFC, TCT nor AAU
abbrev pub is_plain : Message → Bool
is_plain msg.Ifc = false
is_plain msg.Tct = false
is_plain msg.Aau = false
is_plain m = true

-- the same of an entry
abbrev pub is_plain_entry : Entry → Bool
is_plain_entry e = is_plain (message_of e.frame)

-- a plain message of the host hands control to nobody and takes it from nobody
plain_keeps_control : (c : ℕ) (o : Outcome) (m : Message) → is_plain m ≡ true → handed_or_back c o m ≡ c
plain_keeps_control c o msg.Ifc plain = cc
plain_keeps_control c o msg.Tct plain = cc
plain_keeps_control c (outcome.Back f) m plain = by m plain
  where
    by : (m : Message) → is_plain m ≡ true → handed_or_back c (outcome.Back f) m ≡ c
    by msg.Ifc plain = cc
    by m plain = refl
plain_keeps_control c (outcome.Taken q) m plain = refl
plain_keeps_control c (outcome.Lost q) m plain = refl

-- and leaves addresses
pub plain_keeps_addresses : (m : Message) → is_plain m ≡ true → is_aau m ≡ false
plain_keeps_addresses msg.Aau plain = cc
plain_keeps_addresses m plain = refl

-- who controls goes on to do so
stays : (c : ℕ) (e : Entry) → is_plain_entry e ≡ true → controller_after_entry c e ≡ c
stays c e plain = same_if (e.source == 0) _ c (plain_keeps_control c e.outcome (message_of e.frame) plain)

-- numbered devices stay numbered
numbered_entry : (c : ℕ) (rs : List Roles) (e : Entry) → is_plain_entry e ≡ true → are_numbered 1 rs ≡ true → are_numbered 1 (roles_led_entry c rs e) ≡ true
numbered_entry c rs e plain numbers = by (is_of_controller c e)
  where
    by : (b : Bool) → are_numbered 1 (if b then roles_along e.source e.outcome 1 (message_of e.frame) rs else rs) ≡ true
    by true = numbered_along e.source e.outcome 1 (message_of e.frame) rs (plain_keeps_addresses (message_of e.frame) plain) numbers
    by false = numbers

-- plain logs keep control and numbers
pub plain_log : (c : ℕ) (rs : List Roles) (log : List Entry) → list_all is_plain_entry log ≡ true
    → (controller_after c log ≡ c) × (are_numbered 1 rs ≡ true → are_numbered 1 (roles_led c rs log) ≡ true)
plain_log c rs [] plain = (refl, λ numbers. numbers)
plain_log c rs (e ∷ log) plain =
    let parts = and_parts (is_plain_entry e) (list_all is_plain_entry log) plain in
    let same = stays c e parts.0 in
    let rest = plain_log c (roles_led_entry c rs e) log parts.1 in (
      ap (λ c. controller_after c log) same ∙ rest.0,
      λ numbers. ap (λ d. are_numbered 1 (roles_led d (roles_led_entry c rs e) log)) same ∙ rest.1 (numbered_entry c rs e parts.0 numbers),
    )

-- one talker over an entry, and over the rest
pub one_step : (c : ℕ) (rs : List Roles) (e : Entry) (log : List Entry) → is_at_most_one (talkers rs) ≡ true → is_in_turn_led c (talkers rs) e ≡ true → is_plain_entry e ≡ true
    → OneTalkerLed c (roles_led_entry c rs e) log → OneTalkerLed c rs (e ∷ log)
one_step c rs e log few turn plain rest =
    and_from (is_at_most_one (talkers rs)) _ few
    (and_from (is_in_turn_led c (talkers rs) e) _ turn (ap (λ d. has_one_talker_led d (roles_led_entry c rs e) log) (stays c e plain) ∙ rest))

-- at most one talks at the end
pub few_after : (c : ℕ) (rs : List Roles) (log : List Entry) → OneTalkerLed c rs log → is_at_most_one (talkers (roles_led c rs log)) ≡ true
few_after c rs [] one = one
few_after c rs (e ∷ log) one =
    let parts = and_parts (is_at_most_one (talkers rs)) _ one in
    few_after (controller_after_entry c e) (roles_led_entry c rs e) log (and_parts (is_in_turn_led c (talkers rs) e) _ parts.1).1

-- one talker of two logs, one after the other
pub one_append : (c : ℕ) (rs : List Roles) (first second : List Entry) → OneTalkerLed c rs first → OneTalkerLed (controller_after c first) (roles_led c rs first) second → OneTalkerLed c rs (first ++ second)
one_append c rs first second one two = has_one_talker_led-append c rs first second ∙ and_from (has_one_talker_led c rs first) _ one two
