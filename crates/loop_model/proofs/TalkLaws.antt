-- Laws of numbered devices: each has its number as address, whatever comes but AAU, and the one that is
-- told to talk talks alone.
use Rattle.std.proofs.Common.{◌≡◌, ◌≤◌, ◌<◌, inl, inr, ◌∙◌, ◌+◌, ◌++◌, ◌==◌, ℕ, suc, Bool, true, false, not, List, [], ◌∷◌, Option, Some, None, length, refl, sym, ap, arith}
use Rattle.std.specs.Prelude.{if◌then◌else◌}
use Rattle.std.specs.List.{list_all}
use Rattle.std.proofs.lemmas.Bool.{and_parts, and_from, not-true, cases_eq, eq-eqb}
use Rattle.il_frames.specs.declared.message.Message.{Message}
use Rattle.il_frames.specs.declared.message.Message.TheVariants as msg
use Rattle.il_frames.specs.declared.entry.Entry.{Entry}
use Rattle.il_frames.specs.declared.entry.Outcome.{Outcome}
use Rattle.il_frames.specs.Messages.{message_of}
use Rattle.il_device.specs.declared.roles.Roles.{Roles}
use Rattle.il_device.specs.Roles.{is_own, takes_address}
use Rattle.loop_model.specs.Reach.{is_reached}
use Rattle.loop_model.specs.Roles.{roles_by, passed_on, roles_along, roles_after_entry, roles_after, talkers_from, talkers, are_numbered, is_aau}
use Rattle.loop_model.proofs.RoleLaws.{is_quiet, all_quiet}
use Rattle.loop_model.proofs.RoleSteps.{none_behind, no_head, quiet_other, tad_passes}

-- ---- the number of devices

length-along : (o : Outcome) (party : ℕ) (m : Message) (rs : List Roles) → length (roles_along 0 o party m rs) ≡ length rs
length-along o party m [] = refl
length-along o party m (r ∷ rs) = ap suc (length-along o (suc party) _ rs)

length_if : (b : Bool) (rs ss : List Roles) → length rs ≡ length ss → length (if b then rs else ss) ≡ length ss
length_if true rs ss e = e
length_if false rs ss e = refl

-- no log changes how many devices there are
pub length-roles_after : (rs : List Roles) (log : List Entry) → length (roles_after rs log) ≡ length rs
length-roles_after rs [] = refl
length-roles_after rs (e ∷ log) =
    length-roles_after (roles_after_entry rs e) log ∙ length_if (e.source == 0) _ rs (length-along e.outcome 1 (message_of e.frame) rs)

-- ---- addresses stay

-- the entry's frame does not
abbrev pub gives_no_aau : Entry → Bool
gives_no_aau e = not (is_aau (message_of e.frame))

not_taken : (o : Option ℕ) (party a : ℕ) → is_own o party ≡ true → takes_address o a ≡ false
not_taken None party a own = cc
not_taken (Some b) party a own = refl

address_if : (b : Bool) (r s : Roles) → r.address ≡ s.address → (if b then r else s).address ≡ s.address
address_if true r s e = e
address_if false r s e = refl

-- a device that has an address keeps it, and passes each message as it is
address_kept : (m : Message) (party : ℕ) (r : Roles) → is_aau m ≡ false → is_own r.address party ≡ true →
    ((roles_by m r).address ≡ r.address) × (passed_on m r ≡ m)
address_kept msg.Ifc party r e own = (refl, refl)
address_kept msg.Aau party r e own = cc
address_kept (msg.Aad a) party r e own =
    let full = not_taken r.address party a own in
    (rw full refl, rw full refl)
address_kept (msg.Tad a) party r e own = (by_own (is_own r.address a), refl)
  where
    by_own : (b : Bool) → (if b then record r { talks = true; listens = false } else record r { talks = false }).address ≡ r.address
    by_own true = refl
    by_own false = refl
address_kept msg.Unt party r e own = (refl, refl)
address_kept (msg.Lad a) party r e own = (address_if (is_own r.address a) (record r { talks = false; listens = true }) r refl, refl)
address_kept msg.Unl party r e own = (refl, refl)
address_kept m party r e own = (refl, refl)

same_if : {A : Type 0} (b : Bool) (x y : A) → x ≡ y → (if b then x else y) ≡ y
same_if true x y e = e
same_if false x y e = refl

numbered_along : (o : Outcome) (party : ℕ) (m : Message) (rs : List Roles) → is_aau m ≡ false → are_numbered party rs ≡ true →
    are_numbered party (roles_along 0 o party m rs) ≡ true
numbered_along o party m [] e numbers = refl
numbered_along o party m (r ∷ rs) e numbers =
    let own = and_parts (is_own r.address party) (are_numbered (suc party) rs) numbers in
    let kept = address_kept m party r e own.0 in
    let here = address_if (is_reached 0 o party) (roles_by m r) r kept.0 in
    let on = same_if (is_reached 0 o party) (passed_on m r) m kept.1 in
    and_from _ _ (ap (λ (x : Option ℕ). is_own x party) here ∙ own.0)
    (ap (λ (n : Message). are_numbered (suc party) (roles_along 0 o (suc party) n rs)) on ∙ numbered_along o (suc party) m rs e own.1)

numbered_if : (b : Bool) (rs ss : List Roles) → are_numbered 1 rs ≡ true → are_numbered 1 ss ≡ true → are_numbered 1 (if b then rs else ss) ≡ true
numbered_if true rs ss a c = a
numbered_if false rs ss a c = c

-- an entry without AAU leaves numbered devices numbered
pub are_numbered-entry : (rs : List Roles) (e : Entry) → gives_no_aau e ≡ true → are_numbered 1 rs ≡ true → are_numbered 1 (roles_after_entry rs e) ≡ true
are_numbered-entry rs e stays numbers =
    numbered_if (e.source == 0) _ rs (numbered_along e.outcome 1 (message_of e.frame) rs (not-true _ stays) numbers) numbers

-- and so does each log without it
pub are_numbered-log : (rs : List Roles) (log : List Entry) → list_all gives_no_aau log ≡ true → are_numbered 1 rs ≡ true → are_numbered 1 (roles_after rs log) ≡ true
are_numbered-log rs [] stay numbers = numbers
are_numbered-log rs (e ∷ log) stay numbers =
    let parts = and_parts (gives_no_aau e) (list_all gives_no_aau log) stay in
    are_numbered-log (roles_after_entry rs e) log parts.1 (are_numbered-entry rs e parts.0 numbers)

-- ---- the talker

talks_here : (reached own : Bool) (r : Roles) → reached ≡ true → own ≡ true →
    (if reached then (if own then record r { talks = true; listens = false } else record r { talks = false }) else r).talks ≡ true
talks_here true true r p q = refl
talks_here true false r p q = cc
talks_here false own r p q = cc

head_alone : (party : ℕ) (b : Bool) (ps : List ℕ) → b ≡ true → ps ≡ [] → ((if b then party ∷ [] else []) ++ ps) ≡ party ∷ []
head_alone party true ps e f = rw f refl
head_alone party false ps e f = cc

talk_along : (o : Outcome) (party a : ℕ) (rs : List Roles) → are_numbered party rs ≡ true → list_all is_quiet rs ≡ true →
    party ≤ a → a < party + length rs → is_reached 0 o a ≡ true → talkers_from party (roles_along 0 o party (msg.Tad a) rs) ≡ a ∷ []
talk_along o party a [] numbers quiet low high reached = absurd (omega (arith, low, high))
talk_along o party a (r ∷ rs) numbers quiet low high reached =
    let own = and_parts (is_own r.address party) (are_numbered (suc party) rs) numbers in
    let silent = and_parts (is_quiet r) (list_all is_quiet rs) quiet in
    elim (cases_eq party a) [
      | inl here ↦
          head_alone party _ _ (talks_here (is_reached 0 o party) (is_own r.address a) r (ap (is_reached 0 o) here ∙ reached) (ap (is_own r.address) (sym here) ∙ own.0))
          (tad_passes o party (suc party) a rs ∙ none_behind o (suc party) a rs (omega (arith, here)) own.1 silent.1)
          ∙ ap (λ (p : ℕ). p ∷ []) here
      | inr other ↦
          no_head party _ _ (a ∷ []) (quiet_other o party a r other own.0 silent.0)
          (tad_passes o party (suc party) a rs ∙ talk_along o (suc party) a rs own.1 silent.1 (omega (arith, low, other)) (omega (arith, high)) reached)
    ]

-- after a talk address that reached its device, where each device has its number as address and none
-- talked, that device alone talks
pub talkers-tad : (rs : List Roles) (a : ℕ) (e : Entry) → are_numbered 1 rs ≡ true → talkers rs ≡ [] → e.source ≡ 0 →
    message_of e.frame ≡ msg.Tad a → 1 ≤ a → a ≤ length rs → is_reached 0 e.outcome a ≡ true → talkers (roles_after_entry rs e) ≡ a ∷ []
talkers-tad rs a e numbers silent host tad low high reached =
    ap talkers (chosen (e.source == 0) _ rs (eq-eqb e.source 0 host))
    ∙ ap (λ (m : Message). talkers (roles_along 0 e.outcome 1 m rs)) tad
    ∙ talk_along e.outcome 1 a rs numbers (all_quiet 1 rs silent) low (omega (arith, high)) reached
  where
    chosen : (b : Bool) (x y : List Roles) → b ≡ true → (if b then x else y) ≡ x
    chosen true x y p = refl
    chosen false x y p = cc
