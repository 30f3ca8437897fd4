-- What the entries of a loop, as its second controller sees it, do with the roles on the loop itself.
use Rattle.std.proofs.Common.{◌≡◌, ◌≤◌, ◌<◌, ◌+◌, ◌++◌, ◌==◌, ◌&&◌, ◌||◌, ◌⊎◌, ℕ, zero, suc, Bool, true, false, nat_lt, nat_le, List, [], ◌∷◌, length, refl, sym, ap, ap₂, ◌∙◌, arith}
use Rattle.std.specs.Prelude.{if◌then◌else◌}
use Rattle.std.specs.List.{list_all}
use Rattle.std.proofs.lemmas.Bool.{and_parts, and_from, le-leb, leb-true, ne_eqb, eq-eqb, not-true}
use Rattle.std.proofs.lemmas.Bool.Decides.{nat_tests}
use Rattle.il_frames.specs.declared.frame.Frame.{Frame}
use Rattle.il_frames.specs.declared.entry.Entry.{Entry}
use Rattle.il_frames.specs.declared.entry.Outcome.{Outcome}
use Rattle.il_frames.specs.declared.entry.Outcome.TheVariants as outcome
use Rattle.il_frames.specs.declared.message.Message.{Message}
use Rattle.il_frames.specs.declared.message.Message.TheVariants as msg
use Rattle.il_frames.specs.Messages.{message_of}
use Rattle.il_frames.specs.NamedFrames.{entry, is_ifc}
use Rattle.il_device.specs.declared.roles.Roles.{Roles}
use Rattle.loop_model.specs.Reach.{is_reached}
use Rattle.loop_model.specs.Roles.{roles_by, passed_on, roles_along, roles_after_entry, roles_after}
use Rattle.loop_model.specs.Leading.{handed_or_back, controller_after_entry, controller_after, roles_led_entry, roles_led}
use Rattle.loop_model.proofs.TalkLaws.{length-roles_after}
use Rattle.il_ring.proofs.ControlledTalkers.{own_entry, same_if}
use Rattle.il_ring.specs.Turned.{turned, turned_outcome, turned_entry, turned_entries, ends_on, is_on, is_auto_address, gives_no_address, own_roles_entry, own_roles}

-- ---- entries of a ring

-- frames of its parties that came back, were taken by a party, or were lost before one
pub on_back : (n source : ℕ) (f g : Frame) → source ≤ n → is_on n (entry source f (outcome.Back g)) ≡ true
on_back n source f g within = and_from (nat_le source n) true (le-leb source n within) refl

pub on_taken : (n source q : ℕ) (f : Frame) → source ≤ n → q ≤ n → (1 ≤ source) ⊎ (1 ≤ q) → is_on n (entry source f (outcome.Taken q)) ≡ true
on_taken n source q f within there some = grind (arith, nat_tests)

pub on_lost : (n source q : ℕ) (f : Frame) → source ≤ n → q ≤ n → is_on n (entry source f (outcome.Lost q)) ≡ true
on_lost n source q f within there = grind (arith, nat_tests)

-- ---- who controls

-- if the host sends nothing the controller stays
pub stays_controlled : (k : ℕ) (e : Entry) → 1 ≤ e.source → controller_after_entry k e ≡ k
stays_controlled k e from = ap (λ b. if b then handed_or_back k e.outcome (message_of e.frame) else k) (ne_eqb e.source 0 (λ same. omega (arith, same, from)))

pub turned_some : (k p : ℕ) → 1 ≤ k → 1 ≤ turned k p
turned_some k zero some = some
turned_some k (suc p) some = omega arith

pub turned_controller : (k : ℕ) (es : List Entry) → 1 ≤ k → controller_after k (turned_entries k es) ≡ k
turned_controller k [] some = refl
turned_controller k (e ∷ es) some = ap (λ c. controller_after c (turned_entries k es)) (stays_controlled k (turned_entry k e) (turned_some k e.source some)) ∙ turned_controller k es some

-- ---- roles

-- a controller's message reaches that party itself
own_reached : (k : ℕ) (o : Outcome) → is_reached k o k ≡ true
own_reached k (outcome.Back f) = refl
own_reached k (outcome.Taken q) = ap (λ b. b || nat_le k q) (eq-eqb k k refl)
own_reached k (outcome.Lost q) = ap (λ b. b || (((k == 0) && (q == 0)) || nat_lt k q)) (eq-eqb k k refl)

-- and the devices before it as a message of the host in the smaller ring
reached_as : (n k p : ℕ) (o : Outcome) → k ≡ suc n → ends_on n 0 o ≡ true → 1 ≤ p → p ≤ n → is_reached k (turned_outcome k o) p ≡ is_reached 0 o p
reached_as n k p (outcome.Back f) size ends some within = refl
reached_as n k p (outcome.Taken zero) size ends some within = grind (arith, nat_tests)
reached_as n k p (outcome.Taken (suc q)) size ends some within = grind (arith, nat_tests)
reached_as n k p (outcome.Lost zero) size ends some within = grind (arith, nat_tests)
reached_as n k p (outcome.Lost (suc q)) size ends some within = grind (arith, nat_tests)

-- a message that gives no address goes on as it is
goes_same : (m : Message) (r : Roles) → is_auto_address m ≡ false → passed_on m r ≡ m
goes_same (msg.Aad a) r none = cc
goes_same m r none = refl

on_same : (b : Bool) (m : Message) (r : Roles) → is_auto_address m ≡ false → (if b then passed_on m r else m) ≡ m
on_same b m r none = same_if b (passed_on m r) m (goes_same m r none)

-- the last party, after those whose roles are these
at_last : (k j : ℕ) (o : Outcome) (m : Message) (r : Roles) → j ≡ k → roles_along k o j m (r ∷ []) ≡ roles_by m r ∷ []
at_last k j o m r here = ap (λ b. (if b then roles_by m r else r) ∷ []) (ap (is_reached k o) here ∙ own_reached k o)

-- the devices from party j on, and the last party after them
along_last : (k j : ℕ) (o own : Outcome) (m : Message) (rs : List Roles) (r : Roles) → is_auto_address m ≡ false → j + length rs ≡ k → ((p : ℕ) → j ≤ p → p < k → is_reached k o p ≡ is_reached 0 own p)
    → roles_along k o j m (rs ++ r ∷ []) ≡ roles_along 0 own j m rs ++ roles_by m r ∷ []
along_last k j o own m [] r none size same = at_last k j o m r (omega (arith, size))
along_last k j o own m (x ∷ rs) r none size same =
    let here = same j (omega arith) (omega (arith, size)) in
    let more = along_last k (suc j) o own m rs r none (omega (arith, size)) (λ p from less. same p (omega (arith, from)) less) in
    let first = ap (λ m. roles_along k o (suc j) m (rs ++ r ∷ [])) (on_same (is_reached k o j) m x none) in
    let second = ap (λ m. roles_along 0 own (suc j) m rs) (on_same (is_reached 0 own j) m x none) in
    ap₂ (λ b rest. (if b then roles_by m x else x) ∷ rest) here (first ∙ (more ∙ ap (λ l. l ++ roles_by m r ∷ []) (sym second)))

-- if none of the devices is reached they leave the message to the last party
unreached_last : (k j : ℕ) (o : Outcome) (m : Message) (rs : List Roles) (r : Roles) → j + length rs ≡ k → ((p : ℕ) → j ≤ p → p < k → is_reached k o p ≡ false)
    → roles_along k o j m (rs ++ r ∷ []) ≡ rs ++ roles_by m r ∷ []
unreached_last k j o m [] r size none = at_last k j o m r (omega (arith, size))
unreached_last k j o m (x ∷ rs) r size none =
    let here = none j (omega arith) (omega (arith, size)) in
    let more = unreached_last k (suc j) o m rs r (omega (arith, size)) (λ p from less. none p (omega (arith, from)) less) in
    ap (λ b. (if b then roles_by m x else x) ∷ roles_along k o (suc j) (if b then passed_on m x else m) (rs ++ r ∷ [])) here ∙ ap (λ l. x ∷ l) more

-- a device's frame changes no roles
pub controlled_device : (k p : ℕ) (rs : List Roles) (f : Frame) (o : Outcome) → 1 ≤ p → p < k → roles_led_entry k rs (entry p f o) ≡ rs
controlled_device k p rs f o from on =
    ap₂ (λ b c. if b || (c && is_ifc (message_of f)) then roles_along p o 1 (message_of f) rs else rs) (ne_eqb p k (λ same. omega (arith, same, on)))
    (ne_eqb p 0 (λ same. omega (arith, same, from)))

-- a message of the last party that is at the host, or was lost before it, changes the roles of that party alone
pub own_taken-roles : (k : ℕ) (rs : List Roles) (r : Roles) (f : Frame) → k ≡ suc (length rs)
    → roles_led_entry k (rs ++ r ∷ []) (entry k f (outcome.Taken 0)) ≡ rs ++ roles_by (message_of f) r ∷ []
own_taken-roles k rs r f size =
    own_entry k (rs ++ r ∷ []) f (outcome.Taken 0) ∙ unreached_last k 1 (outcome.Taken 0) (message_of f) rs r (omega (arith, size)) (λ p from less. grind (arith, nat_tests))

pub own_lost-roles : (k : ℕ) (rs : List Roles) (r : Roles) (f : Frame) → k ≡ suc (length rs)
    → roles_led_entry k (rs ++ r ∷ []) (entry k f (outcome.Lost 0)) ≡ rs ++ roles_by (message_of f) r ∷ []
own_lost-roles k rs r f size =
    own_entry k (rs ++ r ∷ []) f (outcome.Lost 0) ∙ unreached_last k 1 (outcome.Lost 0) (message_of f) rs r (omega (arith, size)) (λ p from less. grind (arith, nat_tests))

-- an entry does with the roles of the devices what it does in the smaller ring, and with those of the last party what it does with a host's own
roles_at : (k source : ℕ) (f : Frame) (o : Outcome) (rs : List Roles) (r : Roles) → k ≡ suc (length rs) → source ≤ length rs → ends_on (length rs) source o ≡ true
    → gives_no_address (entry source f o) ≡ true
    → roles_led_entry k (rs ++ r ∷ []) (entry (turned k source) f (turned_outcome k o)) ≡ roles_after_entry rs (entry source f o) ++ own_roles_entry r (entry source f o) ∷ []
roles_at k zero f o rs r size on ends none =
    own_entry k (rs ++ r ∷ []) f (turned_outcome k o)
    ∙ along_last k 1 (turned_outcome k o) o (message_of f) rs r (not-true (is_auto_address (message_of f)) none) (omega (arith, size))
    (λ p from less. reached_as (length rs) k p o size ends from (omega (arith, less, size)))
roles_at k (suc p) f o rs r size on ends none =
    let stay =
    ap (λ b. (if b then roles_along 0 o 1 (message_of f) rs else rs) ++ (if b then roles_by (message_of f) r else r) ∷ []) (ne_eqb (suc p) 0 (λ same. omega (arith, same))) in
    controlled_device k (suc p) (rs ++ r ∷ []) f (turned_outcome k o) (omega arith) (omega (arith, on, size)) ∙ sym stay

pub turned_entry-roles : (k : ℕ) (e : Entry) (rs : List Roles) (r : Roles) → k ≡ suc (length rs) → is_on (length rs) e ≡ true → gives_no_address e ≡ true
    → roles_led_entry k (rs ++ r ∷ []) (turned_entry k e) ≡ roles_after_entry rs e ++ own_roles_entry r e ∷ []
turned_entry-roles k e rs r size on none =
    let parts = and_parts (nat_le e.source (length rs)) (ends_on (length rs) e.source e.outcome) on in
    roles_at k e.source e.frame e.outcome rs r size (leb-true e.source (length rs) parts.0) parts.1 none

-- and so do many
pub turned_roles : (k : ℕ) (es : List Entry) (rs : List Roles) (r : Roles) → k ≡ suc (length rs) → list_all (is_on (length rs)) es ≡ true → list_all gives_no_address es ≡ true
    → roles_led k (rs ++ r ∷ []) (turned_entries k es) ≡ roles_after rs es ++ own_roles r es ∷ []
turned_roles k [] rs r size on none = refl
turned_roles k (e ∷ es) rs r size on none =
    let ons = and_parts (is_on (length rs) e) (list_all (is_on (length rs)) es) on in
    let nones = and_parts (gives_no_address e) (list_all gives_no_address es) none in
    let stays = stays_controlled k (turned_entry k e) (turned_some k e.source (omega (arith, size))) in
    let one = turned_entry-roles k e rs r size ons.0 nones.0 in
    let same = length-roles_after rs (e ∷ []) in
    ap₂ (λ c l. roles_led c l (turned_entries k es)) stays one
    ∙ turned_roles k es (roles_after_entry rs e) (own_roles_entry r e) (size ∙ ap suc (sym same)) (ap (λ n. list_all (is_on n) es) same ∙ ons.1) nones.1
