-- What entries do to the roles if a second controller controls, and whose commands they are.
use Rattle.std.proofs.Common.{◌≡◌, ◌≤◌, ◌<◌, ◌++◌, ◌==◌, ◌||◌, ℕ, zero, suc, Bool, true, false, List, [], ◌∷◌, Option, Some, None, length, refl, sym, ap, ap₂, ◌∙◌, arith, eqb-true}
use Rattle.std.specs.Prelude.{if◌then◌else◌}
use Rattle.std.specs.List.{list_all}
use Rattle.std.proofs.lemmas.Bool.{and_parts, and_from, ne_eqb, eq-eqb, or_right}
use Rattle.il_frames.specs.declared.frame.Frame.{Frame}
use Rattle.il_frames.specs.declared.message.Message.{Message}
use Rattle.il_frames.specs.declared.entry.Entry.{Entry}
use Rattle.il_frames.specs.declared.entry.Outcome.{Outcome}
use Rattle.il_frames.specs.declared.entry.Outcome.TheVariants as outcome
use Rattle.il_frames.specs.Messages.{message_of}
use Rattle.il_frames.specs.NamedFrames.{entry}
use Rattle.il_device.specs.declared.roles.Roles.{Roles}
use Rattle.il_device.specs.State.{DeviceState}
use Rattle.loop_model.specs.Roles.{is_spoken, roles_along, roles_by}
use Rattle.loop_model.specs.Leading.{are_commands_led, controller_after, controller_after_entry, is_of_controller, is_taking_back, roles_led, roles_led_entry}
use Rattle.loop_model.proofs.LeadingLaws.{are_commands_led-append, controller_after-append, roles_led-append}
use Rattle.il_ring.specs.declared.flight.Flight.{Flight}
use Rattle.il_ring.specs.Flights.{ended_at}
use Rattle.il_ring.specs.Lending.{entry_of_kept}
use Rattle.il_ring.specs.Rings.{roles_of}
use Rattle.il_ring.specs.Turned.{turned, turned_entries, turned_entry}
use Rattle.std.proofs.lemmas.List.{length-map}
use Rattle.il_ring.proofs.ControlledTalkers.{length_along}
use Rattle.il_ring.proofs.TurnedRoles.{controlled_device, own_lost-roles, own_taken-roles, stays_controlled, turned_some}

-- ---- lists

-- a list that is not empty has a last one
pub record HasLast {A : Type 0} (l : List A) : Type 0 where
  pub front : List A
  pub last : A
  pub is : l ≡ front ++ last ∷ []

pub has_last : {A : Type 0} (x : A) (xs : List A) → HasLast (x ∷ xs)
has_last x [] = record { front = []; last = x; is = refl }
has_last x (y ∷ ys) =
    let more = has_last y ys in
    record { front = x ∷ more.front; last = more.last; is = ap (λ l. x ∷ l) more.is }

-- one that has this many elements and one more
pub record Split {A : Type 0} (n : ℕ) (l : List A) : Type 0 where
  pub front : List A
  pub last : A
  pub is : l ≡ front ++ last ∷ []
  pub many : length front ≡ n

pub split_last : {A : Type 0} (n : ℕ) (l : List A) → length l ≡ suc n → Split n l
split_last n [] size = cc
split_last zero (x ∷ []) size = record { front = []; last = x; is = refl; many = refl }
split_last zero (x ∷ y ∷ l) size = let clash : ⊥ = omega (arith, size) in absurd clash
split_last (suc n) (x ∷ []) size = let clash : ⊥ = omega (arith, size) in absurd clash
split_last (suc n) (x ∷ y ∷ l) size =
    let more = split_last n (y ∷ l) (omega (arith, size)) in
    record { front = x ∷ more.front; last = more.last; is = ap (λ l. x ∷ l) more.is; many = ap suc more.many }

pub head_or : {A : Type 0} → A → List A → A
head_or a [] = a
head_or a (x ∷ xs) = x

pub tail_of : {A : Type 0} → List A → List A
tail_of [] = []
tail_of (x ∷ xs) = xs

-- both parts are the same
pub same_parts : {A : Type 0} (xs ys : List A) (a b : A) → length xs ≡ length ys → xs ++ a ∷ [] ≡ ys ++ b ∷ [] → (xs ≡ ys) × (a ≡ b)
unfolding head_or tail_of
same_parts [] [] a b many same = (refl, ap (head_or a) same)
same_parts [] (y ∷ ys) a b many same = let clash : ⊥ = omega (arith, many) in absurd clash
same_parts (x ∷ xs) [] a b many same = let clash : ⊥ = omega (arith, many) in absurd clash
same_parts (x ∷ xs) (y ∷ ys) a b many same =
    let more = same_parts xs ys a b (omega (arith, many)) (ap tail_of same) in
    let first : x ≡ y = ap (head_or x) same in
    (ap₂ (λ z zs. z ∷ zs) first more.0, more.1)

pub length-roles_of : (ds : List DeviceState) → length (roles_of ds) ≡ length ds
length-roles_of ds = length-map ds (λ d. d.roles)

-- roles of devices stay as many
pub length-controlled : (c : ℕ) (rs : List Roles) (es : List Entry) → length (roles_led c rs es) ≡ length rs
length-controlled c rs [] = refl
length-controlled c rs (e ∷ es) =
    length-controlled (controller_after_entry c e) (roles_led_entry c rs e) es
    ∙ by (is_of_controller c e)
  where
    by : (b : Bool) → length (if b then roles_along e.source e.outcome 1 (message_of e.frame) rs else rs) ≡ length rs
    by true = length_along e.source e.outcome 1 (message_of e.frame) rs
    by false = refl

-- ---- entries under a controller

-- Under controller k these entries leave the control to it, their commands are its own, and, if A holds, they make these roles of those.
pub record Does (k : ℕ) (A : Type 0) (rs : List Roles) (es : List Entry) (made : List Roles) : Type 0 where
  pub stays : controller_after k es ≡ k
  pub commands : are_commands_led k es ≡ true
  pub roles : A → roles_led k rs es ≡ made

-- a device's frame, of a ring whose last party is k
pub record IsDev (k p : ℕ) (m : Frame) : Type 0 where
  pub from : 1 ≤ p
  pub on : p < k
  pub says : is_spoken (message_of m) ≡ true

module _ (k : ℕ) (A : Type 0) where
  pub does_none : (rs : List Roles) → Does k A rs [] rs
  does_none rs = record { stays = refl; commands = refl; roles = λ a. refl }

  pub does_append : (rs : List Roles) (xs : List Entry) (mid : List Roles) (ys : List Entry) (made : List Roles) → Does k A rs xs mid → Does k A mid ys made → Does k A rs (xs ++ ys) made
  does_append rs xs mid ys made first second = record {
    stays = controller_after-append k xs ys ∙ ap (λ c. controller_after c ys) first.stays ∙ second.stays;
    commands = are_commands_led-append k xs ys ∙ and_from (are_commands_led k xs) (are_commands_led (controller_after k xs) ys) first.commands (ap (λ c. are_commands_led c ys) first.stays ∙ second.commands);
    roles = λ a. roles_led-append k rs xs ys ∙ ap₂ (λ c rs. roles_led c rs ys) first.stays (first.roles a) ∙ second.roles a;
  }

  pub does_one : (rs : List Roles) (e : Entry) (made : List Roles) → 1 ≤ e.source → (is_spoken (message_of e.frame) || is_of_controller k e) ≡ true → roles_led_entry k rs e ≡ made → Does k A rs (e ∷ []) made
  does_one rs e made from says is = record {
    stays = stays_controlled k e from;
    commands = and_from (is_spoken (message_of e.frame) || is_of_controller k e) true says refl;
    roles = λ a. is;
  }

  -- a device's frame changes nothing
  pub does_dev : (rs : List Roles) (p : ℕ) (m : Frame) (o : Outcome) → IsDev k p m → Does k A rs (entry p m o ∷ []) rs
  does_dev rs p m o dev = does_one rs (entry p m o) rs dev.from (ap (λ b. b || is_of_controller k (entry p m o)) dev.says) (controlled_device k p rs m o dev.from dev.on)

  pub does_where : (rs : List Roles) (j : ℕ) (o : Option Flight) → ((x : Flight) → o ≡ Some x → IsDev k x.source x.sent) → Does k A rs (entry_of_kept j o) rs
  does_where rs j None dev = does_none rs
  does_where rs j (Some x) dev = does_dev rs x.source x.sent (if x.source == j then outcome.Back x.now else outcome.Taken j) (dev x refl)

  -- also among others
  pub does_insert : (rs : List Roles) (xs : List Entry) (p : ℕ) (m : Frame) (o : Outcome) (ys : List Entry) (made : List Roles) → controller_after k xs ≡ k → IsDev k p m → Does k A rs (xs ++ ys) made → Does k A rs (xs ++ entry p m o ∷ ys) made
  does_insert rs xs p m o ys made stays dev does =
      let e : Entry = entry p m o in
      let c = controller_after k xs in
      let same = stays_controlled c e dev.from in
      let leaves : roles_led_entry c (roles_led k rs xs) e ≡ roles_led k rs xs = controlled_device c p (roles_led k rs xs) m o dev.from (omega (arith, dev.on, stays)) in
      let parts = and_parts (are_commands_led k xs) (are_commands_led c ys) (sym (are_commands_led-append k xs ys) ∙ does.commands) in
      record {
        stays = controller_after-append k xs (e ∷ ys) ∙ ap (λ c. controller_after c ys) same ∙ sym (controller_after-append k xs ys) ∙ does.stays;
        commands =
            are_commands_led-append k xs (e ∷ ys)
            ∙ and_from (are_commands_led k xs) (are_commands_led c (e ∷ ys)) parts.0
            (and_from (is_spoken (message_of m) || is_of_controller c e) (are_commands_led (controller_after_entry c e) ys) (ap (λ b. b || is_of_controller c e) dev.says) (ap (λ c. are_commands_led c ys) same ∙ parts.1));
        roles = λ a. roles_led-append k rs xs (e ∷ ys) ∙ ap₂ (λ c rs. roles_led c rs ys) same leaves ∙ sym (roles_led-append k rs xs ys) ∙ does.roles a;
      }

  pub own_says : (m : Message) (e : Entry) → e.source ≡ k → (is_spoken m || is_of_controller k e) ≡ true
  own_says m e same = or_right (is_spoken m) (is_of_controller k e) (ap (λ b. b || is_taking_back e) (eq-eqb e.source k same))

  -- the last party's own frame changes its own roles
  pub does_own_lost : (rs : List Roles) (r : Roles) (p : ℕ) (m : Frame) → k ≡ suc (length rs) → p ≡ k → Does k A (rs ++ r ∷ []) (entry p m (outcome.Lost 0) ∷ []) (rs ++ roles_by (message_of m) r ∷ [])
  does_own_lost rs r p m size same =
      does_one (rs ++ r ∷ []) (entry p m (outcome.Lost 0)) (rs ++ roles_by (message_of m) r ∷ []) (omega (arith, size, same)) (own_says (message_of m) (entry p m (outcome.Lost 0)) same)
      (ap (λ p. roles_led_entry k (rs ++ r ∷ []) (entry p m (outcome.Lost 0))) same ∙ own_lost-roles k rs r m size)

  pub does_own_taken : (rs : List Roles) (r : Roles) (x : Flight) → k ≡ suc (length rs) → x.source ≡ k → Does k A (rs ++ r ∷ []) (ended_at x 0 ∷ []) (rs ++ roles_by (message_of x.sent) r ∷ [])
  does_own_taken rs r x size same =
      let ended : ended_at x 0 ≡ entry k x.sent (outcome.Taken 0) =
      ap (λ b. entry x.source x.sent (if b then outcome.Back x.now else outcome.Taken 0)) (ne_eqb x.source 0 (λ none. omega (arith, none, size, same)))
      ∙ ap (λ p. entry p x.sent (outcome.Taken 0)) same in
      does_one (rs ++ r ∷ []) (ended_at x 0) (rs ++ roles_by (message_of x.sent) r ∷ []) (omega (arith, size, same)) (own_says (message_of x.sent) (ended_at x 0) same)
      (ap (roles_led_entry k (rs ++ r ∷ [])) ended ∙ own_taken-roles k rs r x.sent size)

-- ---- the entries of the smaller ring

pub turned_says : (k : ℕ) (spoken : Bool) (source : ℕ) (back : Bool) → (spoken || (source == 0)) ≡ true → (spoken || ((turned k source == k) || back)) ≡ true
turned_says k true source back is = refl
turned_says k false zero back is = ap (λ b. b || back) (eq-eqb k k refl)
turned_says k false (suc p) back is = let clash : ⊥ = absurd_at (eqb-true (suc p) 0 is) in absurd clash
  where
    absurd_at : suc p ≡ 0 → ⊥
    absurd_at same = omega (arith, same)

-- a device's party is the same
pub turned_device : (k p : ℕ) → 1 ≤ p → turned k p ≡ p
turned_device k zero some = let clash : ⊥ = omega (arith, some) in absurd clash
turned_device k (suc p) some = refl

pub turned_commands : (k : ℕ) (es : List Entry) → 1 ≤ k → list_all (λ e. is_spoken (message_of e.frame) || (e.source == 0)) es ≡ true → are_commands_led k (turned_entries k es) ≡ true
turned_commands k [] some says = refl
turned_commands k (e ∷ es) some says =
    let parts = and_parts (is_spoken (message_of e.frame) || (e.source == 0)) (list_all (λ e. is_spoken (message_of e.frame) || (e.source == 0)) es) says in
    and_from (is_spoken (message_of e.frame) || is_of_controller k (turned_entry k e)) (are_commands_led (controller_after_entry k (turned_entry k e)) (turned_entries k es))
    (turned_says k (is_spoken (message_of e.frame)) e.source (is_taking_back (turned_entry k e)) parts.0)
    (ap (λ c. are_commands_led c (turned_entries k es)) (stays_controlled k (turned_entry k e) (turned_some k e.source some)) ∙ turned_commands k es some parts.1)

pub all_said : (es : List Entry) → list_all (λ e. is_spoken (message_of e.frame)) es ≡ true → list_all (λ e. is_spoken (message_of e.frame) || (e.source == 0)) es ≡ true
all_said [] says = refl
all_said (e ∷ es) says =
    let parts = and_parts (is_spoken (message_of e.frame)) (list_all (λ e. is_spoken (message_of e.frame)) es) says in
    and_from (is_spoken (message_of e.frame) || (e.source == 0)) (list_all (λ e. is_spoken (message_of e.frame) || (e.source == 0)) es) (ap (λ b. b || (e.source == 0)) parts.0) (all_said es parts.1)
