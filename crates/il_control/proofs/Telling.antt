-- Who listens after a listen address.
use Rattle.std.proofs.Common.{◌≡◌, ◌∙◌, ◌≤◌, ◌<◌, ◌+◌, ◌-◌, ◌++◌, ◌&&◌, ◌==◌, ◌⊎◌, inl, inr, ⊎_elim, ℕ, zero, suc, Bool, true, false, List, [], ◌∷◌, Option, Some, None, length, get_or, refl, sym, ap, subst, arith, append-nil, eq-eqb}
use Rattle.std.specs.Prelude.{IfSome}
use Rattle.std.proofs.lemmas.Bool.{and_from, le-leb, lt-ltb, ne_eqb}
use Rattle.std.proofs.lemmas.List.{length-map}
use Rattle.il_frames.specs.declared.entry.Entry.{Entry}
use Rattle.il_device.specs.declared.roles.Roles.{Roles}
use Rattle.il_device.specs.Roles.{no_roles}
use Rattle.il_device.specs.State.{DeviceState}
use Rattle.il_ports.specs.Media.{MediumView}
use Rattle.il_frames.specs.NamedFrames.{unl, lad, ddl}
use Rattle.loop_model.specs.Hearing.{roles_at}
use Rattle.loop_model.specs.Exchanges.{Send, commanded, numbered, entries_of, is_exchange, is_number, is_address}
use Rattle.loop_model.proofs.SendLaws.{roles_told, told_listens, others_do_not}
use Rattle.loop_model.specs.Roles.{roles_after}
use Rattle.il_ring.specs.Lists.{Each}
use Rattle.il_frames.specs.declared.frame.Frame.{Frame}
use Rattle.il_ring.specs.Rings.{RingView, IsRing, devices_of, roles_of}
use Rattle.il_control.specs.Calls.{Whole, Broke, IsIdle, loop_of, IsFree, Made, BrokenOff, IsTold}
use Rattle.il_control.proofs.Calls.{Done, told_then, told_not, whole_nothing}
use Rattle.il_control.proofs.Made.{made, quiet_broken_off}
use Rattle.il_control.proofs.HeldAtEnd.{send_quiet}

-- the entries of a send before its data
abbrev pub head_of : ℕ → Option ℕ → List Entry
head_of a number = commanded 0 unl ++ commanded 0 (lad a) ++ numbered 0 ddl number

pub send_head : (a : ℕ) (number : Option ℕ) → head_of a number ≡ entries_of 0 (Send a number [])
send_head a number = ap (λ rest. commanded 0 unl ++ commanded 0 (lad a) ++ rest) (sym (append-nil (numbered 0 ddl number)))

-- no number: nothing was done
pub no_number : {M : Type 0} (view : M → MediumView) (r : RingView M) (frame : ℕ → Frame) (number : Option ℕ) → number ≡ None → IsFree r → Whole view r (numbered 0 frame number) r
no_number view r frame number is free = subst (λ number. Whole view r (numbered 0 frame number) r) (sym is) (whole_nothing view r free)

-- unlisten whole, and what was done after it
pub tell_done : {M : Type 0} (view : M → MediumView) (r m s : RingView M) (f : Frame) (a : ℕ) (number : Option ℕ) (whole : Bool) → IsRing r → f ≡ unl → Whole view r (commanded 0 f) m → Done view m (commanded 0 (lad a) ++ numbered 0 ddl number) whole s
    → Done view r (entries_of 0 (Send a number [])) whole s
tell_done view r m s f a number whole ring is first more = subst (λ es. Done view r es whole s) (send_head a number) (told_then view r m s f unl (commanded 0 (lad a) ++ numbered 0 ddl number) whole ring is first more)

-- unlisten was broken off
pub tell_not : {M : Type 0} (view : M → MediumView) (r s : RingView M) (f : Frame) (a : ℕ) (number : Option ℕ) (whole : Bool) → f ≡ unl → whole ≡ false → Broke view r (commanded 0 f) s → Done view r (entries_of 0 (Send a number [])) whole s
tell_not view r s f a number whole is not broke = subst (λ es. Done view r es whole s) (send_head a number) (told_not view r s f unl (commanded 0 (lad a) ++ numbered 0 ddl number) whole is not broke)

pub number_fits : (number : Option ℕ) → IfSome number (λ n. n < 32) → is_number number ≡ true
number_fits None small = refl
number_fits (Some n) small = lt-ltb n 32 small

is_send : {M : Type 0} (r : RingView M) (a : ℕ) (number : Option ℕ) → a ≤ 30 → IfSome number (λ n. n < 32) → is_exchange (loop_of r) (Send a number []) ≡ true
is_send r a number low small = and_from (is_address a) (is_number number && true) (le-leb a 30 low) (and_from (is_number number) true (number_fits number small) refl)

each_told : (a k : ℕ) (ds : List DeviceState) → ((i : ℕ) → i < length ds → (get_or (roles_of ds) i no_roles).listens ≡ (k + i == a)) → Each (IsTold a) k ds
each_told a k [] told = tt
each_told a k (d ∷ ds) told =
    let here : k + 0 ≡ k = omega arith in (
      told 0 (omega arith) ∙ ap (λ k. k == a) here,
      each_told a (k + 1) ds (λ i within. let on : k + suc i ≡ k + 1 + i = omega arith in told (suc i) (omega (arith, within)) ∙ ap (λ k. k == a) on),
    )

-- ---- after the listen address

pub listening : {M : Type 0} (view : M → MediumView) (r s : RingView M) (a : ℕ) (number : Option ℕ) → IsIdle r → 1 ≤ a → a ≤ 30 → IfSome number (λ n. n < 32) → Whole view r (entries_of 0 (Send a number [])) s
    → Each (IsTold a) 1 (devices_of s)
listening view r s a number idle some low small whole = each_told a 1 (devices_of s) place
  where
    rs : List Roles
    rs = roles_of (devices_of r)

    now : roles_of (devices_of s) ≡ roles_told rs a number
    now = whole.adds.roles ∙ ap (roles_after rs) (sym (send_head a number))

    many : length rs ≡ length (devices_of s)
    many = length-map (devices_of r) (λ (d : DeviceState). d.roles) ∙ sym whole.adds.size

    by_place : (i : ℕ) → i < length (devices_of s) → (1 + i ≡ a) ⊎ (1 + i ≡ a → ⊥) → (roles_at (1 + i) (roles_told rs a number)).listens ≡ (1 + i == a)
    by_place i within (inl is) =
        ap (λ p. (roles_at p (roles_told rs a number)).listens) is
        ∙ told_listens rs a number idle.numbered (le-leb a 30 low) some (omega (arith, within, many, is)) (number_fits number small)
        ∙ sym (eq-eqb (1 + i) a is)
    by_place i within (inr other) =
        others_do_not rs a (1 + i) number idle.numbered (le-leb a 30 low) (omega arith) (omega (arith, within, many)) other (number_fits number small)
        ∙ sym (ne_eqb (1 + i) a other)

    same_or_not : (m n : ℕ) → (m ≡ n) ⊎ (m ≡ n → ⊥)
    same_or_not zero zero = inl refl
    same_or_not zero (suc n) = inr (λ e. cc)
    same_or_not (suc m) zero = inr (λ e. cc)
    same_or_not (suc m) (suc n) = ⊎_elim (λ e. inl (ap suc e)) (λ other. inr (λ e. other (omega (arith, e)))) (same_or_not m n)

    place : (i : ℕ) → i < length (devices_of s) → (get_or (roles_of (devices_of s)) i no_roles).listens ≡ (1 + i == a)
    place i within =
        let less : 1 + i - 1 ≡ i = omega arith in
        ap (λ rs. (get_or rs i no_roles).listens) now
        ∙ ap (λ j. (get_or (roles_told rs a number) j no_roles).listens) (sym less)
        ∙ by_place i within (same_or_not (1 + i) a)

pub listen_made : {M : Type 0} (view : M → MediumView) (r s : RingView M) (a : ℕ) (number : Option ℕ) → IsIdle r → a ≤ 30 → IfSome number (λ n. n < 32) → Whole view r (entries_of 0 (Send a number [])) s → Made view (Send a number []) r s
listen_made view r s a number idle low small whole = made view (Send a number []) r s idle (is_send r a number low small) refl refl whole

pub listen_broken : {M : Type 0} (view : M → MediumView) (r s : RingView M) (a : ℕ) (number : Option ℕ) → IsIdle r → a ≤ 30 → IfSome number (λ n. n < 32) → Broke view r (entries_of 0 (Send a number [])) s → BrokenOff view (Send a number []) r s
listen_broken view r s a number idle low small broke = quiet_broken_off view (Send a number []) r s idle (is_send r a number low small) refl (send_quiet a number [] refl) broke
