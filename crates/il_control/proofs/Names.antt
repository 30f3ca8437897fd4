-- Whose accessory ID comes back to SAI.
use Rattle.std.proofs.Common.{◌≡◌, ◌∙◌, ◌≤◌, ◌+◌, ◌-◌, ◌++◌, ◌==◌, ⊎_elim, ℕ, zero, suc, Bool, true, false, List, [], ◌∷◌, Option, None, length, refl, sym, ap, subst, arith}
use Rattle.std.specs.Prelude.{if◌then◌else◌}
use Rattle.std.proofs.Math.Nat.{eq-zero-or-pos}
use Rattle.std.proofs.lemmas.Bool.{and_parts, eqb-true, le-leb}
use Rattle.std.proofs.lemmas.List.{length-map}
use Rattle.il_device.specs.declared.roles.Roles.{Roles}
use Rattle.il_device.specs.State.{DeviceState}
use Rattle.il_ports.specs.Media.{MediumView}
use Rattle.loop_model.specs.Exchanges.{Answer, NotTaken, Receive, Start, Stopped, ToItsEnd, is_number, answers_as_asked}
use Rattle.loop_model.specs.Roles.{talkers, talkers_from}
use Rattle.il_device.specs.declared.interface.OwnFrame.{OwnFrame}
use Rattle.il_ring.specs.Lists.{Each, First}
use Rattle.il_ring.specs.Outcomes.{HearsNothing, IsTalking}
use Rattle.il_ring.specs.Rings.{RingView, devices_of, roles_of}
use Rattle.il_control.specs.Calls.{IsIdle, Unheard}
use Rattle.il_control.specs.Receives.{Asked, IsNameless, SaysId, accessory_at, id_bytes, received}
use Rattle.il_control.proofs.Talking.{asked_alone}

-- ---- places

-- of the talker
there : (before after : List DeviceState) (d : DeviceState) → accessory_at (length before) (before ++ d ∷ after) ≡ d.accessory
there [] after d = refl
there (b ∷ before) after d = there before after d

pub talker_there : (p : ℕ) (own : Option OwnFrame) (ds : List DeviceState) → (talking : IsTalking p own ds) → accessory_at (p - 1) ds ≡ talking.talker.accessory
talker_there p own ds talking =
    let place : p - 1 ≡ length talking.before = omega (arith, talking.party) in
    ap (λ i. accessory_at i ds) place ∙ ap (accessory_at (length talking.before)) talking.devices_are ∙ there talking.before talking.after talking.talker

-- after the last device
beyond : (i : ℕ) (ds : List DeviceState) → length ds ≤ i → accessory_at i ds ≡ None
beyond i [] far = refl
beyond zero (d ∷ ds) far = absurd (omega (arith, far))
beyond (suc i) (d ∷ ds) far = beyond i ds (omega (arith, far))

-- devices keep their accessory IDs
same_ids : (i : ℕ) (ds es : List DeviceState) → First HearsNothing (length ds) ds es → accessory_at i es ≡ accessory_at i ds
same_ids i [] [] heard = refl
same_ids zero (d ∷ ds) (e ∷ es) heard = heard.0.accessory
same_ids (suc i) (d ∷ ds) (e ∷ es) heard = same_ids i ds es heard.1
same_ids i [] (e ∷ es) heard = absurd heard
same_ids i (d ∷ ds) [] heard = absurd heard

-- ---- the device that was asked

-- the first talker is at that place or after it
least : (k p : ℕ) (ps : List ℕ) (rs : List Roles) → talkers_from k rs ≡ p ∷ ps → k ≤ p
least k p ps [] is = cc
least k p ps (r ∷ rs) is = by r.talks is (λ is. least (suc k) p ps rs is)
  where
    by : (talks : Bool) → ((if talks then k ∷ [] else []) ++ talkers_from (suc k) rs) ≡ p ∷ ps → (talkers_from (suc k) rs ≡ p ∷ ps → suc k ≤ p) → k ≤ p
    by true is more = let same : k ≡ p = cc in omega (arith, same)
    by false is more = let far = more is in omega (arith, far)

-- one talker, without an accessory ID
none_at : (k p : ℕ) (ds : List DeviceState) → Each IsNameless k ds → talkers_from k (roles_of ds) ≡ p ∷ [] → accessory_at (p - k) ds ≡ None
none_at k p [] nameless is = refl
none_at k p (d ∷ ds) nameless is = by d.roles.talks refl is (let up : k + 1 ≡ suc k = omega arith in λ is. none_at (suc k) p ds (subst (λ k. Each IsNameless k ds) up nameless.1) is)
  where
    by : (talks : Bool) → d.roles.talks ≡ talks → ((if talks then k ∷ [] else []) ++ talkers_from (suc k) (roles_of ds)) ≡ p ∷ [] → (talkers_from (suc k) (roles_of ds) ≡ p ∷ [] → accessory_at (p - suc k) ds ≡ None) → accessory_at (p - k) (d ∷ ds) ≡ None
    by true talks is more =
        let same : k ≡ p = cc in
        let place : p - k ≡ 0 = omega (arith, same) in
        ap (λ i. accessory_at i (d ∷ ds)) place ∙ nameless.0 talks
    by false talks is more =
        let far = least (suc k) p [] (roles_of ds) is in
        let place : p - k ≡ suc (p - suc k) = omega (arith, far) in
        ap (λ i. accessory_at i (d ∷ ds)) place ∙ more is

-- if SAI was not taken the device of that address has none
not_named : {M : Type 0} (view : M → MediumView) (r m : RingView M) (a : ℕ) (number : Option ℕ) → IsIdle r → 1 ≤ a → a ≤ 30 → is_number number ≡ true → Asked view a number r m → Each IsNameless 1 (devices_of m) → accessory_at (a - 1) (devices_of m) ≡ None
not_named view r m a number idle some low fit asked nameless =
    ⊎_elim
    (λ (none : a - length (devices_of r) ≡ 0).
    let rs = roles_of (devices_of r) in
    let many = length-map (devices_of r) (λ (d : DeviceState). d.roles) in
    none_at 1 a (devices_of m) nameless (ap talkers asked.whole.adds.roles ∙ asked_alone rs a number idle.numbered idle.silent (le-leb a 30 low) fit some (omega (arith, none, many))))
    (λ far. let size = asked.whole.adds.size in beyond (a - 1) (devices_of m) (omega (arith, far, size)))
    (eq-zero-or-pos (a - length (devices_of r)))

-- what a receive of SAI brought
pub named : {M : Type 0} (view : M → MediumView) (r m : RingView M) (a : ℕ) (number : Option ℕ) (start : Start) (answer : Answer) → IsIdle r → 1 ≤ a → a ≤ 30 → is_number number ≡ true → Asked view a number r m → Unheard r m
    → answers_as_asked (length (devices_of r)) (Receive a number start answer) ≡ true → SaysId answer (devices_of m) → received answer ≡ id_bytes (accessory_at (a - 1) (devices_of r))
named view r m a number start answer idle some low fit asked unheard told says = by answer told says ∙ ap id_bytes (same_ids (a - 1) (devices_of r) (devices_of m) unheard)
  where
    by : (answer : Answer) → answers_as_asked (length (devices_of r)) (Receive a number start answer) ≡ true → SaysId answer (devices_of m) → received answer ≡ id_bytes (accessory_at (a - 1) (devices_of m))
    by NotTaken told says = ap id_bytes (sym (not_named view r m a number idle some low fit asked says))
    by (ToItsEnd p ds) told says = says ∙ ap (λ p. id_bytes (accessory_at (p - 1) (devices_of m))) (eqb-true p a (and_parts (p == a) _ told).0)
    by (Stopped p ds last) told says = says ∙ ap (λ p. id_bytes (accessory_at (p - 1) (devices_of m))) (eqb-true p a (and_parts (p == a) _ told).0)
