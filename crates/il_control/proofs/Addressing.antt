-- All devices are addressed.
use Rattle.std.proofs.Common.{◌≡◌, ◌∙◌, ◌≤◌, ◌+◌, ◌-◌, ◌++◌, ⊎_elim, ℕ, suc, Bool, false, List, [], ◌∷◌, Option, None, length, drop, get_or, refl, sym, ap, subst, arith, length-append}
use Rattle.std.proofs.lemmas.List.{length-map}
use Rattle.il_frames.specs.declared.frame.Frame.{Frame}
use Rattle.il_frames.specs.declared.entry.Outcome.TheVariants as outcome
use Rattle.il_frames.specs.Frames.{byte_of}
use Rattle.il_device.specs.declared.roles.Roles.{Roles}
use Rattle.il_device.specs.Roles.{no_roles}
use Rattle.il_device.specs.State.{DeviceState}
use Rattle.il_drive.specs.State.{device_of}
use Rattle.il_ports.specs.Media.{MediumView}
use Rattle.il_frames.specs.NamedFrames.{entry, ifc, aau, aad}
use Rattle.loop_model.specs.Roles.{talkers, talkers_from, is_at_most_one, roles_after, are_numbered}
use Rattle.loop_model.specs.Exchanges.{Address, commanded, entries_of}
use Rattle.loop_model.proofs.RoleLaws.{roles_after-append}
use Rattle.loop_model.proofs.RoleSteps.{cleared, addressed_from, are_numbered-addressed, roles_after-aau, roles_after-addressing}
use Rattle.loop_model.proofs.RoundLaws.{IsSafe, safe_mute, OneTalker-safe, OneTalker-cut}
use Rattle.loop_model.proofs.TalkLaws.{length-roles_after}
use Rattle.il_ring.specs.declared.plan.Arrival.{Arrival}
use Rattle.il_ring.specs.declared.plan.Arrival.TheVariants as arrival
use Rattle.il_ring.specs.declared.flight.Flight.{Flight}
use Rattle.il_ring.specs.Flights.{sourced}
use Rattle.il_ring.specs.Lists.{Each}
use Rattle.il_ring.specs.Guests.{IsUnderHost}
use Rattle.il_ring.specs.Rings.{RingView, IsRing, Round, devices_of, roles_of, drive_party}
use Rattle.il_ring.proofs.PassKinds.{Unaddressed, OnlyPassed, aad_passes}
use Rattle.il_ring.proofs.Passing.{Exactly}
use Rattle.il_control.specs.Calls.{Whole, Broke, IsLost, addressing, IsAddressed, Resumed, NotResumed}
use Rattle.il_control.proofs.Brought.{address_comes}
use Rattle.il_control.proofs.Calls.{Done, pass_call, whole_then, broke_after, broke_before, told_then, told_not}
use Rattle.il_control.proofs.Made.{one_at_end}

-- ---- roles

-- if all roles were taken away no device has an address
each_unaddressed : (k : ℕ) (ds : List DeviceState) (rs : List Roles) → 1 ≤ k → k + length ds ≤ 31 → roles_of ds ≡ cleared rs → Each Unaddressed k ds
each_unaddressed k [] rs some few are = tt
each_unaddressed k (d ∷ ds) [] some few are = cc
each_unaddressed k (d ∷ ds) (r ∷ rs) some few are = (
  (some, omega (arith, few), ap (λ (rs : List Roles). (get_or rs 0 no_roles).address) are),
  each_unaddressed (k + 1) ds rs (omega arith) (omega (arith, few)) (ap (λ (rs : List Roles). drop 1 rs) are),
)

each_addressed : (k : ℕ) (ds : List DeviceState) (rs : List Roles) → roles_of ds ≡ addressed_from k rs → Each IsAddressed k ds
each_addressed k [] rs are = tt
each_addressed k (d ∷ ds) [] are = cc
each_addressed k (d ∷ ds) (r ∷ rs) are =
    let up : suc k ≡ k + 1 = omega arith in (
      ap (λ (rs : List Roles). get_or rs 0 no_roles) are,
      each_addressed (k + 1) ds rs (ap (λ (rs : List Roles). drop 1 rs) are ∙ ap (λ k. addressed_from k rs) up),
    )

none_of_addressed : (party a : ℕ) (rs : List Roles) → talkers_from party (addressed_from a rs) ≡ []
none_of_addressed party a [] = refl
none_of_addressed party a (r ∷ rs) = none_of_addressed (suc party) (suc a) rs

-- ---- the call

-- what came of it
abbrev pub AddressEnd : {M : Type 0} → (M → MediumView) → RingView M → Arrival → RingView M → Type 0
AddressEnd view r (arrival.Frame g) s = (0x81 ≤ byte_of g) × Resumed view (byte_of g - 0x81) r s
AddressEnd view r arrival.Lost s = NotResumed view r s

module _ {M : Type 0} (view : M → MediumView) (r : RingView M) (lost : IsLost r) where
  abbrev rs : List Roles
  rs = roles_of (devices_of r)

  few : length (devices_of r) ≤ 30
  few = omega (arith, lost.free.ring.few, length-append r.before (device_of r.drive.state ∷ r.after))

  safe : (devices : ℕ) → IsSafe rs (addressing devices)
  safe devices = safe_mute rs (addressing devices) lost.one refl refl

  -- the entries, whole
  resumed : (s : RingView M) → IsUnderHost s.guest → Whole view r (addressing (length (devices_of r))) s → Resumed view (length (devices_of r)) r s
  resumed s host whole = record {
    count = refl;
    whole = whole;
    one = OneTalker-safe rs (addressing (length (devices_of r))) (safe (length (devices_of r)));
    addressed = each_addressed 1 (devices_of s) before are;
    idle = record {
      free = record { ring = whole.ring; held = whole.held };
      host = host;
      silent = ap talkers are ∙ none_of_addressed 1 1 before;
      numbered = ap (are_numbered 1) are ∙ are_numbered-addressed 1 before;
    };
  }
    where
      before : List Roles
      before = roles_after rs (commanded 0 ifc)

      many : length before ≤ 30
      many = omega (arith, few, length-roles_after rs (commanded 0 ifc), length-map (devices_of r) (λ (d : DeviceState). d.roles))

      are : roles_of (devices_of s) ≡ addressed_from 1 before
      are = whole.adds.roles ∙ roles_after-append rs (commanded 0 ifc) (commanded 0 aau ++ entries_of 0 (Address (length (devices_of r)))) ∙ roles_after-addressing before (length (devices_of r)) many

  -- a break
  pub not_resumed : (s : RingView M) → Broke view r (addressing (length (devices_of r))) s → NotResumed view r s
  not_resumed s broke =
      let one = OneTalker-cut rs (addressing (length (devices_of r))) broke.standing broke.break (safe (length (devices_of r))) broke.legal in
      record {
        broke = broke;
        one = one;
        lost = record { free = record { ring = broke.ring; held = broke.held }; one = ap (λ rs. is_at_most_one (talkers rs)) broke.adds.roles ∙ one_at_end rs _ one };
      }

  -- a break before AAD
  pub not_cleared : (s : RingView M) → Broke view r (commanded 0 ifc ++ commanded 0 aau) s → NotResumed view r s
  not_cleared s broke = not_resumed s (broke_before view r s (commanded 0 ifc ++ commanded 0 aau) (entries_of 0 (Address (length (devices_of r)))) broke)

  -- after IFC and AAU no device has an address
  pub unaddressed : (m : RingView M) → Whole view r (commanded 0 ifc ++ commanded 0 aau) m → Each Unaddressed 1 (devices_of m)
  unaddressed m first =
      each_unaddressed 1 (devices_of m) (roles_after rs (commanded 0 ifc)) (omega arith) (omega (arith, few, first.adds.size))
      (first.adds.roles ∙ roles_after-append rs (commanded 0 ifc) (commanded 0 aau) ∙ roles_after-aau (roles_after rs (commanded 0 ifc)))

  -- AAD after IFC and AAU
  pub address_call : (m s : RingView M) (held : Option Flight) (f : Frame) (answer : Arrival) → IsUnderHost m.guest → Whole view r (commanded 0 ifc ++ commanded 0 aau) m → Round view m held (sourced 0 f) answer s → f ≡ aad 1 → held ≡ None → AddressEnd view r answer s
  address_call m s held f answer host first round is none =
      ⊎_elim
      (λ came.
      let k = length (devices_of r) in
      let back : came.0 ≡ aad (suc k) = came.1 ∙ ap (λ k. aad (suc k)) first.adds.size in
      let last : Whole view m (entries_of 0 (Address k)) s = subst (λ g. Whole view m (entry 0 (aad 1) (outcome.Back g) ∷ []) s) back came.3 in
      let whole = whole_then view r m s (commanded 0 ifc ++ commanded 0 aau) (entries_of 0 (Address k)) lost.free.ring first last in
      let count : byte_of came.0 - 0x81 ≡ k = ap (λ g. byte_of g - 0x81) back ∙ counted k in
      subst (λ answer. AddressEnd view r answer s) (sym came.2) (subst (λ g. 0x81 ≤ byte_of g) (sym back) (at_least k), subst (λ n. Resumed view n r s) (sym count) (resumed s (subst IsUnderHost (sym round.guest) host) whole)))
      (λ lost_now. subst (λ answer. AddressEnd view r answer s) (sym lost_now.0) (not_resumed s (broke_after view r m s (commanded 0 ifc ++ commanded 0 aau) (entries_of 0 (Address (length (devices_of r)))) lost.free.ring first (lost_now.1 (outcome.Back (aad (suc (length (devices_of r)))))))))
      (pass_call view (λ k g. g ≡ aad k) Unaddressed OnlyPassed aad_passes (λ d e passed. passed.0) m s held (aad 1) answer (subst (λ f. Round view m held (sourced 0 f) answer s) is round) none (record { ring = first.ring; held = first.held }) (unaddressed m first) refl (Exactly refl refl) (λ g at. address_comes (drive_party m) g at))
    where
      counted : (k : ℕ) → 0x80 + suc k - 0x81 ≡ k
      counted k = omega arith

      at_least : (k : ℕ) → 0x81 ≤ 0x80 + suc k
      at_least k = omega arith

-- the count, by the byte that came back and that of AAD 1, which was sent
pub count_of : {M : Type 0} (view : M → MediumView) (r s : RingView M) (g : Frame) (n first : ℕ) → n ≡ byte_of g → first ≡ 0x81 → AddressEnd view r (arrival.Frame g) s → (first ≤ n) × Resumed view (n - first) r s
count_of view r s g n first is sent end = subst (λ n. (first ≤ n) × Resumed view (n - first) r s) (sym is) (subst (λ first. (first ≤ byte_of g) × Resumed view (byte_of g - first) r s) (sym sent) end)

-- IFC whole, and AAU after it
pub clear_done : {M : Type 0} (view : M → MediumView) (r m s : RingView M) (f g : Frame) (whole : Bool) → IsRing r → f ≡ ifc → g ≡ aau → Whole view r (commanded 0 f) m → Done view m (commanded 0 g) whole s → Done view r (commanded 0 ifc ++ commanded 0 aau) whole s
clear_done view r m s f g whole ring is_first is_then first more = told_then view r m s f ifc (commanded 0 aau) whole ring is_first first (subst (λ g. Done view m (commanded 0 g) whole s) is_then more)

-- IFC was broken off
pub clear_not : {M : Type 0} (view : M → MediumView) (r s : RingView M) (f : Frame) (whole : Bool) → f ≡ ifc → whole ≡ false → Broke view r (commanded 0 f) s → Done view r (commanded 0 ifc ++ commanded 0 aau) whole s
clear_not view r s f whole is not broke = told_not view r s f ifc (commanded 0 aau) whole is not broke
