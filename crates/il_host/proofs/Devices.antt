-- What is said of the devices of a ring one by one, as what a host's loop becomes.
use Rattle.std.proofs.Common.{◌≡◌, ◌≢◌, ◌≤◌, ◌<◌, ◌+◌, ℕ, List, [], ◌∷◌, length, arith}
use Rattle.il_device.specs.State.{DeviceState}
use Rattle.il_drive.specs.State.{device_of}
use Rattle.loop_model.specs.Devices.{EachBecomes}
use Rattle.il_ring.specs.Lists.{First}
use Rattle.il_ring.specs.Outcomes.{HearsNothing}
use Rattle.il_ring.specs.Rings.{RingView, devices_of, drive_party}
use Rattle.il_record.specs.Came.{OthersUnheard, OnlyHeard}
use Rattle.il_record.proofs.Commands.{each_all}
use Rattle.host_model.specs.RingStates.{loop_on}
use Rattle.host_model.specs.Next.{BoxedBecome}
use Rattle.host_model.proofs.RingStates.{beside_drive}

-- ---- by the forms that the calls have

each_unheard : (a k : ℕ) (ds es : List DeviceState) → OthersUnheard a k ds es → EachBecomes (λ party d e. party ≢ a → HearsNothing d e) k ds es
each_unheard a k [] [] h = tt
each_unheard a k (d ∷ ds) (e ∷ es) h = (h.0, each_unheard a (k + 1) ds es h.1)
each_unheard a k _ _ h = absurd h

-- ---- the devices beside the drive

-- below a party, and above it
each_below : (R S : ℕ → DeviceState → DeviceState → Type 0) (a : ℕ) → ((party : ℕ) (d e : DeviceState) → party ≢ a → R party d e → S party d e)
    → (k : ℕ) (ds es : List DeviceState) → k + length ds ≤ a → EachBecomes R k ds es → EachBecomes S k ds es
each_below R S a weaker k [] [] low h = tt
each_below R S a weaker k (d ∷ ds) (e ∷ es) low h =
    let other : k ≢ a = λ is. omega (arith, is, low) in
    (weaker k d e other h.0, each_below R S a weaker (k + 1) ds es (omega (arith, low)) h.1)
each_below R S a weaker k [] (e ∷ es) low h = absurd h
each_below R S a weaker k (d ∷ ds) [] low h = absurd h

each_above : (R S : ℕ → DeviceState → DeviceState → Type 0) (a : ℕ) → ((party : ℕ) (d e : DeviceState) → party ≢ a → R party d e → S party d e)
    → (k : ℕ) (ds es : List DeviceState) → a < k → EachBecomes R k ds es → EachBecomes S k ds es
each_above R S a weaker k [] [] high h = tt
each_above R S a weaker k (d ∷ ds) (e ∷ es) high h =
    let other : k ≢ a = λ is. omega (arith, is, high) in
    (weaker k d e other h.0, each_above R S a weaker (k + 1) ds es (omega (arith, high)) h.1)
each_above R S a weaker k [] (e ∷ es) high h = absurd h
each_above R S a weaker k (d ∷ ds) [] high h = absurd h

-- what holds of each device of a ring says as much of each beside the drive
pub boxed_by : {M : Type 0} (R S : ℕ → DeviceState → DeviceState → Type 0) (r s : RingView M) → length s.before ≡ length r.before
    → ((party : ℕ) (d e : DeviceState) → party ≢ drive_party r → R party d e → S party d e)
    → EachBecomes R 1 (devices_of r) (devices_of s) → BoxedBecome S (loop_on r) (loop_on s)
boxed_by R S r s same weaker h =
    let all = beside_drive R (loop_on r) (loop_on s) (device_of r.drive.state) (device_of s.drive.state) same h in
    record {
      before = each_below R S (drive_party r) weaker 1 r.before s.before (omega arith) all.before;
      after = each_above R S (drive_party r) weaker (length r.before + 2) r.after s.after (omega arith) all.after;
    }

-- only the drive heard anything
pub boxed_unheard : {M : Type 0} (S : ℕ → DeviceState → DeviceState → Type 0) (r s : RingView M) → length s.before ≡ length r.before → OnlyHeard (drive_party r) r s
    → ((party : ℕ) (d e : DeviceState) → HearsNothing d e → S party d e) → BoxedBecome S (loop_on r) (loop_on s)
boxed_unheard S r s same unheard weaker =
    boxed_by (λ party d e. party ≢ drive_party r → HearsNothing d e) S r s same (λ party d e other h. weaker party d e (h other))
    (each_unheard (drive_party r) 1 (devices_of r) (devices_of s) unheard.unheard)

-- each device of the ring became so
pub boxed_first : {M : Type 0} (R : DeviceState → DeviceState → Type 0) (S : ℕ → DeviceState → DeviceState → Type 0) (r s : RingView M) → length s.before ≡ length r.before
    → First R (length (devices_of r)) (devices_of r) (devices_of s) → ((party : ℕ) (d e : DeviceState) → R d e → S party d e) → BoxedBecome S (loop_on r) (loop_on s)
boxed_first R S r s same first weaker =
    boxed_by (λ party d e. R d e) S r s same (λ party d e other h. weaker party d e h) (each_all R (λ party d e. R d e) (λ party d e h. h) 1 (devices_of r) (devices_of s) first)

-- each device of the ring became so, by its party
pub boxed_to : {M : Type 0} (R S : ℕ → DeviceState → DeviceState → Type 0) (r s : RingView M) → length s.before ≡ length r.before
    → EachBecomes R 1 (devices_of r) (devices_of s) → ((party : ℕ) (d e : DeviceState) → R party d e → S party d e) → BoxedBecome S (loop_on r) (loop_on s)
boxed_to R S r s same each weaker = boxed_by R S r s same (λ party d e other h. weaker party d e h) each
