-- Laws of what becomes of devices, one by one.
use Rattle.std.proofs.Common.{◌≡◌, ◌+◌, ℕ, suc, List, [], ◌∷◌, length, refl, ap}
use Rattle.il_device.specs.State.{DeviceState}
use Rattle.loop_model.specs.Devices.{EachBecomes}

pub each_length : (R : ℕ → DeviceState → DeviceState → Type 0) (party : ℕ) (ds es : List DeviceState) → EachBecomes R party ds es → length es ≡ length ds
each_length R party [] [] h = refl
each_length R party (d ∷ ds) (e ∷ es) h = ap suc (each_length R (party + 1) ds es h.1)
each_length R party [] (e ∷ es) h = absurd h
each_length R party (d ∷ ds) [] h = absurd h

-- what holds of each device as it is
pub each_same : (R : ℕ → DeviceState → DeviceState → Type 0) → ((party : ℕ) (d : DeviceState) → R party d d) → (party : ℕ) (ds : List DeviceState) → EachBecomes R party ds ds
each_same R same party [] = tt
each_same R same party (d ∷ ds) = (same party d, each_same R same (party + 1) ds)

-- a fact that follows from another, device by device
pub each_weaker : (R S : ℕ → DeviceState → DeviceState → Type 0) → ((party : ℕ) (d e : DeviceState) → R party d e → S party d e)
    → (party : ℕ) (ds es : List DeviceState) → EachBecomes R party ds es → EachBecomes S party ds es
each_weaker R S weaker party [] [] h = tt
each_weaker R S weaker party (d ∷ ds) (e ∷ es) h = (weaker party d e h.0, each_weaker R S weaker (party + 1) ds es h.1)
each_weaker R S weaker party [] (e ∷ es) h = absurd h
each_weaker R S weaker party (d ∷ ds) [] h = absurd h

-- one step after the other
pub each_then : (R S T : ℕ → DeviceState → DeviceState → Type 0) → ((party : ℕ) (d e f : DeviceState) → R party d e → S party e f → T party d f)
    → (party : ℕ) (ds es fs : List DeviceState) → EachBecomes R party ds es → EachBecomes S party es fs → EachBecomes T party ds fs
each_then R S T join party [] [] [] a b = tt
each_then R S T join party (d ∷ ds) (e ∷ es) (f ∷ fs) a b = (join party d e f a.0 b.0, each_then R S T join (party + 1) ds es fs a.1 b.1)
each_then R S T join party [] (e ∷ es) fs a b = absurd a
each_then R S T join party (d ∷ ds) [] fs a b = absurd a
each_then R S T join party [] [] (f ∷ fs) a b = absurd b
each_then R S T join party (d ∷ ds) (e ∷ es) [] a b = absurd b
