-- Facts of each device of a ring, in order.
use Rattle.std.specs.Prelude.{◌≡◌, ◌+◌, ℕ, zero, suc, false, List, [], ◌∷◌, None}
use Rattle.il_device.specs.State.{DeviceState}

-- each device, the first of which is party k
abbrev pub Each : (ℕ → DeviceState → Type 0) → ℕ → List DeviceState → Type 0
Each P k [] = Unit {0}
Each P k (d ∷ ds) = P k d × Each P (k + 1) ds

-- the first n devices, and the others are as they were
abbrev pub First : (DeviceState → DeviceState → Type 0) → ℕ → List DeviceState → List DeviceState → Type 0
First R j [] [] = Unit {0}
First R zero (d ∷ ds) (e ∷ es) = (e ≡ d) × First R zero ds es
First R (suc j) (d ∷ ds) (e ∷ es) = R d e × First R j ds es
First R j [] (e ∷ es) = ⊥
First R j (d ∷ ds) [] = ⊥

-- none of them talks
abbrev pub AllSilent : List DeviceState → Type 0
AllSilent [] = Unit {0}
AllSilent (d ∷ ds) = (d.roles.talks ≡ false) × AllSilent ds

-- none of them has a frame of its own on the loop
abbrev pub NoneSends : List DeviceState → Type 0
NoneSends [] = Unit {0}
NoneSends (d ∷ ds) = (d.own ≡ None) × NoneSends ds
