-- What becomes of the devices of a ring, one by one.
use Rattle.std.specs.Prelude.{◌+◌, ℕ, List, [], ◌∷◌}
use Rattle.il_device.specs.State.{DeviceState}

-- these devices, of which the first is that party, become the others one by one
abbrev pub EachBecomes : (ℕ → DeviceState → DeviceState → Type 0) → ℕ → List DeviceState → List DeviceState → Type 0
EachBecomes R party [] [] = Unit {0}
EachBecomes R party (d ∷ ds) (e ∷ es) = R party d e × EachBecomes R (party + 1) ds es
EachBecomes R party [] (e ∷ es) = ⊥
EachBecomes R party (d ∷ ds) [] = ⊥
