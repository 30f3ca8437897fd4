-- What contracts see of a packer.
use Rattle.std.specs.Prelude.{◌≡◌, ◌*◌, ◌-◌, ℕ, List, map}
use Rattle.lif_dir.specs.Entries.{slot_bytes}
use Rattle.lif_pack.specs.declared.memory.Packer.{Packer}

-- it has memory for every directory on a medium of n records
pub record IsPackerFor (n : ℕ) (packer : Packer) : Type 0 where
  pub room : packer.slots.room ≡ 8 * (n - 5)

-- its slots, by their bytes
abbrev pub slots_held : Packer → List (List ℕ)
slots_held packer = map slot_bytes packer.slots.slots
