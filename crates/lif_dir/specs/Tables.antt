-- Tables of slots in reserved room.
use Rattle.std.specs.Prelude.{◌≡◌, ◌<◌, ◌≤◌, ◌^◌, ℕ, List, true, All, length, map, filter}
use Rattle.lif_model.specs.Legal.{is_live}
use Rattle.lif_dir.specs.declared.entries.Slot.{Slot}
use Rattle.lif_dir.specs.Entries.{is_entry, slot_bytes}
use Rattle.lif_dir.specs.Indexes.{IsIndex}

-- what contracts see of a table: its slots, in order, and how many it has room for
pub record Table : Type 0 where
  pub slots : List Slot
  pub room : ℕ

-- the memory of the slots reaches for the room, a place in it fits 32 bits, and no slot is the end of a directory
pub record IsInRoom (count room capacity : ℕ) (slots : List Slot) : Type 0 where
  pub within : count ≤ room
  pub reserved : room ≤ capacity
  pub small : room < 2 ^ 32
  pub entries : All (λ slot. is_entry slot ≡ true) slots

-- the memory of the index reaches for the room, and it is that of the slots, with as many places as live ones
pub record IsIndexed (known room capacity : ℕ) (slots : List Slot) (places : List ℕ) : Type 0 where
  pub reserved : room ≤ capacity
  pub index : IsIndex (map slot_bytes slots) places
  pub count : known ≡ length (filter is_live (map slot_bytes slots))
