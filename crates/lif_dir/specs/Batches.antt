-- Batches: changes of a directory that are made as one. This project's own.
use Rattle.std.specs.Prelude.{◌≢◌, ◌≤◌, ◌+◌, ◌&&◌, nat_lt, nat_le, ℕ, Bool, List, All, length, map, take, drop}
use Rattle.lif_model.specs.Parts.{most_parts}
use Rattle.lif_model.specs.Parts as model
use Rattle.lif_dir.specs.Entries.{name_bytes}
use Rattle.lif_dir.specs.Names.{made_name}
use Rattle.lif_dir.specs.declared.batch.Part.{Part}
use Rattle.lif_dir.specs.declared.batch.Part.TheVariants.{Store, Rename, Purge}

-- what contracts see of a batch: its parts in their order, and the bytes of the files that they store
pub record BatchView : Type 0 where
  pub parts : List Part
  pub bytes : List ℕ

-- there is room for a part more, which brings so many bytes: 31 parts, and as many bytes as the largest medium has
abbrev pub has_room : BatchView → ℕ → Bool
has_room b count = nat_lt (length b.parts) most_parts && nat_le (length b.bytes + count) 630784

-- a file's bytes are among so many, and its type is neither that of a purged file nor that which ends a directory
abbrev pub IsPartOf : ℕ → Part → Type 0
IsPartOf count (Store name kind implementation from size) = (from + size ≤ count) × (kind ≢ 0) × (kind ≢ 65535)
IsPartOf count (Rename old new) = Unit {0}
IsPartOf count (Purge name) = Unit {0}

-- what holds of a batch at every moment, with so many parts and bytes in memory for so many
pub record IsBatch (parts parts_room bytes bytes_room : ℕ) (b : BatchView) : Type 0 where
  pub few : parts ≤ most_parts
  pub reserved : most_parts ≤ parts_room
  pub short : bytes ≤ 630784
  pub room : 630784 ≤ bytes_room
  pub each : All (IsPartOf (length b.bytes)) b.parts

-- ---- what the parts mean

-- so many bytes of the batch from there on
abbrev pub bytes_at : List ℕ → ℕ → ℕ → List ℕ
bytes_at bytes from size = take size (drop from bytes)

-- a part, where these are the bytes of the batch
abbrev pub part_of : List ℕ → Part → model.Part
part_of bytes (Store name kind implementation from size) =
    model.Store (name_bytes (made_name name)) kind implementation (bytes_at bytes from size)
part_of bytes (Rename old new) = model.Rename (name_bytes old) (name_bytes (made_name new))
part_of bytes (Purge name) = model.Purge (name_bytes name)

-- the parts of a batch
abbrev pub parts_of : BatchView → List model.Part
parts_of b = map (part_of b.bytes) b.parts
