use Rattle.std.proofs.Common.{◌≢◌, ◌<◌, ◌+◌, ℕ, map, get_or}
use Rattle.lif_dir.specs.Entries.{slot_bytes}
use Rattle.lif_dir.specs.Indexes.{name_at}
use Rattle.lif_dir.proofs.index.NameIndex.is_distinct.Given as goal

-- neighbours before j have two names
abbrev pub invariant-loop-j : goal.invariant-loop-j
invariant-loop-j l = (i : ℕ) → i + 1 < l.j → name_at (map slot_bytes l.slots) (get_or l.self.places.items i 0) ≢ name_at (map slot_bytes l.slots) (get_or l.self.places.items (i + 1) 0)
