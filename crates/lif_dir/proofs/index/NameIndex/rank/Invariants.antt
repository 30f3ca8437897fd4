use Rattle.std.proofs.Common.{◌≤◌, ◌<◌, ◌-◌, ℕ, map, get_or, vec_len}
use Rattle.lif_dir.specs.Entries.{name_bytes, slot_bytes}
use Rattle.lif_dir.specs.Indexes.{name_at, IsUpTo}
use Rattle.lif_dir.proofs.index.NameIndex.rank.Given as goal

abbrev pub invariant-loop-low : goal.invariant-loop-low
invariant-loop-low l = record {
  order : l.low ≤ l.high;
  within : l.high ≤ vec_len l.self.places;
  below : (j : ℕ) → j < l.low → IsUpTo (name_at (map slot_bytes l.slots) (get_or l.self.places.items j 0)) (name_bytes l.name);
  above : (j : ℕ) → l.high ≤ j → j < vec_len l.self.places → IsUpTo (name_bytes l.name) (name_at (map slot_bytes l.slots) (get_or l.self.places.items j 0));
}

abbrev pub decreases-loop-low : goal.decreases-loop-low
decreases-loop-low l = l.high - l.low
