use Rattle.std.proofs.Common.{◌≢◌, ◌≤◌, ◌<◌, ◌+◌, ◌-◌, ◌*◌, ◌^◌, ℕ, map, get_or, vec_len}
use Rattle.lif_dir.specs.Entries.{name_bytes, slot_bytes}
use Rattle.lif_dir.specs.Indexes.{name_at}
use Rattle.lif_dir.proofs.index.NameIndex.find.Given as goal

abbrev pub invariant-loop-low : goal.invariant-loop-low
invariant-loop-low g l = record {
  order : l.low ≤ l.high;
  within : l.high ≤ vec_len l.self.places;
  below : (j : ℕ) → j < l.low → name_at (map slot_bytes l.slots) (get_or l.self.places.items j 0) ≢ name_bytes l.name;
  above : (j : ℕ) → l.high ≤ j → j < vec_len l.self.places → name_at (map slot_bytes l.slots) (get_or l.self.places.items j 0) ≢ name_bytes l.name;
  grows : l.fn.steps ≤ l.steps;
  left : 2 ^ (l.steps - l.fn.steps) * (l.high - l.low) ≤ vec_len l.self.places;
  few : 2 ^ (l.steps - l.fn.steps) ≤ 2 * vec_len l.self.places + 1;
}

abbrev pub decreases-loop-low : goal.decreases-loop-low
decreases-loop-low g l = l.high - l.low
