use Rattle.std.proofs.Common.{◌≡◌, ◌<◌, ◌≤◌, ℕ, [], true, map, get_or}
use Rattle.lif_model.specs.Directory.{is_purged}
use Rattle.lif_dir.specs.Entries.{slot_bytes}
use Rattle.lif_pack.proofs.placed.are_purged.Given as goal

abbrev pub invariant-loop-k : goal.invariant-loop-k
invariant-loop-k l = (j : ℕ) → l.fn.from ≤ j → j < l.k → is_purged (get_or (map slot_bytes l.slots.slots) j []) ≡ true
