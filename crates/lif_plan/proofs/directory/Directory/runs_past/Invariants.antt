use Rattle.std.proofs.Common.{◌≡◌, ◌<◌, ℕ, [], false, get_or, map}
use Rattle.lif_dir.specs.Entries.{slot_bytes}
use Rattle.lif_plan.specs.Plans.{reaches_past}
use Rattle.lif_plan.proofs.directory.Directory.runs_past.Given as goal

-- none of the first ones does
abbrev pub invariant-loop-k : goal.invariant-loop-k
invariant-loop-k l = record {
  none : (i : ℕ) → i < l.k → reaches_past l.size l.limit (get_or (map slot_bytes l.self.table.slots) i []) ≡ false;
}
