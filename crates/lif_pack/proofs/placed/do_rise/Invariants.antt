use Rattle.std.proofs.Common.{◌<◌, ◌≤◌, ◌^◌, ℕ, [], get_or, map}
use Rattle.lif_dir.specs.Entries.{slot_bytes}
use Rattle.lif_pack.specs.Steps.{HasPlainStart}
use Rattle.lif_pack.proofs.Walking.{RiseTo}
use Rattle.lif_pack.proofs.placed.do_rise.Given as goal

abbrev pub invariant-loop-k : goal.invariant-loop-k
invariant-loop-k l = record {
  rises : RiseTo (map slot_bytes l.slots.slots) l.k l.bound;
  small : l.bound ≤ 2 ^ 32;
  plain : (k : ℕ) → k < l.k → HasPlainStart (get_or (map slot_bytes l.slots.slots) k []);
}
