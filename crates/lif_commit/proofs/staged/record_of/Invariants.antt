use Rattle.std.proofs.Common.{map}
use Rattle.lif_dir.specs.Entries.{slot_bytes}
use Rattle.lif_commit.specs.Staged.{HoldsSlots}
use Rattle.lif_commit.proofs.staged.record_of.Given as goal

abbrev pub invariant-loop-k : goal.invariant-loop-k
invariant-loop-k l = record { holds : HoldsSlots (map slot_bytes l.table.slots) l.i l.k l.bytes }
