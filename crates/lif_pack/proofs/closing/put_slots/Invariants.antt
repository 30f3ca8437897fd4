use Rattle.std.proofs.Common.{◌≡◌, ◌<◌, ◌≤◌, ℕ, map}
use Rattle.lif_model.specs.Directory.{entry_at}
use Rattle.lif_dir.specs.Entries.{slot_bytes}
use Rattle.lif_commit.specs.Staged.{HoldsSlots}
use Rattle.lif_pack.proofs.closing.put_slots.Given as goal

abbrev pub invariant-loop-k : goal.invariant-loop-k
invariant-loop-k l = record {
  holds : HoldsSlots (map slot_bytes l.table.slots) l.i l.k l.bytes;
  rest : (j : ℕ) → l.k ≤ j → j < 8 → entry_at l.bytes j ≡ entry_at l.initial.bytes j;
}
