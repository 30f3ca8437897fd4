use Rattle.std.proofs.Common.{◌≡◌, List, length, drop}
use Rattle.lif_dir.specs.declared.entries.Slot.{Slot}
use Rattle.lif_plan.specs.Batches.{Remembers}
use Rattle.lif_plan.proofs.Remembered.{IsGivenBack}
use Rattle.lif_plan.proofs.directory.Directory.give_back.Given as goal

abbrev pub invariant-loop-k : goal.invariant-loop-k
invariant-loop-k l = record {
  given : (slots : List Slot) → length slots ≡ l.plan.count → Remembers slots l.fn.self.table.slots l.plan.befores.items → IsGivenBack slots l.self.table.slots (drop l.k l.plan.befores.items);
  room : l.self.table.room ≡ l.fn.self.table.room;
}
