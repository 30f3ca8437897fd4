use Rattle.std.proofs.Common.{◌≡◌, ℕ, List, map, take, drop}
use Rattle.std.specs.Prelude.{All}
use Rattle.lif_dir.specs.Entries.{slot_bytes}
use Rattle.lif_dir.specs.Changes.{AreInTurn, IsToldBack}
use Rattle.lif_volume.specs.Carrying.{slots_with_all}
use Rattle.lif_volume.proofs.batching.change_slots.Given as goal

abbrev pub invariant-loop-k : goal.invariant-loop-k
invariant-loop-k l = record {
  in_turn : (capacity : ℕ) (later : List (List ℕ)) → AreInTurn capacity (map slot_bytes l.fn.table.slots) l.changes later
      → AreInTurn capacity (map slot_bytes l.table.slots) (drop l.k l.changes) later;
  slots : slots_with_all (drop l.k l.changes) l.table.slots ≡ slots_with_all l.changes l.fn.table.slots;
  room : l.table.room ≡ l.fn.table.room;
  told : All IsToldBack (take l.k l.changes);
}
