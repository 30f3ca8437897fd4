use Rattle.std.proofs.Common.{◌≡◌, ◌≤◌, ◌+◌, ◌*◌, ◌^◌, true, map, take}
use Rattle.lif_dir.specs.Entries.{slot_bytes}
use Rattle.lif_model.specs.Packing.{live_records, are_packed}
use Rattle.lif_pack.proofs.placed.packed_end.Given as goal

abbrev pub invariant-loop-k : goal.invariant-loop-k
invariant-loop-k l = record {
  packed : are_packed l.fn.first (take l.k (map slot_bytes l.slots.slots)) ≡ true;
  place : l.place ≡ l.fn.first + live_records (take l.k (map slot_bytes l.slots.slots));
  small : l.place ≤ 2 ^ 17 + l.k * 4294967295;
}
