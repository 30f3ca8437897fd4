use Rattle.std.proofs.Common.{◌≡◌, ◌≤◌, ◌*◌, map, take}
use Rattle.lif_dir.specs.Entries.{slot_bytes}
use Rattle.lif_model.specs.Packing.{live_records}
use Rattle.lif_pack.proofs.counting.records_before.Given as goal

abbrev pub invariant-loop-k : goal.invariant-loop-k
invariant-loop-k l = record {
  records : l.records ≡ live_records (take l.k (map slot_bytes l.slots.slots));
  small : l.records ≤ l.k * 4294967295;
}
