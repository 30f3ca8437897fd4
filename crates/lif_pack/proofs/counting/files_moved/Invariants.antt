use Rattle.std.proofs.Common.{◌≡◌, ◌≤◌, ◌+◌, ◌*◌, ◌^◌, filter, map, take}
use Rattle.lif_model.specs.Legal.{is_live}
use Rattle.lif_dir.specs.Entries.{slot_bytes}
use Rattle.lif_model.specs.Packing.{live_records, count_moved}
use Rattle.lif_pack.proofs.counting.files_moved.Given as goal

abbrev pub invariant-loop-k : goal.invariant-loop-k
invariant-loop-k l = record {
  moved : l.moved ≡ count_moved l.fn.end (filter is_live (take l.k (map slot_bytes l.slots.slots)));
  place : l.place ≡ l.fn.end + live_records (take l.k (map slot_bytes l.slots.slots));
  small : l.place ≤ 2 ^ 17 + l.k * 4294967295;
  few : l.moved ≤ l.k;
}
