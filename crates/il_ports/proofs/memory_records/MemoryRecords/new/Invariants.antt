use Rattle.std.proofs.Common.{◌≡◌, ◌<◌, ◌≤◌, ℕ, [], length, get_or, take}
use Rattle.std.specs.Vec.{vec_capacity}
use Rattle.il_ports.proofs.memory_records.MemoryRecords.new.Given as goal

abbrev pub invariant-loop-bytes : goal.invariant-loop-bytes
invariant-loop-bytes l = record {
  copied : l.first.items ≡ take l.bytes-index l.bytes-items;
  shaped : (k : ℕ) → k < l.bytes-index → length (get_or l.bytes-items k []) ≡ 256;
  room : length l.bytes-items ≤ vec_capacity l.first;
}
