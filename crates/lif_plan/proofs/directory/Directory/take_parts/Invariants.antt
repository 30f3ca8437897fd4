use Rattle.std.proofs.Common.{◌≡◌, ◌≤◌, ◌*◌, length, map, take}
use Rattle.std.specs.Prelude.{All}
use Rattle.std.specs.Vec.{vec_len}
use Rattle.lif_dir.specs.Entries.{slot_bytes}
use Rattle.lif_dir.specs.Batches.{part_of}
use Rattle.lif_plan.specs.Batches.{file_of, IsFileWithin, Remembers, SoFar}
use Rattle.lif_plan.proofs.directory.Directory.take_parts.Given as goal

abbrev pub invariant-loop-k : goal.invariant-loop-k
invariant-loop-k l = record {
  so_far : SoFar l.size l.header (map slot_bytes l.fn.self.table.slots) (map (part_of l.bytes) (take l.k l.parts)) (map slot_bytes l.self.table.slots)
      l.plan.changes.items (map (file_of l.bytes) l.plan.files.items) l.plan.barred.items;
  remembers : Remembers l.fn.self.table.slots l.self.table.slots l.plan.befores.items;
  within : All (IsFileWithin (length l.bytes)) l.plan.files.items;
  count : l.plan.count ≡ l.fn.plan.count;
  room : l.self.table.room ≡ l.fn.self.table.room;
  changes : vec_len l.plan.changes ≤ l.k;
  files : vec_len l.plan.files ≤ l.k;
  barred : vec_len l.plan.barred ≤ l.k;
  befores : vec_len l.plan.befores ≤ 2 * l.k;
}
