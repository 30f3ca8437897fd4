use Rattle.std.proofs.Common.{◌≡◌, ◌+◌, ◌++◌, length, map, drop}
use Rattle.std.specs.List.{list_any}
use Rattle.lif_model.specs.Directory.{is_end, entries_of, before_end}
use Rattle.lif_dir.specs.Entries.{slot_from, slot_bytes}
use Rattle.lif_dir.proofs.reading.append_slots.Given as goal

-- what is still to come of the record, after the slots that the table has
abbrev pub invariant-loop-k : goal.invariant-loop-k
invariant-loop-k l = record {
  slots : l.fn.table.slots ++ map slot_from (before_end (entries_of l.bytes)) ≡ l.table.slots ++ map slot_from (before_end (drop l.k (entries_of l.bytes)));
  bytes : map slot_bytes l.fn.table.slots ++ before_end (entries_of l.bytes) ≡ map slot_bytes l.table.slots ++ before_end (drop l.k (entries_of l.bytes));
  ended : list_any is_end (entries_of l.bytes) ≡ list_any is_end (drop l.k (entries_of l.bytes));
  room : l.table.room ≡ l.fn.table.room;
  count : length l.table.slots ≡ length l.fn.table.slots + l.k;
}
