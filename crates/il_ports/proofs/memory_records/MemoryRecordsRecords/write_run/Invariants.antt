use Rattle.std.proofs.Common.{◌≡◌, ◌<◌, ◌+◌, ◌*◌, ℕ, length, take, drop}
use Rattle.std.specs.Prelude.{None, Some, Ok}
use Rattle.lif_model.specs.Shelf.{cut}
use Rattle.lif_model.specs.Stops.{Elapses}
use Rattle.lif_model.specs.History.{LeftBy}
use Rattle.lif_model.specs.Transfers.{Replaced, PartlyReplaced}
use Rattle.il_ports.specs.Counted.{failing}
use Rattle.il_ports.specs.MemoryRecords.{state_of, written_run}
use Rattle.il_ports.proofs.memory_records.MemoryRecordsRecords.write_run.Given as goal

abbrev pub invariant-loop-i : goal.invariant-loop-i
invariant-loop-i l = record {
  state : state_of l.self ≡ written_run {T = Unit {0}} l.first (cut l.count l.from) l.i (state_of l.fn.self) (Ok tt);
  passed : (k : ℕ) → k < l.i → failing (l.fn.self.calls + (k + 1)) l.fn.self.fails.items ≡ None;
  rest : l.rest ≡ drop (256 * l.i) l.from;
  replaced : Replaced l.first (take l.i (cut l.count l.from)) l.fn.self.records.items l.self.records.items;
  time : Elapses (length l.fn.self.writes.items) (length l.self.writes.items) (LeftBy l.fn.self.first.items l.fn.self.writes.items) (LeftBy l.self.first.items l.self.writes.items)
      (Some l.fn.self.records.items) (PartlyReplaced l.first (cut l.count l.from));
}
