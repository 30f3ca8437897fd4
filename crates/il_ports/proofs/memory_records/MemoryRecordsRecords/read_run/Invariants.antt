use Rattle.std.proofs.Common.{◌≡◌, ◌<◌, ◌+◌, ◌*◌, ℕ, length, take}
use Rattle.std.specs.Prelude.{None, Ok}
use Rattle.lif_model.specs.Tape.{bytes_from}
use Rattle.il_ports.specs.Counted.{failing}
use Rattle.il_ports.specs.MemoryRecords.{state_of, counted_run}
use Rattle.il_ports.proofs.memory_records.MemoryRecordsRecords.read_run.Given as goal

abbrev pub invariant-loop-i : goal.invariant-loop-i
invariant-loop-i l = record {
  state : state_of l.self ≡ counted_run {T = Unit {0}} l.i (state_of l.fn.self) (Ok tt);
  passed : (k : ℕ) → k < l.i → failing (l.fn.self.calls + (k + 1)) l.fn.self.fails.items ≡ None;
  size : length l.into ≡ length l.fn.into;
  bytes : take (256 * l.i) l.into ≡ bytes_from l.fn.self.records.items l.first l.i;
}
