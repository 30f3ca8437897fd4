use Rattle.std.proofs.Common.{◌≡◌, ◌≤◌, ◌-◌, ◌*◌, ℕ, suc, List, [], length, map, take, drop}
use Rattle.std.specs.Prelude.{Some, Ok}
use Rattle.lif_model.specs.Tape.{Tape}
use Rattle.lif_model.specs.Redo.{targets_in}
use Rattle.il_ports.specs.Stores.{GoesOn, IsQuiet}
use Rattle.lif_redo.specs.Writing.{AddsWrites}
use Rattle.lif_dir.specs.Entries.{slot_bytes}
use Rattle.lif_dir.specs.Changes.{AreInTurn, all_writes, count_with_all}
use Rattle.lif_commit.specs.Staged.{IsStagedAs, AreBefore, past_end}
use Rattle.lif_commit.proofs.staged.Staged.stage.Given as goal

-- the changes so far are set aside, and those that come after them are in turn
abbrev pub invariant-loop-k : goal.invariant-loop-k
invariant-loop-k g l = record {
  goes_on : GoesOn {T = Unit {0}} (past_end l.header.start (length l.table.slots) (targets_in l.self.changes.items)) (g.R.Records.view l.fn.records) (g.R.Records.view l.records) (Ok tt);
  quiet : IsQuiet (g.R.Records.view l.fn.records) (g.R.Records.view l.records);
  reads : AddsWrites [] (g.R.Records.view l.fn.records).transferred (g.R.Records.view l.records).transferred;
  last : l.self.last ≡ l.fn.self.last;
  few : length l.self.changes.items ≤ 3 * l.k;
  count : l.count ≡ count_with_all (length l.table.slots) (take l.k l.changes);
  turn : (mid later : List (List ℕ)) × AreInTurn (8 * l.header.length) (map slot_bytes l.table.slots) (take l.k l.changes) mid × AreInTurn (8 * l.header.length) mid (drop l.k l.changes) later;
  staged : IsStagedAs l.header.start (g.R.Records.view l.fn.records).tape (all_writes l.header.start (take l.k l.changes)) l.self.changes.items;
  before : (t : Tape) → (g.R.Records.view l.fn.records).tape ≡ Some t
      → AreBefore (8 * ((g.R.Records.view l.fn.records).record_count - l.header.start)) (suc l.count) (all_writes l.header.start (take l.k l.changes) t);
}
