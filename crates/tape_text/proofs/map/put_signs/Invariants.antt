use Rattle.std.proofs.Common.{◌≡◌, ◌≤◌, ◌+◌, ◌*◌, ◌++◌, length}
use Rattle.tape_text.specs.declared.cells.TheConstants.{WIDEST}
use Rattle.tape_text.specs.declared.map.TheConstants.{SIGN}
use Rattle.tape_text.specs.Map.{for_records, record_sign}
use Rattle.tape_text.proofs.map.put_signs.Given as goal

abbrev pub invariant-records : goal.invariant-records
invariant-records l = record {
  text : l.page.text ≡ l.fn.page.text ++ for_records (record_sign l.size l.header l.slots.slots) 0 l.record_number;
  size : length l.page.text ≤ length l.fn.page.text + SIGN * l.record_number;
  room : l.page.room ≡ l.fn.page.room;
  cell : l.cell.room ≡ WIDEST;
}
