use Rattle.std.proofs.Common.{◌≡◌, ◌≤◌, ◌+◌, ◌*◌, ◌++◌, length, take, map}
use Rattle.tape_text.specs.declared.cells.TheConstants.{WIDEST}
use Rattle.tape_text.specs.Listing.{shown_files}
use Rattle.tape_text.specs.Pages.{row_room}
use Rattle.tape_text.specs.Rows.{file_row, rows_text}
use Rattle.tape_text.proofs.table.put_files.Given as goal

abbrev pub invariant-slots : goal.invariant-slots
invariant-slots l = record {
  text : l.page.text ≡ l.fn.page.text ++ rows_text (map (file_row l.image l.header) (shown_files l.all l.size (take l.place l.slots.slots)));
  size : length l.page.text ≤ length l.fn.page.text + row_room l.image * l.place;
  room : l.page.room ≡ l.fn.page.room;
  cell : l.cell.room ≡ WIDEST;
}
