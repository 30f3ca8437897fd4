use Rattle.std.proofs.Common.{◌≡◌, ◌≤◌, ◌+◌, ◌*◌, ◌++◌, length, take}
use Rattle.std.specs.List.{flat_map}
use Rattle.tape_text.specs.declared.cells.TheConstants.{WIDEST}
use Rattle.tape_text.specs.declared.lines.TheConstants.{LINE}
use Rattle.tape_text.specs.Listing.{listed_line, shown_files, volume_summary, room_of, widths_of}
use Rattle.tape_text.specs.Columns.{AreNarrow}
use Rattle.tape_text.proofs.lines.put_listing.Given as goal

abbrev pub invariant-slots : goal.invariant-slots
invariant-slots l = record {
  text : l.page.text ≡ l.fn.page.text ++ (volume_summary l.header (room_of l.size l.header l.slots.slots)
      ++ flat_map (listed_line (widths_of (shown_files l.all l.size l.slots.slots))) (shown_files l.all l.size (take l.place l.slots.slots)));
  size : length l.page.text ≤ length l.fn.page.text + LINE * (l.place + 1);
  room : l.page.room ≡ l.fn.page.room;
  cell : l.cell.room ≡ WIDEST;
  widths_are : l.widths ≡ widths_of (shown_files l.all l.size l.slots.slots);
  narrow : AreNarrow l.widths;
}
