use Rattle.std.proofs.Common.{◌≡◌, ◌≤◌, ◌<◌, ◌+◌, ◌*◌, ◌^◌, ◌++◌, false, length, take}
use Rattle.tape_text.specs.declared.cells.TheConstants.{WIDEST}
use Rattle.tape_text.specs.declared.map.TheConstants.{LEGEND}
use Rattle.tape_text.specs.Columns.{AreNarrow}
use Rattle.tape_text.specs.Listing.{shown_files, widths_of}
use Rattle.tape_text.specs.Map.{legend_from}
use Rattle.tape_text.proofs.map.put_legend.Given as goal

abbrev pub invariant-slots : goal.invariant-slots
invariant-slots l = record {
  text : l.page.text ≡ l.fn.page.text ++ legend_from (widths_of (shown_files false l.size l.slots.slots)) 0 (shown_files false l.size (take l.place l.slots.slots));
  number_is : l.number ≡ length (shown_files false l.size (take l.place l.slots.slots));
  few : l.number ≤ l.place;
  end : l.place-end < 2 ^ 32;
  size : length l.page.text ≤ length l.fn.page.text + LEGEND * l.place;
  room : l.page.room ≡ l.fn.page.room;
  cell : l.cell.room ≡ WIDEST;
  widths_are : l.widths ≡ widths_of (shown_files false l.size l.slots.slots);
  narrow : AreNarrow l.widths;
}
