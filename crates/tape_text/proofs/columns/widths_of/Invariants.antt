use Rattle.std.proofs.Common.{◌≡◌, take}
use Rattle.tape_text.specs.declared.cells.TheConstants.{WIDEST}
use Rattle.tape_text.specs.Listing.{widths_of, shown_files}
use Rattle.tape_text.specs.Columns.{AreNarrow}
use Rattle.tape_text.proofs.columns.widths_of.Given as goal

abbrev pub invariant-slots : goal.invariant-slots
invariant-slots l = record {
  widths : l.widths ≡ widths_of (shown_files l.all l.size (take l.place l.slots.slots));
  narrow : AreNarrow l.widths;
  room : l.cell.room ≡ WIDEST;
}
