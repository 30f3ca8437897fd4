-- Columns as the code keeps them.
use Rattle.std.specs.Prelude.{◌≤◌}
use Rattle.tape_text.specs.declared.cells.TheConstants.{WIDEST}
use Rattle.tape_text.specs.declared.columns.Widths.{Widths}

-- no column is wider than its widest entry can be
pub record AreNarrow (w : Widths) : Type 0 where
  pub name_is : w.name ≤ WIDEST
  pub kind_is : w.kind ≤ WIDEST
  pub records_is : w.records ≤ WIDEST
  pub bytes_is : w.bytes ≤ WIDEST
  pub date_is : w.date ≤ WIDEST
