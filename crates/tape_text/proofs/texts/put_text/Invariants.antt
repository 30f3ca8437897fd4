use Rattle.std.proofs.Common.{◌≡◌, ◌≤◌, ◌+◌, ◌-◌, length, drop}
use Rattle.lif_text.specs.Pieces.{lines_in}
use Rattle.tape_text.proofs.TextLines.{with_lines}
use Rattle.tape_text.proofs.texts.put_text.Given as goal

abbrev pub invariant-lines : goal.invariant-lines
invariant-lines l = record {
  within : l.at ≤ length l.bytes;
  told : with_lines l.page.text (lines_in (drop l.at l.bytes)) ≡ with_lines l.fn.page.text (lines_in l.bytes);
  size : length l.page.text ≤ length l.fn.page.text + l.at;
  room : l.page.room ≡ l.fn.page.room;
}

abbrev pub decreases-lines : goal.decreases-lines
decreases-lines l = length l.bytes - l.at
