use Rattle.std.proofs.Common.{◌≡◌, ◌≤◌, ◌-◌, length, drop}
use Rattle.lif_text.specs.Pieces.{lines_in}
use Rattle.tape_text.proofs.TextLines.{size_from}
use Rattle.tape_text.specs.Texts.{text_size}
use Rattle.tape_text.proofs.texts.text_size.Given as goal

abbrev pub invariant-lines : goal.invariant-lines
invariant-lines l = record {
  within : l.at ≤ length l.bytes;
  told : size_from (length l.bytes) l.at (lines_in (drop l.at l.bytes)) ≡ text_size l.bytes;
}

abbrev pub decreases-lines : goal.decreases-lines
decreases-lines l = length l.bytes - l.at
