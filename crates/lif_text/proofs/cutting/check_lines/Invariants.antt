use Rattle.std.proofs.Common.{◌≡◌, ◌+◌, ◌≤◌, length}
use Rattle.lif_text.specs.Cutting.{cut_lines, long_from, long_line}
use Rattle.lif_text.proofs.cutting.check_lines.Given as goal

abbrev pub invariant-loop-rest : goal.invariant-loop-rest
invariant-loop-rest l = record {
  found : long_line (cut_lines l.text) ≡ long_from l.number (cut_lines l.rest);
  count : l.number + length l.rest ≤ length l.text + 1;
}

abbrev pub decreases-loop-rest : goal.decreases-loop-rest
decreases-loop-rest l = length l.rest
