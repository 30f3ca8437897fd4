use Rattle.std.proofs.Common.{◌≡◌, length}
use Rattle.loop_rows.proofs.reader_rows.read_lines.Given as goal

-- the tape has as many records as before
abbrev pub invariant-loop-line : goal.invariant-loop-line
invariant-loop-line l = length l.effects.expected.records ≡ length l.fn.effects.expected.records
