use Rattle.std.proofs.Common.{◌≡◌, length}
use Rattle.loop_rows.proofs.checked_rows.first_fault.Given as goal

-- the tape has as many records as before
abbrev pub invariant-loop-place : goal.invariant-loop-place
invariant-loop-place l = length l.effects.expected.records ≡ length l.fn.effects.expected.records
