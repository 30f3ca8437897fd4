use Rattle.std.proofs.Common.{◌≡◌, length}
use Rattle.loop_rows.proofs.checked_rows.on_zeros.Given as goal

-- so many records of the tape are pushed, and there is room for all
abbrev pub invariant-loop-count : goal.invariant-loop-count
invariant-loop-count g l = (length l.effects.expected.records ≡ l._count) × (l.effects.expected.room ≡ 512)
