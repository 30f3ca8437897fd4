use Rattle.std.proofs.Common.{◌≡◌, ◌≤◌, ◌+◌, ◌++◌, ℕ, [], List, Some, length}
use Rattle.lif_model.specs.Tape.{Tape}
use Rattle.il_check.specs.declared.reading.TheConstants.{LONGEST_TRACE}
use Rattle.il_check.specs.Tracing.{HasTaken}
use Rattle.il_check.proofs.reading.read_trace.Given as goal

abbrev pub invariant-pieces : goal.invariant-pieces
invariant-pieces g l = record {
  taken : (k d : ℕ) (old : Tape) → HasTaken k d old [] l.fn.tracing → (trace : List ℕ) → g.S.Source.left l.fn.trace ≡ Some trace
      → (front : List ℕ) × (rest : List ℕ) × (g.S.Source.left l.trace ≡ Some rest) × (trace ≡ front ++ rest)
      × (length front + l.left ≡ LONGEST_TRACE) × HasTaken k d old front l.tracing;
  lines : l.tracing.lines + l.left ≤ LONGEST_TRACE;
  faults : g.S.Source.faults l.trace ≡ g.S.Source.faults l.fn.trace;
  size : length l.tracing.readers.effects.expected.records ≡ length l.fn.tracing.readers.effects.expected.records;
}

abbrev pub decreases-pieces : goal.decreases-pieces
decreases-pieces g l = l.left
