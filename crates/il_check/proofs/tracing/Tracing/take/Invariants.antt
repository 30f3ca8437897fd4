use Rattle.std.proofs.Common.{◌≡◌, ◌≤◌, ◌+◌, ◌++◌, ℕ, List, length, take}
use Rattle.lif_model.specs.Tape.{Tape}
use Rattle.il_check.specs.Tracing.{HasTaken}
use Rattle.il_check.proofs.tracing.Tracing.take.Given as goal

abbrev pub invariant-loop-byte : goal.invariant-loop-byte
invariant-loop-byte l = record {
  taken : (k d : ℕ) (old : Tape) (front : List ℕ) → HasTaken k d old front l.fn.self → HasTaken k d old (front ++ take l.byte-index l.bytes) l.self;
  lines : l.self.lines ≤ l.fn.self.lines + l.byte-index;
  size : length l.self.readers.effects.expected.records ≡ length l.fn.self.readers.effects.expected.records;
}
