use Rattle.std.proofs.Common.{◌≡◌, [], length, take}
use Rattle.trace_readers.specs.Effects.{IsEffectAfter}
use Rattle.il_check.proofs.tapes.effects_on.Given as goal

abbrev pub invariant-loop-record : goal.invariant-loop-record
invariant-loop-record l = record {
  known : IsEffectAfter l.fn.drive (take l.record-index l.tape) [] l.effects;
  size : length l.effects.expected.records ≡ l.record-index;
  room : l.effects.expected.room ≡ length l.tape;
}
