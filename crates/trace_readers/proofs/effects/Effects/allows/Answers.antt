use Rattle.std.proofs.Common.{None, get_or, subst, arith}
use Rattle.std.specs.Prelude.{MatchBool}
use Rattle.trace_readers.specs.Expected.{IsAllowedAs}
use Rattle.trace_readers.specs.Effects.{EffectReader}
use Rattle.trace_readers.proofs.EffectLemmas.{allows_right}
use Rattle.trace_readers.proofs.effects.Effects.allows.Goals as goal

pub returns : goal.returns
returns c = λ k d old log is reading.
    allows_right k d old log c.args.self.now c.args.place c.args.bytes.now c.allows.result c.requires (omega arith)
    (subst (λ (r : EffectReader). MatchBool c.allows.result
    (IsAllowedAs (get_or r.expected.records c.args.place None) c.args.bytes.now)
    (IsAllowedAs (get_or r.expected.records c.args.place None) c.args.bytes.now → ⊥)) c.self.view_is c.allows.ensures)
    is reading
