use Rattle.std.proofs.Common.{◌≡◌, ◌∙◌, ◌<◌, ◌+◌, ℕ, List, Bool, true, false, nat_lt, arith, refl, subst, sym}
use Rattle.il_frames.specs.declared.entry.Entry.{Entry}
use Rattle.lif_model.specs.Tape.{Tape, record_at}
use Rattle.loop_model.specs.Loops.{host_loop}
use Rattle.loop_model.specs.Exchanges.{Reading}
use Rattle.trace_readers.specs.Effects.{IsEffectAfter}
use Rattle.il_check.specs.Verdicts.{MayHoldRecord}
use Rattle.il_check.proofs.LineLemmas.{at_most, below}
use Rattle.il_check.proofs.tracing.first_not_made.Goals as goal

pub returns-then-not-allows : goal.returns-then-not-allows
returns-then-not-allows c = λ k d old log is reading. (
  c.loop-place-test.true,
  λ made. let bad : true ≡ false = sym ((c.allows.ensures k d old log is reading).1 made) ∙ c.if-not-allows.true in cc,
  c.loop-place.invariant.made k d old log is reading,
)

pub loop-place-preserved : goal.loop-place-preserved
loop-place-preserved c = record {
  made = λ k d old log is reading y on. by k d old log is reading y on (nat_lt y c.loop-place.place) refl;
}
  where
    by : (k d : ℕ) (old : Tape) (log : List Entry) → IsEffectAfter d old log c.args.effects.now → Reading (host_loop k d) log → (y : ℕ) → y < c.loop-place.place + 1 → (b : Bool) → nat_lt y c.loop-place.place ≡ b
        → MayHoldRecord k d old log y (record_at c.args.after.now y)
    by k d old log is reading y on true e = c.loop-place.invariant.made k d old log is reading y (below y c.loop-place.place e)
    by k d old log is reading y on false e =
        let same : c.loop-place.place ≡ y = omega (arith, on, at_most y c.loop-place.place e) in
        subst (λ (z : ℕ). MayHoldRecord k d old log z (record_at c.args.after.now z)) same ((c.allows.ensures k d old log is reading).0 c.if-not-allows.false)
