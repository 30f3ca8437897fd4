use Rattle.std.proofs.Common.{◌<◌, ℕ, List}
use Rattle.il_frames.specs.declared.entry.Entry.{Entry}
use Rattle.lif_model.specs.Tape.{Tape, record_at}
use Rattle.loop_model.specs.Loops.{host_loop}
use Rattle.loop_model.specs.Exchanges.{Reading}
use Rattle.trace_readers.specs.Effects.{IsEffectAfter}
use Rattle.il_check.specs.Verdicts.{MayHoldRecord}
use Rattle.il_check.proofs.tracing.first_not_made.Given as goal

abbrev pub invariant-loop-place : goal.invariant-loop-place
invariant-loop-place l = record {
  made : (k d : ℕ) (old : Tape) (log : List Entry) → IsEffectAfter d old log l.effects → Reading (host_loop k d) log
      → (y : ℕ) → y < l.place → MayHoldRecord k d old log y (record_at l.after y);
}
