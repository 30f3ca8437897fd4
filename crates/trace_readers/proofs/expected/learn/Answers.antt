use Rattle.std.proofs.Common.{length, ap, arith, List, ℕ, ◌∙◌}
use Rattle.std.proofs.lemmas.List.{length-drop}
use Rattle.trace_readers.proofs.KnownLemmas.{learned_next}
use Rattle.trace_readers.proofs.expected.learn.Goals as goal

pub loop-record-preserved : goal.loop-record-preserved
loop-record-preserved c =
    let l = c.loop-record in
    let rest = l.rest.now in
    record {
      so_far =
          learned_next (length c.args.records.now) l.record-index l.records rest _ _ _ c.first_record.ensures
          c.after_first-rest.ensures (omega arith) (omega arith) l.invariant.so_far;
      left =
          ap (λ (bytes : List ℕ). length bytes) c.after_first-rest.ensures
          ∙ omega (arith, length-drop 256 rest, l.invariant.left);
    }
