use Rattle.std.proofs.Common.{◌∙◌, ◌++◌, ℕ, List, ap, append_assoc, arith, subst, sym, take}
use Rattle.std.proofs.lemmas.List.{take_all, take_more}
use Rattle.il_check.specs.Tracing.{HasTaken}
use Rattle.il_check.proofs.tracing.Tracing.take.Goals as goal

pub loop-byte-preserved : goal.loop-byte-preserved
loop-byte-preserved c = record {
  taken = λ k d old front has.
      subst (λ (b : List ℕ). HasTaken k d old b c.take_byte.new.self)
      (append_assoc front (take c.loop-byte.byte-index c.args.bytes.now) _ ∙ ap (λ (b : List ℕ). front ++ b) (sym (take_more c.args.bytes.now c.loop-byte.byte-index 0 (omega (arith, c.loop-byte-test.true)))))
      (c.take_byte.ensures.taken k d old (front ++ take c.loop-byte.byte-index c.args.bytes.now) (c.loop-byte.invariant.taken k d old front has));
  lines = omega (arith, c.take_byte.ensures.lines, c.loop-byte.invariant.lines);
  size = c.take_byte.ensures.size ∙ c.loop-byte.invariant.size;
}

pub returns-clause-taken : goal.returns-clause-taken
returns-clause-taken c = λ k d old front has.
    subst (λ (b : List ℕ). HasTaken k d old (front ++ b) c.loop-byte.self)
    (take_all c.loop-byte.byte-index c.args.bytes.now (omega (arith, c.loop-byte-test.false))) (c.loop-byte.invariant.taken k d old front has)
