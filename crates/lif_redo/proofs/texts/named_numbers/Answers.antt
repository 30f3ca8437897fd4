use Rattle.std.proofs.Common.{◌∙◌, ◌++◌, ◌∷◌, [], sym, arith}
use Rattle.lif_redo.proofs.Numbers.{numbers_next}
use Rattle.lif_redo.proofs.texts.named_numbers.Goals as goal

pub loop-i-preserved : goal.loop-i-preserved
loop-i-preserved c =
    let v = c.loop-i.invariant in
    record {
      numbers = c.push.ensures.items ∙ (λ d. v.numbers d ++ c.number_at-in-loop-i.ensures d ∷ []) ∙ sym (numbers_next c.args.bytes.now 10 c.loop-i.i);
      count = omega (arith, c.push.ensures.len, v.count);
    }
