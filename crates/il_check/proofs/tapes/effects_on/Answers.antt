use Rattle.std.proofs.Common.{◌≡◌, ◌∙◌, ◌++◌, ◌∷◌, ◌+◌, [], Option, List, ℕ, arith, length, length-append, subst, sym, ap, take}
use Rattle.std.proofs.lemmas.List.{take_more}
use Rattle.trace_readers.specs.Effects.{IsEffectAfter}
use Rattle.trace_readers.specs.Expected.{Known}
use Rattle.il_check.proofs.tapes.effects_on.Goals as goal

one_more : (records : List (Option (List ℕ))) (x : Option (List ℕ)) → length (records ++ x ∷ []) ≡ length records + 1
one_more records x = omega (arith, length-append records (x ∷ []))

pub loop-record-preserved : goal.loop-record-preserved
loop-record-preserved c = record {
  known = subst (λ (t : List (List ℕ)). IsEffectAfter c.args.drive t [] c.push.new.self)
      (sym (take_more c.args.tape.now c.loop-record.record-index [] (omega (arith, c.loop-record-test.true))))
      (c.push.ensures.known c.args.drive (take c.loop-record.record-index c.args.tape.now) c.loop-record.invariant.known);
  size = ap (λ (k : Known). length k.records) c.push.ensures.expected ∙ one_more c.loop-record.effects.expected.records _ ∙ ap (λ (n : ℕ). n + 1) c.loop-record.invariant.size;
  room = ap (λ (k : Known). k.room) c.push.ensures.expected ∙ c.loop-record.invariant.room;
}
