use Rattle.std.proofs.Common.{◌≡◌}
use Rattle.arrayvec.specs.ArrayVec.{array_vec_len}
use Rattle.lif_model.specs.Redo.{numbers_at}
use Rattle.lif_redo.proofs.texts.named_numbers.Given as goal

abbrev pub invariant-loop-i : goal.invariant-loop-i
invariant-loop-i l = record {
  numbers : l.numbers.items ≡ numbers_at l.bytes 10 l.i;
  count : array_vec_len l.numbers ≡ l.i;
}
