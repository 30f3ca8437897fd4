use Rattle.std.proofs.Common.{◌≡◌, take}
use Rattle.arrayvec.specs.ArrayVec.{array_vec_len}
use Rattle.lif_model.specs.Redo.{targets_in}
use Rattle.lif_redo.proofs.steps.numbers.Given as goal

abbrev pub invariant-loop-change : goal.invariant-loop-change
invariant-loop-change l = record {
  numbers : l.numbers.items ≡ targets_in (take l.change-index l.changes);
  count : array_vec_len l.numbers ≡ l.change-index;
}
