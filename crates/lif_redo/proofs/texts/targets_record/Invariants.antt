use Rattle.std.proofs.Common.{◌≡◌, take, length}
use Rattle.lif_redo.proofs.Numbers.{partly}
use Rattle.lif_redo.proofs.texts.targets_record.Given as goal

abbrev pub invariant-loop-i : goal.invariant-loop-i
invariant-loop-i l = l.bytes ≡ partly l.fn.version (length l.targets) (take l.i l.targets)
