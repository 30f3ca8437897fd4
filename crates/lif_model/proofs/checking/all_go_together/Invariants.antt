use Rattle.std.proofs.Common.{◌≡◌, drop}
use Rattle.lif_model.specs.Pairs.{all_pairs}
use Rattle.lif_model.specs.Plain.{go_together}
use Rattle.lif_model.proofs.checking.all_go_together.Given as goal

abbrev pub invariant-loop-i : goal.invariant-loop-i
invariant-loop-i l = all_pairs go_together (drop l.i l.slots) ≡ all_pairs go_together l.slots
