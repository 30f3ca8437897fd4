use Rattle.std.proofs.Common.{◌≡◌, drop, nat_eq, not}
use Rattle.lif_model.specs.Pairs.{all_pairs}
use Rattle.lif_redo.proofs.texts.are_distinct.Given as goal

abbrev pub invariant-loop-i : goal.invariant-loop-i
invariant-loop-i l = all_pairs (λ j k. not (nat_eq j k)) (drop l.i l.targets) ≡ all_pairs (λ j k. not (nat_eq j k)) l.targets
