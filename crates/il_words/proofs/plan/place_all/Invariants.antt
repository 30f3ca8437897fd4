use Rattle.std.proofs.Common.{◌≡◌, ◌+◌, drop, length}
use Rattle.il_ring.specs.Plans.{IsPlan}
use Rattle.il_words.specs.Planning.{all_placed}
use Rattle.il_words.proofs.plan.place_all.Given as goal

abbrev pub invariant-faults : goal.invariant-faults
invariant-faults l = record {
  placed : all_placed (drop l.fault-index l.faults) l.plan.items ≡ all_placed l.faults l.fn.plan.items;
  rising : IsPlan l.plan.items;
  len : length l.plan.items ≡ length l.fn.plan.items + l.fault-index;
}
