use Rattle.std.proofs.Common.{◌≡◌, drop}
use Rattle.il_ring.specs.Plans.{rises_from}
use Rattle.il_ring.proofs.plan.is_plan.Given as goal

abbrev pub invariant-loop-planned : goal.invariant-loop-planned
invariant-loop-planned l = rises_from 0 l.plan ≡ rises_from l.crossing (drop l.planned-index l.plan)
