use Rattle.std.specs.Prelude.{◌≡◌, length}
use Rattle.il_ring.specs.Statuses.{known_of, last_known}
use Rattle.il_host.proofs.lent_log.last_status.Given as goal

abbrev pub invariant-loop-rest : goal.invariant-loop-rest
invariant-loop-rest l = known_of l.fn.party l.fn.address l.asked l.known l.rest ≡ last_known l.fn.party l.fn.address l.fn.log

abbrev pub decreases-loop-rest : goal.decreases-loop-rest
decreases-loop-rest l = length l.rest
