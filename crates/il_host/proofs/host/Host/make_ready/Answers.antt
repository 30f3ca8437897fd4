use Rattle.il_ring.specs.Seen.{ring_seen}
use Rattle.il_host.proofs.HostLoops.{left_lent_as}
use Rattle.il_host.proofs.host.Host.make_ready.Goals as goal

pub returns-clause-leaves : goal.returns-clause-leaves
returns-clause-leaves g c = left_lent_as g.M.Medium.view (ring_seen (λ b. (goal.Device-dyn g (b.vtable, b.value)).state b.value)) _ _ _ _ c.records_mut.ensures.value c.ready.ensures.leaves
