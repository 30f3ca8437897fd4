use Rattle.il_ring.specs.Rings.{RingView}
use Rattle.il_ring.specs.Seen.{ring_seen}
use Rattle.il_control.specs.Lent.{PolledSoFar}
use Rattle.il_control.proofs.lending.poll.Given as goal

abbrev pub invariant-loop : goal.invariant-loop
invariant-loop g l =
    let old : RingView g.row.M.Denot = ring_seen (λ b. (goal.Device-dyn g (b.vtable, b.value)).state b.value) l.initial.ring in
    let now : RingView g.row.M.Denot = ring_seen (λ b. (goal.Device-dyn g (b.vtable, b.value)).state b.value) l.ring in
    PolledSoFar g.M.Medium.view old l.counter now
