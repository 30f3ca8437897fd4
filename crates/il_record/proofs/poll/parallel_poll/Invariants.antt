use Rattle.il_ring.specs.Rings.{RingView}
use Rattle.il_ring.specs.Seen.{ring_seen}
use Rattle.il_record.proofs.Collecting.{AssignedSo}
use Rattle.il_record.proofs.poll.parallel_poll.Given as goal

abbrev pub invariant-loop-place : goal.invariant-loop-place
invariant-loop-place g l =
    let old : RingView g.row.M.Denot = ring_seen (λ b. (goal.Device-dyn g (b.vtable, b.value)).state b.value) l.fn.ring in
    let now : RingView g.row.M.Denot = ring_seen (λ b. (goal.Device-dyn g (b.vtable, b.value)).state b.value) l.ring in
    AssignedSo g.M.Medium.view l.place old now
