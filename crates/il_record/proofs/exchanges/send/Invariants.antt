use Rattle.il_ring.specs.Rings.{RingView}
use Rattle.il_ring.specs.Seen.{ring_seen}
use Rattle.il_record.specs.Sends.{filled, SentSo}
use Rattle.il_record.proofs.exchanges.send.Given as goal

abbrev pub invariant-loop-place : goal.invariant-loop-place
invariant-loop-place g l =
    let old : RingView g.row.M.Denot = ring_seen (λ b. (goal.Device-dyn g (b.vtable, b.value)).state b.value) l.fn.ring in
    let now : RingView g.row.M.Denot = ring_seen (λ b. (goal.Device-dyn g (b.vtable, b.value)).state b.value) l.ring in
    SentSo g.M.Medium.view l.address l.fn.number l.place (filled l.length l.bytes) old now
