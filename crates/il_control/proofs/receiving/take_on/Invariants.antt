use Rattle.std.proofs.Common.{◌≡◌}
use Rattle.il_ring.specs.Rings.{RingView, with_held}
use Rattle.il_ring.specs.Seen.{ring_seen}
use Rattle.il_control.specs.Receives.{FrontAt}
use Rattle.il_control.proofs.receiving.take_on.Given as goal

abbrev pub invariant-loop-slot : goal.invariant-loop-slot
invariant-loop-slot g l =
    let old : RingView g.row.M.Denot = with_held (ring_seen (λ b. (goal.Device-dyn g (b.vtable, b.value)).state b.value) l.initial.ring.ring.now) l.initial.ring.standing in
    let now : RingView g.row.M.Denot = with_held (ring_seen (λ b. (goal.Device-dyn g (b.vtable, b.value)).state b.value) l.ring.ring.now) l.ring.standing in
    FrontAt g.M.Medium.view old l.slot-index l.initial.front l.front l.count now
    × (l.ring.ring.ghost_name ≡ l.initial.ring.ring.ghost_name)
