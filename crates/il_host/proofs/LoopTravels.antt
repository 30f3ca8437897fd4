-- What the frames of a command of the loop did on the ring.
use Rattle.std.proofs.Common.{Bool, true, false, subst}
use Rattle.il_ports.specs.Media.{MediumView}
use Rattle.il_ring.specs.Rings.{RingView}
use Rattle.il_record.specs.Came.{CameBy}
use Rattle.il_record.proofs.StoreCalls.{came_then}
use Rattle.il_host.proofs.LoopEvents.{Readies}

module _ {M : Type 0} (view : M → MediumView) where
  -- the addressing, where there was one, and a call after it
  pub ready_came : (was whole : Bool) (r m s : RingView M) → Readies view was r m → CameBy view whole m s → CameBy view whole r s
  ready_came true whole r m s ready more = subst (λ (m : RingView M). CameBy view whole m s) ready.0 more
  ready_came false whole r m s ready more = came_then view whole r m s ready.0 ready.1.came.units.came more
