-- What `ready` tells, in the words of the rings before and after it.
use Rattle.std.proofs.Common.{◌≡◌, Bool, true, false, ap, refl}
use Rattle.std.specs.Prelude.{Ok, Err}
use Rattle.il_ports.specs.Media.{MediumView}
use Rattle.il_ports.specs.declared.records.Trouble.{Trouble}
use Rattle.il_ports.specs.declared.records.Trouble.TheVariants as trouble
use Rattle.il_ring.specs.Rings.{RingView, drive_party}
use Rattle.il_record.specs.declared.records.Since.{Since}
use Rattle.il_record.specs.LoopStores.{Addresses, LoopView, NotAddressed, StandsBy}
use Rattle.il_record.specs.Runs.{Interrupted, LeavesDevices, address_asks}
use Rattle.il_host.proofs.LoopEvents.{Readies}

-- `ready` with ok
pub ready_ok : {M T : Type 0} (view : M → MediumView) (x : T) (ready sound : Bool) (log : Since) (old new : LoopView M) → StandsBy ready old.ring sound log → Addresses view ready old new (Ok x) → Readies view ready old.ring new.ring
ready_ok {M} view x true sound log old new so addressed = (ap (λ (l : LoopView M). l.ring) addressed, so.0)
ready_ok view x false sound log old new so addressed = (so.0.free, addressed.readied)

-- `ready` that was broken off, by the rings
pub record ReadyBroke {M : Type 0} (view : M → MediumView) (r s : RingView M) : Type 0 where
  pub interrupted : Interrupted view address_asks (drive_party r) r s
  pub leaves : LeavesDevices r s

-- the loop was not ready
pub ready_err : {M : Type 0} (T : Type 0) (view : M → MediumView) (e : Trouble) (ready : Bool) (old new : LoopView M) → Addresses {T = T} view ready old new (Err e) → (ready ≡ false) × (e ≡ trouble.Frame) × NotAddressed view old new
ready_err T view e true old new addressed = absurd addressed
ready_err T view e false old new addressed = (refl, addressed.0, addressed.1)
