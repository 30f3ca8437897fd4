-- The ring of the devices before a second controller, as that one sees it: the host's of them, between its frames.
pub use Rattle.il_control.specs.Polling.{own_ring}
use Rattle.std.proofs.Common.{◌≡◌, ◌∙◌, ◌+◌, ◌++◌, List, [], ◌∷◌, Option, None, length, refl, ap, arith, length-append}
use Rattle.std.proofs.lemmas.List.Elements.{All-nil}
use Rattle.il_device.specs.State.{DeviceState}
use Rattle.il_drive.specs.State.{device_of}
use Rattle.il_ring.specs.declared.flight.Flight.{Flight}
use Rattle.il_ring.specs.Books.{IsHeld}
use Rattle.il_ring.specs.Fates.{HoldsByPlan, IsByPlan}
use Rattle.il_ring.specs.Lending.{IsControlled, going_on}
use Rattle.il_ring.specs.Rings.{RingView, IsRing, devices_of}
use Rattle.il_control.specs.Calls.{IsFree}

pub own_ring-IsRing : {M : Type 0} (r : RingView M) (boxed : List DeviceState) (last : DeviceState) (held : Option Flight) → r.after ≡ boxed ++ last ∷ [] → IsControlled r → IsHeld held → HoldsByPlan r.books.plan r.books.begun r.books.crossings held → IsRing (own_ring boxed held (going_on r))
own_ring-IsRing r boxed last held after controlled is way = record {
  few =
      let many = ap length after ∙ length-append boxed (last ∷ []) in
      omega (arith, many, controlled.few);
  plan = controlled.plan;
  crossings = controlled.crossings;
  held = is;
  drive = controlled.drive;
  lent = refl;
  kept = refl;
  told = record { begun = controlled.told.begun; entries = All-nil (IsByPlan r.books.plan r.books.begun r.books.crossings); held = way; lent = tt; kept = tt };
}

pub own_ring-IsFree : {M : Type 0} (r : RingView M) (boxed : List DeviceState) (last : DeviceState) → r.after ≡ boxed ++ last ∷ [] → IsControlled r → IsFree (own_ring boxed None (going_on r))
own_ring-IsFree r boxed last after controlled = record { ring = own_ring-IsRing r boxed last None after controlled tt tt; held = refl }

-- its devices are one fewer
pub own_ring-length : {M : Type 0} (r : RingView M) (boxed : List DeviceState) (last : DeviceState) (held : Option Flight) → r.after ≡ boxed ++ last ∷ [] → length (devices_of r) ≡ length (devices_of (own_ring boxed held (going_on r))) + 1
own_ring-length r boxed last held after =
    let all = length-append r.before (device_of r.drive.state ∷ r.after) in
    let own = length-append r.before (device_of r.drive.state ∷ boxed) in
    let many = ap length after ∙ length-append boxed (last ∷ []) in
    omega (arith, all, own, many)
