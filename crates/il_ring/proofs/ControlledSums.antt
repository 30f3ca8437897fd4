-- What a pass adds to the counts and the roles.
use Rattle.std.proofs.Common.{◌≡◌, ◌∙◌, ◌+◌, ◌++◌, List, [], ◌∷◌, Some, None, length, take, sym, ap, subst, arith, append_assoc, length-append}
use Rattle.std.specs.Prelude.{◌-◌}
use Rattle.std.proofs.Math.Seq.{take-append_seam}
use Rattle.il_device.specs.State.{DeviceState}
use Rattle.il_drive.specs.State.{device_of}
use Rattle.il_ports.specs.Media.{MediumView}
use Rattle.il_ring.specs.declared.flight.Flight.{Flight}
use Rattle.il_ring.specs.declared.plan.Arrival.{Arrival}
use Rattle.il_ring.specs.Guests.{guest_devices}
use Rattle.il_ring.specs.ControlledAdds.{IsUnderWay, ControlledAdds, ControlledCounts, others_of}
use Rattle.il_ring.specs.Lending.{IsControlled, ControlledRound, going_on}
use Rattle.il_ring.specs.Rings.{RingView, devices_of}
use Rattle.il_ring.specs.Rounded.{IsAwaited, IsReady}
use Rattle.il_ring.specs.Turned.{HalvesOfRound, books_anew, ring_before_last, turned_flight}
use Rattle.il_ring.proofs.ControlledCounts.{controlled_counts, turned_stands}
use Rattle.il_ring.proofs.ControlledRoles.{controlled_roles}
use Rattle.il_ring.proofs.ControlledSends.{pass_halves, pass_controlled}
use Rattle.il_ring.proofs.Turnings.{some_flight}

-- the devices before the last
pub others_are : {M : Type 0} (r : RingView M) (boxed : List DeviceState) (last : DeviceState) → r.after ≡ boxed ++ last ∷ [] → others_of r ≡ r.before ++ device_of r.drive.state ∷ boxed
others_are r boxed last after =
    let front : List DeviceState = r.before ++ device_of r.drive.state ∷ boxed in
    let all : devices_of r ≡ front ++ last ∷ [] = ap (λ after. r.before ++ device_of r.drive.state ∷ after) after ∙ sym (append_assoc r.before (device_of r.drive.state ∷ boxed) (last ∷ [])) in
    let many : length (devices_of r) - 1 ≡ length front = let len = ap length all ∙ length-append front (last ∷ []) in omega (arith, len) in
    ap (λ j. take j (devices_of r)) many ∙ ap (take (length front)) all ∙ take-append_seam front (last ∷ [])

-- the same, by a round
others_so : {M : Type 0} (view : M → MediumView) (r s : RingView M) (f : Flight) (answer : Arrival) (round : ControlledRound view (going_on r) f answer s) (ds : List DeviceState) → ds ≡ r.before ++ device_of r.drive.state ∷ round.boxed
    → length (devices_of r) ≡ length ds + 1 → others_of r ≡ ds
others_so view r s f answer round ds is size =
    let all : devices_of r ≡ ds ++ guest_devices round.guest =
    ap (λ after. r.before ++ device_of r.drive.state ∷ after) round.after ∙ sym (append_assoc r.before (device_of r.drive.state ∷ round.boxed) (guest_devices round.guest)) ∙ ap (λ ds. ds ++ guest_devices round.guest) (sym is) in
    let many : length (devices_of r) - 1 ≡ length ds = omega (arith, size) in
    ap (λ j. take j (devices_of r)) many ∙ ap (take (length ds)) all ∙ take-append_seam ds (guest_devices round.guest)

-- by the frame that stood at the host
pub pass_adds : {M : Type 0} (view : M → MediumView) (r t s : RingView M) (flight : Flight) (answer : Arrival) → t ≡ going_on r → r.books.lent ≡ Some flight → ControlledRound view t flight answer s → IsControlled r → (f : Flight) → IsUnderWay r f → ControlledAdds r s
pass_adds view r t s flight answer at lent round controlled f way =
    let k = length (devices_of r) in
    let controlled_then : IsControlled s = (pass_controlled view r t s flight answer at lent round controlled).0 in
    let same : flight ≡ turned_flight k f = some_flight flight (turned_flight k f) (sym lent ∙ way.stands) in
    let went : ControlledRound view (going_on r) (turned_flight k f) answer s = subst (λ flight. ControlledRound view (going_on r) flight answer s) same (subst (λ t. ControlledRound view t flight answer s) at round) in
    let two : HalvesOfRound view (going_on r) None f answer s = pass_halves view r t s flight answer at lent round controlled None f way.stands way.within in
    let others : others_of r ≡ devices_of (ring_before_last two.boxed (books_anew None r.books) r) = others_are r two.boxed two.g.device two.after in
    let ready = subst (IsReady f) others way.ready in
    let kept : (h : Flight) → r.books.kept ≡ Some h → IsAwaited 0 h (devices_of (ring_before_last two.boxed (books_anew None r.books) r)) = λ h is. subst (IsAwaited 0 h) others (way.kept h is) in
    let counts : ControlledCounts r s = controlled_counts view r s (turned_flight k f) answer controlled controlled_then way.stands went
    (λ ds is size.
    let front : others_of r ≡ ds = others_so view r s (turned_flight k f) answer went ds is size in
    (turned_stands k f ds size (subst (IsReady f) front way.ready), λ y is_kept. let awaited = subst (IsAwaited 0 y) front (way.kept y is_kept) in (omega (arith, awaited.there), omega (arith, awaited.there, awaited.within)))) in
    let roles = controlled_roles view r s f answer controlled controlled_then way.stands way.within two ready kept counts.entries counts.log in
    record { counts = counts; commands = roles.0; roles = roles.1 }
