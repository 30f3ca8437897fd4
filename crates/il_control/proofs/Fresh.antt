-- A new ring, as a controller takes it.
use Rattle.std.proofs.Common.{◌≡◌, ◌++◌, ℕ, suc, true, List, [], ◌∷◌, refl, ap, arith}
use Rattle.std.specs.List.{All, list_all}
use Rattle.std.proofs.lemmas.Bool.{and_from}
use Rattle.il_device.specs.State.{DeviceState}
use Rattle.il_drive.specs.State.{device_of, fresh_drive}
use Rattle.loop_model.specs.Roles.{is_at_most_one}
use Rattle.loop_model.proofs.RoleLaws.{is_quiet, no_talkers}
use Rattle.il_ring.specs.Books.{BooksView}
use Rattle.il_ring.specs.declared.plan.Planned.{Planned}
use Rattle.il_ring.specs.Rings.{RingView, IsRing, MayStand, fresh_books, devices_of, roles_of}
use Rattle.il_control.specs.Calls.{IsLost}

quiet_before : (ds rest : List DeviceState) → All MayStand ds → list_all is_quiet (roles_of rest) ≡ true → list_all is_quiet (roles_of (ds ++ rest)) ≡ true
quiet_before [] rest all quiet = quiet
quiet_before (d ∷ ds) rest all quiet =
    let first : MayStand d = all 0 d (omega arith) in
    and_from (is_quiet d.roles) (list_all is_quiet (roles_of (ds ++ rest))) (ap is_quiet first.0.roles) (quiet_before ds rest (λ k x within. all (suc k) x (omega (arith, within))) quiet)

quiet_after : (ds : List DeviceState) → All MayStand ds → list_all is_quiet (roles_of ds) ≡ true
quiet_after [] all = refl
quiet_after (d ∷ ds) all =
    let first : MayStand d = all 0 d (omega arith) in
    and_from (is_quiet d.roles) (list_all is_quiet (roles_of ds)) (ap is_quiet first.0.roles) (quiet_after ds (λ k x within. all (suc k) x (omega (arith, within))))

-- a ring that `Ring::new` gave, over a rig that fits: no device talks
pub new_lost : {M : Type 0} (r : RingView M) (plan : List Planned) (room : ℕ) → IsRing r → r.books ≡ fresh_books plan room → r.drive.state ≡ fresh_drive → All MayStand r.before → All MayStand r.after → IsLost r
new_lost r plan room ring books drive before after = record {
  free = record { ring = ring; held = ap (λ (b : BooksView). b.held) books };
  one = ap is_at_most_one (no_talkers 1 (roles_of (devices_of r)) (quiet_before r.before (device_of r.drive.state ∷ r.after) before (and_from (is_quiet (device_of r.drive.state).roles) (list_all is_quiet (roles_of r.after)) (ap (λ state. is_quiet (device_of state).roles) drive) (quiet_after r.after after))));
}
