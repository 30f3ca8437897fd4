-- A ring that was just made, as a controller and a store take it.
use Rattle.std.proofs.lemmas.List.Elements.{All-append, All-map as every_map, All-same as every_same}
use Rattle.il_ports.specs.Media.{MediumView as Seen_medium}
use Rattle.il_record.specs.declared.records.Since.TheVariants as since_is
use Rattle.il_record.specs.LoopStores.{LoopView as SeenLoop}
use Rattle.host_model.specs.RingStates.{state_on as on_ring}
use Rattle.il_host.specs.Standings.{state_at as standing_state}
use Rattle.il_host.specs.Shorts.{AllShort, IsShort}
use Rattle.std.proofs.Common.{◌≡◌, ℕ, Bool, false, List, ◌++◌, Option, map, ◌∙◌, ap, subst, sym}
use Rattle.std.specs.List.{All}
use Rattle.il_device.specs.State.{DeviceState}
use Rattle.il_drive.specs.State.{DriveView, fresh_drive}
use Rattle.il_ring.specs.declared.plan.Planned.{Planned}
use Rattle.il_guest.specs.State.{GuestState}
use Rattle.il_ring.specs.Guests.{IsIdleGuest, MayBeGuest, guest_devices}
use Rattle.il_ring.proofs.Guests.{guest_stands}
use Rattle.il_ring.specs.Lists.{Each}
use Rattle.il_ring.specs.Rings.{IsRing, MayStand, RingView, devices_of, fresh_books}
use Rattle.il_control.specs.Calls.{IsLost}
use Rattle.il_control.proofs.Fresh.{new_lost}
use Rattle.il_record.specs.Polls.{MayPoll}
use Rattle.il_record.proofs.Places.{new_may_poll}

-- the devices after the drive, a second controller as the last one, may all stand on a new ring
all_stand : {X : Type 0} (state : X → DeviceState) (ys : List X) (guest : Option GuestState) (ds : List DeviceState) → ds ≡ map state ys ++ guest_devices guest
    → All (λ x. MayStand (state x)) ys → IsIdleGuest guest → MayBeGuest guest → All MayStand ds
all_stand state ys guest ds is last idle may =
    every_same MayStand ds (map state ys ++ guest_devices guest) is
    (All-append MayStand (map state ys) (guest_devices guest) (every_map MayStand state ys last) (guest_stands guest idle may))

-- over devices that may stand on a new ring, and a second controller that may
module _ {M X : Type 0} (state : X → DeviceState) (xs ys : List X) (guest : Option GuestState) (medium : M) (plan : List Planned) (room : ℕ) (r s : RingView M) (same : s ≡ r) (ring : IsRing r)
    (books : r.books ≡ fresh_books plan room) (drive : r.drive ≡ record { state = fresh_drive; medium = medium }) (before : r.before ≡ map state xs) (after : r.after ≡ map state ys ++ guest_devices guest)
    (first : All (λ x. MayStand (state x)) xs) (last : All (λ x. MayStand (state x)) ys) (idle : IsIdleGuest guest) (may : MayBeGuest guest) where
  first_stand : All MayStand r.before
  first_stand = every_same MayStand r.before (map state xs) before (every_map MayStand state xs first)

  last_stand : All MayStand r.after
  last_stand = all_stand state ys guest r.after after last idle may

  pub new_ring_lost : IsLost s
  new_ring_lost = subst IsLost (sym same) (new_lost r plan room ring books (ap (λ (d : DriveView M). d.state) drive) first_stand last_stand)

  pub new_ring_may_poll : Each MayPoll 1 (devices_of s)
  new_ring_may_poll = subst (λ (r : RingView M). Each MayPoll 1 (devices_of r)) (sym same) (new_may_poll r ring (ap (λ (d : DriveView M). d.state) drive) first_stand last_stand)

-- the paper of a device that may stand on a new ring is short
short_of : (ds : List DeviceState) → All MayStand ds → All IsShort ds
short_of ds stand = λ i d within. let keeps = (stand i d within).2 in record { heard = keeps.heard; room = keeps.room }

-- the paper of each device of a new ring is short
pub new_ring_short : {M X : Type 0} (view : M → Seen_medium) (state : X → DeviceState) (l : SeenLoop M) (r s : RingView M) (xs ys : List X) (guest : Option GuestState)
    → l ≡ record { ring = s; ready = false; sound = false; since = since_is.Unbroken; resumes = 0 } → s ≡ r → r.before ≡ map state xs → r.after ≡ map state ys ++ guest_devices guest
    → All (λ x. MayStand (state x)) xs → All (λ x. MayStand (state x)) ys → IsIdleGuest guest → MayBeGuest guest → AllShort (standing_state view l).loop
new_ring_short {M} view state l r s xs ys guest fresh same before after first last idle may =
    subst (λ (l : SeenLoop M). AllShort (standing_state view l).loop) (sym fresh)
    (subst (λ (s : RingView M). AllShort (on_ring view false false s).loop) (sym same)
    (record {
      before = every_same IsShort r.before (map state xs) before (short_of (map state xs) (every_map MayStand state xs first));
      after = short_of r.after (all_stand state ys guest r.after after last idle may);
    }))

-- the state of a store that was just made, which keeps no directory
pub new_ring_state : {M : Type 0} (view : M → Seen_medium) (l : SeenLoop M) (r s : RingView M) (kept : Bool) → l ≡ record { ring = s; ready = false; sound = false; since = since_is.Unbroken; resumes = 0 } → s ≡ r → kept ≡ false
    → record (standing_state view l) { kept = kept } ≡ on_ring view false false r
new_ring_state {M} view l r s kept fresh same none =
    ap (λ (l : SeenLoop M). record (standing_state view l) { kept = kept }) fresh ∙ ap (λ (s : RingView M). record (on_ring view false false s) { kept = kept }) same ∙ ap (λ kept. record (on_ring view false false r) { kept = kept }) none

-- the ring of a store that was just made is the one that it was made of
pub ring_unsent : {M : Type 0} (l : SeenLoop M) (r s t : RingView M) → l ≡ record { ring = s; ready = false; sound = false; since = since_is.Unbroken; resumes = 0 } → s ≡ r
    → t ≡ l.ring → t ≡ r
ring_unsent {M} l r s t fresh same has = has ∙ ap (λ (l : SeenLoop M). l.ring) fresh ∙ same
