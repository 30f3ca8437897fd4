-- What the words of the program ask for, and what a run finds outside.
use Rattle.std.specs.Prelude.{◌≡◌, ◌++◌, ℕ, Bool, true, false, List, Option, Some, None}
use Rattle.lif_model.specs.Shelf.{Shelf, IsSize, image_of, inserted}
use Rattle.lif_model.specs.Tape.{Tape, IsTape}
use Rattle.il_device.specs.State.{DeviceState}
use Rattle.il_guest.specs.State.{GuestState}
use Rattle.il_ring.specs.declared.plan.Planned.{Planned}
use Rattle.il_ring.specs.Guests.{guest_devices, guest_mind, last_asked}
use Rattle.host_model.specs.HostStates.{HostState, fresh_host}
use Rattle.host_model.specs.Runs.{OutputMode, WithTrace, Quiet, Summary}

pub record Order : Type 0 where
  -- the name of the image; and how many records it is to have where it is missing, if it is to be made then
  pub image : List ℕ
  pub made : Option ℕ
  -- a second controller is on the loop
  pub guest : Bool
  -- the faults that are planned
  pub plan : List Planned
  pub quiet : Bool
  -- the seed and the number of lines of a script that is generated
  pub generated : Option (ℕ × ℕ)

abbrev pub quiet_mode : Bool → OutputMode
quiet_mode true = Quiet
quiet_mode false = WithTrace

abbrev pub mode_by : Option (ℕ × ℕ) → Bool → OutputMode
mode_by None quiet = quiet_mode quiet
mode_by (Some script) quiet = Summary

abbrev pub mode_of : Order → OutputMode
mode_of order = mode_by order.generated order.quiet

-- the shelf, the tape in the drive, what is left of the script and what was written, each where it is told; the medium's count
-- of faults; the devices before and after the drive; and a second controller
pub record Outside : Type 0 where
  pub shelf : Option Shelf
  pub tape : Option Tape
  pub left : Option (List ℕ)
  pub written : Option (List ℕ)
  pub faults : ℕ
  pub before : List DeviceState
  pub after : List DeviceState
  pub guest : Option GuestState

-- the second controller that is on the loop, after all devices, or none
abbrev pub taking_part : Bool → Option GuestState → Option GuestState
taking_part true guest = guest
taking_part false guest = None

-- the last address that it asks
abbrev pub asks_last : Option GuestState → Option ℕ
asks_last guest = last_asked (guest_mind guest)

-- the image went into the drive: on a told shelf there is one, or it was made, and the tape is the one that it reads as
pub record Inserts (order : Order) (old : Outside) (tape : Option Tape) : Type 0 where
  pub reads_as : (shelf : Shelf) → old.shelf ≡ Some shelf
      → (t : Tape) × (tape ≡ Some t) × (inserted (image_of order.image shelf) order.made ≡ Some t)

-- the host was opened on it, over the devices that were handed in, a second controller among them where it is asked for
pub record Opens (order : Order) (old : Outside) (start : HostState) : Type 0 where
  pub tape : Option Tape
  pub inserts : Inserts order old tape
  pub records : ℕ
  pub size : IsSize records
  pub is_tape : (t : Tape) → tape ≡ Some t → IsTape records t
  pub fresh : start ≡ fresh_host tape records old.faults old.before (old.after ++ guest_devices (taking_part order.guest old.guest))
      (asks_last (taking_part order.guest old.guest))

-- the tape and the devices that are handed back are as the last item left them; a second controller that was kept aside is as before
pub record HandsBack (order : Order) (finish : HostState) (old now : Outside) : Type 0 where
  pub tape : now.tape ≡ finish.tape
  pub faults : now.faults ≡ finish.faults
  pub before : now.before ≡ finish.loop.before
  pub after : now.after ++ guest_devices (taking_part order.guest now.guest) ≡ finish.loop.after
  pub guest : asks_last (taking_part order.guest now.guest) ≡ finish.loop.guest
  pub aside : order.guest ≡ false → now.guest ≡ old.guest
