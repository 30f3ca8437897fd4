-- Calls over the loop that move no record: accessory IDs, the parallel poll, and bytes for a printer.
use Rattle.std.specs.Prelude.{◌≡◌, ◌≤◌, ◌+◌, ◌-◌, ℕ, Bool, true, false, List, [], ◌∷◌, length, take, map, Option, Some, None}
use Rattle.il_device.specs.State.{DeviceState}
use Rattle.il_ports.specs.Media.{MediumView}
use Rattle.il_drive.specs.State.{DriveView, status_of}
use Rattle.loop_model.specs.Exchanges.{Sai}
use Rattle.loop_model.specs.Devices.{EachBecomes}
use Rattle.il_ring.specs.Rings.{RingView, devices_of, spare_of}
use Rattle.il_control.specs.Calls.{AllStay}
use Rattle.il_control.specs.Receives.{accessory_at}
use Rattle.il_record.specs.Asks.{Ask, AskTell, AskHear, CameAsked, Told, up_to}
use Rattle.il_record.specs.Came.{NoneHeard, OnlyHeard, heard_on}
use Rattle.il_record.specs.Listening.{Hears, HearsPart}

-- What such a call leaves of the drive, whole or broken off: its status and its medium. Where it does not talk it sends nothing.
pub record LeavesDrive {M : Type 0} (v w : DriveView M) : Type 0 where
  pub status : status_of w.state ≡ status_of v.state
  pub medium : w.medium ≡ v.medium
  pub silent : w.state.interface.roles.talks ≡ false → w.state.interface.own ≡ None

-- ---- accessory IDs

-- an accessory ID is told by one byte, after which its device is stopped; a device that has none tells nothing
abbrev pub id_told : ℕ → Option ℕ → Option Told
id_told a None = None
id_told a (Some id) = Some (record { party = a; bytes = id ∷ []; stopped = true })

-- of these devices the one of that address is to tell its accessory ID
abbrev pub id_asks : List DeviceState → ℕ → List Ask
id_asks devices a = AskTell a None Sai (id_told a (accessory_at (a - 1) devices)) ∷ []

-- This was asked for, and came whole or broken off. No device heard anything, by the log too, and each has its place in the poll.
pub record LeftAlone {M : Type 0} (view : M → MediumView) (whole : Bool) (asks : List Ask) (r s : RingView M) : Type 0 where
  pub came : CameAsked view whole asks r s
  pub stays : AllStay false r s
  pub unheard : NoneHeard r s
  pub drive : LeavesDrive r.drive s.drive

-- the device of that address told its accessory ID, or there is none that has one
pub record Named {M : Type 0} (view : M → MediumView) (a : ℕ) (id : Option ℕ) (r s : RingView M) : Type 0 where
  pub id_is : id ≡ accessory_at (a - 1) (devices_of r)
  pub left : LeftAlone view true (id_asks (devices_of r) a) r s
  pub room : spare_of r ≤ spare_of s + 13

-- the accessory IDs of all devices, in the order of the ring
abbrev pub ids_of : List DeviceState → List (Option ℕ)
ids_of devices = map (λ d. d.accessory) devices

-- each was asked, in this order, and told its own, if it has one
pub record AllNamed {M : Type 0} (view : M → MediumView) (ids : List (Option ℕ)) (r s : RingView M) : Type 0 where
  pub ids_are : ids ≡ ids_of (devices_of r)
  pub left : LeftAlone view true (up_to (id_asks (devices_of r)) (length (devices_of r))) r s

-- ---- bytes for a device

-- the device of that address is to hear these bytes
abbrev pub say_asks : ℕ → List ℕ → List Ask
say_asks a bytes = AskHear a None bytes ∷ []

-- The device of that address heard these bytes, and no other device anything. The log tells the same: of the entries that it gained the
-- device heard exactly these bytes.
pub record Said {M : Type 0} (view : M → MediumView) (a : ℕ) (bytes : List ℕ) (r s : RingView M) : Type 0 where
  pub came : CameAsked view true (say_asks a bytes) r s
  pub heard : EachBecomes (Hears a bytes) 1 (devices_of r) (devices_of s)
  pub unheard : OnlyHeard a r s
  pub by_log : 1 ≤ a → a ≤ length (devices_of r) → heard_on r a unheard.entries ≡ bytes
  pub drive : LeavesDrive r.drive s.drive

-- That was broken off. Of the entries that the log gained the device heard so many bytes, whole, the first ones. It did hear these, and
-- then at most one byte of any value; no other device heard anything.
pub record NotSaid {M : Type 0} (view : M → MediumView) (a : ℕ) (bytes : List ℕ) (r s : RingView M) : Type 0 where
  pub came : CameAsked view false (say_asks a bytes) r s
  pub whole : ℕ
  pub within : whole ≤ length bytes
  pub heard : EachBecomes (HearsPart a whole bytes) 1 (devices_of r) (devices_of s)
  pub unheard : OnlyHeard a r s
  pub by_log : 1 ≤ a → a ≤ length (devices_of r) → heard_on r a unheard.entries ≡ take whole bytes
  pub drive : LeavesDrive r.drive s.drive
