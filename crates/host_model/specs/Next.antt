-- What an item leaves of the loop, by its reply.
use Rattle.std.specs.Prelude.{◌≡◌, ◌⊎◌, ◌≤◌, ◌+◌, ◌==◌, ℕ, Bool, true, false, MatchBool, List, length, Option, Some, None}
use Rattle.il_device.specs.State.{DeviceState}
use Rattle.loop_model.specs.Devices.{EachBecomes}
use Rattle.loop_model.specs.Listening.{HearsAll, HearsInPart}
use Rattle.il_ring.specs.Outcomes.{HearsNothing}
use Rattle.il_script.specs.declared.reply.Reply.{Reply}
use Rattle.il_script.specs.declared.reply.Reply.TheVariants as reply
use Rattle.host_model.specs.Requests.{OfVolume, Get, Pack, Status, Poll, Say, Paper, Lend, Item, Asks, NoCommand}
use Rattle.host_model.specs.LoopStates.{LoopState, printer_at}

-- ---- device by device

-- the devices beside the drive become others, one by one
pub record BoxedBecome (R : ℕ → DeviceState → DeviceState → Type 0) (z y : LoopState) : Type 0 where
  pub before : EachBecomes R 1 z.before y.before
  pub after : EachBecomes R (length z.before + 2) z.after y.after

-- ---- what is heard

abbrev pub is_party : ℕ → Option ℕ → Bool
is_party party None = false
is_party party (Some other) = party == other

-- with ok the printer hears all bytes, and with a fault the first ones, and then at most one byte of any value
abbrev pub HearsSaid : List ℕ → Reply → DeviceState → DeviceState → Type 0
HearsSaid bytes reply.Ok d e = HearsAll bytes d e
HearsSaid bytes reply.FaultFrame d e = (whole : ℕ) × (whole ≤ length bytes) × HearsInPart whole bytes d e
HearsSaid bytes r d e = HearsNothing d e

-- no other device hears anything, and after no other item any device does
abbrev pub HearsOf : Item → Reply → LoopState → ℕ → DeviceState → DeviceState → Type 0
HearsOf (Asks (Say bytes)) r z party d e = MatchBool (is_party party (printer_at z)) (HearsSaid bytes r d e) (HearsNothing d e)
HearsOf _ r z party d e = HearsNothing d e

-- ---- service

-- these items leave alone whether a device wants service; after every other that is the device's own matter
abbrev pub leaves_service : Item → Bool
leaves_service (Asks Poll) = true
leaves_service (Asks Paper) = true
leaves_service (Asks _) = false
leaves_service (NoCommand c) = true

-- ---- the drive's status

-- 0 after a command of the volume, but where a frame was lost or altered
abbrev pub StatusBehindVolume : Reply → ℕ → Type 0
StatusBehindVolume reply.FaultFrame now = now ≤ 3
StatusBehindVolume r now = now ≡ 0

-- it is told, which ends it, or is as before
abbrev pub MayBeTold : ℕ → ℕ → Type 0
MayBeTold before now = (now ≡ 0) ⊎ (now ≡ before)

-- telling the status ends it
abbrev pub StatusBehindStatus : Reply → ℕ → ℕ → Type 0
StatusBehindStatus reply.FaultFrame before now = MayBeTold before now
StatusBehindStatus reply.Ok before now = now ≡ 0
StatusBehindStatus r before now = now ≡ before

abbrev pub StatusBehind : Item → Reply → ℕ → ℕ → Type 0
StatusBehind (Asks (OfVolume command)) r before now = StatusBehindVolume r now
StatusBehind (Asks (Get name)) r before now = StatusBehindVolume r now
StatusBehind (Asks Pack) r before now = StatusBehindVolume r now
StatusBehind (Asks Status) r before now = StatusBehindStatus r before now
StatusBehind (Asks (Lend frames)) r before now = MayBeTold before now
StatusBehind _ r before now = now ≡ before

-- ---- all of it

-- of the device at that party; its accessory ID stays
pub record DeviceBehind (item : Item) (r : Reply) (z : LoopState) (party : ℕ) (d e : DeviceState) : Type 0 where
  pub accessory : e.accessory ≡ d.accessory
  pub hears : HearsOf item r z party d e
  pub service : leaves_service item ≡ true → e.wants ≡ d.wants

-- the item with this reply made of the loop z the loop y
pub record Next (item : Item) (r : Reply) (z y : LoopState) : Type 0 where
  pub devices : BoxedBecome (DeviceBehind item r z) z y
  pub status : StatusBehind item r z.status y.status
