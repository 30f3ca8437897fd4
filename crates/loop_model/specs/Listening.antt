-- What a device hears of bytes that are sent to it, one after the other.
use Rattle.std.specs.Prelude.{◌≡◌, ◌≤◌, ◌++◌, ℕ, List, length, take}
use Rattle.il_device.specs.State.{DeviceState, risen_by}
use Rattle.il_device.specs.Takes.{kept_all}

-- the device heard exactly these bytes, and keeps the first ones of all, as far as it has room
pub record HearsAll (bytes : List ℕ) (d e : DeviceState) : Type 0 where
  pub heard : e.heard ≡ kept_all d.room d.heard bytes
  pub heard_count : e.heard_count ≡ risen_by (length bytes) d.heard_count
  pub room : e.room ≡ d.room
  pub accessory : e.accessory ≡ d.accessory

-- the first `whole` of these bytes, and then at most one byte of any value
pub record HearsInPart (whole : ℕ) (bytes : List ℕ) (d e : DeviceState) : Type 0 where
  pub more : List ℕ
  pub few : length more ≤ 1
  pub heard : HearsAll (take whole bytes ++ more) d e
