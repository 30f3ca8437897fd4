-- What contracts see of a device.
use Rattle.std.specs.Prelude.{ℕ, zero, suc, ◌≡◌, ◌+◌, ◌≤◌, min, Bool, true, false, ◌&&◌, Option, Some, None, List, [], length}
use Rattle.il_frames.specs.Frames.{is_data}
use Rattle.il_poll.specs.declared.service.Assignment.{Assignment}
use Rattle.il_poll.specs.Service.{IsPlace}
use Rattle.il_device.specs.declared.roles.Roles.{Roles}
use Rattle.il_device.specs.declared.interface.OwnFrame.{OwnFrame}
use Rattle.il_device.specs.Roles.{no_roles}

-- the state of a device: its roles, its own frame on the loop, its place in a parallel poll, whether
-- it wants service, the first bytes that it heard, how many it keeps at most, how many it heard, how
-- many frames it took, and its accessory ID
pub record DeviceState : Type 0 where
  pub roles : Roles
  pub own : Option OwnFrame
  pub assignment : Option Assignment
  pub wants : Bool
  pub heard : List ℕ
  pub room : ℕ
  pub heard_count : ℕ
  pub frames : ℕ
  pub accessory : Option ℕ

-- a device that nothing has come to yet
abbrev pub fresh : Option ℕ → ℕ → DeviceState
fresh accessory room = record {
  roles = no_roles;
  own = None;
  assignment = None;
  wants = false;
  heard = [];
  room = room;
  heard_count = 0;
  frames = 0;
  accessory = accessory;
}

-- no address, no role, no place in a poll and no frame of its own on the loop
pub record IsIdle (s : DeviceState) : Type 0 where
  pub roles : s.roles ≡ no_roles
  pub assignment : s.assignment ≡ None
  pub own : s.own ≡ None

-- an address is a number from 1 to 30
abbrev pub IsAddress : Option ℕ → Type 0
IsAddress None = Unit {0}
IsAddress (Some a) = (1 ≤ a) × (a ≤ 30)

-- a data or end frame, and only the talker has one on the loop
abbrev pub IsSent : Option OwnFrame → Bool → Type 0
IsSent None talks = Unit {0}
IsSent (Some own) talks = (talks ≡ true) × (is_data own.frame ≡ true)

-- what a device is on the loop: it never talks and listens at once, only the talker has a frame of
-- its own on the loop, and the place in a poll is one of eight
pub record IsStanding (roles : Roles) (own : Option OwnFrame) (place : Option Assignment) : Type 0 where
  pub address : IsAddress roles.address
  pub one_role : (roles.talks && roles.listens) ≡ false
  pub sender : IsSent own roles.talks
  pub in_poll : IsPlace place

-- a count of 64 bits
abbrev pub IsCount : ℕ → Type 0
IsCount n = n ≤ 18446744073709551615

-- what holds of every device at every moment
pub record IsDevice (s : DeviceState) : Type 0 where
  pub standing : IsStanding s.roles s.own s.assignment
  pub heard : length s.heard ≤ s.room
  pub room : s.room ≤ 8192
  pub heard_count : IsCount s.heard_count
  pub frames : IsCount s.frames

-- one more, in a count that stays at the greatest 64-bit number
abbrev pub risen : ℕ → ℕ
risen n = min (n + 1) 18446744073709551615

-- a count that rose k times
abbrev pub risen_by : ℕ → ℕ → ℕ
risen_by zero n = n
risen_by (suc k) n = risen_by k (risen n)
