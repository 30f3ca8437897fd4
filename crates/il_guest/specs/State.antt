-- What contracts see of a second controller.
use Rattle.std.specs.Prelude.{ℕ, ◌≡◌, ◌≤◌, Bool, true, false, List, [], length, replicate, Option, None}
use Rattle.il_frames.specs.Messages.{message_of}
use Rattle.il_device.specs.declared.roles.Roles.{Roles}
use Rattle.il_device.specs.Roles.{roles_after}
use Rattle.il_device.specs.State.{DeviceState, IsDevice, fresh}
use Rattle.il_device.specs.Interfaces.{InterfaceState, device_on}
use Rattle.il_guest.specs.declared.control.Control.{Control}
use Rattle.il_guest.specs.declared.control.Control.TheVariants as control
use Rattle.il_guest.specs.Steps.{sent_at, IsControl}

-- the device that it is; the last address that it asks; who controls the loop, and where it stands in its
-- rounds; and by address, from 0 to 30, the last status that was told since it took control
pub record GuestState : Type 0 where
  pub device : DeviceState
  pub last : ℕ
  pub control : Control
  pub found : List (Option ℕ)

-- no address has told its status
abbrev pub none_found : List (Option ℕ)
none_found = replicate 31 None

-- nothing has come to it yet
abbrev pub fresh_guest : ℕ → GuestState
fresh_guest last = record {
  device = fresh None 0;
  last = last;
  control = control.Host;
  found = none_found;
}

-- it controls the loop
abbrev pub is_leading : Control → Bool
is_leading control.Host = false
is_leading (control.Rounds p) = true
is_leading control.Silent = true

-- the roles with what its own frame that is on the loop does to them
abbrev pub roles_in_lead : Control → Roles → Roles
roles_in_lead control.Host r = r
roles_in_lead (control.Rounds p) r = roles_after r (message_of (sent_at p))
roles_in_lead control.Silent r = r

-- the device that has this interface, where the loop is controlled so. It keeps no byte
abbrev pub guest_device : InterfaceState → Control → DeviceState
guest_device i c = record (device_on i [] 0) { roles = roles_in_lead c i.roles }

-- what holds of it at every moment: among others, it has no accessory ID, never wants service and has no
-- frame of its own on the loop as a device
pub record IsGuest (s : GuestState) : Type 0 where
  pub device : IsDevice s.device
  pub own : s.device.own ≡ None
  pub accessory : s.device.accessory ≡ None
  pub wants : s.device.wants ≡ false
  pub heard : s.device.heard ≡ []
  pub room : s.device.room ≡ 0
  pub last : (1 ≤ s.last) × (s.last ≤ 30)
  pub control : IsControl s.control
  pub found : length s.found ≡ 31
