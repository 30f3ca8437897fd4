-- A second controller on a ring. It is last, and its device is one of the ring's devices; what else it has in mind is beside them.
use Rattle.std.specs.Prelude.{◌≡◌, ℕ, List, [], ◌∷◌, ◌++◌, Option, Some, None, option_map}
use Rattle.il_device.specs.State.{DeviceState, IsIdle}
use Rattle.il_guest.specs.declared.control.Control.{Control}
use Rattle.il_guest.specs.declared.control.Control.TheVariants as control
use Rattle.il_guest.specs.State.{GuestState, IsGuest}

-- the last address that it asks; who controls the loop, and where it is in its rounds; and by address the last status
-- that was reported since it took control
pub record GuestMind : Type 0 where
  pub last : ℕ
  pub control : Control
  pub found : List (Option ℕ)

abbrev pub mind_of : GuestState → GuestMind
mind_of g = record { last = g.last; control = g.control; found = g.found }

abbrev pub guest_mind : Option GuestState → Option GuestMind
guest_mind guest = option_map mind_of guest

-- its device, if there is one
abbrev pub guest_devices : Option GuestState → List DeviceState
guest_devices None = []
guest_devices (Some g) = g.device ∷ []

-- its device is the last of these, if there is one
abbrev pub StandsLast : Option GuestState → List DeviceState → Type 0
StandsLast guest after = (boxed : List DeviceState) × (after ≡ boxed ++ guest_devices guest)

-- the host controls the loop
abbrev pub IsUnderHost : Option GuestMind → Type 0
IsUnderHost None = Unit {0}
IsUnderHost (Some mind) = mind.control ≡ control.Host

-- the last address that it asks
abbrev pub last_asked : Option GuestMind → Option ℕ
last_asked mind = option_map (λ m. m.last) mind

-- It asks the same addresses as before, and if the host controlled the loop it has the same in mind.
abbrev pub KeepsGuest : Option GuestMind → Option GuestMind → Type 0
KeepsGuest before now = (last_asked now ≡ last_asked before) × (IsUnderHost before → now ≡ before)

-- if there is one, it keeps its rules
abbrev pub IsLast : Option GuestState → Type 0
IsLast None = Unit {0}
IsLast (Some g) = IsGuest g

-- if there is one, it keeps its rules, and the host controls the loop
abbrev pub MayBeGuest : Option GuestState → Type 0
MayBeGuest None = Unit {0}
MayBeGuest (Some g) = IsGuest g × (g.control ≡ control.Host)

-- if there is one, nothing has come to it that it remembers: it has no address, no role and no place in a parallel poll, and the
-- host controls the loop
abbrev pub IsIdleGuest : Option GuestState → Type 0
IsIdleGuest None = Unit {0}
IsIdleGuest (Some g) = IsIdle g.device × (g.control ≡ control.Host)
