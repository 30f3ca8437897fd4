-- What the messages do to the roles of a device, to its own frame and to its place in a parallel
-- poll. Source: HP-IL Interface Specification, HP 82166-90017. That AAU ends the roles too, that there
-- are no default addresses, and that IFC and AAU leave the place in a poll, is this project's profile.
use Rattle.std.specs.Prelude.{ℕ, Bool, true, false, ◌&&◌, ◌==◌, if◌then◌else◌, nat_le, Option, Some, None}
use Rattle.il_frames.specs.declared.message.Message.{Message}
use Rattle.il_frames.specs.declared.message.Message.TheVariants as msg
use Rattle.il_poll.specs.declared.service.Assignment.{Assignment}
use Rattle.il_poll.specs.Service.{assigned}
use Rattle.il_device.specs.declared.roles.Roles.{Roles}
use Rattle.il_device.specs.declared.interface.OwnFrame.{OwnFrame}

-- no address and no role
abbrev pub no_roles : Roles
no_roles = record { address = None; talks = false; listens = false }

-- the device has this address
abbrev pub is_own : Option ℕ → ℕ → Bool
is_own None a = false
is_own (Some b) a = b == a

-- a device without an address takes this one: the addresses are 1 to 30
abbrev pub takes_address : Option ℕ → ℕ → Bool
takes_address None a = nat_le 1 a && nat_le a 30
takes_address (Some b) a = false

-- the roles after a message: a talker that is told to listen talks no more, and the other way round
abbrev pub roles_after : Roles → Message → Roles
roles_after r msg.Ifc = record r { talks = false; listens = false }
roles_after r msg.Aau = no_roles
roles_after r (msg.Aad a) = if takes_address r.address a then record r { address = Some a } else r
roles_after r (msg.Tad a) =
    if is_own r.address a then record r { talks = true; listens = false } else record r { talks = false }
roles_after r msg.Unt = record r { talks = false }
roles_after r (msg.Lad a) =
    if is_own r.address a then record r { talks = false; listens = true } else r
roles_after r msg.Unl = record r { listens = false }
roles_after r _ = r

-- NRD stops the sender of a frame that is on the loop
abbrev pub stopped : Option OwnFrame → Option OwnFrame
stopped None = None
stopped (Some own) = Some (record own { stopped = true })

-- the own frame after a message, before the device answers: it ends where talking ends, and where
-- talking begins anew
abbrev pub own_after : Roles → Option OwnFrame → Message → Option OwnFrame
own_after r own msg.Ifc = None
own_after r own msg.Aau = None
own_after r own (msg.Tad a) = None
own_after r own msg.Unt = None
own_after r own (msg.Lad a) = if is_own r.address a then None else own
own_after r own msg.Nrd = stopped own
own_after r own _ = own

-- the place in a parallel poll after a message: PPE and PPD are for listeners, PPU for all
abbrev pub assignment_after : Roles → Option Assignment → Message → Option Assignment
assignment_after r place (msg.Ppe n) = if r.listens then Some (assigned n) else place
assignment_after r place msg.Ppd = if r.listens then None else place
assignment_after r place msg.Ppu = None
assignment_after r place _ = place

-- the start messages
abbrev pub is_start : Message → Bool
is_start m = elim m [ msg.Sda ↦ true | msg.Sst ↦ true | msg.Sdi ↦ true | msg.Sai ↦ true | _ ↦ false ]

-- what a data or end frame says
abbrev pub is_data_message : Message → Bool
is_data_message m = elim m [
  | msg.Dab b ↦ true
  | msg.Dsr b ↦ true
  | msg.End b ↦ true
  | msg.Esr b ↦ true
  | _ ↦ false
]
