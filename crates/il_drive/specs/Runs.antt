-- A drive that takes one frame after the other, and what whole records come to.
use Rattle.std.specs.Prelude.{◌≡◌, ◌+◌, ℕ, true, false, List, [], ◌∷◌, get_or, set, map, Some, None}
use Rattle.il_frames.specs.declared.frame.Class.TheVariants as class
use Rattle.il_frames.specs.declared.frame.Frame.{Frame}
use Rattle.il_frames.specs.Frames.{byte_of, framed, is_data}
use Rattle.il_device.specs.declared.device.Out.{Out}
use Rattle.il_device.specs.Interfaces.{InterfaceState, interface_after}
use Rattle.il_device.specs.Takes.{just_sent}
use Rattle.il_ports.specs.Media.{MediumView}
use Rattle.il_drive.specs.declared.mode.Fault.TheVariants as fault
use Rattle.il_drive.specs.declared.mode.Mode.TheVariants as mode
use Rattle.il_drive.specs.State.{DriveState, DriveView}
use Rattle.il_drive.specs.Steps.{Did}
use Rattle.il_drive.specs.Table.{drive_step, faulty, emptied}

-- These frames came, oldest first, and the drive gave these answers.
abbrev pub Ran : {M : Type 0} → (M → MediumView) → DriveView M → List Frame → List Out → DriveView M → Type 0
Ran view v [] [] w = w ≡ v
Ran {M} view v (f ∷ fs) (out ∷ outs) w =
    (u : DriveView M) × Did view (drive_step (view v.medium).record_count v.state f) (u.state, out) v.medium u.medium
    × Ran view u fs outs w
Ran view v _ _ w = ⊥

abbrev pub AllData : List Frame → Type 0
AllData [] = Unit {0}
AllData (f ∷ fs) = (is_data f ≡ true) × AllData fs

-- ---- writing

-- the drive listens for the bytes of a record
pub record IsWriting (s : DriveState) : Type 0 where
  pub listens : s.interface.roles.listens ≡ true
  pub silent : s.interface.own ≡ None
  pub mode : s.mode ≡ mode.Write

-- the interface after frames that it heard
abbrev pub through : List Frame → InterfaceState → InterfaceState
through [] i = i
through (f ∷ fs) i = through fs (interface_after i f)

abbrev pub bytes_of : List Frame → List ℕ
bytes_of fs = map byte_of fs

-- the drive with bytes in buffer 0 that do not fill it
abbrev pub buffered : List Frame → DriveState → DriveState
buffered [] s = s
buffered (f ∷ fs) s = buffered fs (record s { interface = interface_after s.interface f; buffer_0 = set s.buffer_0 s.pointer (byte_of f); pointer = s.pointer + 1; filled = true })

-- the drive that has put the record of these bytes, and the one that could not, with that interface
abbrev pub put_well : List ℕ → InterfaceState → DriveState → DriveState
put_well bytes i s = emptied (record s { interface = i; buffer_0 = bytes; position = s.position + 1 })

abbrev pub put_badly : List ℕ → InterfaceState → DriveState → DriveState
put_badly bytes i s = emptied (faulty fault.Unwritten (record s { interface = i; buffer_0 = bytes }))

-- ---- reading

-- the drive talks, with the bytes of a record in buffer 0, and the one at this place, before the pointer, is on the loop
pub record IsReading (last : ℕ) (s : DriveState) : Type 0 where
  pub talks : s.interface.roles.talks ≡ true
  pub mode : s.mode ≡ mode.Read
  pub pointer : s.pointer ≡ last + 1
  pub sent : s.interface.own ≡ Some (just_sent (framed class.Dab (get_or s.buffer_0 last 0)) false)
