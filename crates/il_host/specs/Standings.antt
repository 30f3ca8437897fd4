-- What stands between two commands, by the loop, and what a command does before it asks the volume.
use Rattle.std.specs.Prelude.{◌≡◌, ◌≤◌, ◌++◌, Bool, true, false, Some, Result, Ok, Err}
use Rattle.il_ports.specs.Media.{MediumView}
use Rattle.il_ports.specs.declared.records.Trouble.{Trouble}
use Rattle.il_ports.specs.declared.records.Trouble.TheVariants as trouble
use Rattle.il_drive.specs.State.{drive_id, status_of}
use Rattle.il_ring.specs.Rings.{RingView}
use Rattle.il_record.specs.LoopStores.{LoopView, Resumes, counted_resume}
use Rattle.lif_volume.specs.declared.fault.VolumeFault.{VolumeFault}
use Rattle.lif_volume.specs.declared.fault.VolumeFault.TheVariants.{Refused, Trouble as Troubled}
use Rattle.il_script.specs.declared.reply.Reply.{Reply}
use Rattle.il_script.specs.declared.reply.Reply.TheVariants as reply
use Rattle.il_script.specs.Replies.{code_of, reply_line}
use Rattle.il_script.specs.Sheet.{Sheet}
use Rattle.host_model.specs.Requests.{Item}
use Rattle.host_model.specs.HostStates.{HostState, log_room}
use Rattle.host_model.specs.RingStates.{state_on}
use Rattle.host_model.specs.Steps.{Event, event, is_fault}

-- ---- by the loop

-- the state
abbrev pub state_at : {M : Type 0} → (M → MediumView) → LoopView M → HostState
state_at view l = state_on view l.ready l.sound l.ring

-- the log of the ring has the room that a medium of so many records is to have
abbrev pub IsHostRing : {M : Type 0} → (M → MediumView) → RingView M → Type 0
IsHostRing view r = r.books.room ≡ log_room (view r.drive.medium).record_count

-- the drive has a status of a drive
abbrev pub HasDriveStatus : {M : Type 0} → RingView M → Type 0
HasDriveStatus r = status_of r.drive.state ≤ 3

-- and the accessory ID of a drive
abbrev pub HasDriveId : {M : Type 0} → RingView M → Type 0
HasDriveId r = r.drive.state.interface.accessory ≡ Some drive_id

-- an item with its reply, from the moment at which the log was emptied
abbrev pub event_at : {M : Type 0} → (M → MediumView) → Item → Reply → (old new : LoopView M) → Event
event_at view item reply old new = event item reply new.ring.books.log (state_at view old) (state_at view new)

-- ---- within a command

-- the page, and the room for files and slots, are as before
pub record KeepsPage {X : Type 0} (old : Sheet) (old_room : X) (new : Sheet) (new_room : X) : Type 0 where
  pub page : new ≡ old
  pub room : new_room ≡ old_room

-- This is replied: the last line of the reply was written, and the volume and the room for files and slots are as before.
pub record Ends {V X : Type 0} (answer : Reply) (old_volume : V) (old : Sheet) (old_room : X) (given : Reply) (new_volume : V) (new : Sheet)
    (new_room : X) : Type 0 where
  pub reply : given ≡ answer
  pub volume : new_volume ≡ old_volume
  pub page : new ≡ record old { text = old.text ++ reply_line answer }
  pub room : new_room ≡ old_room

-- ---- before the volume is asked

-- The store is made sound: a store that is sound stays as it is, and another is resumed.
abbrev pub MakesSoundBy : {M T : Type 0} → (M → MediumView) → Bool → LoopView M → LoopView M → Result T Trouble → Type 0
MakesSoundBy view true old new (Ok x) = new ≡ old
MakesSoundBy view true old new (Err e) = ⊥
MakesSoundBy view false old new answer = Resumes view false (counted_resume old) new answer

abbrev pub MakesSound : {M T : Type 0} → (M → MediumView) → LoopView M → LoopView M → Result T Trouble → Type 0
MakesSound view old new answer = MakesSoundBy view old.sound old new answer

-- ---- after it

-- the reply to a command of the volume is a fault exactly where the store failed, and the same one
abbrev pub FitsAnswer : {T : Type 0} → Result T Trouble → Reply → Type 0
FitsAnswer (Ok x) r = is_fault r ≡ false
FitsAnswer (Err trouble.Frame) r = r ≡ reply.FaultFrame
FitsAnswer (Err trouble.Medium) r = r ≡ reply.FaultMedium

-- the reply to a fault of the store
abbrev pub fault_of : Trouble → Reply
fault_of trouble.Frame = reply.FaultFrame
fault_of trouble.Medium = reply.FaultMedium

-- the reply to a command of the volume, by the volume's answer
abbrev pub volume_reply : {T : Type 0} → Result T VolumeFault → Reply
volume_reply (Ok x) = reply.Ok
volume_reply (Err (Refused why)) = reply.No (code_of why)
volume_reply (Err (Troubled e)) = fault_of e
