-- What is done with a host while it is open.
use Rattle.std.specs.Prelude.{◌≡◌, ◌++◌, true, List, map, Option, is_some}
use Rattle.std.specs.declared.dyn_box.DynBox.{DynBox}
use Rattle.std.specs.Global.{Global}
use Rattle.lif_model.specs.Stops.{LeavesOnly}
use Rattle.lif_model.specs.Tape.{Tape}
use Rattle.loop_model.specs.Roles.{is_at_most_one, talkers}
use Rattle.il_device.specs.State.{DeviceState}
use Rattle.il_guest.specs.State.{GuestState}
use Rattle.il_ports.specs.Media.{MediumView}
use Rattle.il_ring.specs.declared.plan.Planned.{Planned}
use Rattle.il_ring.specs.declared.rig.Rig.{Rig}
use Rattle.il_ring.specs.Guests.{guest_devices}
use Rattle.host_model.specs.LoopStates.{all_roles}
use Rattle.host_model.specs.HostStates.{HostState, fresh_host}
use Rattle.host_model.specs.Orders.{asks_last}
use Rattle.il_host.specs.HostView.{HostView, KeepsImages}

-- the devices before and after the drive, and a second controller
pub record Devices : Type 0 where
  pub before : List DeviceState
  pub after : List DeviceState
  pub guest : Option GuestState

abbrev pub devices_beside : {M I : Type 0} {D : I → Type 0} → (DynBox I Global D → DeviceState) → Rig M I D → Devices
devices_beside state rig = record { before = map state rig.before.items; after = map state rig.after.items; guest = rig.guest }

-- Work was done with a host: between the two states, a stop within it leaves what it may leave, and no other image changes.
pub record Worked {T : Type 0} (does : T → List Planned → HostState → HostState → Type 0) (leaves : T → HostState → HostState → Tape → Type 0) (v w : HostView) : Type 0 where
  pub told : T
  pub did : does told v.plan v.state w.state
  pub size : w.state.records ≡ v.state.records
  pub stops : is_some v.state.tape ≡ true → LeavesOnly v.moment w.moment v.left_since w.left_since (leaves told v.state w.state)
  pub images : KeepsImages v.inside w.inside v.images w.images

-- A host was opened on the medium v and these devices, the work was done, and w and the devices were returned.
pub record WorkedOver {T : Type 0} (does : T → List Planned → HostState → HostState → Type 0) (leaves : T → HostState → HostState → Tape → Type 0) (plan : List Planned)
    (v w : MediumView) (old now : Devices) : Type 0 where
  pub told : T
  pub start : HostState
  pub finish : HostState
  pub fresh : start ≡ fresh_host v.tape v.record_count v.faults old.before (old.after ++ guest_devices old.guest) (asks_last old.guest)
  pub one : is_at_most_one (talkers (all_roles start.loop)) ≡ true
  pub did : does told plan start finish
  pub tape : w.tape ≡ finish.tape
  pub faults : w.faults ≡ finish.faults
  pub records : finish.records ≡ v.record_count
  pub size : w.record_count ≡ v.record_count
  pub before : now.before ≡ finish.loop.before
  pub after : now.after ++ guest_devices now.guest ≡ finish.loop.after
  pub guest : asks_last now.guest ≡ finish.loop.guest
  pub stops : is_some start.tape ≡ true → LeavesOnly v.moment w.moment v.left_since w.left_since (leaves told start finish)
  pub images : KeepsImages v.inside w.inside v.shelf w.shelf
