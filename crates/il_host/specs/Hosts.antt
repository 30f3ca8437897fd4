-- What holds of a host between its commands, and how contracts see it.
use Rattle.std.specs.Prelude.{◌≡◌, ◌*◌, ◌-◌, ◌++◌, ℕ, Bool, true, false, List, [], Option, is_some}
use Rattle.lif_model.specs.Tape.{Tape}
use Rattle.lif_model.specs.Volume.{volume_of}
use Rattle.lif_model.specs.Shelf.{IsSize}
use Rattle.lif_model.specs.Stops.{StandsStill}
use Rattle.il_device.specs.State.{DeviceState}
use Rattle.il_guest.specs.State.{GuestState}
use Rattle.il_ports.specs.Media.{MediumView}
use Rattle.il_ports.specs.Stores.{RecordsView}
use Rattle.lif_volume.specs.Seen as volume
use Rattle.lif_volume.specs.Views.{VolumeView, IsOpen}
use Rattle.lif_volume.specs.Commands.{IsTold}
use Rattle.lif_model.specs.Packing.{has_mark}
use Rattle.lif_pack.specs.declared.memory.Packer.{Packer}
use Rattle.lif_volume.specs.declared.volume.Volume.{Volume}
use Rattle.il_ring.specs.declared.plan.Planned.{Planned}
use Rattle.il_ring.specs.declared.ring.Ring.{Ring}
use Rattle.il_ring.specs.Guests.{guest_devices}
use Rattle.il_ring.specs.Rings.{RingView}
use Rattle.il_record.specs.declared.records.LoopRecords.{LoopRecords}
use Rattle.il_record.specs.LoopStores.{LoopView, StandsSo, view_of}
use Rattle.host_model.specs.HostStates.{fresh_host, text_room}
use Rattle.host_model.specs.Orders.{asks_last}
use Rattle.il_host.specs.HostView.{HostView}
use Rattle.il_host.specs.declared.file_buffer.FileBuffer.{FileBuffer}
use Rattle.il_host.specs.Shorts.{AllShort}
use Rattle.il_host.specs.Standings.{IsHostRing, state_at}

-- how many bytes of a file there is memory for, and how many slots of a directory that is packed
pub record Space : Type 0 where
  pub file : ℕ
  pub slots : ℕ

abbrev pub space_of : FileBuffer → Packer → Space
space_of file packer = record { file = file.room; slots = packer.slots.room }

-- enough for every file and every directory on a medium of n records
pub record HasSpaceFor (n : ℕ) (space : Space) : Type 0 where
  pub file : space.file ≡ 256 * n
  pub slots : space.slots ≡ 8 * (n - 5)

-- where the directory of a told tape is kept, no packing is to be finished
abbrev pub IsUnmarked : {R S : Type 0} → (R → RecordsView S) → VolumeView R → Type 0
IsUnmarked view volume = (t : Tape) → IsTold view volume t → is_some volume.kept ≡ true
    → has_mark (view volume.records).record_count (volume_of t) ≡ false

-- The volume can be used, and the loop stands; where the directory is kept, the store is sound and no file is being moved. There is room for
-- every log, for the text of every reply, for the records of every file and for the slots of every directory; and no device keeps more
-- than there is room for.
pub record IsUsable {M R S : Type 0} (view : M → MediumView) (records : R → RecordsView S) (volume : VolumeView R) (loop : LoopView M)
    (text_space : ℕ) (space : Space) : Type 0 where
  pub volume_open : IsOpen records volume
  pub size : IsSize (records volume.records).record_count
  pub stands : StandsSo loop
  pub kept : is_some volume.kept ≡ true → loop.sound ≡ true
  pub log : IsHostRing view loop.ring
  pub short : AllShort (state_at view loop).loop
  pub text : text_space ≡ text_room (records volume.records).record_count
  pub space_is : HasSpaceFor (records volume.records).record_count space
  pub unmarked : IsUnmarked records volume

-- by its store, and by whether the directory is kept
abbrev pub host_view : {M S : Type 0} → (M → MediumView) → Type 0 → RecordsView S → LoopView M → Bool → List ℕ → HostView
host_view view valid store loop kept text = record {
  valid = valid;
  state = record (state_at view loop) { kept = kept };
  plan = loop.ring.books.plan;
  log = loop.ring.books.log;
  text = text;
  images = (view loop.ring.drive.medium).shelf;
  inside = (view loop.ring.drive.medium).inside;
  moment = store.moment;
  left_since = store.left_since;
}

-- ---- for the parts of a host

-- a store over the loop, by what contracts see of a ring
abbrev pub loop_in : {M I : Type 0} {D : I → Type 0} → (Ring M I D → RingView M) → LoopRecords M I D → LoopView M
loop_in seen l = record { ring = seen l.ring; ready = l.ready; sound = l.sound; since = l.since; resumes = l.resumes }

abbrev pub store_in : {M I : Type 0} {D : I → Type 0} → (M → MediumView) → (Ring M I D → RingView M) → LoopRecords M I D → RecordsView (Ring M I D)
store_in view seen l = view_of view seen l.ring (loop_in seen l)

-- a volume over it
abbrev pub volume_in : {R : Type 0} → Volume R → VolumeView R
volume_in v = volume.seen v

-- all of it
abbrev pub host_in : {M I : Type 0} {D : I → Type 0} → (M → MediumView) → (Ring M I D → RingView M) → Volume (LoopRecords M I D) → List ℕ → (text_space : ℕ) → Space → HostView
host_in view seen v text text_space space =
    host_view view (IsUsable view (store_in view seen) (volume_in v) (loop_in seen v.records) text_space space) (store_in view seen v.records) (loop_in seen v.records)
    (is_some (volume_in v).kept) text

-- ---- opening and closing

-- The host was opened on this medium, over devices before and after the drive, and a second controller after them, where there is one.
pub record IsOpened {M : Type 0} (view : M → MediumView) (medium : M) (before after : List DeviceState) (guest : Option GuestState) (plan : List Planned)
    (v : HostView) : Type 0 where
  pub valid : v.valid
  pub state : v.state ≡ fresh_host (view medium).tape (view medium).record_count (view medium).faults before (after ++ guest_devices guest) (asks_last guest)
  pub plan_is : v.plan ≡ plan
  -- no command was performed yet
  pub log : v.log ≡ []
  pub text : v.text ≡ []
  pub images : v.images ≡ (view medium).shelf
  pub inside : v.inside ≡ (view medium).inside
  pub moment : v.moment ≡ (view medium).moment
  pub since : StandsStill (view medium).left_since v.left_since

-- The medium and the devices that are handed back are as the host left them.
pub record IsClosed {M : Type 0} (view : M → MediumView) (v : HostView) (medium : M) (before after : List DeviceState) (guest : Option GuestState) : Type 0 where
  pub tape : (view medium).tape ≡ v.state.tape
  pub faults : (view medium).faults ≡ v.state.faults
  pub shelf : (view medium).shelf ≡ v.images
  pub inside : (view medium).inside ≡ v.inside
  pub devices_before : before ≡ v.state.loop.before
  pub devices_after : after ++ guest_devices guest ≡ v.state.loop.after
  pub guest_is : asks_last guest ≡ v.state.loop.guest
  pub moment : (view medium).moment ≡ v.moment
  pub since : StandsStill v.left_since (view medium).left_since
