-- What contracts see of a ring.
use Rattle.std.specs.Prelude.{map, ◌++◌}
use Rattle.std.specs.declared.dyn_box.DynBox.{DynBox}
use Rattle.std.specs.Global.{Global}
use Rattle.il_device.specs.State.{DeviceState}
use Rattle.il_ring.specs.declared.ring.Parts.{Parts}
use Rattle.il_ring.specs.declared.ring.Ring.{Ring}
use Rattle.il_ring.specs.Rings.{RingView}
use Rattle.il_ring.specs.Guests.{guest_devices, guest_mind}

-- by the state of each boxed device
abbrev pub parts_seen : {M I : Type 0} {D : I → Type 0} → (DynBox I Global D → DeviceState) → Parts M I D → RingView M
parts_seen state p = record {
  before = map state p.boxes.before.items;
  drive = p.drive;
  after = map state p.boxes.after.items ++ guest_devices p.boxes.last;
  guest = guest_mind p.boxes.last;
  books = p.books;
}

abbrev pub ring_seen : {M I : Type 0} {D : I → Type 0} → (DynBox I Global D → DeviceState) → Ring M I D → RingView M
ring_seen state r = parts_seen state r.parts.value
