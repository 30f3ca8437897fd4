use Rattle.std.proofs.Common.{◌≡◌, ◌≤◌, ◌<◌, ◌*◌, ◌^◌, take}
use Rattle.tape_text.specs.Listing.{records_held}
use Rattle.tape_text.proofs.volume.records_held.Given as goal

abbrev pub invariant-slots : goal.invariant-slots
invariant-slots l = record {
  count : l.held ≡ records_held (take l.place l.slots.slots);
  few : l.held ≤ 4294967295 * l.place;
  end : l.place-end < 2 ^ 32;
}
