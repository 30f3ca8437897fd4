use Rattle.std.proofs.Common.{◌≡◌, ◌≤◌, length, map, take}
use Rattle.lif_model.specs.Fit.{purged_from}
use Rattle.lif_dir.specs.Entries.{slot_bytes}
use Rattle.tape_text.proofs.volume.purged_of.Given as goal

abbrev pub invariant-slots : goal.invariant-slots
invariant-slots l = record {
  count : l.purged ≡ length (purged_from 0 (map slot_bytes (take l.place l.slots.slots)));
  few : l.purged ≤ l.place;
}
