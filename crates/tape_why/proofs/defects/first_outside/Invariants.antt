use Rattle.std.proofs.Common.{◌≡◌, map, drop}
use Rattle.lif_dir.specs.Entries.{slot_bytes}
use Rattle.tape_why.specs.Defects.{place_from}
use Rattle.tape_why.specs.Searches.{is_outside}
use Rattle.tape_why.proofs.defects.first_outside.Given as goal

-- none of the slots so far
abbrev pub invariant-slots : goal.invariant-slots
invariant-slots l = record {
  left : place_from (is_outside l.low l.high) l.place (drop l.place (map slot_bytes l.table.slots)) ≡ place_from (is_outside l.low l.high) 0 (map slot_bytes l.table.slots);
}
