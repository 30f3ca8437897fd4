use Rattle.std.proofs.Common.{◌≡◌, map, drop}
use Rattle.lif_dir.specs.Entries.{slot_bytes}
use Rattle.tape_why.specs.Defects.{clash_from}
use Rattle.tape_why.specs.Searches.{do_share}
use Rattle.tape_why.proofs.defects.first_clash.Given as goal

-- none of the slots so far
abbrev pub invariant-slots : goal.invariant-slots
invariant-slots l = record {
  left : clash_from (do_share l.what) l.place (drop l.place (map slot_bytes l.table.slots)) ≡ clash_from (do_share l.what) 0 (map slot_bytes l.table.slots);
}
