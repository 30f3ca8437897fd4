use Rattle.std.proofs.Common.{◌≡◌, [], map, drop, get_or, suc}
use Rattle.lif_dir.specs.Entries.{slot_bytes}
use Rattle.tape_why.specs.Defects.{place_from}
use Rattle.tape_why.specs.Searches.{do_share}
use Rattle.tape_why.proofs.defects.first_later.Given as goal

-- none of the slots so far
abbrev pub invariant-slots : goal.invariant-slots
invariant-slots l = record {
  left : place_from (do_share l.what (get_or (map slot_bytes l.table.slots) l.place [])) l.later (drop l.later (map slot_bytes l.table.slots))
      ≡ place_from (do_share l.what (get_or (map slot_bytes l.table.slots) l.place [])) (suc l.place) (drop (suc l.place) (map slot_bytes l.table.slots));
}
