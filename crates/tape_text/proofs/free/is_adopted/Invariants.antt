use Rattle.std.proofs.Common.{◌≡◌, map, drop}
use Rattle.std.specs.List.{list_any}
use Rattle.lif_model.specs.Volume.{is_redo_file}
use Rattle.lif_dir.specs.Entries.{slot_bytes}
use Rattle.tape_text.proofs.free.is_adopted.Given as goal

abbrev pub invariant-slots : goal.invariant-slots
invariant-slots l = list_any (is_redo_file l.size) (drop l.place (map slot_bytes l.slots.slots)) ≡ list_any (is_redo_file l.size) (map slot_bytes l.slots.slots)
