use Rattle.std.proofs.Common.{◌≡◌, drop, map}
use Rattle.lif_model.specs.Legal.{slot_named}
use Rattle.lif_dir.specs.Entries.{slot_bytes}
use Rattle.tape_changes.proofs.replacing.kind_in.Given as goal

abbrev pub invariant-slots : goal.invariant-slots
invariant-slots l = slot_named (map slot_bytes l.slots.slots) l.name ≡ slot_named (drop l.place (map slot_bytes l.slots.slots)) l.name
