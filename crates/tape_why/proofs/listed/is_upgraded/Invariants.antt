use Rattle.std.proofs.Common.{◌≡◌, ◌<◌, ℕ, [], false, get_or, map}
use Rattle.lif_model.specs.declared.version.Version.TheVariants.{Two}
use Rattle.lif_model.specs.Volume.{is_redo_entry}
use Rattle.lif_dir.specs.Entries.{slot_bytes}
use Rattle.tape_why.proofs.listed.is_upgraded.Given as goal

-- none of the slots so far
abbrev pub invariant-slots : goal.invariant-slots
invariant-slots l = record {
  none : (i : ℕ) → i < l.place → is_redo_entry l.size Two (get_or (map slot_bytes l.table.slots) i []) ≡ false;
}
