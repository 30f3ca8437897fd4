use Rattle.std.proofs.Common.{◌≡◌, map, drop}
use Rattle.std.specs.List.{list_any}
use Rattle.lif_dir.specs.Names.{new_name}
use Rattle.mended_names.specs.Mending.{has_text}
use Rattle.mended_names.proofs.mending.is_made_name.Given as goal

abbrev pub invariant-names : goal.invariant-names
invariant-names l = list_any (has_text l.text) (map new_name l.names) ≡ list_any (has_text l.text) (map new_name (drop l.name-index l.names))
