use Rattle.std.proofs.Common.{◌≡◌, ◌+◌, ◌-◌, ◌++◌, map}
use Rattle.std.specs.List.{find, range_with_len}
use Rattle.lif_dir.specs.Names.{new_name}
use Rattle.mended_names.specs.Mending.{is_free, first_numbered, with_number, last_number}
use Rattle.mended_names.proofs.mending.first_numbered.Given as goal

abbrev pub invariant-numbers : goal.invariant-numbers
invariant-numbers l = first_numbered (map new_name l.names ++ l.given) l.base ≡ find (is_free (map new_name l.names ++ l.given)) (map (with_number l.base) (range_with_len l.number (last_number + 1 - l.number)))
