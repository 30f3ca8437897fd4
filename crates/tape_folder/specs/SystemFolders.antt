-- The part file that is open in a folder of the system.
use Rattle.std.specs.Prelude.{ℕ, Bool, false, Option, Some, None}
use Rattle.tape_folder.specs.declared.system_folder.Part.{Part}

abbrev pub part_number_of : Option Part → Option ℕ
part_number_of None = None
part_number_of (Some part) = Some part.number

abbrev pub is_synced : Option Part → Bool
is_synced None = false
is_synced (Some part) = part.is_on_disk
