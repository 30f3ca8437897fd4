-- The changes of a volume that a job can make.
use Rattle.std.specs.Prelude.{◌≢◌, ◌<◌, ◌≤◌, Bool, true, false, length}
use Rattle.lif_model.specs.Apply as volume
use Rattle.lif_model.specs.Apply.{VolumeCommand}
use Rattle.lif_dir.specs.Batches.{parts_of}
use Rattle.lif_dir.specs.Entries.{name_bytes}
use Rattle.lif_dir.specs.Names.{label_bytes, made_name}
use Rattle.il_script.specs.declared.limits.TheConstants.{LONGEST_PAYLOAD}
use Rattle.tape_volumes.specs.declared.change.Change.{Change}
use Rattle.tape_volumes.specs.declared.change.Change.TheVariants as change

-- the command of the volume that makes it
abbrev pub change_command : Change → VolumeCommand
change_command (change.Store name kind field bytes) = volume.Store (name_bytes (made_name name)) kind field bytes.now
change_command (change.Rename old new) = volume.Rename (name_bytes old) (name_bytes (made_name new))
change_command (change.Purge name) = volume.Purge (name_bytes name)
change_command change.Adopt = volume.Adopt
change_command change.Upgrade = volume.Upgrade
change_command (change.Format label slots) = volume.Format (label_bytes label) slots
change_command (change.Batch batch) = volume.Batch (parts_of batch.now)

-- the type is that of a file, the bytes are no more than those of a disc, and a directory has a slot
abbrev pub IsFormedChange : Change → Type 0
IsFormedChange (change.Store name kind field bytes) = (kind ≢ 0) × (kind ≢ 0xFFFF) × (length bytes.now ≤ LONGEST_PAYLOAD)
IsFormedChange (change.Format label slots) = 0 < slots
IsFormedChange c = Unit {0}

-- the changes of a batch, made as one
abbrev pub is_batch : Change → Bool
is_batch (change.Batch batch) = true
is_batch c = false
