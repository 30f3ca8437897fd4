-- The steps of jobs.
use Rattle.std.specs.Prelude.{ℕ, Bool, true, false, List, [], ◌∷◌, codes, None}
use Rattle.lif_model.specs.Apply as volume
use Rattle.lif_model.specs.Apply.{VolumeCommand}
use Rattle.lif_dir.specs.Entries.{name_bytes}
use Rattle.lif_dir.specs.Names.{label_bytes, made_name}
use Rattle.lif_dir.specs.declared.entries.Name.{Name}
use Rattle.lif_dir.specs.declared.names.NewLabel.{NewLabel}
use Rattle.lif_dir.specs.declared.names.NewName.{NewName}
use Rattle.tape_volumes.specs.Changes.{change_command}
use Rattle.tape_changes.specs.declared.replacing.NewFile.{NewFile}
use Rattle.tape_changes.specs.Changing.{Attempt, SaidStep}
use Rattle.tape_changes.specs.Replacing.{store_change}

-- one command, and none instead of it
abbrev pub alone : VolumeCommand → Attempt
alone command = record { command = command; instead = None }

-- the file of this name is purged, and nothing is printed
abbrev pub purge_step : Name → (text : List ℕ) → SaidStep
purge_step name text = record { attempt = alone (volume.Purge (name_bytes name)); subject = text; line = [] }

-- one purge for each name, which the text spells
abbrev pub purges : List Name → List (List ℕ) → List SaidStep
purges (name ∷ names) (text ∷ texts) = purge_step name text ∷ purges names texts
purges _ _ = []

-- the file of this name, which the text spells, is given another name
abbrev pub rename_step : Name → NewName → (text : List ℕ) → SaidStep
rename_step old new text =
    record { attempt = alone (volume.Rename (name_bytes old) (name_bytes (made_name new))); subject = text; line = [] }

-- the file is stored, and the line is printed
abbrev pub store_step : NewFile → (text line : List ℕ) → SaidStep
store_step file text line = record { attempt = alone (change_command (store_change file)); subject = text; line = line }

-- ---- the redo file

-- a volume of another program gets its redo file
abbrev pub adopt_step : SaidStep
adopt_step = record { attempt = alone volume.Adopt; subject = codes "redo file"; line = codes "the volume has its redo file\n" }

-- the redo file becomes one of version 2
abbrev pub upgrade_step : SaidStep
upgrade_step = record { attempt = alone volume.Upgrade; subject = codes "redo file"; line = codes "34 records are the redo file's\n" }

-- what is printed once the volume is there, if its redo file stays as `format` makes it
abbrev pub small_line : (small : Bool) → List ℕ
small_line true = codes "4 records are the redo file's\n"
small_line false = []

-- a new volume is made
abbrev pub format_step : NewLabel → ℕ → (small : Bool) → SaidStep
format_step label slots small =
    record { attempt = alone (volume.Format (label_bytes label) slots); subject = codes "volume"; line = small_line small }
