-- What the jobs `get` and `raw` do on the file of an image.
use Rattle.std.specs.Prelude.{◌≡◌, ◌⊎◌, ℕ, List, Option, Some, None}
use Rattle.lif_dir.specs.Entries.{name_bytes}
use Rattle.lif_dir.specs.declared.entries.Name.{Name}
use Rattle.tape_jobs.specs.declared.reading.Part.{Part}
use Rattle.tape_volumes.specs.declared.ending.Ending.{Ending}
use Rattle.tape_volumes.specs.Endings.{ending_status}
use Rattle.tape.specs.Images.{DriveSight, LacksMemoryFor, ReadEnds}
use Rattle.tape_volumes.specs.Messages.{WritesFileEnding, no_name_line}
use Rattle.tape_volumes.specs.Outputs.{PrintsNothing, WritesError, Written}

-- The file of the image of that name was read; the job ended so, and its message was written. The file was named by
-- this text.
pub record FileIsRead {M : Type 0} (drives : DriveSight M) (part : Part) (image : List ℕ) (file : Name) (text : List ℕ) (status : ℕ) (old now : Written) : Type 0 where
  pub ending : Ending
  pub ends : ReadEnds drives ending image part (name_bytes file) old.out now.out old.out_faults now.out_faults
  pub status_is : status ≡ ending_status ending
  pub says : WritesFileEnding image text ending old.error now.error old.error_faults now.error_faults

-- The file was read; or there was no memory to begin with, and no drive was used. A text that spells the name of no file is refused.
abbrev pub ReadsNamedFile : {M : Type 0} → DriveSight M → Part → (image : List ℕ) → Option Name → (text : List ℕ) → (status : ℕ) → (old now : Written) → Type 0
ReadsNamedFile drives part image (Some file) text status old now =
    LacksMemoryFor drives status old now ⊎ FileIsRead drives part image file text status old now
ReadsNamedFile drives part image None text status old now = (status ≡ 2) × PrintsNothing old now × WritesError (no_name_line text) old now
