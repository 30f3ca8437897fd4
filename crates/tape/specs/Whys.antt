-- What the job `why` does on an image.
use Rattle.std.specs.Prelude.{◌≡◌, ◌⊎◌, ℕ, List, if◌then◌else◌}
use Rattle.tape_why.specs.Why.{is_changeable, why_text}
use Rattle.tape_volumes.specs.declared.ending.Ending.{Ending}
use Rattle.tape_volumes.specs.Endings.{ending_status}
use Rattle.tape_volumes.specs.Messages.{WritesEnding}
use Rattle.tape_volumes.specs.Outputs.{LacksMemory, PrintsNothing, PrintsWith, Written}
use Rattle.tape.specs.Images.{DriveSight}
use Rattle.tape.specs.WholeImages.{FailsToRead, ReadsInDrive}

-- the job ended so on the image of that name before anything was printed, and a message says so
abbrev pub FailsOn : Ending → (image : List ℕ) → (status : ℕ) → (old now : Written) → Type 0
FailsOn e image status old now = (status ≡ ending_status e) × PrintsNothing old now × WritesEnding image e old.error now.error old.error_faults now.error_faults

-- the exit status of `why`: 0 if the volume can be listed and changed
abbrev pub why_status : List ℕ → ℕ
why_status bytes = if is_changeable bytes then 0 else 1

-- why an image of these bytes can or cannot be listed and changed was printed, or there was no memory for it
abbrev pub TellsWhy : List ℕ → (status : ℕ) → (old now : Written) → Type 0
TellsWhy bytes status old now = LacksMemory status old now ⊎ PrintsWith (why_status bytes) (why_text bytes) status old now

-- The image of that name was read whole, and why it can or cannot be listed and changed was printed; or that ended so.
abbrev pub ImageIsExplained : {M : Type 0} → DriveSight M → (image : List ℕ) → (status : ℕ) → (old now : Written) → Type 0
ImageIsExplained drives image status old now =
    ((e : Ending) × FailsToRead drives image e × FailsOn e image status old now)
    ⊎ ((bytes : List ℕ) × ReadsInDrive drives image bytes × TellsWhy bytes status old now)
