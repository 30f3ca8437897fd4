-- What the job `in` does, which stores files of the host.
use Rattle.std.specs.Prelude.{◌≡◌, ◌⊎◌, ◌==◌, ℕ, Bool, List, [], ◌∷◌, Option, if◌then◌else◌}
use Rattle.il_ports.specs.Files.{FileView}
use Rattle.il_ports.specs.NamedImages.{ImagesView}
use Rattle.tape_changes.specs.Storing.{incoming_steps}
use Rattle.tape_changes.specs.declared.storing.Incoming.{Incoming}
use Rattle.tape_drives.specs.Lending.{IsUnused}
use Rattle.tape_incoming.specs.Incoming.{Arrive, RefusedFile, names_given}
use Rattle.tape_incoming.specs.Messages.{refused_lines}
use Rattle.tape_volumes.specs.Messages.{WritesMessage}
use Rattle.tape_volumes.specs.Outputs.{PrintsNothing, TellsNothing, Written}
use Rattle.tape.specs.Changes.{ChangesBy}
use Rattle.tape.specs.Images.{DriveSight, LacksMemoryFor}

-- What contracts see of files of the host: the view of each and of all, and all before the job and after it.
pub record HostSight (F I : Type 0) : Type 1 where
  pub file : F → FileView
  pub seen : I → ImagesView
  pub before : I
  pub now : I

abbrev pub host_sight : {F I : Type 0} → (F → FileView) → (I → ImagesView) → (before now : I) → HostSight F I
host_sight file seen before now = record { file = file; seen = seen; before = before; now = now }

-- the exit status, by that of what was stored: a file that is refused is something that is not done
abbrev pub status_with : List RefusedFile → ℕ → ℕ
status_with [] status = status
status_with (file ∷ refused) status = if status == 0 then 1 else status

-- These files were stored on the image, one after the other. Without a file no drive is used.
abbrev pub StoresFiles : {M : Type 0} → DriveSight M → (over quiet : Bool) → (image : List ℕ) → List Incoming → (status : ℕ) → (old now : Written) → Type 0
StoresFiles drives over quiet image [] status old now = IsUnused drives.before drives.now × (status ≡ 0) × PrintsNothing old now × TellsNothing old now
StoresFiles drives over quiet image (file ∷ files) status old now = ChangesBy drives image (incoming_steps over quiet (file ∷ files)) status old now

-- The files of these paths were read or refused, and the refused ones have messages. Then those that were read were
-- stored.
pub record FilesAreTaken {F I M : Type 0} (host : HostSight F I) (drives : DriveSight M) (over mend quiet : Bool) (image : List ℕ) (paths : List (List ℕ)) (status : ℕ) (old now : Written) : Type 0 where
  pub files : List Incoming
  pub refused : List RefusedFile
  pub arrive : Arrive host.file host.seen paths (names_given mend paths) host.before host.now files refused
  -- what was written to standard error before the image was opened, and the count of its faults
  pub error : Option (List ℕ)
  pub faults : ℕ
  pub says : WritesMessage (refused_lines refused) old.error error old.error_faults faults
  pub stored : ℕ
  pub stores : StoresFiles drives over quiet image files stored (record old { error = error; error_faults = faults }) now
  pub status_is : status ≡ status_with refused stored

-- The same; or there was no memory to read them, and no drive was used.
abbrev pub TakesFiles : {F I M : Type 0} → HostSight F I → DriveSight M → (over mend quiet : Bool) → (image : List ℕ) → (paths : List (List ℕ)) → (status : ℕ) → (old now : Written) → Type 0
TakesFiles host drives over mend quiet image paths status old now =
    LacksMemoryFor drives status old now ⊎ FilesAreTaken host drives over mend quiet image paths status old now
