-- What the job `out` does, and what it writes on standard error.
use Rattle.std.specs.Prelude.{◌≡◌, ◌⊎◌, ℕ, true, List, [], Option, Some, None}
use Rattle.lif_model.specs.Apply.{Dir}
use Rattle.lif_dir.specs.declared.entries.Name.{Name}
use Rattle.tape_drives.specs.Lending.{IsUnused, Lending}
use Rattle.tape_folder.specs.Folders.{FolderView}
use Rattle.tape_folder.specs.Paths.{IsFolderPath}
use Rattle.tape_jobs.specs.Out.{OutDid, is_before_folder}
use Rattle.tape_volumes.specs.Volumes.{StopLeaves}
use Rattle.tape_jobs.specs.declared.copying.Taken.{Taken}
use Rattle.tape_jobs.specs.CopyMessages.{copy_messages}
use Rattle.tape_volumes.specs.declared.ending.Ending.{Ending}
use Rattle.tape_volumes.specs.Endings.{ending_status}
use Rattle.tape_volumes.specs.Messages.{WritesMessage, memory_line, no_name_line}
use Rattle.tape.specs.Images.{DriveSight, EndsInDrive}
use Rattle.tape_arguments.specs.Names.{names_spelt, unspelt}

-- What contracts see of the folders of a job: the view of each, and what was lent before the job and after it.
pub record FolderSight (F : Type 0) : Type 1 where
  pub view : F → FolderView
  pub before : Lending F
  pub now : Lending F

abbrev pub folder_sight : {F : Type 0} → (F → FolderView) → (before now : Lending F) → FolderSight F
folder_sight view before now = record { view = view; before = before; now = now }

-- how it ends on the image of that name
abbrev pub OutEnds : {M F : Type 0} → DriveSight M → (F → FolderView) → Ending → (image : List ℕ) (asked : List Name) (ends : List Taken) (folder folder_now : F) → Type 0
OutEnds drives seen e image asked ends folder folder_now =
    EndsInDrive drives (λ w s t. OutDid w asked ends s t (seen folder) (seen folder_now) × (is_before_folder w ≡ true → folder_now ≡ folder)) (StopLeaves Dir) ((folder_now ≡ folder) × (ends ≡ [])) e image

-- The files of these names, or all files if there is no name, were copied from the image of that name into the folder of
-- that path, which was given for it and came back. The job ended so, and its messages were written.
pub record FilesAreCopied {M F : Type 0} (drives : DriveSight M) (seen : F → FolderView) (lent : Lending F) (image path : List ℕ) (asked : List Name) (status : ℕ)
    (before now : Option (List ℕ)) (faults faults_now : ℕ) : Type 0 where
  pub folder : F
  pub folder_now : F
  pub given : lent.gave folder
  pub back : lent.took folder_now
  pub closed : (seen folder).part ≡ None
  -- the folder is the one of that path, and keeps it (`OutDid`)
  pub is_at : IsFolderPath path (seen folder).path
  pub ends : List Taken
  pub ending : Ending
  pub did : OutEnds drives seen ending image asked ends folder folder_now
  pub status_is : status ≡ ending_status ending
  pub says : WritesMessage (copy_messages image path ending ends) before now faults faults_now

-- the first of the texts that spells the name of no file is refused
abbrev pub RefusesText : Option (List ℕ) → (status : ℕ) → (before now : Option (List ℕ)) (faults faults_now : ℕ) → Type 0
RefusesText None status before now faults faults_now = ⊥
RefusesText (Some text) status before now faults faults_now = (status ≡ 2) × WritesMessage (no_name_line text) before now faults faults_now

-- The files of these names were copied, or a text that spells no name is refused.
abbrev pub CopiesBy : {M F : Type 0} → DriveSight M → FolderSight F → (image path : List ℕ) → Option (List Name) → (unspelt : Option (List ℕ)) → (status : ℕ)
    → (before now : Option (List ℕ)) (faults faults_now : ℕ) → Type 0
CopiesBy drives folders image path (Some asked) unspelt status before now faults faults_now = FilesAreCopied drives folders.view folders.now image path asked status before now faults faults_now
CopiesBy drives folders image path None unspelt status before now faults faults_now = RefusesText unspelt status before now faults faults_now

-- The files were copied, or a text is refused; or there was no memory to begin with, and no drive and no folder was used.
abbrev pub CopiesFiles : {M F : Type 0} → DriveSight M → FolderSight F → (image path : List ℕ) → (texts : List (List ℕ)) → (status : ℕ)
    → (before now : Option (List ℕ)) (faults faults_now : ℕ) → Type 0
CopiesFiles drives folders image path texts status before now faults faults_now =
    (IsUnused drives.before drives.now × IsUnused folders.before folders.now × (status ≡ 7) × WritesMessage memory_line before now faults faults_now)
    ⊎ CopiesBy drives folders image path (names_spelt texts) (unspelt texts) status before now faults faults_now
