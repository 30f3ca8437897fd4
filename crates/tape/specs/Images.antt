-- What a job does on one image, and how it ends.
use Rattle.std.specs.Prelude.{◌≡◌, ◌⊎◌, ◌<◌, ℕ, Bool, true, false, List, length, Option, Some, None, is_some}
use Rattle.lif_model.specs.Causes.{Rose}
use Rattle.lif_model.specs.Stops.{LeavesOnly}
use Rattle.lif_model.specs.Tape.{Tape}
use Rattle.lif_model.specs.Shelf.{Shelf, image_of, inserted, largest_image}
use Rattle.lif_model.specs.Apply.{Dir, Fetch}
use Rattle.il_ports.specs.Inserting.{Refuses, OthersAreKept}
use Rattle.il_ports.specs.Media.{MediumView}
use Rattle.host_model.specs.Leaves.{HasImage}
use Rattle.il_host.specs.Whole.{MayHaveLeft}
use Rattle.tape_drives.specs.Lending.{IsUnused, Lending}
use Rattle.tape_jobs.specs.Dir.{DirDid}
use Rattle.tape_volumes.specs.Outputs.{LacksMemory, WritesNothing, Written}
use Rattle.tape_jobs.specs.Reading.{ReadDid}
use Rattle.tape_volumes.specs.Volumes.{DoneOrNot, Mounted, StopLeaves}
use Rattle.tape_jobs.specs.declared.listing.Style.{Style}
use Rattle.tape_jobs.specs.declared.reading.Part.{Part}
use Rattle.tape_volumes.specs.declared.went.Went.{Went}
use Rattle.tape_volumes.specs.declared.ending.Ending.{Ending}
use Rattle.tape_volumes.specs.declared.ending.Ending.TheVariants as ending

-- What contracts see of media of one kind: the view of each, and why an insert of an image of that name failed.
pub record MediumSight (M : Type 0) : Type 1 where
  pub view : M → MediumView
  pub refuses : M → M → (name : List ℕ) → Type 0

abbrev pub medium_sight : {M : Type 0} → (M → MediumView) → (M → M → List ℕ → Option ℕ → Type 0) → MediumSight M
medium_sight view refuses = record { view = view; refuses = λ drive drive_now name. refuses drive drive_now name None }

-- What contracts see of the drives of a job: their media, and what was lent before the job and after it.
pub record DriveSight (M : Type 0) : Type 1 where
  pub media : MediumSight M
  pub before : Lending M
  pub now : Lending M

abbrev pub sight : {M : Type 0} → (M → MediumView) → (M → M → List ℕ → Option ℕ → Type 0) → (before now : Lending M) → DriveSight M
sight view refuses before now = record { media = medium_sight view refuses; before = before; now = now }

-- A drive was given, and it was empty. In it this was done with the image of that name, and then the drive came back.
pub record InOneDrive {M : Type 0} (drives : DriveSight M) (name : List ℕ) (does : (refused : Type 0) → (v m : MediumView) → Type 0) : Type 0 where
  pub drive : M
  pub drive_now : M
  pub given : drives.now.gave drive
  pub back : drives.now.took drive_now
  pub empty : (drives.media.view drive).record_count ≡ 0
  pub did : does (drives.media.refuses drive drive_now name) (drives.media.view drive) (drives.media.view drive_now)

-- the tape in the drive of a medium, with its directory kept in memory or not
abbrev pub mounted_on : Bool → MediumView → Mounted
mounted_on kept m = record { records = m.record_count; tape = m.tape; kept = kept; faults = m.faults }

-- A job did this on the tape that is in the drive of the medium v. No other image changes. A power stop leaves the tape as it was, or what the
-- job may leave.
pub record WorksOnTape (does : Mounted → Mounted → Type 0) (leaves : Mounted → Tape → Type 0) (v m : MediumView) : Type 0 where
  pub kept : Bool
  pub did : does (mounted_on false v) (mounted_on kept m)
  pub size : m.record_count ≡ v.record_count
  pub stops : is_some v.tape ≡ true → LeavesOnly v.moment m.moment v.left_since m.left_since (λ x. (v.tape ≡ Some x) ⊎ leaves (mounted_on false v) x)
  pub same : m.inside ≡ v.inside
  pub others : OthersAreKept v.inside v.shelf m.shelf

-- `start` is the medium with the image of that name in its drive: if contracts can see the images, it reads as the image. A job did this on it,
-- and the bytes in the drive at the end are those of the image; every other image is as before. A power stop leaves the tape as it was, or what
-- the job may leave.
pub record WorksOnImage (does : Mounted → Mounted → Type 0) (leaves : Mounted → Tape → Type 0) (name : List ℕ) (v m : MediumView) : Type 0 where
  pub start : Mounted
  pub kept : Bool
  pub reads : (shelf : Shelf) → v.shelf ≡ Some shelf → (t : Tape) × (start.tape ≡ Some t) × (inserted (image_of name shelf) None ≡ Some t)
  pub faults_are : start.faults ≡ v.faults
  pub did : does start (mounted_on kept m)
  pub shelf : (shelf : Shelf) → v.shelf ≡ Some shelf → HasImage name m.tape shelf m.shelf
  pub stops : is_some start.tape ≡ true → (x : Tape) → MayHaveLeft v m x → (start.tape ≡ Some x) ⊎ leaves start x

-- How a job ends on the image of that name. If the image is not opened, nothing was done, and `refused` says why an insert failed.
abbrev pub JobEnds : (does : Went → Mounted → Mounted → Type 0) (leaves : Mounted → Tape → Type 0) (nothing refused : Type 0) → Ending → (name : List ℕ) (v w : MediumView) → Type 0
JobEnds does leaves nothing refused (ending.Went w) name v m = WorksOnImage (DoneOrNot does nothing w) leaves name v m
JobEnds does leaves nothing refused ending.NoImage name v m =
    Refuses v.shelf m.shelf m.inside m.tape m.record_count × ((s : Shelf) → v.shelf ≡ Some s → image_of name s ≡ None)
    × (m.faults ≡ v.faults) × nothing
JobEnds does leaves nothing refused ending.ImageTooLarge name v m =
    Refuses v.shelf m.shelf m.inside m.tape m.record_count
    × ((s : Shelf) → v.shelf ≡ Some s → (bytes : List ℕ) × (image_of name s ≡ Some bytes) × (largest_image < length bytes))
    × (m.faults ≡ v.faults) × nothing
JobEnds does leaves nothing refused ending.NotOpened name v m =
    Refuses v.shelf m.shelf m.inside m.tape m.record_count × Rose v.faults m.faults × refused × nothing

-- there was no memory to begin with, and no drive was used
abbrev pub LacksMemoryFor : {M : Type 0} → DriveSight M → (status : ℕ) → (old now : Written) → Type 0
LacksMemoryFor drives status old now = IsUnused drives.before drives.now × LacksMemory status old now

-- a job ended so on the image of that name, in a drive that was given for it and came back
abbrev pub EndsInDrive : {M : Type 0} → DriveSight M → (does : Went → Mounted → Mounted → Type 0) (leaves : Mounted → Tape → Type 0) (nothing : Type 0) → Ending → (name : List ℕ) → Type 0
EndsInDrive drives does leaves nothing e name = InOneDrive drives name (λ refused v m. JobEnds does leaves nothing refused e name v m)

-- how `dir` ends
abbrev pub DirEnds : {M : Type 0} → DriveSight M → Ending → (name : List ℕ) (style : Style) (all : Bool) (before now : Option (List ℕ)) (faults faults_now : ℕ) → Type 0
DirEnds drives e name style all before now faults faults_now =
    EndsInDrive drives (λ w s t. DirDid w style all s t before now faults faults_now) (StopLeaves Dir) (WritesNothing before now faults faults_now) e name

-- how `get` or `raw` ends on the file of that name
abbrev pub ReadEnds : {M : Type 0} → DriveSight M → Ending → (name : List ℕ) (part : Part) (file : List ℕ) (before now : Option (List ℕ)) (faults faults_now : ℕ) → Type 0
ReadEnds drives e name part file before now faults faults_now =
    EndsInDrive drives (λ w s t. ReadDid w part file s t before now faults faults_now) (StopLeaves (Fetch file)) (WritesNothing before now faults faults_now) e name
