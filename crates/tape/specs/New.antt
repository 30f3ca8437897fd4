-- What the job `new` does.
use Rattle.std.specs.Prelude.{◌≡◌, ◌⊎◌, ◌∷◌, ℕ, Bool, true, false, List, [], map, Option, Some, None, option_and_then, codes, if◌then◌else◌}
use Rattle.il_ports.specs.Media.{MediumView}
use Rattle.il_ports.specs.declared.image.Size.{Size}
use Rattle.il_ports.specs.declared.image.Size.TheVariants as size
use Rattle.il_script.specs.declared.reply.Reply.{Reply}
use Rattle.lif_dir.specs.declared.names.NewLabel.{NewLabel}
use Rattle.made_images.specs.declared.making.NotMade.{NotMade}
use Rattle.made_images.specs.declared.making.NotMade.TheVariants as not_made
use Rattle.tape_changes.specs.ChangeMessages.{change_messages}
use Rattle.tape_changes.specs.Changing.{ChangesDid, FrontIsLeft, SaidStep, attempts_of, output_of, said}
use Rattle.tape_changes.specs.Steps.{format_step, upgrade_step}
use Rattle.tape_changes.specs.declared.changing.Step.{Step}
use Rattle.tape_drives.specs.Lending.{IsUnused}
use Rattle.tape_drives.specs.Making.{IsInDrive, Making}
use Rattle.tape_volumes.specs.Endings.{ending_status, is_done, told_line}
use Rattle.tape_volumes.specs.Messages.{WritesMessage}
use Rattle.tape_volumes.specs.Outputs.{LacksMemory, PrintsNothing, WritesError, WritesNothing, Written}
use Rattle.tape_volumes.specs.Volumes.{DoneOrNot}
use Rattle.tape_volumes.specs.declared.ending.Ending.TheVariants as ending
use Rattle.tape_volumes.specs.declared.went.Went.{Went}
use Rattle.tape_arguments.specs.Volumes.{label_spelt, no_label_line, no_slots_line, slots_spelt}
use Rattle.tape.specs.Changes.{RefusesArgument}
use Rattle.tape.specs.Images.{WorksOnTape}

-- What contracts see of the new images of a job: the view of each drive, and what was made before the job and after it.
pub record MakerSight (M : Type 0) : Type 1 where
  pub view : M → MediumView
  pub before : Making M
  pub now : Making M

abbrev pub maker_sight : {M : Type 0} → (M → MediumView) → (before now : Making M) → MakerSight M
maker_sight view before now = record { view = view; before = before; now = now }

-- no image was made
abbrev pub UsesNoMaker : {M : Type 0} → MakerSight M → Type 0
UsesNoMaker makers = IsUnused makers.before.lending makers.now.lending

abbrev pub medium_size : (disc : Bool) → Size
medium_size true = size.Disc
medium_size false = size.Tape

-- ---- the steps

-- a volume is made by this step, and then its redo file becomes one of version 2 unless it is to be small
abbrev pub with_upgrade : (small : Bool) → SaidStep → List SaidStep
with_upgrade true format = format ∷ []
with_upgrade false format = format ∷ upgrade_step ∷ []

-- ---- an image that was made

abbrev pub left_line : (image : List ℕ) → List ℕ
left_line image = told_line image (codes "the image was made, but not all was done, and it could not be removed") []

-- a message says so if the image could not be removed
abbrev pub SaysLeft : (gone : Bool) → (image : List ℕ) → (before now : Option (List ℕ)) (faults faults_now : ℕ) → Type 0
SaysLeft true image before now faults faults_now = WritesNothing before now faults faults_now
SaysLeft false image before now faults faults_now = WritesMessage (left_line image) before now faults faults_now

-- The drive came back. If all was done, its image stays. Otherwise the image was to be removed, and a message says so if
-- it was not.
abbrev pub StaysIf : {M : Type 0} → (done : Bool) → Making M → M → (image : List ℕ) → (before now : Option (List ℕ)) (faults faults_now : ℕ) → Type 0
StaysIf true making drive image before now faults faults_now = making.kept drive × WritesNothing before now faults faults_now
StaysIf false making drive image before now faults faults_now = (gone : Bool) × making.removed drive gone × SaysLeft gone image before now faults faults_now

-- A drive was given with a new image of that name and size, and these steps were taken on it, up to the first one that
-- failed. Then the drive came back.
pub record ImageIsMade {M : Type 0} (makers : MakerSight M) (image : List ℕ) (size : Size) (steps : List Step) (status : ℕ) (old now : Written) : Type 0 where
  pub drive : M
  pub drive_now : M
  pub made : makers.now.made image size drive
  pub back : makers.now.lending.took drive_now
  pub inside : IsInDrive image size (makers.view drive)
  pub went : Went
  pub replies : List Reply
  pub works : WorksOnTape (DoneOrNot (λ w s t. ChangesDid true steps w replies s t (output_of old.out old.out_faults) (output_of now.out now.out_faults)) ((replies ≡ []) × (output_of now.out now.out_faults ≡ output_of old.out old.out_faults)) went)
      (FrontIsLeft (attempts_of steps)) (makers.view drive) (makers.view drive_now)
  pub status_is : status ≡ ending_status (ending.Went went)
  -- what was written to standard error until the drive came back, and the count of its faults
  pub error : Option (List ℕ)
  pub faults : ℕ
  pub says : WritesMessage (change_messages image (ending.Went went) steps replies) old.error error old.error_faults faults
  pub stays : StaysIf (is_done (ending.Went went)) makers.now drive_now image error now.error faults now.error_faults

-- ---- an image that was not made

-- why it was not
abbrev pub not_made_cause : NotMade → List ℕ
not_made_cause not_made.Exists = codes "there is something of that name already"
not_made_cause not_made.NotLooked = codes "it could not be found out whether something has that name"
not_made_cause not_made.Failed = codes "the image could not be made, and nothing of it is left"
not_made_cause not_made.Left = codes "the image could not be made, and something of that name may be there now"
not_made_cause not_made.OutOfMemory = codes "there is not enough memory"

abbrev pub not_made_status : NotMade → ℕ
not_made_status not_made.OutOfMemory = 7
not_made_status why = 1

-- no image was made, and a message says why
pub record ImageIsNotMade {M : Type 0} (makers : MakerSight M) (image : List ℕ) (status : ℕ) (old now : Written) : Type 0 where
  pub why : NotMade
  pub refused : makers.now.refused image why
  pub unmade : UsesNoMaker makers
  pub status_is : status ≡ not_made_status why
  pub prints : PrintsNothing old now
  pub says : WritesError (told_line image (not_made_cause why) []) old now

-- an image was made and these steps were taken on it, or none was made
abbrev pub MakesOrNot : {M : Type 0} → MakerSight M → (image : List ℕ) → Size → List Step → (status : ℕ) → (old now : Written) → Type 0
MakesOrNot makers image size steps status old now = ImageIsNotMade makers image status old now ⊎ ImageIsMade makers image size steps status old now

-- An image was made, and steps that say this were taken on it; or none was made; or there was no memory to begin with.
abbrev pub MakesBy : {M : Type 0} → MakerSight M → (image : List ℕ) → Size → List SaidStep → (status : ℕ) → (old now : Written) → Type 0
MakesBy makers image size steps status old now =
    (UsesNoMaker makers × LacksMemory status old now)
    ⊎ ((taken : List Step) × (map said taken ≡ steps) × MakesOrNot makers image size taken status old now)

-- ---- the job

abbrev pub MakesFor : {M : Type 0} → MakerSight M → (disc small : Bool) → (image : List ℕ) → Option NewLabel → Option ℕ → (label slots : List ℕ) → (status : ℕ) → (old now : Written) → Type 0
MakesFor makers disc small image None count label slots status old now = RefusesArgument (no_label_line label) status old now
MakesFor makers disc small image (Some l) None label slots status old now = RefusesArgument (no_slots_line slots) status old now
MakesFor makers disc small image (Some l) (Some count) label slots status old now = MakesBy makers image (medium_size disc) (with_upgrade small (format_step l count small)) status old now

-- A new image of a tape or a disc was made, with a volume of the label and the number of slots that the two texts spell.
abbrev pub MakesImage : {M : Type 0} → MakerSight M → (disc small : Bool) → (image label slots : List ℕ) → (status : ℕ) → (old now : Written) → Type 0
MakesImage makers disc small image label slots status old now = MakesFor makers disc small image (label_spelt label) (slots_spelt slots) label slots status old now
