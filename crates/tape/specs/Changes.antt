-- What the jobs do that change one image.
use Rattle.std.specs.Prelude.{◌≡◌, ◌⊎◌, ℕ, false, List, [], ◌∷◌, map, Option, Some, None, codes}
use Rattle.lif_dir.specs.declared.entries.Name.{Name}
use Rattle.lif_dir.specs.declared.names.NewName.{NewName}
use Rattle.il_script.specs.declared.reply.Reply.{Reply}
use Rattle.tape_drives.specs.Lending.{IsUnused}
use Rattle.tape_changes.specs.ChangeMessages.{change_messages}
use Rattle.tape_changes.specs.Changing.{ChangesDid, FrontIsLeft, Output, SaidStep, attempts_of, output_of, said}
use Rattle.tape_changes.specs.Steps.{adopt_step, purges, rename_step, upgrade_step}
use Rattle.tape_changes.specs.declared.changing.Step.{Step}
use Rattle.tape_volumes.specs.Endings.{ending_status}
use Rattle.tape_volumes.specs.Messages.{WritesMessage, no_name_line}
use Rattle.tape_volumes.specs.Outputs.{PrintsNothing, TellsNothing, WritesError, Written}
use Rattle.tape_volumes.specs.declared.ending.Ending.{Ending}
use Rattle.tape.specs.Images.{DriveSight, EndsInDrive, LacksMemoryFor}
use Rattle.tape_arguments.specs.Names.{name_spelt, names_spelt, new_name_spelt, no_new_name_line, unspelt}

-- how the job ends on the image of that name
abbrev pub ChangesEnd : {M : Type 0} → DriveSight M → Ending → (image : List ℕ) (steps : List Step) (replies : List Reply) (old now : Output) → Type 0
ChangesEnd drives e image steps replies old now =
    EndsInDrive drives (λ w s t. ChangesDid false steps w replies s t old now) (FrontIsLeft (attempts_of steps)) ((replies ≡ []) × (now ≡ old)) e image

-- These steps were taken on the image of that name, one after the other, unless the image was not opened; the job ended
-- so, and its messages were written.
pub record ImageIsChanged {M : Type 0} (drives : DriveSight M) (image : List ℕ) (steps : List Step) (status : ℕ) (old now : Written) : Type 0 where
  pub ending : Ending
  pub replies : List Reply
  pub ends : ChangesEnd drives ending image steps replies (output_of old.out old.out_faults) (output_of now.out now.out_faults)
  pub status_is : status ≡ ending_status ending
  pub says : WritesMessage (change_messages image ending steps replies) old.error now.error old.error_faults now.error_faults

-- The image was changed by steps that say this; or there was no memory to begin with, and no drive was used.
abbrev pub ChangesBy : {M : Type 0} → DriveSight M → (image : List ℕ) → List SaidStep → (status : ℕ) → (old now : Written) → Type 0
ChangesBy drives image steps status old now =
    LacksMemoryFor drives status old now ⊎ ((taken : List Step) × (map said taken ≡ steps) × ImageIsChanged drives image taken status old now)

-- an argument is refused, with this line
abbrev pub RefusesArgument : List ℕ → (status : ℕ) → (old now : Written) → Type 0
RefusesArgument line status old now = (status ≡ 2) × PrintsNothing old now × WritesError line old now

-- ---- purge

abbrev pub PurgesBy : {M : Type 0} → DriveSight M → (image : List ℕ) → Option (List Name) → (unspelt : Option (List ℕ)) → (texts : List (List ℕ)) → (status : ℕ) → (old now : Written) → Type 0
PurgesBy drives image (Some names) unspelt texts status old now = ChangesBy drives image (purges names texts) status old now
PurgesBy drives image None (Some text) texts status old now = RefusesArgument (no_name_line text) status old now
PurgesBy drives image None None texts status old now = ⊥

-- The files whose names these texts spell were purged; or there was no memory to begin with, and no drive was used. The
-- first text that spells the name of no file is refused. Without a text nothing is done.
abbrev pub PurgesFiles : {M : Type 0} → DriveSight M → (image : List ℕ) → (texts : List (List ℕ)) → (status : ℕ) → (old now : Written) → Type 0
PurgesFiles drives image [] status old now = IsUnused drives.before drives.now × (status ≡ 0) × PrintsNothing old now × TellsNothing old now
PurgesFiles drives image (text ∷ texts) status old now =
    LacksMemoryFor drives status old now ⊎ PurgesBy drives image (names_spelt (text ∷ texts)) (unspelt (text ∷ texts)) (text ∷ texts) status old now

-- ---- rename

abbrev pub RenamesBy : {M : Type 0} → DriveSight M → (image : List ℕ) → Option Name → Option NewName → (from to : List ℕ) → (status : ℕ) → (old now : Written) → Type 0
RenamesBy drives image None name_now from to status old now = RefusesArgument (no_name_line from) status old now
RenamesBy drives image (Some name) None from to status old now = RefusesArgument (no_new_name_line to) status old now
RenamesBy drives image (Some name) (Some name_now) from to status old now =
    ChangesBy drives image (rename_step name name_now from ∷ []) status old now

-- The file whose name one text spells was given the name that another text spells.
abbrev pub RenamesFile : {M : Type 0} → DriveSight M → (image from to : List ℕ) → (status : ℕ) → (old now : Written) → Type 0
RenamesFile drives image from to status old now = RenamesBy drives image (name_spelt from) (new_name_spelt to) from to status old now

-- ---- the redo file

abbrev pub AdoptsVolume : {M : Type 0} → DriveSight M → (image : List ℕ) → (status : ℕ) → (old now : Written) → Type 0
AdoptsVolume drives image status old now = ChangesBy drives image (adopt_step ∷ []) status old now

abbrev pub UpgradesVolume : {M : Type 0} → DriveSight M → (image : List ℕ) → (status : ℕ) → (old now : Written) → Type 0
UpgradesVolume drives image status old now = ChangesBy drives image (upgrade_step ∷ []) status old now
