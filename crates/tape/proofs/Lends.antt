-- What was done in drives stays so while more drives are lent.
use Rattle.std.proofs.Common.{ℕ, List, [], ◌∷◌, Bool, inl, inr}
use Rattle.std.specs.Prelude.{◌⊎◌}
use Rattle.il_ports.specs.Media.{MediumView}
use Rattle.tape_drives.specs.Lending.{Lending, LendsOn}
use Rattle.tape_jobs.specs.declared.collecting.Collected.{Collected}
use Rattle.tape_volumes.specs.declared.ending.Ending.{Ending}
use Rattle.tape_volumes.specs.Outputs.{Written}
use Rattle.tape.specs.Comparing.{AreCollected, OtherIsCompared}
use Rattle.tape.specs.Images.{DriveSight, InOneDrive, MediumSight}
use Rattle.tape.specs.Several.{AreListed, ImageListed}

module _ {M : Type 0} (media : MediumSight M) (before now earlier later : Lending M) (on : LendsOn now later) where
  abbrev drives : DriveSight M
  drives = record { media = media; before = before; now = now }

  abbrev drives_on : DriveSight M
  drives_on = record { media = media; before = earlier; now = later }

  pub drive_on : (name : List ℕ) (did : Type 0 → MediumView → MediumView → Type 0) → InOneDrive drives name did → InOneDrive drives_on name did
  drive_on name did was = record {
    drive = was.drive;
    drive_now = was.drive_now;
    given = on.gave was.drive was.given;
    back = on.took was.drive_now was.back;
    empty = was.empty;
    did = was.did;
  }

  pub image_on : (csv : Bool) (count : ℕ) (all : Bool) (name : List ℕ) (e : Ending) (old written : Written) → ImageListed drives csv count all name e old written → ImageListed drives_on csv count all name e old written
  image_on csv count all name e old written was = record {
    style = was.style;
    style_is = was.style_is;
    ends = drive_on name _ was.ends;
    says = was.says;
  }

  pub listed_on : (csv : Bool) (count : ℕ) (all : Bool) (names : List (List ℕ)) (ends : List Ending) (old written : Written) → AreListed drives csv count all names ends old written → AreListed drives_on csv count all names ends old written
  listed_on csv count all [] [] old written are = are
  listed_on csv count all [] (e ∷ ends) old written are = are
  listed_on csv count all (name ∷ names) [] old written are = are
  listed_on csv count all (name ∷ names) (e ∷ ends) old written are =
      (are.0, image_on csv count all name e old are.0 are.1, listed_on csv count all names ends are.0 written are.2)

  pub collected_on : {N : Type 0} (memory : MediumSight N) (image : List ℕ) (e : Ending) (files : List Collected) → AreCollected drives memory image e files → AreCollected drives_on memory image e files
  collected_on memory image e files (inl not) = inl (drive_on image _ not)
  collected_on memory image e files (inr read) = inr (read.0, drive_on image _ read.1, read.2)

  pub other_on : {N : Type 0} (memory : MediumSight N) (image other : List ℕ) (files : List Collected) (status : ℕ) (old written : Written) → OtherIsCompared drives memory image other files status old written
      → OtherIsCompared drives_on memory image other files status old written
  other_on memory image other files status old written was = (was.0, was.1, collected_on memory other was.0 was.1 was.2, was.3)
