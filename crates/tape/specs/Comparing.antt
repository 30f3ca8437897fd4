-- What the job `diff` does on two images.
use Rattle.std.specs.Prelude.{◌≡◌, ◌⊎◌, ◌≤◌, ◌+◌, ◌∷◌, ℕ, true, false, List, [], Some, if◌then◌else◌}
use Rattle.lif_model.specs.Apply.{Dir}
use Rattle.tape_jobs.specs.Collecting.{CollectDid}
use Rattle.tape_jobs.specs.Differences.{are_alike, differences, named_file}
use Rattle.tape_volumes.specs.Volumes.{StopLeaves}
use Rattle.tape_jobs.specs.declared.collecting.Collected.{Collected}
use Rattle.tape_volumes.specs.declared.ending.Ending.{Ending}
use Rattle.tape_volumes.specs.Endings.{is_done}
use Rattle.tape.specs.Images.{DriveSight, JobEnds, MediumSight}
use Rattle.tape_volumes.specs.Outputs.{LacksMemory, PrintsWith, Written}
use Rattle.tape.specs.WholeImages.{FailsToRead, ReadsInDrive}
use Rattle.tape.specs.Whys.{FailsOn}

-- The image of that name was inserted in a drive, and its files were collected; or that ended so.
abbrev pub CollectsIn : {N : Type 0} → MediumSight N → N → (image : List ℕ) → Ending → List Collected → Type 0
CollectsIn {N} memory drive image e files =
    (drive_now : N) × JobEnds (λ w s t. CollectDid w files s t) (StopLeaves Dir) (files ≡ []) (memory.refuses drive drive_now image) e image (memory.view drive) (memory.view drive_now)

-- An image of these bytes was inserted in an empty drive in memory, and its files were collected; or that ended so.
pub record AreCollectedIn {N : Type 0} (memory : MediumSight N) (image bytes : List ℕ) (e : Ending) (files : List Collected) : Type 0 where
  pub drive : N
  pub empty : (memory.view drive).record_count ≡ 0
  pub holds : (memory.view drive).shelf ≡ Some ((image, bytes) ∷ [])
  pub ends : CollectsIn memory drive image e files

-- the files of both images were collected, and how they differ was printed, or there was no memory for it
abbrev pub TellsDifferences : (image other : List ℕ) → (files others : List Collected) → (status : ℕ) → (old now : Written) → Type 0
TellsDifferences image other files others status old now =
    let text = differences named_file image other files others in
    LacksMemory status old now ⊎ PrintsWith (if are_alike text then 0 else 1) text status old now

module _ {M N : Type 0} (drives : DriveSight M) (memory : MediumSight N) where
  -- The image of that name was read whole, and its files were collected from a copy in memory; or that ended so.
  abbrev pub AreCollected : (image : List ℕ) → Ending → (files : List Collected) → Type 0
  AreCollected image e files = FailsToRead drives image e ⊎ ((bytes : List ℕ) × ReadsInDrive drives image bytes × AreCollectedIn memory image bytes e files)

  -- The files of one image were collected, and then those of the other one; or that ended so.
  abbrev pub OtherIsCompared : (image other : List ℕ) → (files : List Collected) → (status : ℕ) → (old now : Written) → Type 0
  OtherIsCompared image other files status old now = (e : Ending) × (others : List Collected) × AreCollected other e others
      × (((is_done e ≡ false) × FailsOn e other status old now) ⊎ ((is_done e ≡ true) × TellsDifferences image other files others status old now))

  -- The files of both images were compared. If those of the first one were not collected, the other one was not opened:
  -- one drive was used at most.
  abbrev pub ImagesAreCompared : (image other : List ℕ) → (status : ℕ) → (old now : Written) → Type 0
  ImagesAreCompared image other status old now = (e : Ending) × (files : List Collected) × AreCollected image e files
      × (((is_done e ≡ false) × (drives.now.given ≤ drives.before.given + 1) × FailsOn e image status old now) ⊎ ((is_done e ≡ true) × OtherIsCompared image other files status old now))
