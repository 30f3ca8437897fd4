-- Files that were collected.
use Rattle.std.proofs.Common.{◌≡◌, ℕ, List, subst, sym}
use Rattle.tape_jobs.specs.declared.collecting.Collected.{Collected}
use Rattle.tape_volumes.specs.declared.ending.Ending.{Ending}
use Rattle.tape.specs.Comparing.{AreCollected}
use Rattle.tape.specs.Images.{DriveSight, MediumSight}

pub same_files : {M N : Type 0} (drives : DriveSight M) (memory : MediumSight N) (image : List ℕ) (e : Ending) (files now : List Collected) → now ≡ files → AreCollected drives memory image e files
    → AreCollected drives memory image e now
same_files drives memory image e files now is collected = subst (λ (f : List Collected). AreCollected drives memory image e f) (sym is) collected
