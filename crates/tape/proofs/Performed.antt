-- What was done is what was asked for.
use Rattle.std.proofs.Common.{◌≡◌, ℕ, Some, sym, subst}
use Rattle.tape_words.specs.Asked.{Wanted}
use Rattle.tape_volumes.specs.Outputs.{Written}
use Rattle.tape.specs.Copies.{FolderSight}
use Rattle.tape.specs.Images.{DriveSight, MediumSight}
use Rattle.tape.specs.Incoming.{HostSight}
use Rattle.tape.specs.New.{MakerSight}
use Rattle.tape.specs.Texts.{Input}
use Rattle.tape.specs.Performing.{DoesAsked}

pub as_asked : {M N O F Q H I : Type 0} (drives : DriveSight M) (readers : DriveSight N) (memory : MediumSight O) (folders : FolderSight F) (makers : MakerSight Q) (host : HostSight H I) (from left : Input) (asked wanted : Wanted) (status : ℕ) (old now : Written) → asked ≡ wanted
    → DoesAsked drives readers memory folders makers host from left (Some wanted) status old now → DoesAsked drives readers memory folders makers host from left (Some asked) status old now
as_asked drives readers memory folders makers host from left asked wanted status old now same does =
    subst (λ (w : Wanted). DoesAsked drives readers memory folders makers host from left (Some w) status old now) (sym same) does
