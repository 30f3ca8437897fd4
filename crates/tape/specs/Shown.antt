-- What the jobs `free` and `map` do on one image.
use Rattle.std.specs.Prelude.{◌≡◌, ℕ, Bool, true, false, List}
use Rattle.tape_jobs.specs.declared.listing.Style.{Style}
use Rattle.tape_jobs.specs.declared.listing.Style.TheVariants as style
use Rattle.tape_volumes.specs.declared.ending.Ending.{Ending}
use Rattle.tape_volumes.specs.Endings.{ending_status}
use Rattle.tape.specs.Images.{DriveSight, DirEnds}
use Rattle.tape_volumes.specs.Messages.{WritesEnding}
use Rattle.tape_volumes.specs.Outputs.{Written}

-- the picture of the records, as an SVG file or not
abbrev pub map_style : Bool → Style
map_style true = style.Picture
map_style false = style.Map

-- The volume of the image of that name was shown in this style; the job ended so, and its message was written.
pub record VolumeIsShown {M : Type 0} (drives : DriveSight M) (style : Style) (image : List ℕ) (status : ℕ) (old now : Written) : Type 0 where
  pub ending : Ending
  pub ends : DirEnds drives ending image style false old.out now.out old.out_faults now.out_faults
  pub status_is : status ≡ ending_status ending
  pub says : WritesEnding image ending old.error now.error old.error_faults now.error_faults
