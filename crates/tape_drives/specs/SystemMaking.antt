-- What is known of images that are made as files of the system.
use Rattle.std.specs.Prelude.{◌≡◌, Bool, ℕ, List, Result, is_ok}
use Rattle.std.specs.declared.io.Error.{Error}
use Rattle.il_ports.specs.Files.{FileView}
use Rattle.il_ports.specs.NamedImages.{ImagesView, Removed}
use Rattle.made_images.specs.declared.making.NotMade.{NotMade}
use Rattle.made_images.specs.MadeImages.{IsMadeAs, IsNotMade, MadeState}
use Rattle.tape_drives.specs.Lending.{unrecorded}
use Rattle.tape_drives.specs.Making.{Making}

-- the removal of the image of a drive was asked for, and this says whether it was done
pub record IsRemoval {F I : Type 0} (seen : I → ImagesView) (made : MadeState F I) (gone : Bool) : Type 0 where
  pub after : I
  pub answer : Result (Unit {0}) Error
  pub did : Removed (seen made.images) (seen after) answer
  pub gone_is : gone ≡ is_ok answer

-- no image of that name was made among these images, and this is why
pub record IsRefusal {F I : Type 0} (view : F → FileView) (seen : I → ImagesView) (name : List ℕ) (before : I) (why : NotMade) : Type 0 where
  pub after : I
  pub is : IsNotMade view seen name before after why

-- No record is kept of the drives that are given and come back. What is known of an image is known of its drive.
abbrev pub making_of : {F I : Type 0} → (F → FileView) → (I → ImagesView) → Making (MadeState F I)
making_of {F} {I} view seen = record {
  lending = unrecorded;
  made = λ name size drive. IsMadeAs view seen name size drive;
  refused = λ name why. (before : I) × IsRefusal view seen name before why;
  kept = λ drive. Unit {0};
  removed = λ drive gone. IsRemoval seen drive gone;
}
