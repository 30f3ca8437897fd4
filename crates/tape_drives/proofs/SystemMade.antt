-- What is promised of an image that is made as a file of the system.
use Rattle.std.proofs.Common.{◌≡◌, ℕ, List, rules}
use Rattle.std.specs.Prelude.{IfErr, IfOk, Result, Ok, Err}
use Rattle.il_ports.specs.Files.{FileView}
use Rattle.il_ports.specs.NamedImages.{ImagesView}
use Rattle.il_ports.specs.declared.image.Size.{Size}
use Rattle.made_images.specs.declared.making.NotMade.{NotMade}
use Rattle.made_images.specs.MadeImages.{IsMadeAs, MadeState, medium_of}
use Rattle.tape_drives.specs.Making.{MayMake}
use Rattle.tape_drives.specs.SystemMaking.{IsRefusal, making_of}

pub made_or_not : {F I : Type 0} (view : F → FileView) (seen : I → ImagesView) (name : List ℕ) (size : Size) (before : I) (r : Result (MadeState F I) NotMade)
    → IfOk r (λ made. IsMadeAs view seen name size made) → IfErr r (λ why. IsRefusal view seen name before why)
    → MayMake (medium_of view seen) name size (making_of view seen) (making_of view seen) r
made_or_not view seen name size before (Ok made) is none = search rules
made_or_not view seen name size before (Err why) none is = search rules
