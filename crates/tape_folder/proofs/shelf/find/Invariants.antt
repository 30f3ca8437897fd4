use Rattle.std.proofs.Common.{◌≡◌, drop}
use Rattle.lif_model.specs.Shelf.{image_of}
use Rattle.il_ports.specs.Drive.{images_of}
use Rattle.tape_folder.proofs.shelf.find.Given as goal

abbrev pub invariant-loop-file : goal.invariant-loop-file
invariant-loop-file l = image_of l.name (images_of l.files) ≡ image_of l.name (images_of (drop l.file-index l.files))
