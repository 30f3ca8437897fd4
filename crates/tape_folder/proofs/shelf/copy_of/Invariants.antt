use Rattle.std.proofs.Common.{◌≡◌, take}
use Rattle.il_ports.specs.Drive.{images_of}
use Rattle.tape_folder.proofs.shelf.copy_of.Given as goal

abbrev pub invariant-loop-file : goal.invariant-loop-file
invariant-loop-file l = images_of l.copy.items ≡ images_of (take l.file-index l.files)
