use Rattle.std.proofs.Common.{◌≡◌, drop}
use Rattle.lif_model.specs.Shelf.{image_of}
use Rattle.il_ports.specs.Drive.{images_of, place_of}
use Rattle.il_ports.proofs.Shelves.{place_from}
use Rattle.il_ports.proofs.memory_medium.find.Given as goal

abbrev pub invariant-loop-place : goal.invariant-loop-place
invariant-loop-place l = record {
  place : place_of l.name (images_of l.images) ≡ place_from l.place (place_of l.name (images_of (drop l.place l.images)));
  bytes : image_of l.name (images_of l.images) ≡ image_of l.name (images_of (drop l.place l.images));
}
