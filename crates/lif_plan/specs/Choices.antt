-- Places as the code tells them.
use Rattle.lif_model.specs.Fit.{Place}
use Rattle.lif_plan.specs.declared.choosing.Choice.{Choice}
use Rattle.lif_plan.specs.declared.choosing.Choice.TheVariants as choice

abbrev pub place_of : Choice → Place
place_of (choice.At slot start) = Place.At slot start
place_of choice.NoSlot = Place.NoSlot
place_of choice.NoRoom = Place.NoRoom
