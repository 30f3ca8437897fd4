-- Worked examples, computed by the checker.
use Rattle.std.proofs.Common.{◌≡◌, refl}
use Rattle.lif_model.specs.Fit.{At, NoSlot, NoRoom}
use Rattle.lif_plan.specs.declared.choosing.Choice.TheVariants as choice
use Rattle.lif_plan.specs.Choices.{place_of}

places : (place_of (choice.At 1 4) ≡ At 1 4) × (place_of choice.NoSlot ≡ NoSlot) × (place_of choice.NoRoom ≡ NoRoom)
places = (refl, refl, refl)
