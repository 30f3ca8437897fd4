use Rattle.std.proofs.Common.{arith}
use Rattle.lif_model.proofs.Fit.{low_above}
use Rattle.lif_model.proofs.choosing.greatest_end.Goals as goal

pub loop-slot-init : goal.loop-slot-init
loop-slot-init c = record { value = omega (arith, low_above c.args.low c.args.slots.now); above = omega arith; bound = λ lt. lt }
