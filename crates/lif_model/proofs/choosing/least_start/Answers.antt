use Rattle.std.proofs.Common.{arith}
use Rattle.lif_model.proofs.Fit.{high_below}
use Rattle.lif_model.proofs.choosing.least_start.Goals as goal

pub loop-slot-init : goal.loop-slot-init
loop-slot-init c = record { value = omega (arith, high_below c.args.high c.args.slots.now); below = omega arith }
