use Rattle.std.proofs.Common.{◌≡◌, ◌+◌, drop}
use Rattle.lif_model.specs.Fit.{redo_place}
use Rattle.lif_model.proofs.choosing.redo_place.Given as goal

abbrev pub invariant-loop-i : goal.invariant-loop-i
invariant-loop-i l = l.i + redo_place (drop l.i l.slots) ≡ redo_place l.slots
