use Rattle.std.proofs.Common.{◌≡◌, ◌++◌, [], ◌∷◌, if◌then◌else◌, take, drop}
use Rattle.lif_model.specs.Fit.{purged_from, can_append, fit}
use Rattle.lif_model.proofs.Plain.{fit_after}
use Rattle.lif_model.proofs.choosing.plain_fit.Given as goal

abbrev pub invariant-loop-i : goal.invariant-loop-i
invariant-loop-i l = fit_after l.seen l.n l.directory_end l.slots l.count (purged_from l.i (drop l.i (take l.redo l.slots)) ++ (if can_append l.capacity l.slots then l.redo ∷ [] else []))
    ≡ fit l.n l.directory_end l.capacity l.slots l.count
