-- Worked examples of settling, computed by the checker, on tapes of twelve records: the gate is record 8, the targets
-- record 9, and the new contents stand in records 10 and 11.
use Rattle.std.proofs.Common.{◌≡◌, ℕ, List, [], ◌∷◌, refl, codes}
use Rattle.lif_model.specs.Numbers.{two_at}
use Rattle.lif_model.specs.Shelf.{piece}
use Rattle.lif_model.specs.Gate.{is_open}
use Rattle.lif_model.specs.Redo.{zeros, targets_record, is_valid, redo_of, settled}
use Rattle.lif_model.proofs.Examples.{filled, blank}
use Rattle.lif_model.proofs.RedoExamples.{named, ones, twos, opened, with_redo}

-- record 2 alone is named
abbrev one_named : List ℕ
one_named = named (0 ∷ 1 ∷ 0 ∷ 2 ∷ [])

-- record 2 becomes the first content, and the gate record zeros; the redo file is otherwise as it was
applied : settled (with_redo opened one_named) ≡ blank ∷ blank ∷ ones ∷ blank ∷ blank ∷ blank ∷ blank ∷ blank ∷ blank ∷ one_named ∷ ones ∷ twos ∷ []
unfolding is_open is_valid targets_record piece two_at zeros
applied = refl

-- an X as the sixteenth byte of the gate closes it: nothing changes
abbrev nearly_open : List ℕ
nearly_open = filled (codes "LIFREDO1 OPEN  X")

not_open : (redo_of (with_redo nearly_open one_named) ≡ []) × (settled (with_redo nearly_open one_named) ≡ with_redo nearly_open one_named)
unfolding is_open is_valid targets_record piece two_at zeros
not_open = (refl, refl)

-- three targets are not valid: nothing changes, and the gate stays open
three_named : (redo_of (with_redo opened (named (0 ∷ 3 ∷ 0 ∷ 2 ∷ 0 ∷ 5 ∷ 0 ∷ 6 ∷ []))) ≡ [])
    × (settled (with_redo opened (named (0 ∷ 3 ∷ 0 ∷ 2 ∷ 0 ∷ 5 ∷ 0 ∷ 6 ∷ []))) ≡ with_redo opened (named (0 ∷ 3 ∷ 0 ∷ 2 ∷ 0 ∷ 5 ∷ 0 ∷ 6 ∷ [])))
unfolding is_open is_valid targets_record piece two_at zeros
three_named = (refl, refl)
