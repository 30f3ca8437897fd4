-- Tests of two elements of a list: of each two, and of neighbours.
use Rattle.std.specs.Prelude.{◌&&◌, Bool, true, List, [], ◌∷◌}
use Rattle.std.specs.List.{list_all}

-- each element passes with each later one
abbrev pub all_pairs : {X : Type 0} → (X → X → Bool) → List X → Bool
all_pairs test [] = true
all_pairs test (x ∷ xs) = list_all (test x) xs && all_pairs test xs

-- each element passes with the next one
abbrev pub all_neighbours : {X : Type 0} → (X → X → Bool) → List X → Bool
all_neighbours test [] = true
all_neighbours test (x ∷ []) = true
all_neighbours test (x ∷ y ∷ xs) = test x y && all_neighbours test (y ∷ xs)
