-- What the plain functions of this crate test, one slot and two slots at a time.
use Rattle.std.specs.Prelude.{◌&&◌, ◌||◌, not, ℕ, Bool, List}
use Rattle.lif_model.specs.Fit.{Place}
use Rattle.lif_model.specs.declared.choosing.Spot.{Spot}
use Rattle.lif_model.specs.declared.choosing.Spot.TheVariants as spot
use Rattle.lif_model.specs.Legal.{is_live, occupies, lies_between, are_apart, have_other_names}

-- a live file that has records lies between these two
abbrev pub is_in_place : ℕ → ℕ → List ℕ → Bool
is_in_place low high slot = not (occupies slot) || lies_between low high slot

-- two live files do not overlap and have two names
abbrev pub go_together : List ℕ → List ℕ → Bool
go_together a b = (not (occupies a && occupies b) || are_apart a b) && (not (is_live a && is_live b) || have_other_names a b)

abbrev pub place_of : Spot → Place
place_of (spot.At slot start) = Place.At slot start
place_of spot.NoSlot = Place.NoSlot
place_of spot.NoRoom = Place.NoRoom
