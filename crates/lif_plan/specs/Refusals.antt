-- What is said of a refusal.
use Rattle.std.specs.Prelude.{◌≡◌, ◌⊎◌, Bool, true, false, List, [], ◌∷◌}
use Rattle.lif_model.specs.declared.refusal.Refusal.{Refusal}
use Rattle.lif_model.specs.declared.refusal.Refusal.TheVariants as refusal

-- whether the directory is kept after a refusal: after all but NotLif
abbrev pub keeps_behind : Refusal → Bool
keeps_behind refusal.NotLif = false
keeps_behind other = true

-- it is one of these
abbrev pub IsAmong : List Refusal → Refusal → Type 0
IsAmong [] why = ⊥
IsAmong (one ∷ more) why = (why ≡ one) ⊎ IsAmong more why
