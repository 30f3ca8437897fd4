-- The plan of faults.
use Rattle.std.specs.Prelude.{ℕ, ◌==◌, nat_lt, Bool, List, [], ◌∷◌, Option, Some, None, if◌then◌else◌, option_and_then}
use Rattle.std.specs.List.{list_any}
use Rattle.il_ring.specs.declared.plan.Planned.{Planned}
use Rattle.il_words.specs.declared.faults.FaultList.TheVariants.{Losses, Alterations}
use Rattle.il_words.specs.Faults.{list_if}

-- whether a fault is planned at a crossing
abbrev pub is_named : ℕ → List Planned → Bool
is_named hop plan = list_any (λ planned. planned.hop == hop) plan

-- one more fault, after those of smaller crossings
abbrev pub in_order : Planned → List Planned → List Planned
in_order fault [] = fault ∷ []
in_order fault (first ∷ plan) = if nat_lt first.hop fault.hop then first ∷ in_order fault plan else fault ∷ first ∷ plan

-- the same, where no fault is planned at its crossing yet
abbrev pub placed : Planned → List Planned → Option (List Planned)
placed fault plan = if is_named fault.hop plan then None else Some (in_order fault plan)

-- more faults, one after the other
abbrev pub all_placed : List Planned → List Planned → Option (List Planned)
all_placed [] plan = Some plan
all_placed (fault ∷ faults) plan = option_and_then (λ more. all_placed faults more) (placed fault plan)

-- the faults of two lists
abbrev pub plan_of : Option (List Planned) → Option (List Planned) → Option (List Planned)
plan_of (Some losses) (Some alterations) = option_and_then (λ plan. all_placed alterations plan) (all_placed losses [])
plan_of _ _ = None

-- the plan that the values of `--lose` and `--alter` make
abbrev pub plan_by : Option (List ℕ) → Option (List ℕ) → Option (List Planned)
plan_by losses alterations = plan_of (list_if Losses losses) (list_if Alterations alterations)
