-- Planned faults, at crossings of links that are counted from 1 over the life of a ring: this project's own.
use Rattle.std.specs.Prelude.{◌≡◌, ◌+◌, ◌==◌, ◌&&◌, nat_lt, ℕ, Bool, true, not, if◌then◌else◌, List, [], ◌∷◌, map, Option, Some, None}
use Rattle.il_ring.specs.declared.plan.Planned.{Planned}
use Rattle.il_ring.specs.declared.plan.PlanFault.{PlanFault}
use Rattle.il_ring.specs.declared.plan.PlanFault.TheVariants.{Lose, Alter}

-- the crossings at which something is planned
abbrev pub hops_of : List Planned → List ℕ
hops_of plan = map (λ p. p.hop) plan

-- what is planned at a crossing
abbrev pub fault_at : List Planned → ℕ → Option PlanFault
fault_at [] n = None
fault_at (p ∷ plan) n = if p.hop == n then Some p.fault else fault_at plan n

-- the greatest count of crossings, at which it stays
abbrev pub last_crossing : ℕ
last_crossing = 18446744073709551615

-- what is planned at the crossing after n of them; after the greatest count nothing is
abbrev pub next_fault : List Planned → ℕ → Option PlanFault
next_fault plan n = if nat_lt n last_crossing then fault_at plan (n + 1) else None

-- a loss, or an alteration, which makes another byte
abbrev pub is_fault : PlanFault → Bool
is_fault Lose = true
is_fault (Alter change) = not (change == 0)

-- crossings after this one, each after the one before
abbrev pub rises_from : ℕ → List Planned → Bool
rises_from n [] = true
rises_from n (p ∷ plan) = nat_lt n p.hop && (is_fault p.fault && rises_from p.hop plan)

-- hops are at least 1 and rise strictly, and no alteration has the byte 0
abbrev pub IsPlan : List Planned → Type 0
IsPlan plan = rises_from 0 plan ≡ true
