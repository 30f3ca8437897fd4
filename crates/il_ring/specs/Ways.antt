-- How far a frame has come on a ring of k devices, the host being party 0.
use Rattle.std.specs.Prelude.{◌+◌, ◌-◌, nat_lt, nat_le, ℕ, suc, if◌then◌else◌, Option, Some, None}
use Rattle.loop_model.specs.Reach.{distance}
use Rattle.il_ring.specs.declared.flight.Flight.{Flight}

-- the links that a frame of that source has crossed if it comes after party j
abbrev pub way : ℕ → ℕ → ℕ → ℕ
way k source j = if nat_lt j source then (suc k + j) - source else j - source

abbrev pub on_way : ℕ → ℕ → Option Flight → ℕ
on_way k j None = 0
on_way k j (Some f) = way k f.source j

-- 1 if a frame of that source that comes after party j has come to this party, and else 0
abbrev pub come_to : ℕ → ℕ → ℕ → ℕ → ℕ
come_to k party source j = if nat_le (distance k source party) (way k source j) then 1 else 0

abbrev pub brought : ℕ → ℕ → ℕ → Option Flight → ℕ
brought k j party None = 0
brought k j party (Some f) = come_to k party f.source j
