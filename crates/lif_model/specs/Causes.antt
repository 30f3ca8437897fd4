-- Counts of faults. Each port has one; it never falls, and stands still at the last value of a u64.
use Rattle.std.specs.Prelude.{◌≡◌, ◌≤◌, ◌+◌, ◌-◌, ◌^◌, ℕ, min, Result, Ok, Err}

-- one more, up to the last value of a u64
abbrev pub next_count : ℕ → ℕ
next_count n = min (n + 1) (2 ^ 64 - 1)

-- a count rose, or stands at its last value
pub record Rose (before now : ℕ) : Type 0 where
  pub later : before ≤ now
  pub risen : next_count before ≤ now

-- a call leaves the count as it was where it did not fail, and raised it where it failed
abbrev pub HasCause : {T E : Type 0} → ℕ → ℕ → Result T E → Type 0
HasCause before now (Ok _) = now ≡ before
HasCause before now (Err _) = Rose before now
