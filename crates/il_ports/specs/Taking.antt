-- What a sink takes of a piece.
use Rattle.std.specs.Prelude.{ℕ, ◌<◌, ◌≤◌, Result, IfOk, List, length}

-- on `Ok(n)` at least one byte was taken, and no more than there are
abbrev pub TakesSome : {E : Type 0} → Result ℕ E → List ℕ → Type 0
TakesSome result piece = IfOk result (λ n. (0 < n) × (n ≤ length piece))
