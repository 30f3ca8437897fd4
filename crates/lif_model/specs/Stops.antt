-- Power stops, as this project assumes them: a clock, and which tapes a stop at some moment may have left.
use Rattle.std.specs.Prelude.{◌≡◌, ◌≢◌, ◌⊎◌, ◌≤◌, ℕ, List, length, set, Option, Some, Result, Ok, Err}
use Rattle.lif_model.specs.Tape.{Tape, record_at}

-- the same tape outside record n, which may hold any bytes: what a stop leaves while record n is being written
pub record Torn (n : ℕ) (old new : Tape) : Type 0 where
  pub records : length new ≡ length old
  pub bytes : length (record_at new n) ≡ length (record_at old n)
  pub elsewhere : (k : ℕ) → k ≢ n → record_at new k ≡ record_at old k

-- what a write of these bytes at record n leaves, where the tape is told
abbrev pub Wrote : {T E : Type 0} → ℕ → List ℕ → Option Tape → Option Tape → Result T E → Type 0
Wrote n bytes old new (Ok _) = (t : Tape) → old ≡ Some t → new ≡ Some (set t n bytes)
Wrote n bytes old new (Err _) = (t : Tape) → old ≡ Some t → (u : Tape) × (new ≡ Some u) × Torn n t u

-- Time goes on over a call: a stop since moment m may have left what it may have left before, or what the call leaves of the tape.
pub record Elapses (before now : ℕ) (past since : ℕ → Tape → Type 0) (tape : Option Tape) (leaves : Tape → Tape → Type 0) : Type 0 where
  pub later : before ≤ now
  pub nothing_else : (t : Tape) → tape ≡ Some t → (m : ℕ) (c : Tape) → m ≤ before → since m c → past m c ⊎ leaves t c
  pub keeps : (m : ℕ) (c : Tape) → m ≤ before → past m c → since m c

-- A call that writes nothing: a stop may have left what it may have left before.
pub record StandsStill (past since : ℕ → Tape → Type 0) : Type 0 where
  pub nothing_else : (m : ℕ) (c : Tape) → since m c → past m c
  pub keeps : (m : ℕ) (c : Tape) → past m c → since m c

-- A run of calls: each tape that a stop during it may have left has P.
pub record LeavesOnly (before now : ℕ) (past since : ℕ → Tape → Type 0) (P : Tape → Type 0) : Type 0 where
  pub later : before ≤ now
  pub each : (c : Tape) → since before c → P c
  -- for a run that began earlier
  pub earlier : (m : ℕ) (c : Tape) → m ≤ before → since m c → past m c ⊎ P c
