-- What a stop leaves up to each step of a commit.
use Rattle.std.proofs.Common.{◌≡◌, ◌∙◌, ℕ, length, set, ap, subst}
use Rattle.std.specs.Prelude.{Option, Some}
use Rattle.lif_model.specs.Tape.{Tape}
use Rattle.lif_model.specs.Gate.{gate_of, is_open}
use Rattle.lif_model.specs.Stops.{Torn, Elapses, LeavesOnly}
use Rattle.lif_model.specs.declared.version.Version.{Version}
use Rattle.lif_model.specs.Redo.{Changes, open_gate, changed, IsSettled}
use Rattle.lif_model.specs.Commit.{SettlesAs, IsOldOrNew, Quiet, IsShut, IsStaged, IsCommitted}
use Rattle.lif_model.proofs.Moments.{goes_on, follows, weaker}
use Rattle.lif_model.proofs.Redo.{zeros_are_shut, redo_closed, gate_at, settled_none}
use Rattle.lif_model.proofs.Commit.{old_quiet, old_shut, staged_from, gate_written, new_open, either_opening, IsOpen}

module _ (version : Version) (cs : Changes) (t : Tape) where
  -- the gate is closed, and the new contents and the targets are written
  pub staged_run : (m₀ m₁ m₂ : ℕ) (s₀ s₁ s₂ : ℕ → Tape → Type 0) (u : Tape) → LeavesOnly m₀ m₁ s₀ s₁ (Quiet version t) → IsShut version t u → LeavesOnly m₁ m₂ s₁ s₂ (IsShut version u)
      → LeavesOnly m₀ m₂ s₀ s₂ (IsOldOrNew version cs t)
  staged_run m₀ m₁ m₂ s₀ s₁ s₂ u closing shut staging =
      follows m₀ m₁ m₂ s₀ s₁ s₂ (IsOldOrNew version cs t) (IsShut version u) (weaker m₀ m₁ s₀ s₁ (IsOldOrNew version cs t) (Quiet version t) closing (λ x. old_quiet version cs t x)) staging
      (λ x. old_shut version cs t u x shut)

  -- and the gate is opened
  pub opened_run : (m₀ m₁ m₂ : ℕ) (s₀ s₁ s₂ : ℕ → Tape → Type 0) (tape : Option Tape) (u v : Tape) (place : ℕ) → LeavesOnly m₀ m₁ s₀ s₁ (IsOldOrNew version cs t) → IsShut version t u
      → tape ≡ Some v → IsStaged version cs u v → place ≡ gate_of (length t) → Elapses m₁ m₂ s₁ s₂ tape (Torn place) → LeavesOnly m₀ m₂ s₀ s₂ (IsOldOrNew version cs t)
  opened_run m₀ m₁ m₂ s₀ s₁ s₂ tape u v place so_far shut is staged at_gate time =
      goes_on m₀ m₁ m₂ s₀ s₁ s₂ (IsOldOrNew version cs t) tape (Torn place) v is so_far time
      (λ x torn. either_opening version cs t v x (staged_from version cs t u v shut staged) (subst (λ (n : ℕ). Torn n v x) at_gate torn))

  -- the tape with its gate open
  abbrev pub opened : Tape → Tape
  opened v = set v (gate_of (length t)) open_gate

  pub is_opened : (u v : Tape) → IsShut version t u → IsStaged version cs u v → IsOpen version cs t (opened v)
  is_opened u v shut staged = gate_written version cs t v (staged_from version cs t u v shut staged)

  -- and the targets are written in place and the gate is closed
  pub finished_run : (m₀ m₁ m₂ : ℕ) (s₀ s₁ s₂ : ℕ → Tape → Type 0) (x : Tape) → LeavesOnly m₀ m₁ s₀ s₁ (IsOldOrNew version cs t) → IsOpen version cs t x
      → LeavesOnly m₁ m₂ s₁ s₂ (SettlesAs (changed cs x)) → LeavesOnly m₀ m₂ s₀ s₂ (IsOldOrNew version cs t)
  finished_run m₀ m₁ m₂ s₀ s₁ s₂ x so_far is finishing = follows m₀ m₁ m₂ s₀ s₁ s₂ (IsOldOrNew version cs t) (SettlesAs (changed cs x)) so_far finishing (λ y. new_open version cs t x y is)

-- a tape with a gate of zeros is settled
pub committed_is_settled : (version : Version) (cs : Changes) (t x : Tape) → IsCommitted version cs t x → IsSettled x
committed_is_settled version cs t x done = settled_none x (redo_closed x (gate_at (length t) x done.records ∙ ap is_open done.gate ∙ zeros_are_shut))
