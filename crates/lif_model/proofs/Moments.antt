-- How a run of calls goes on: what a power stop during it may leave.
use Rattle.std.proofs.Common.{◌≡◌, ◌≤◌, inl, inr, ⊎_elim, ℕ, sym, subst, arith}
use Rattle.std.specs.Prelude.{Option, Some}
use Rattle.lif_model.specs.Tape.{Tape}
use Rattle.lif_model.specs.Stops.{Elapses, StandsStill, LeavesOnly}

abbrev Since : Type 1
Since = ℕ → Tape → Type 0

-- before the first call
pub started : (now : ℕ) (since : Since) (P : Tape → Type 0) (t : Tape) → ((c : Tape) → since now c → c ≡ t) → P t → LeavesOnly now now since since P
started now since P t only here = record { later = omega arith; each = λ c left. subst P (sym (only c left)) here; earlier = λ m c le left. inl left }

-- one call more, after which a stop leaves what has P
pub goes_on : (m₀ m₁ m₂ : ℕ) (s₀ s₁ s₂ : Since) (P : Tape → Type 0) (tape : Option Tape) (leaves : Tape → Tape → Type 0) (t : Tape) → tape ≡ Some t → LeavesOnly m₀ m₁ s₀ s₁ P
    → Elapses m₁ m₂ s₁ s₂ tape leaves → ((c : Tape) → leaves t c → P c) → LeavesOnly m₀ m₂ s₀ s₂ P
goes_on m₀ m₁ m₂ s₀ s₁ s₂ P tape leaves t is so_far time here = record {
  later = omega (arith, so_far.later, time.later);
  each = λ c left. ⊎_elim (so_far.each c) (here c) (time.nothing_else t is m₀ c so_far.later left);
  earlier = λ m c le left. ⊎_elim (so_far.earlier m c le) (λ now. inr (here c now)) (time.nothing_else t is m c (omega (arith, le, so_far.later)) left);
}

-- a run after a run
pub follows : (m₀ m₁ m₂ : ℕ) (s₀ s₁ s₂ : Since) (P Q : Tape → Type 0) → LeavesOnly m₀ m₁ s₀ s₁ P → LeavesOnly m₁ m₂ s₁ s₂ Q → ((c : Tape) → Q c → P c) → LeavesOnly m₀ m₂ s₀ s₂ P
follows m₀ m₁ m₂ s₀ s₁ s₂ P Q so_far next here = record {
  later = omega (arith, so_far.later, next.later);
  each = λ c left. ⊎_elim (so_far.each c) (here c) (next.earlier m₀ c so_far.later left);
  earlier = λ m c le left. ⊎_elim (so_far.earlier m c le) (λ now. inr (here c now)) (next.earlier m c (omega (arith, le, so_far.later)) left);
}

pub weaker : (m₀ m₁ : ℕ) (s₀ s₁ : Since) (P Q : Tape → Type 0) → LeavesOnly m₀ m₁ s₀ s₁ Q → ((c : Tape) → Q c → P c) → LeavesOnly m₀ m₁ s₀ s₁ P
weaker m₀ m₁ s₀ s₁ P Q run here = record { later = run.later; each = λ c left. here c (run.each c left); earlier = λ m c le left. ⊎_elim (λ was. inl was) (λ now. inr (here c now)) (run.earlier m c le left) }

-- a run, and then calls that write nothing
pub still : (m₀ m₁ m₂ : ℕ) (s₀ s₁ s₂ : Since) (P : Tape → Type 0) → m₂ ≡ m₁ → StandsStill s₁ s₂ → LeavesOnly m₀ m₁ s₀ s₁ P → LeavesOnly m₀ m₂ s₀ s₂ P
still m₀ m₁ m₂ s₀ s₁ s₂ P same_moment same run = record {
  later = omega (arith, run.later, same_moment);
  each = λ c left. run.each c (same.nothing_else m₀ c left);
  earlier = λ m c le left. run.earlier m c le (same.nothing_else m c left);
}

-- calls that write nothing, and then a run
pub after_still : (m₀ m₁ m₂ : ℕ) (s₀ s₁ s₂ : Since) (P : Tape → Type 0) → m₁ ≡ m₀ → StandsStill s₀ s₁ → LeavesOnly m₁ m₂ s₁ s₂ P → LeavesOnly m₀ m₂ s₀ s₂ P
after_still m₀ m₁ m₂ s₀ s₁ s₂ P same_moment same run = record {
  later = omega (arith, same_moment, run.later);
  each = λ c left. run.each c (subst (λ (m : ℕ). s₂ m c) (sym same_moment) left);
  earlier = λ m c le left. ⊎_elim (λ was. inl (same.nothing_else m c was)) (λ now. inr now) (run.earlier m c (omega (arith, le, same_moment)) left);
}

-- the tape as it reads is one that a stop may leave
pub reads_too : (m₀ m₁ : ℕ) (s₀ s₁ : Since) (P : Tape → Type 0) (u : Tape) → LeavesOnly m₀ m₁ s₀ s₁ P → ((m : ℕ) → m ≤ m₁ → s₁ m u) → P u
reads_too m₀ m₁ s₀ s₁ P u run now = run.each u (now m₀ run.later)
