-- A text, and how long it may become.
use Rattle.std.specs.Prelude.{ℕ, List}

pub record Sheet : Type 0 where
  pub text : List ℕ
  pub room : ℕ
