-- A buffer for the bytes of a text.
use Rattle.std.specs.Prelude.{ℕ, List}

-- the bytes of the text that was made last, and how many there may be
pub record BufferView : Type 0 where
  pub bytes : List ℕ
  pub room : ℕ
