-- What contracts see of a source and of a sink in memory.
use Rattle.std.specs.Prelude.{ℕ, List}

-- a source in memory
pub record SourceState : Type 0 where
  -- the bytes that are still to come
  pub left : List ℕ
  -- the most bytes of one call
  pub piece : ℕ
  -- the numbers of the calls that fail, counted from 1
  pub fails : List ℕ
  -- how many calls were made, and how many of them failed
  pub calls : ℕ
  pub faults : ℕ

-- a sink in memory
pub record SinkState : Type 0 where
  -- the bytes that were written
  pub written : List ℕ
  -- the most bytes that it takes in all
  pub room : ℕ
  -- the numbers of the calls that fail, counted from 1
  pub fails : List ℕ
  -- how many calls were made, and how many of them failed
  pub calls : ℕ
  pub faults : ℕ
