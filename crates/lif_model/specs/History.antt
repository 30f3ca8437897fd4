-- What power stops may have left of a tape, by the tape as it was at first and the list of all writes, oldest first.
-- A moment is a number of writes.
use Rattle.std.specs.Prelude.{◌≡◌, ◌⊎◌, ◌<◌, ◌≤◌, ℕ, List, [], length, get_or, set, take, Option, Some, None}
use Rattle.lif_model.specs.Tape.{Tape}
use Rattle.lif_model.specs.Stops.{Torn}
use Rattle.lif_model.specs.Redo.{Changes, changed}

-- after the first k writes
abbrev pub tape_after : Tape → Changes → ℕ → Tape
tape_after first writes k = changed (take k writes) first

-- Between write k and the next a stop leaves the tape as it then is, and during that next one what is torn of it.
abbrev pub LeftAt : Tape → Changes → ℕ → Tape → Type 0
LeftAt first writes k c =
    (c ≡ tape_after first writes k) ⊎ ((k < length writes) × Torn (get_or writes k (0, [])).0 (tape_after first writes k) c)

-- at some moment since m
pub record LeftBy (first : Tape) (writes : Changes) (m : ℕ) (c : Tape) : Type 0 where
  pub at : ℕ
  pub since : m ≤ at
  pub made : at ≤ length writes
  pub left : LeftAt first writes at c

-- The tape that a stop leaves after the first k writes, or within the next one, whose record then holds these bytes.
abbrev pub stopped_at : Tape → Changes → ℕ → Option (List ℕ) → Tape
stopped_at first writes k None = tape_after first writes k
stopped_at first writes k (Some torn) = set (tape_after first writes k) (get_or writes k (0, [])).0 torn
