-- A tape on which nothing is left to settle or to finish, the tape that a stopped packing is finished to, and a tape
-- that is packed.
use Rattle.std.specs.Prelude.{◌≡◌, ◌⊎◌, ◌<◌, ◌≤◌, ℕ, false, length, Some}
use Rattle.lif_model.specs.Tape.{Tape, record_at}
use Rattle.lif_model.specs.Header.{directory_start}
use Rattle.lif_model.specs.declared.version.Version.TheVariants.{Two}
use Rattle.lif_model.specs.Redo.{IsSettled, redo_start, settled}
use Rattle.lif_model.specs.Volume.{Volume, volume_of}
use Rattle.lif_model.specs.Fit.{redo_place}
use Rattle.lif_model.specs.Packing.{bears_mark, finished, finished_volume_of, has_mark, packed, packed_start}

-- On a tape of n records nothing is left to settle or to finish: any program that reads LIF finds its volume.
pub record IsPlain (n : ℕ) (t : Tape) : Type 0 where
  pub is_settled : IsSettled t
  pub clear : has_mark n (volume_of t) ≡ false

-- The tape u is settled, and has the volume that t is finished to. If the volume of t has no mark, u is the settled tape;
-- if it has one, u is the finished tape in all records below the redo file, and so in record 0, in the directory and in
-- each file.
pub record IsFinished (t u : Tape) : Type 0 where
  pub is_settled : IsSettled u
  pub records : length u ≡ length t
  pub plain : has_mark (length t) (volume_of t) ≡ false → u ≡ settled t
  pub below : (k : ℕ) → k < redo_start Two (length t) → record_at u k ≡ record_at (finished t) k
  pub volume : volume_of u ≡ finished_volume_of t
  pub clear : has_mark (length u) (volume_of u) ≡ false

-- The tape has a volume, no file of which is being moved, and packing makes the same of it.
pub record IsPackedOn (n : ℕ) (t : Tape) : Type 0 where
  pub volume : Volume
  pub has : volume_of t ≡ Some volume
  pub unmarked : bears_mark n volume ≡ false
  pub same : packed n volume ≡ volume

-- Below the redo file of version 2, and outside the records from `first` on and before `until`, the tape x is as t.
pub record StaysOutside (first until : ℕ) (t x : Tape) : Type 0 where
  pub records : length x ≡ length t
  pub same : (k : ℕ) → k < redo_start Two (length t) → (k < first) ⊎ (until ≤ k) → record_at x k ≡ record_at t k

-- Packing made u of t: below the redo file, the records outside the directory and the packed files are those of the
-- settled tape.
pub record IsPackedFrom (t u : Tape) : Type 0 where
  pub volume : Volume
  pub shown : finished_volume_of t ≡ Some volume
  pub outside : StaysOutside (directory_start volume.header) (packed_start volume (redo_place volume.slots)) (settled t) u
