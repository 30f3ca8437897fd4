-- A redo file whose contents are being written.
use Rattle.std.specs.Prelude.{◌≡◌, ◌<◌, ℕ, [], length, get_or}
use Rattle.lif_model.specs.Tape.{Tape, record_at}
use Rattle.lif_model.specs.declared.version.Version.{Version}
use Rattle.lif_model.specs.Redo.{Changes, data_record}
use Rattle.lif_model.specs.Commit.{IsShut}

-- the gate is closed, below the redo file the tape is t, and so many of the new contents stand
pub record IsFilled (version : Version) (count : ℕ) (changes : Changes) (t x : Tape) : Type 0 where
  pub shut : IsShut version t x
  pub contents : (i : ℕ) → i < count → record_at x (data_record version (length t) i) ≡ (get_or changes i (0, [])).1
