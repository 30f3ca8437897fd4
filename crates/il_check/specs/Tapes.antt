-- A tape that is read from its drive.
use Rattle.std.specs.Prelude.{◌≡◌, ℕ, length, Result, Ok, Err}
use Rattle.lif_model.specs.Causes.{Rose}
use Rattle.lif_model.specs.Tape.{Tape}
use Rattle.il_ports.specs.Media.{MediumView}
use Rattle.il_check.specs.declared.ending.Ending.{Ending}
use Rattle.il_check.specs.declared.ending.Ending.TheVariants as ending
use Rattle.il_check.specs.Whole.{IsAs}

-- all its records
pub record IsTakenFrom (v : MediumView) (tape : Tape) : Type 0 where
  pub size : length tape ≡ v.record_count
  pub told : IsAs v.tape tape

-- the medium's count rose where a record could not be read; else there was no memory
abbrev pub TapeCause : {T : Type 0} → ℕ → ℕ → Result T Ending → Type 0
TapeCause before now (Ok _) = now ≡ before
TapeCause before now (Err ending.ReadFailed) = Rose before now
TapeCause before now (Err ending.OutOfMemory) = now ≡ before
TapeCause before now (Err end) = ⊥
