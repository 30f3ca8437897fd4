-- The two parts of `format`.
use Rattle.std.specs.Prelude.{◌≡◌, ◌≤◌, ◌+◌, ℕ, List, false, true, Option, Some, None, Result, Ok, Err, is_some}
use Rattle.lif_model.specs.Tape.{Tape}
use Rattle.lif_model.specs.Redo.{settled}
use Rattle.lif_model.specs.Volume.{Volume, volume_in, is_gate_held}
use Rattle.lif_model.specs.Apply.{VolumeCommand, Format, is_too_long, refusal_of}
use Rattle.il_ports.specs.Stores.{RecordsView, GoesOn}
use Rattle.lif_volume.specs.declared.fault.VolumeFault.{VolumeFault}
use Rattle.lif_volume.specs.declared.fault.VolumeFault.TheVariants.{Refused, Trouble as Troubled}
use Rattle.lif_volume.specs.Views.{VolumeView}
use Rattle.lif_volume.specs.Answers.{store_answer, keeps, IsSettledAs}
use Rattle.lif_volume.specs.Commands.{mounting, mounting_on}
use Rattle.lif_volume.specs.Changing.{committing}
use Rattle.lif_volume.specs.Carrying.{CarriesOutOn}

-- whether a tape with that volume, or none, may be formatted, for whatever directory it has room
abbrev pub IsFreeAs : {T : Type 0} → ℕ → Option Volume → Result T VolumeFault → Type 0
IsFreeAs n volume (Ok _) = (label : List ℕ) (slots : ℕ) → is_too_long n slots ≡ false → refusal_of n (Format label slots) volume ≡ None
IsFreeAs n volume (Err (Refused why)) =
    (label : List ℕ) (slots : ℕ) → is_too_long n slots ≡ false → refusal_of n (Format label slots) volume ≡ Some why
IsFreeAs n volume (Err (Troubled _)) = Unit {0}

-- whether the directory is kept: it may be or not where the tape is free
abbrev pub IsKeptAs : {R T : Type 0} → VolumeView R → Result T VolumeFault → Type 0
IsKeptAs new (Ok _) = Unit {0}
IsKeptAs {T = T} new (Err fault) = is_some new.kept ≡ keeps {T = T} (Err fault)

-- the first settles the tape and tells whether it may be formatted
pub record Clears {R S T : Type 0} (view : R → RecordsView S) (old new : VolumeView R) (answer : Result T VolumeFault) : Type 0 where
  pub goes_on : GoesOn (mounting (view old.records).record_count old.kept None) (view old.records) (view new.records) (store_answer answer)
  pub few : (t : Tape) → (view old.records).tape ≡ Some t → (view old.records).calls_left ≤ (view new.records).calls_left + mounting_on t old.kept
  pub idle : mounting (view old.records).record_count old.kept None ≡ 0 → new.records ≡ old.records
  pub settles : (t : Tape) → (view old.records).tape ≡ Some t → IsSettledAs t (view new.records).tape (store_answer answer)
  pub kept : IsKeptAs new answer
  pub free : (t : Tape) → (view old.records).tape ≡ Some t → IsFreeAs (view old.records).record_count (volume_in (settled t)) answer

-- the second makes it an empty volume, whose directory is kept
pub record Renews {R S T : Type 0} (command : VolumeCommand) (view : R → RecordsView S) (old new : VolumeView R) (answer : Result T VolumeFault) : Type 0 where
  pub goes_on : GoesOn (committing answer) (view old.records) (view new.records) (store_answer answer)
  pub kept : is_some new.kept ≡ keeps answer
  pub held : (t : Tape) → (view old.records).tape ≡ Some t → is_gate_held t ≡ true → new.records ≡ old.records
  pub on_tape : (t : Tape) → (view old.records).tape ≡ Some t
      → CarriesOutOn (view old.records).record_count command (view old.records) (view new.records) t answer
