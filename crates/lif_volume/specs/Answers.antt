-- What the commands of a volume answer.
use Rattle.std.specs.Prelude.{◌≡◌, ℕ, Bool, true, false, length, Option, Some, None, Result, Ok, Err}
use Rattle.lif_model.specs.Tape.{Tape}
use Rattle.lif_model.specs.Redo.{settled}
use Rattle.lif_model.specs.Legal.{is_legal}
use Rattle.lif_model.specs.Volume.{volume_of, is_foreign_gated}
use Rattle.lif_model.specs.Apply.{VolumeCommand, apply}
use Rattle.il_ports.specs.declared.records.Trouble.{Trouble}
use Rattle.lif_model.specs.declared.refusal.Refusal.{Refusal}
use Rattle.lif_model.specs.declared.refusal.Refusal.TheVariants as refusal
use Rattle.lif_plan.specs.Refusals.{keeps_behind}
use Rattle.lif_volume.specs.declared.fault.VolumeFault.{VolumeFault}
use Rattle.lif_volume.specs.declared.fault.VolumeFault.TheVariants.{Refused, Trouble as Troubled}

abbrev pub troubled : Trouble → VolumeFault
troubled trouble = Troubled trouble

abbrev pub refused : Refusal → VolumeFault
refused why = Refused why

-- how the store answered: it did not fail where a command is refused
abbrev pub store_answer : {T : Type 0} → Result T VolumeFault → Result (Unit {0}) Trouble
store_answer (Ok _) = Ok tt
store_answer (Err (Refused _)) = Ok tt
store_answer (Err (Troubled trouble)) = Err trouble

-- the tape is legal exactly where the command is not refused
abbrev pub IsLegalAs : {T : Type 0} → Tape → Result T VolumeFault → Type 0
IsLegalAs t (Ok _) = is_legal t ≡ true
IsLegalAs t (Err (Refused _)) = is_legal t ≡ false
IsLegalAs t (Err (Troubled _)) = Unit {0}

-- The answer and the volumes of the tapes before and after are those of the command. Of a trouble
-- nothing is said here.
abbrev pub Answers : {T : Type 0} → ℕ → VolumeCommand → Tape → Tape → Result T VolumeFault → Type 0
Answers n command t u (Ok _) = apply n command (volume_of t) ≡ (None, volume_of u)
Answers n command t u (Err (Refused why)) =
    apply n command (volume_of t) ≡ (Some why, volume_of u)
Answers n command t u (Err (Troubled _)) = Unit {0}

-- whether it is kept after this answer: after an Ok and these refusals
abbrev pub keeps : {T : Type 0} → Result T VolumeFault → Bool
keeps (Ok _) = true
keeps (Err (Refused why)) = keeps_behind why
keeps (Err (Troubled _)) = false

-- no refusal but NotLif
abbrev pub IsNotLif : VolumeFault → Type 0
IsNotLif (Refused why) = why ≡ refusal.NotLif
IsNotLif (Troubled _) = Unit {0}

-- x has the volume of t, and no gate that is not ours
pub record HasVolumeOf (t x : Tape) : Type 0 where
  pub records : length x ≡ length t
  pub volume : volume_of x ≡ volume_of t
  pub own_gate : is_foreign_gated x ≡ false

-- the tape after a command that changes no volume: the settled one, where the store did not fail
abbrev pub IsSettledAs : {T E : Type 0} → Tape → Option Tape → Result T E → Type 0
IsSettledAs t tape (Ok _) = tape ≡ Some (settled t)
IsSettledAs t tape (Err _) = Unit {0}
