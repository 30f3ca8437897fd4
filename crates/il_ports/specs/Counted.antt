-- What the ports in memory count.
use Rattle.std.specs.Prelude.{◌==◌, ℕ, List, [], ◌∷◌, if◌then◌else◌, Option, Some, None, Result, Ok, Err}
use Rattle.lif_model.specs.Causes.{next_count}
use Rattle.il_ports.specs.declared.records.Trouble.{Trouble}
use Rattle.il_ports.specs.declared.records.Trouble.TheVariants.{Frame, Medium}

-- the count of faults after a call: one more where it failed
abbrev pub faults_after : {T E : Type 0} → ℕ → Result T E → ℕ
faults_after faults (Ok _) = faults
faults_after faults (Err _) = next_count faults

-- the same of the calls that failed by a frame, and by the medium
abbrev pub frame_faults_after : {T : Type 0} → ℕ → Result T Trouble → ℕ
frame_faults_after faults (Ok _) = faults
frame_faults_after faults (Err Frame) = next_count faults
frame_faults_after faults (Err Medium) = faults

abbrev pub medium_faults_after : {T : Type 0} → ℕ → Result T Trouble → ℕ
medium_faults_after faults (Ok _) = faults
medium_faults_after faults (Err Frame) = faults
medium_faults_after faults (Err Medium) = next_count faults

-- how the call of that number fails: as the first entry of the list with its number says
abbrev pub failing : ℕ → List (ℕ × Trouble) → Option Trouble
failing call [] = None
failing call (fail ∷ fails) = if fail.0 == call then Some fail.1 else failing call fails
