-- How a trace is read.
use Rattle.std.specs.Prelude.{◌≡◌, ◌<◌, ◌≤◌, ℕ, List, length, Option, Some, Result, Ok, Err}
use Rattle.std.specs.Io.KnownBytes.{IsAtEnd}
use Rattle.lif_model.specs.Causes.{Rose}
use Rattle.lif_model.specs.Tape.{Tape}
use Rattle.il_script.specs.LineCut.{lines_of}
use Rattle.il_check.specs.declared.reading.Cut.{Cut}
use Rattle.il_check.specs.declared.reading.Cut.TheVariants as cut
use Rattle.il_check.specs.declared.reading.TheConstants.{LONGEST_TRACE}
use Rattle.il_check.specs.declared.tracing.Tracing.{Tracing}
use Rattle.il_check.specs.Tracing.{HasLines}

-- where the source tells its bytes: all its lines were read, to its end; or it has more bytes than a trace may have
abbrev pub ReadsTrace : {T : Type 0} → ℕ → ℕ → Tape → (left now : Option (List ℕ)) → Tracing → Result T Cut → Type 0
ReadsTrace k d old left now t (Ok _) = (trace : List ℕ) → left ≡ Some trace
    → HasLines k d old (lines_of trace) t × IsAtEnd now × (length trace ≤ LONGEST_TRACE)
ReadsTrace k d old left now t (Err cut.TooLong) = (trace : List ℕ) → left ≡ Some trace → LONGEST_TRACE < length trace
ReadsTrace k d old left now t (Err cut.Failed) = Unit {0}

-- the source's count of faults
abbrev pub HasReadCause : {T : Type 0} → ℕ → ℕ → Result T Cut → Type 0
HasReadCause before now (Ok _) = now ≡ before
HasReadCause before now (Err cut.TooLong) = now ≡ before
HasReadCause before now (Err cut.Failed) = Rose before now
