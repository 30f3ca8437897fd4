-- What is read of a redo file.
use Rattle.std.specs.Prelude.{◌≡◌, ℕ, Bool, true, false, List, [], length, Option, Some, None}
use Rattle.lif_model.specs.Tape.{Tape, record_at}
use Rattle.lif_model.specs.Gate.{has_open_gate}
use Rattle.lif_model.specs.Redo.{are_targets, Targets, Invalid, Valid, targets_place, targets_of, redo_of}
use Rattle.lif_model.specs.declared.version.Version.{Version}
use Rattle.lif_redo.specs.declared.texts.Named.{Named}
use Rattle.lif_redo.specs.declared.steps.Found.{Found}
use Rattle.lif_redo.specs.declared.steps.Found.TheVariants as found
use Rattle.lif_redo.specs.declared.atomic.Gate.{Gate}
use Rattle.lif_redo.specs.declared.atomic.Gate.TheVariants as gate

-- what a targets record says
abbrev pub targets_read : Option Named → Targets
targets_read None = Invalid
targets_read (Some named) = Valid named.version named.targets.items

-- they may be targets on a tape of n records
abbrev pub MayBeNamed : ℕ → Option Named → Type 0
MayBeNamed n None = Unit {0}
MayBeNamed n (Some named) = are_targets named.version n named.targets.items ≡ true

-- the same of an open redo
abbrev pub MayBeFound : ℕ → Found → Type 0
MayBeFound n (found.Redo named) = MayBeNamed n (Some named)
MayBeFound n found.Shut = Unit {0}
MayBeFound n found.Idle = Unit {0}

-- the gate is open, and the targets record names these
abbrev pub IsOpenWith : Version → List ℕ → Tape → Type 0
IsOpenWith version targets tape = (has_open_gate tape ≡ true) × (targets_of (length tape) (record_at tape (targets_place (length tape))) ≡ Valid version targets)

-- what the gate and the targets record of a tape hold
abbrev pub IsFound : Tape → Found → Type 0
IsFound tape found.Shut = has_open_gate tape ≡ false
IsFound tape found.Idle = (has_open_gate tape ≡ true) × (redo_of tape ≡ [])
IsFound tape (found.Redo named) = IsOpenWith named.version named.targets.items tape

-- ---- after settling

-- whether the gate reads open
abbrev pub reads_open : Gate → Bool
reads_open gate.Closed = false
reads_open gate.Applied = false
reads_open gate.Open = true

-- whether a redo was carried out
abbrev pub is_applied : Gate → Bool
is_applied gate.Closed = false
is_applied gate.Applied = true
is_applied gate.Open = false
