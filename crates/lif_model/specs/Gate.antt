-- The gate of a redo file, which is this project's own: it stands in the fourth record from the end of the tape.
use Rattle.std.specs.Prelude.{◌-◌, ℕ, Bool, List, length, codes, nat_eq}
use Rattle.std.specs.List.{starts_with}
use Rattle.lif_model.specs.Tape.{Tape, record_at}

-- the number of the gate record on a tape of n records
abbrev pub gate_of : ℕ → ℕ
gate_of n = n - 4

-- the first sixteen bytes of an open gate
abbrev pub open_text : List ℕ
open_text = codes "LIFREDO1 OPEN   "

-- a gate record is open; every other content is closed
unfoldable pub is_open : List ℕ → Bool
is_open gate = starts_with nat_eq gate open_text

-- the gate of a tape is open
abbrev pub has_open_gate : Tape → Bool
has_open_gate tape = is_open (record_at tape (gate_of (length tape)))
