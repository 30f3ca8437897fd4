-- What waits to be written, and what is told of a command.
use Rattle.std.specs.Prelude.{ℕ, ◌≡◌, ◌++◌, Bool, true, false, List, Option, Result, Ok, Err}
use Rattle.std.specs.Io.KnownBytes.{Appends}
use Rattle.il_ports.specs.Writing.{WritesFront}
use Rattle.il_frames.specs.declared.entry.Entry.{Entry}
use Rattle.host_model.specs.Replies.{trace_text}

-- of a text all was written but what waits
pub record Waits (before now : Option (List ℕ)) (text waiting : List ℕ) : Type 0 where
  pub written : List ℕ
  pub appended : Appends before now written
  pub whole : text ≡ written ++ waiting

-- what waited may have been written, so that there is room; or the write stopped within it
abbrev pub MakesRoom : {E : Type 0} → Option (List ℕ) → Option (List ℕ) → (waited waiting : List ℕ) → Result (Unit {0}) E → Type 0
MakesRoom before now waited waiting (Ok u) = Waits before now waited waiting
MakesRoom before now waited waiting (Err e) = WritesFront before now waited

-- what is told of a command: its log, unless the run is quiet, and the text of its reply
abbrev pub told_text : Bool → List Entry → List ℕ → List ℕ
told_text true log text = text
told_text false log text = trace_text log ++ text
