-- How far a script was read, and what was given of it.
use Rattle.std.specs.Prelude.{◌≡◌, ℕ, ◌+◌, ◌*◌, ◌-◌, ◌==◌, if◌then◌else◌, ◌<◌, ◌≤◌, ◌⊎◌, Bool, true, false, List, [], ◌∷◌, ◌++◌, length, take, min, map, Option, Some, None, Result, Ok, Err}
use Rattle.std.specs.Io.KnownBytes.{IsAtEnd, Consumes, Keeps}
use Rattle.lif_model.specs.Causes.{Rose}
use Rattle.il_script.specs.declared.limits.TheConstants.{KEPT_OF_LINE, LONGEST_LINE, LONGEST_SCRIPT}
use Rattle.il_script.specs.LineCut.{line_cut, lines_of, line_told}
use Rattle.il_script.specs.Told.{line_of_length}
use Rattle.il_script.specs.declared.lines.Line.{Line}
use Rattle.il_script.specs.declared.lines.Line.TheVariants.{Text, TooLong, End, Fault, Over}

-- what a `Lines` knows
pub record Progress : Type 0 where
  -- the line that was given last
  pub text : List ℕ
  -- the first bytes of the line that was begun and not given, one more than a line may have
  pub begun : List ℕ
  -- the bytes that were read ahead
  pub held : List ℕ
  -- how many bytes were taken
  pub taken : ℕ
  -- the source was read to its end
  pub ended : Bool

-- all lines that are complete were given, or the script is at its end and all its lines were
pub record GivesWhole (behind line : List ℕ) (given : List (Option (List ℕ))) : Type 0 where
  pub lines : given ≡ map line_told (line_cut behind).whole
  pub begun : line ≡ take KEPT_OF_LINE (line_cut behind).open_line

pub record GivesAll (behind : List ℕ) (progress : Progress) (given : List (Option (List ℕ))) : Type 0 where
  pub lines : given ≡ map line_told (lines_of behind)
  pub begun : progress.begun ≡ []
  pub held : progress.held ≡ []
  pub ended : progress.ended ≡ true

-- these lines of the script were given
pub record Given (script : List ℕ) (progress : Progress) (left : Option (List ℕ)) (given : List (Option (List ℕ))) : Type 0 where
  -- the bytes that were taken, and those that the source has left
  pub behind : List ℕ
  pub rest : List ℕ
  pub known : left ≡ Some rest
  pub whole : script ≡ behind ++ (progress.held ++ rest)
  pub count : progress.taken ≡ length behind
  pub ended : progress.ended ≡ true → rest ≡ []
  pub lines : GivesWhole behind progress.begun given ⊎ GivesAll behind progress given

-- what a turn gives
abbrev pub Turn : List ℕ → Progress → Option (List ℕ) → List (Option (List ℕ)) → Line → Type 0
Turn script new left given Text = Given script new left (given ++ Some new.text ∷ [])
Turn script new left given TooLong = Given script new left (given ++ None ∷ [])
Turn script new left given End = (given ≡ map line_told (lines_of script)) × IsAtEnd left × (length script ≤ LONGEST_SCRIPT)
Turn script new left given Fault = Given script new left given
Turn script new left given Over = Given script new left given

-- the count of the source and the answer
pub record HasLineCause (before now : ℕ) (line : Line) : Type 0 where
  pub later : before ≤ now
  pub failed : line ≡ Fault → Rose before now
  pub same : (line ≡ Fault → ⊥) → now ≡ before

-- the state at which an answer stands
abbrev pub Stands : Progress → Line → Type 0
Stands new Text = length new.text ≤ LONGEST_LINE
Stands new TooLong = Unit {0}
Stands new End = (new.ended ≡ true) × (new.held ≡ []) × (new.begun ≡ [])
Stands new Fault = (new.ended ≡ false) × (new.held ≡ [])
Stands new Over = (new.taken ≡ LONGEST_SCRIPT) × (0 < length new.held)

-- ---- the parts of a turn

-- the moved bytes are no whole line
pub record MovesOn (old new : Progress) (moved : List ℕ) : Type 0 where
  pub held : old.held ≡ moved ++ new.held
  pub taken : new.taken ≡ old.taken + length moved
  pub ended : new.ended ≡ old.ended
  pub none : line_cut moved ≡ record { whole = []; open_line = moved }
  pub begun : new.begun ≡ take KEPT_OF_LINE (old.begun ++ moved)

-- the moved bytes are the rest of a line, and its line feed
pub record Completes (old new : Progress) (moved body : List ℕ) : Type 0 where
  pub held : old.held ≡ moved ++ new.held
  pub taken : new.taken ≡ old.taken + length moved
  pub ended : new.ended ≡ old.ended
  pub line : line_cut moved ≡ record { whole = body ∷ []; open_line = [] }
  pub begun : new.begun ≡ []
  pub text : new.text ≡ take KEPT_OF_LINE (old.begun ++ body)

abbrev pub IsLong : Progress → Type 0
IsLong new = (new.taken ≡ LONGEST_SCRIPT) × (0 < length new.held)

abbrev pub Scans : Progress → Progress → Option Line → Type 0
Scans old new None = MovesOn old new old.held × (new.held ≡ [])
Scans old new (Some Over) = (moved : List ℕ) × MovesOn old new moved × IsLong new
Scans old new (Some line) = (moved : List ℕ) × (body : List ℕ) × Completes old new moved body × (line ≡ line_of_length (length new.text))

-- a read that came, or the end; a failed read changes nothing
pub record Fills (old new : Progress) (before now : Option (List ℕ)) : Type 0 where
  pub text : new.text ≡ old.text
  pub begun : new.begun ≡ old.begun
  pub taken : new.taken ≡ old.taken
  pub bytes : Consumes before now new.held
  pub ended : new.ended ≡ true → (new.held ≡ []) × IsAtEnd now
  pub going : new.ended ≡ false → 0 < length new.held

pub record Stays (old new : Progress) : Type 0 where
  pub text : new.text ≡ old.text
  pub begun : new.begun ≡ old.begun
  pub held : new.held ≡ []
  pub taken : new.taken ≡ old.taken
  pub ended : new.ended ≡ old.ended

abbrev pub FillsFrom : {E : Type 0} → Progress → Progress → Option (List ℕ) → Option (List ℕ) → Result (Unit {0}) E → Type 0
FillsFrom old new before now (Ok u) = Fills old new before now
FillsFrom old new before now (Err e) = Stays old new × Keeps before now

-- a script that is at its end: the line that was begun, or none
abbrev pub Lasts : Progress → Progress → Line → Type 0
Lasts old new End = (old.begun ≡ []) × (new ≡ old)
Lasts old new Over = ⊥
Lasts old new line = (0 < length old.begun) × (new ≡ record old { text = old.begun; begun = [] }) × (line ≡ line_of_length (length old.begun))

-- how much is left to do
abbrev pub weight : Progress → ℕ
weight p = 2 * (LONGEST_SCRIPT - p.taken) + (if p.ended then 0 else (if length p.held == 0 then 1 else 0))

-- an upper bound on the lines to come
abbrev pub turns_left : Progress → ℕ
turns_left p = (LONGEST_SCRIPT - p.taken) + min (length p.begun) 1

-- each line lowers the bound
abbrev pub Lowers : Progress → Progress → Line → Type 0
Lowers old new Text = turns_left new < turns_left old
Lowers old new TooLong = turns_left new < turns_left old
Lowers old new line = Unit {0}

-- more bytes are there than a script may hold
abbrev pub IsTooLong : Progress → Type 0
IsTooLong p = (p.taken ≡ LONGEST_SCRIPT) × (0 < length p.held)

-- the line that was given with this answer, None where it is too long
abbrev pub line_given : Progress → Line → Option (List ℕ)
line_given progress Text = Some progress.text
line_given progress line = None
