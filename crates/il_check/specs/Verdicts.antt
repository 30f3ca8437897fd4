-- What a checker of a trace says of it, and of the tapes before and after it.
use Rattle.std.specs.Prelude.{◌≡◌, ◌≢◌, ◌⊎◌, ◌<◌, ◌≤◌, ◌+◌, ◌==◌, ℕ, Bool, All, true, false, List, [], ◌∷◌, ◌++◌, length, map, filter, Option, Some, None}
use Rattle.il_frames.specs.declared.entry.Entry.{Entry}
use Rattle.il_frames.specs.Entries.{IsEntry, entry_text}
use Rattle.lif_model.specs.Tape.{Tape, record_at}
use Rattle.loop_model.specs.Loops.{host_loop}
use Rattle.loop_model.specs.Exchanges.{Reading}
use Rattle.loop_model.specs.Effect.{Effect}
use Rattle.loop_model.specs.Roles.{all_without_roles, has_one_talker}
use Rattle.loop_model.specs.Units.{RecordUnit}
use Rattle.trace_readers.specs.declared.expected.UnitFault.{UnitFault}
use Rattle.trace_readers.specs.declared.expected.UnitFault.TheVariants as unit
use Rattle.il_check.specs.declared.verdict.TraceFault.{TraceFault}
use Rattle.il_check.specs.declared.verdict.TraceFault.TheVariants as fault
use Rattle.trace_readers.specs.Exchanges.{IsPrefix}
use Rattle.trace_readers.specs.Expected.{unit_fault}
use Rattle.trace_readers.specs.Effects.{EndsUnit}

-- ---- the lines of a trace

-- the line begins with `~`, as an entry's does; any other is skipped
abbrev pub is_entry_line : List ℕ → Bool
is_entry_line [] = false
is_entry_line (x ∷ line) = x == 126

-- these are the entries whose texts are the lines that begin so, in order
pub record AreEntries (lines : List (List ℕ)) (log : List Entry) : Type 0 where
  pub entries : All IsEntry log
  pub texts : map entry_text log ≡ filter is_entry_line lines

-- line x, counted from 1, begins as an entry's, and the lines before it are `front`
pub record IsLineAt (lines : List (List ℕ)) (x : ℕ) (front : List (List ℕ)) (line : List ℕ) : Type 0 where
  pub rest : List (List ℕ)
  pub are : lines ≡ front ++ line ∷ rest
  pub place : x ≡ length front + 1
  pub marked : is_entry_line line ≡ true

-- line x is that of an entry, and all lines before it that begin so are those of this log
pub record Comes (lines : List (List ℕ)) (x : ℕ) (log : List Entry) (e : Entry) : Type 0 where
  pub front : List (List ℕ)
  pub stands : IsLineAt lines x front (entry_text e)
  pub log_is : AreEntries front log
  pub entry : IsEntry e

-- ---- the faults of a line

-- it is no entry's text
abbrev pub HasBadText : List (List ℕ) → ℕ → Type 0
HasBadText lines x = (front : List (List ℕ)) × (line : List ℕ) × IsLineAt lines x front line
    × ((e : Entry) → IsEntry e → entry_text e ≢ line)

-- with its entry for the first time more than one device talks, or another speaks than the talker
abbrev pub HasNotTalker : ℕ → List (List ℕ) → ℕ → Type 0
HasNotTalker k lines x = (log : List Entry) × (e : Entry) × Comes lines x log e
    × (has_one_talker (all_without_roles k) log ≡ true) × (has_one_talker (all_without_roles k) (log ++ e ∷ []) ≡ false)

-- with its entry the log can no more go on to a list of whole and broken exchanges
abbrev pub GoesNoFurther : ℕ → ℕ → List (List ℕ) → ℕ → Type 0
GoesNoFurther k d lines x = (log : List Entry) × (e : Entry) × Comes lines x log e
    × (IsPrefix (host_loop k d) (log ++ e ∷ []) → ⊥)

-- all entries are no such list; that is told of the line after the last one
abbrev pub StopsWithin : ℕ → ℕ → List (List ℕ) → ℕ → Type 0
StopsWithin k d lines x = (x ≡ length lines + 1) × (log : List Entry) × AreEntries lines log
    × (Reading (host_loop k d) log → ⊥)

-- its entry ends, by some reading, a unit that wrote and has this fault on a tape of so many records
abbrev pub HasUnitFault : ℕ → ℕ → ℕ → UnitFault → List (List ℕ) → ℕ → Type 0
HasUnitFault k d size f lines x = (log : List Entry) × (e : Entry) × Comes lines x log e
    × (w : RecordUnit) × EndsUnit (host_loop k d) log e w × (unit_fault size w ≡ Some f)

-- line x has this fault
abbrev pub HasLineFault : ℕ → ℕ → ℕ → List (List ℕ) → ℕ → TraceFault → Type 0
HasLineFault k d size lines x fault.BadText = HasBadText lines x
HasLineFault k d size lines x fault.NotTalker = HasNotTalker k lines x
HasLineFault k d size lines x fault.NoExchange = GoesNoFurther k d lines x ⊎ StopsWithin k d lines x
HasLineFault k d size lines x fault.BadUnit = HasUnitFault k d size unit.BadUnit lines x
HasLineFault k d size lines x fault.Unclear = HasUnitFault k d size unit.Unclear lines x
HasLineFault k d size lines x f = ⊥

-- of the faults of one line the one of the least rank is told
abbrev pub rank_of : TraceFault → ℕ
rank_of fault.SizeDiffers = 0
rank_of fault.BadText = 1
rank_of fault.NotTalker = 2
rank_of fault.NoExchange = 3
rank_of fault.BadUnit = 4
rank_of fault.Unclear = 5
rank_of fault.NoEffect = 6

-- the first fault of a line, in the order of the lines
pub record IsFirstFault (k d size : ℕ) (lines : List (List ℕ)) (x : ℕ) (f : TraceFault) : Type 0 where
  pub has : HasLineFault k d size lines x f
  pub first : (y : ℕ) (g : TraceFault) → HasLineFault k d size lines y g → (x < y) ⊎ ((x ≡ y) × (rank_of f ≤ rank_of g))

-- no line has one
abbrev pub HasNoFault : ℕ → ℕ → ℕ → List (List ℕ) → Type 0
HasNoFault k d size lines = (x : ℕ) (f : TraceFault) → HasLineFault k d size lines x f → ⊥

-- ---- the tapes

-- some tape that the log may have made of the old one has these bytes in that record
abbrev pub MayHoldRecord : ℕ → ℕ → Tape → List Entry → ℕ → List ℕ → Type 0
MayHoldRecord k d old log x bytes = (new : Tape) × Effect (host_loop k d) old log new × (record_at new x ≡ bytes)

-- x is the least record of the tape that none of them has so
pub record IsLeastNotMade (k d : ℕ) (old : Tape) (log : List Entry) (new : Tape) (x : ℕ) : Type 0 where
  pub on_tape : x < length old
  pub other : MayHoldRecord k d old log x (record_at new x) → ⊥
  pub least : (y : ℕ) → y < x → MayHoldRecord k d old log y (record_at new y)

-- ---- what is said

-- On a ring of k devices, of which the drive is party d, the trace of these lines, the tape `old` before it and the
-- tape `new` after it go together; or they have this fault at that place. That the tapes differ in size goes before
-- the faults of lines, and that the log did not make the one of the other after them.
abbrev pub IsVerdict : ℕ → ℕ → Tape → Tape → List (List ℕ) → Option (ℕ × TraceFault) → Type 0
IsVerdict k d old new lines None =
    (length old ≡ length new) × HasNoFault k d (length old) lines
    × (log : List Entry) × AreEntries lines log × Effect (host_loop k d) old log new
IsVerdict k d old new lines (Some (x, fault.SizeDiffers)) = (x ≡ 0) × (length old ≢ length new)
IsVerdict k d old new lines (Some (x, fault.NoEffect)) =
    (length old ≡ length new) × HasNoFault k d (length old) lines
    × (log : List Entry) × AreEntries lines log × IsLeastNotMade k d old log new x
IsVerdict k d old new lines (Some (x, f)) = (length old ≡ length new) × IsFirstFault k d (length old) lines x f
