-- What is known of a trace after some of its lines.
use Rattle.std.specs.Prelude.{◌≡◌, ◌≢◌, ◌≤◌, ◌<◌, ℕ, true, false, List, [], ◌∷◌, ◌++◌, length, take, Option, Some, None, Result, Ok, Err}
use Rattle.il_frames.specs.declared.entry.Entry.{Entry}
use Rattle.il_frames.specs.Entries.{IsEntry, entry_text}
use Rattle.lif_model.specs.Tape.{Tape, record_at}
use Rattle.loop_model.specs.Loops.{host_loop}
use Rattle.loop_model.specs.Roles.{all_without_roles, has_one_talker}
use Rattle.loop_model.specs.Units.{RecordUnit}
use Rattle.il_script.specs.LineCut.{line_cut}
use Rattle.trace_readers.specs.declared.expected.UnitFault.{UnitFault}
use Rattle.trace_readers.specs.declared.expected.UnitFault.TheVariants as unit
use Rattle.trace_readers.specs.Talkers.{IsTalkAfter}
use Rattle.trace_readers.specs.Exchanges.{IsPrefix, IsReadAfter}
use Rattle.trace_readers.specs.Expected.{unit_fault}
use Rattle.trace_readers.specs.Effects.{EndsUnit, IsEffectAfter}
use Rattle.il_check.specs.declared.verdict.TraceFault.{TraceFault}
use Rattle.il_check.specs.declared.verdict.TraceFault.TheVariants as fault
use Rattle.il_check.specs.declared.tracing.Readers.{Readers}
use Rattle.il_check.specs.declared.tracing.Tracing.{Tracing}
use Rattle.il_check.specs.Verdicts.{AreEntries, HasLineFault, IsFirstFault, MayHoldRecord, rank_of}

-- the fault of a line by that of the unit that ends with it
abbrev pub fault_of_unit : UnitFault → TraceFault
fault_of_unit unit.BadUnit = fault.BadUnit
fault_of_unit unit.Unclear = fault.Unclear

-- ---- one line that begins as an entry's

-- it is the text of an entry of which P holds
abbrev pub IsTextWith : List ℕ → (Entry → Type 0) → Type 0
IsTextWith line P = (e : Entry) × IsEntry e × (entry_text e ≡ line) × P e

-- its entry ends a unit that has this fault
abbrev pub EndsFaulty : ℕ → ℕ → ℕ → List Entry → UnitFault → Entry → Type 0
EndsFaulty k d size log f e = (w : RecordUnit) × EndsUnit (host_loop k d) log e w × (unit_fault size w ≡ Some f)

-- after the lines of these entries the line has this fault
abbrev pub HasFaultAfter : ℕ → ℕ → ℕ → List Entry → List ℕ → TraceFault → Type 0
HasFaultAfter k d size log line fault.BadText = (e : Entry) → IsEntry e → entry_text e ≢ line
HasFaultAfter k d size log line fault.NotTalker =
    IsTextWith line (λ e. has_one_talker (all_without_roles k) (log ++ e ∷ []) ≡ false)
HasFaultAfter k d size log line fault.NoExchange = IsTextWith line (λ e. IsPrefix (host_loop k d) (log ++ e ∷ []) → ⊥)
HasFaultAfter k d size log line fault.BadUnit = IsTextWith line (EndsFaulty k d size log unit.BadUnit)
HasFaultAfter k d size log line fault.Unclear = IsTextWith line (EndsFaulty k d size log unit.Unclear)
HasFaultAfter k d size log line f = ⊥

-- the readers have read this log, in which they found no fault
pub record HaveRead (k d : ℕ) (old : Tape) (log : List Entry) (r : Readers) : Type 0 where
  pub talk : IsTalkAfter k log r.talkers
  pub one : r.talkers.had_one ≡ true
  pub exchanges : IsReadAfter k log r.exchanges
  pub effect : IsEffectAfter d old log r.effects

-- the entry of one more line was read, which has no fault; or the line has this one, and none of a lower rank
abbrev pub ReadsLine : {T : Type 0} → ℕ → ℕ → Tape → List Entry → List ℕ → Readers → Result T TraceFault → Type 0
ReadsLine k d old log line r (Ok _) =
    IsTextWith line (λ e. HaveRead k d old (log ++ e ∷ []) r)
    × ((g : TraceFault) → HasFaultAfter k d (length old) log line g → ⊥)
ReadsLine k d old log line r (Err f) =
    HasFaultAfter k d (length old) log line f
    × ((g : TraceFault) → HasFaultAfter k d (length old) log line g → rank_of f ≤ rank_of g)

-- ---- lines

-- how many bytes are kept of a line: one more than an entry's text has
abbrev pub kept_of_line : ℕ
kept_of_line = 41

-- none of the lines so far has a fault, and the readers have read their entries; or the first one is kept
abbrev pub IsKnown : ℕ → ℕ → Tape → List (List ℕ) → Readers → Option (ℕ × TraceFault) → Type 0
IsKnown k d old lines r None =
    (log : List Entry) × AreEntries lines log × HaveRead k d old log r
    × ((x : ℕ) (f : TraceFault) → x ≤ length lines → HasLineFault k d (length old) lines x f → ⊥)
IsKnown k d old lines r (Some (x, f)) = (x ≤ length lines) × IsFirstFault k d (length old) lines x f

-- these lines were read, on a ring of k devices, of which the drive is party d, over this tape
pub record HasLines (k d : ℕ) (old : Tape) (lines : List (List ℕ)) (t : Tracing) : Type 0 where
  pub count : t.lines ≡ length lines
  pub known : IsKnown k d old lines t.readers t.fault

-- of these bytes the complete lines were read, and the front of the one that is begun is kept
pub record HasTaken (k d : ℕ) (old : Tape) (bytes : List ℕ) (t : Tracing) : Type 0 where
  pub lines : HasLines k d old (line_cut bytes).whole t
  pub kept : t.kept.items ≡ take kept_of_line (line_cut bytes).open_line

-- ---- the tape after a log

-- some tape that the log may have made has each record of this tape up to x, and none has x; or some has each
abbrev pub MakesUpTo : ℕ → ℕ → Tape → List Entry → Tape → Option ℕ → Type 0
MakesUpTo k d old log new None = (y : ℕ) → y < length new → MayHoldRecord k d old log y (record_at new y)
MakesUpTo k d old log new (Some x) = (x < length new) × (MayHoldRecord k d old log x (record_at new x) → ⊥)
    × ((y : ℕ) → y < x → MayHoldRecord k d old log y (record_at new y))
