-- How checks end, and which counts of faults an ending raises.
use Rattle.std.specs.Prelude.{◌≡◌, ◌⊎◌, ℕ, Option, Some, None, Result, Ok, Err}
use Rattle.lif_model.specs.Causes.{Rose}
use Rattle.il_check.specs.declared.ending.Ending.{Ending}
use Rattle.il_check.specs.declared.ending.Ending.TheVariants as ending
use Rattle.il_check.specs.declared.verdict.TraceFault.{TraceFault}

abbrev pub check_status : Ending → ℕ
check_status ending.Together = 0
check_status ending.Differ = 1
check_status ending.BadWords = 2
check_status ending.NoImage = 3
check_status ending.ImageTooLarge = 4
check_status ending.SourceFailed = 5
check_status ending.SinkFailed = 6
check_status ending.OutOfMemory = 7
check_status ending.TraceTooLong = 8
check_status ending.InsertFailed = 9
check_status ending.ReadFailed = 10

-- something was said: it could be written, or not
abbrev pub Says : Ending → Option (ℕ × TraceFault) → Type 0
Says ending.Together None = Unit {0}
Says ending.Differ (Some said) = Unit {0}
Says ending.SinkFailed said = Unit {0}
Says end said = ⊥

-- ---- counts of faults

-- the source's count rose exactly where the trace could not be read
abbrev pub TraceCause : Ending → ℕ → ℕ → Type 0
TraceCause ending.SourceFailed before now = Rose before now
TraceCause end before now = now ≡ before

-- the sink's count rose exactly where the output could not be written
abbrev pub OutputCause : Ending → ℕ → ℕ → Type 0
OutputCause ending.SinkFailed before now = Rose before now
OutputCause end before now = now ≡ before

-- one of two counts rose, and the other did not
abbrev pub OneRose : (before now other other_now : ℕ) → Type 0
OneRose before now other other_now = (Rose before now × (other_now ≡ other)) ⊎ ((now ≡ before) × Rose other other_now)

-- A medium's count rose exactly where an image could not be put into its drive, or a record not be read.
abbrev pub MediaCause : Ending → (before now other other_now : ℕ) → Type 0
MediaCause ending.InsertFailed before now other other_now = OneRose before now other other_now
MediaCause ending.ReadFailed before now other other_now = OneRose before now other other_now
MediaCause end before now other other_now = (now ≡ before) × (other_now ≡ other)

-- and by the answer of a part
abbrev pub MediaCauseOf : {T : Type 0} → Result T Ending → (before now other other_now : ℕ) → Type 0
MediaCauseOf (Ok _) before now other other_now = (now ≡ before) × (other_now ≡ other)
MediaCauseOf (Err end) before now other other_now = MediaCause end before now other other_now
