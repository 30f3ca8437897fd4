-- What finishes a volume, and the tape that is finished.
use Rattle.std.specs.Prelude.{◌≡◌, ◌⊎◌, ◌<◌, ◌≤◌, ◌+◌, ◌-◌, ◌*◌, ℕ, [], ◌∷◌, true, false, length}
use Rattle.std.specs.Prelude.{Option, Some, None, IfSome, is_some, Result, OnOk}
use Rattle.lif_model.specs.Tape.{Tape, record_at}
use Rattle.lif_model.specs.Header.{directory_start}
use Rattle.lif_model.specs.declared.version.Version.TheVariants.{Two}
use Rattle.lif_model.specs.Redo.{redo_of, redo_start, settled}
use Rattle.lif_model.specs.Commit.{IsSettleWrite, SettlesBelow}
use Rattle.lif_model.specs.Volume.{Volume, volume_of, is_foreign_gated}
use Rattle.lif_model.specs.Fit.{redo_place}
use Rattle.lif_model.specs.Writing.{slot_record, entry_from, with_slots}
use Rattle.il_ports.specs.Stores.{RecordsView, RunLeaves}
use Rattle.il_ports.specs.Transfers.{AddsOnly}
use Rattle.lif_volume.specs.Views.{VolumeView}
use Rattle.lif_volume.specs.Commands.{IsTold, SettlesOnly, mounting_on}
use Rattle.lif_model.specs.Packing.{unmarked, bears_mark, has_mark, finished_volume_of, files_shown, repacked}
use Rattle.lif_model.specs.Finished.{IsFinished}
use Rattle.lif_pack.specs.declared.marks.Move.{Move}
use Rattle.lif_pack.specs.declared.tasks.Task.{Task}
use Rattle.lif_pack.specs.Marks.{IsMarked}
use Rattle.lif_pack.specs.Moving.{MayMove}

-- the place of a file that moves, or the first record of the redo file
abbrev pub limit_of : ℕ → Option Move → ℕ
limit_of n None = redo_start Two n
limit_of n (Some move) = move.place

-- the redo entry is before the redo file, and the file that is being moved may move
pub record MayFinish (n : ℕ) (task : Task) : Type 0 where
  pub redo : slot_record task.first task.redo < redo_start Two n
  pub moving : IfSome task.moving (λ move. MayMove n task.first move.place task.redo move)

-- it is that of this volume
pub record IsTaskOf (n : ℕ) (v : Volume) (task : Task) : Type 0 where
  pub marked : bears_mark n v ≡ true
  pub first : task.first ≡ directory_start v.header
  pub redo : task.redo ≡ redo_place v.slots
  pub moving : IsMarked v task.moving

-- there is one exactly where the volume has a mark
abbrev pub IsTask : ℕ → Volume → Option Task → Type 0
IsTask n v None = bears_mark n v ≡ false
IsTask n v (Some task) = IsTaskOf n v task

-- The tape t is mounted, and no record more is read or written than a command takes for that. After an Ok the directory
-- is kept.
pub record MountsAlone {R S T E : Type 0} (view : R → RecordsView S) (old new : VolumeView R) (t : Tape)
    (result : Result T E) : Type 0 where
  pub few : (view old.records).calls_left ≤ (view new.records).calls_left + mounting_on t old.kept
  pub keeps : OnOk result (is_some new.kept ≡ true)

-- so is each tape whose volume has no mark
abbrev pub MountsUnmarked : {R S T E : Type 0} → (R → RecordsView S) → (old new : VolumeView R) → Result T E → Type 0
MountsUnmarked view old new result = (t : Tape) (v : Volume) → IsTold view old t → volume_of t ≡ Some v
    → bears_mark (view old.records).record_count v ≡ false → MountsAlone view old new t result

-- On a tape without a mark nothing is changed except by settling, at any moment and after the call, and the reads and
-- writes go on by writes of settling alone.
abbrev pub SettlesUnmarked : {R S T E : Type 0} → (R → RecordsView S) → (old new : VolumeView R) → Result T E → Type 0
SettlesUnmarked view old new result = (t : Tape) → IsTold view old t
    → has_mark (view old.records).record_count (volume_of t) ≡ false
    → SettlesOnly (view old.records) (view new.records) t × AddsOnly (IsSettleWrite (view old.records).record_count (redo_of t))
    (view old.records).transferred (view new.records).transferred result

-- how many records are read and written at most to carry it out
abbrev pub calls_to_finish : Option Move → ℕ
calls_to_finish None = 9
calls_to_finish (Some move) = 4 * (move.length - move.moved) + 11

-- the redo entry of a directory that begins at record `first` has lost its mark, and all else below the redo file is as
-- before
pub record IsCleared (first redo : ℕ) (t x : Tape) : Type 0 where
  pub records : length x ≡ length t
  pub below : (k : ℕ) → k < redo_start Two (length t)
      → record_at x k ≡ record_at (with_slots first ((redo, unmarked (entry_from t first redo)) ∷ []) t) k

-- what a stop while the mark is taken off leaves: it settles to the old tape, or has lost its mark
abbrev pub IsClearedOrOld : (first redo : ℕ) → (t y : Tape) → Type 0
IsClearedOrOld first redo t y = SettlesBelow Two t y ⊎ IsCleared first redo t (settled y)

-- the settled tape is finished, or this is left to do
abbrev pub IsLeftToDo : ℕ → Tape → Option Task → Type 0
IsLeftToDo n t None = IsFinished t (settled t)
IsLeftToDo n t (Some task) = (v : Volume) × (volume_of (settled t) ≡ Some v) × IsTaskOf n v task

-- ---- stops

-- x is shown as the volume that t is shown as, and has no gate that is not ours
pub record IsShownAs (t x : Tape) : Type 0 where
  pub volume : finished_volume_of x ≡ finished_volume_of t
  pub own_gate : is_foreign_gated x ≡ false

-- On a medium of n records x is shown with the files that t is shown with, is packed to the same, and has no gate that
-- is not ours.
pub record KeepsFiles (n : ℕ) (t x : Tape) : Type 0 where
  pub files : files_shown n (finished_volume_of x) ≡ files_shown n (finished_volume_of t)
  pub again : repacked n (finished_volume_of x) ≡ repacked n (finished_volume_of t)
  pub own_gate : is_foreign_gated x ≡ false

-- at any moment, and after the call
pub record StaysShown {S : Type 0} (v w : RecordsView S) (t : Tape) : Type 0 where
  pub stops : RunLeaves v w (IsShownAs t)
  pub after : (u : Tape) × (w.tape ≡ Some u) × IsShownAs t u

-- of each tape that is not foreign-gated
abbrev pub KeepsShown : {R S : Type 0} → (R → RecordsView S) → (old new : VolumeView R) → Type 0
KeepsShown view old new = (t : Tape) → IsTold view old t → is_foreign_gated t ≡ false
    → StaysShown (view old.records) (view new.records) t
