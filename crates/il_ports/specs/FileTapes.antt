-- A tape in a file as a medium.
use Rattle.std.specs.Prelude.{◌≡◌, ◌⊎◌, ◌+◌, ◌*◌, ℕ, Bool, true, false, List, ◌∷◌, Option, Some, None, Result, Ok, Err}
use Rattle.std.specs.Option.{option_map}
use Rattle.lif_model.specs.Tape.{Tape}
use Rattle.lif_model.specs.Shelf.{Shelf, cut, bytes_of}
use Rattle.lif_model.specs.Causes.{Rose}
use Rattle.il_ports.specs.Media.{MediumView}
use Rattle.il_ports.specs.Files.{FileView, IsClean, GrowsTo}
use Rattle.il_ports.specs.Sizes.{records_of_size}
use Rattle.il_ports.specs.declared.image.Size.{Size}
use Rattle.il_ports.specs.declared.tape_file.Access.{Access}
use Rattle.il_ports.specs.declared.tape_file.Access.TheVariants.{Read}

pub record TapeState (F : Type 0) : Type 0 where
  pub file : F
  pub size : Size
  pub access : Access
  -- a sync failed: nothing more is asked of the file
  pub is_broken : Bool
  pub faults : ℕ

-- what holds for the file of a tape between calls
pub record IsInOrder {F : Type 0} (view : F → FileView) (tape : TapeState F) : Type 0 where
  pub clean : tape.is_broken ≡ false → IsClean (view tape.file)
  pub held : (view tape.file).held tape.access
  pub apart : (view tape.file).apart

-- the file's bytes as records
abbrev pub tape_of_file : ℕ → Option (List ℕ) → Option Tape
tape_of_file n bytes = option_map (cut n) bytes

-- a stop leaves bytes that read as this tape
abbrev pub LeavesTape : ℕ → (ℕ → List ℕ → Type 0) → ℕ → Tape → Type 0
LeavesTape n left_since m c = (b : List ℕ) × left_since m b × (c ≡ cut n b)

-- the images, with the tape's bytes under the name of the one that is inserted
abbrev pub shelf_in : Option Shelf → Option (List ℕ) → Option Tape → Option Shelf
shelf_in (Some images) (Some name) (Some tape) = Some ((name, bytes_of tape) ∷ images)
shelf_in (Some images) (Some name) None = None
shelf_in (Some images) None tape = None
shelf_in None name tape = None

-- the tape is what a power stop now leaves
abbrev pub tape_view : {F : Type 0} → (F → FileView) → Option Shelf → TapeState F → MediumView
tape_view view images tape = record {
  shelf = shelf_in images (view tape.file).named (tape_of_file (records_of_size tape.size) (view tape.file).kept);
  inside = (view tape.file).named;
  tape = tape_of_file (records_of_size tape.size) (view tape.file).kept;
  record_count = records_of_size tape.size;
  faults = tape.faults;
  moment = (view tape.file).moment;
  left_since = LeavesTape (records_of_size tape.size) (view tape.file).left_since;
}

-- ---- what a tape in a file promises beyond a medium

-- a call of the file failed
abbrev pub FileFailed : {F : Type 0} → (F → FileView) → TapeState F → TapeState F → Type 0
FileFailed view old new = Rose (view old.file).failures (view new.file).failures

-- Why a read fails: nothing more is asked of the file, or a call of it failed.
abbrev pub ReadFails : {F T E : Type 0} → (F → FileView) → TapeState F → TapeState F → Result T E → Type 0
ReadFails view old new (Ok _) = Unit {0}
ReadFails view old new (Err _) = (old.is_broken ≡ true) ⊎ FileFailed view old new

-- Why a write fails: the file is only read, or for a reason of a read.
abbrev pub WriteFails : {F T E : Type 0} → (F → FileView) → TapeState F → TapeState F → Result T E → Type 0
WriteFails view old new (Ok _) = Unit {0}
WriteFails view old new (Err _) = (old.access ≡ Read) ⊎ ((old.is_broken ≡ true) ⊎ FileFailed view old new)

-- The file keeps its name, stays open for what it was, and stays made if it was made and held if it was held. It is
-- given up only if a sync of it failed.
pub record StaysOpen {F : Type 0} (view : F → FileView) (old new : TapeState F) : Type 0 where
  pub size : new.size ≡ old.size
  pub access : new.access ≡ old.access
  pub named : (view new.file).named ≡ (view old.file).named
  pub made : (view old.file).made → (view new.file).made
  pub held : (access : Access) → (view old.file).held access → (view new.file).held access
  pub broken : new.is_broken ≡ true → (old.is_broken ≡ true) ⊎ (view new.file).unsynced

-- the file becomes no shorter, and no longer than up to the end of that record
abbrev pub ReachesRecord : {F : Type 0} → (F → FileView) → ℕ → TapeState F → TapeState F → Type 0
ReachesRecord view n old new = old.is_broken ≡ false → (b : List ℕ) → (view old.file).kept ≡ Some b → (c : List ℕ) × ((view new.file).kept ≡ Some c) × GrowsTo (256 * (n + 1)) b c
