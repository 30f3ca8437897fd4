-- What a batch is to write, planned part by part on the slots in memory.
use Rattle.std.specs.Prelude.{◌≡◌, ◌<◌, ◌≤◌, ◌+◌, ◌*◌, ◌++◌, ◌&&◌, nat_eq, ℕ, Bool, List, All, [], ◌∷◌, true, false, length, get_or, Some, None, Result, Ok, Err}
use Rattle.std.specs.List.{list_any}
use Rattle.std.specs.Str.{bytes_eq}
use Rattle.lif_model.specs.Legal.{is_live}
use Rattle.lif_model.specs.Tape.{Tape, record_at}
use Rattle.lif_model.specs.Header.{HeaderParts, directory_start}
use Rattle.lif_model.specs.Made.{file_length}
use Rattle.lif_model.specs.declared.version.Version.TheVariants.{Two}
use Rattle.lif_model.specs.Redo.{redo_start}
use Rattle.lif_model.specs.declared.refusal.Refusal.{Refusal}
use Rattle.lif_model.specs.Volume.{Volume, is_adopted_with, IsAdopted}
use Rattle.lif_model.specs.Parts.{Part, most_parts, IsWellFormedPart}
use Rattle.lif_model.specs.Apply.{Batch, IsWellFormed, first_met, before_parts, after_parts, parts_checks, refusal_of, volume_after}
use Rattle.lif_model.specs.Fit.{At}
use Rattle.lif_model.specs.Writing.{NewFile, part_files, parts_writes, parts_files, files_left, same_slots}
use Rattle.lif_dir.specs.declared.change.Change.{Change}
use Rattle.lif_dir.specs.declared.entries.Slot.{Slot}
use Rattle.lif_dir.specs.declared.entries.Slot.TheVariants.{End}
use Rattle.lif_dir.specs.Entries.{is_entry, slot_bytes}
use Rattle.lif_dir.specs.Changes.{AreInTurn, all_writes}
use Rattle.lif_dir.specs.Batches.{bytes_at}
use Rattle.lif_plan.specs.declared.batches.PlannedFile.{PlannedFile}
use Rattle.lif_plan.specs.declared.batches.Before.{Before}
use Rattle.lif_plan.specs.Plans.{IsVolumeWith, RefusesAs}
use Rattle.lif_plan.specs.Parts.{RefusesPart}

-- ---- files

-- a file whose bytes are among those of a batch
abbrev pub file_of : List ℕ → PlannedFile → NewFile
file_of bytes file = record { slot = file.slot; start = file.start; bytes = bytes_at bytes file.from file.length }

-- its bytes are among so many
abbrev pub IsFileWithin : ℕ → PlannedFile → Type 0
IsFileWithin count file = file.from + file.length ≤ count

-- it lies between the directory and a redo file of version 2
abbrev pub LiesBetween : ℕ → HeaderParts → NewFile → Type 0
LiesBetween n header file =
    (header.start + header.length ≤ file.start) × (file.start + file_length file.bytes ≤ redo_start Two n)

-- ---- a batch

-- it is not refused: its changes, the files that are left, the slots after it, and whether these are those before
pub record PlansBatch (n : ℕ) (parts : List Part) (header : HeaderParts) (slots later : List (List ℕ))
    (changes : List Change) (files : List NewFile) (unchanged : Bool) : Type 0 where
  pub formed : IsWellFormed (Batch parts)
  pub free : (v : Volume) → IsVolumeWith n header slots v → refusal_of n (Batch parts) (Some v) ≡ None
  pub after : (v : Volume) → IsVolumeWith n header slots v → (volume_after n (Batch parts) v).slots ≡ later
  pub in_turn : AreInTurn (8 * header.length) slots changes later
  pub few : length changes ≤ most_parts
  pub writes : (v : Volume) → IsVolumeWith n header slots v → (u : Tape) → directory_start (record_at u 0) ≡ header.start
      → parts_writes n parts (before_parts v) u ≡ all_writes header.start changes u
  pub versions : (v : Volume) → IsVolumeWith n header slots v → All (λ c. c.version ≡ Two) changes
  pub left : (v : Volume) → IsVolumeWith n header slots v → files_left n parts v ≡ files
  pub between : (v : Volume) → IsVolumeWith n header slots v → All (LiesBetween n header) files
  pub same : unchanged ≡ same_slots slots later

-- what is planned for a batch
abbrev pub IsBatchPlan : ℕ → List Part → HeaderParts → List (List ℕ) → List (List ℕ)
    → List Change → List NewFile → Result Bool Refusal → Type 0
IsBatchPlan n parts header slots later changes files (Err why) = RefusesAs n (Batch parts) header slots why
IsBatchPlan n parts header slots later changes files (Ok unchanged) = PlansBatch n parts header slots later changes files unchanged

-- ---- in its midst

-- the slot is one of those that are remembered
abbrev pub IsRemembered : List Before → ℕ → Type 0
IsRemembered befores j = list_any (λ b. nat_eq b.slot j) befores ≡ true

-- it holds what is remembered of it
abbrev pub is_as_before : List (List ℕ) → Before → Bool
is_as_before slots before = is_entry before.held && bytes_eq (get_or slots before.slot []) (slot_bytes before.held)

-- the file's slot is live among these
abbrev pub is_left : List (List ℕ) → PlannedFile → Bool
is_left slots file = is_live (get_or slots file.slot [])

-- it tells what one of these slots holds
pub record Recalls (slots : List Slot) (before : Before) : Type 0 where
  pub within : before.slot < length slots
  pub held : get_or slots before.slot End ≡ before.held
  pub entry : is_entry before.held ≡ true

-- the slots that were changed so far are remembered as they were at first
pub record Remembers (slots later : List Slot) (befores : List Before) : Type 0 where
  pub longer : length slots ≤ length later
  pub each : All (Recalls slots) befores
  pub others : (j : ℕ) → j < length slots → list_any (λ b. nat_eq b.slot j) befores ≡ false → get_or later j End ≡ get_or slots j End

-- none of these parts is refused, and so far they make these slots, by these changes, with these files, and these slots are
-- barred
pub record SoFar (n : ℕ) (header : HeaderParts) (slots : List (List ℕ)) (parts : List Part) (later : List (List ℕ))
    (changes : List Change) (files : List NewFile) (barred : List ℕ) : Type 0 where
  pub formed : All IsWellFormedPart parts
  pub free : (v : Volume) → IsVolumeWith n header slots v → first_met (parts_checks n parts (before_parts v)) ≡ None
  pub volume : (v : Volume) → IsVolumeWith n header slots v → IsVolumeWith n header later (after_parts n parts (before_parts v)).volume
  pub adopted : (v : Volume) → IsVolumeWith n header slots v → IsAdopted n (after_parts n parts (before_parts v)).volume
  pub two : (v : Volume) → IsVolumeWith n header slots v → is_adopted_with n Two (after_parts n parts (before_parts v)).volume.slots ≡ true
  pub bars : (v : Volume) → IsVolumeWith n header slots v → (after_parts n parts (before_parts v)).barred ≡ barred
  pub in_turn : AreInTurn (8 * header.length) slots changes later
  pub few : length changes ≤ length parts
  pub versions : (v : Volume) → IsVolumeWith n header slots v → All (λ c. c.version ≡ Two) changes
  pub writes : (v : Volume) → IsVolumeWith n header slots v → (u : Tape) → directory_start (record_at u 0) ≡ header.start
      → parts_writes n parts (before_parts v) u ≡ all_writes header.start changes u
  pub stored : (v : Volume) → IsVolumeWith n header slots v → parts_files n parts (before_parts v) ≡ files

-- the file of a part that makes this change
abbrev pub file_at : Part → Change → List NewFile
file_at p change = part_files p (At change.slot change.entry.start)

-- what one part more leaves of them, or why it is refused
abbrev pub TakesPart : ℕ → HeaderParts → List (List ℕ) → List Part → Part → List ℕ → List (List ℕ) → List (List ℕ)
    → List Change → List NewFile → List ℕ → Result (Unit {0}) Refusal → Type 0
TakesPart n header slots parts p barred before later changes files bars (Err why) =
    RefusesPart n p barred header before why
TakesPart n header slots parts p barred before later changes files bars (Ok _) =
    SoFar n header slots (parts ++ p ∷ []) later changes files bars

-- and what all leave
abbrev pub TakesAll : ℕ → HeaderParts → List (List ℕ) → List Part → List (List ℕ)
    → List Change → List NewFile → List ℕ → Result (Unit {0}) Refusal → Type 0
TakesAll n header slots parts later changes files barred (Err why) = RefusesAs n (Batch parts) header slots why
TakesAll n header slots parts later changes files barred (Ok _) = SoFar n header slots parts later changes files barred
