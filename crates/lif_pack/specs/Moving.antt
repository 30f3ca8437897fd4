-- A file whose records are moved down, commit by commit.
use Rattle.std.specs.Prelude.{◌≡◌, ◌≢◌, ◌⊎◌, ◌<◌, ◌≤◌, ◌+◌, ◌%◌, ◌++◌, ◌==◌, if◌then◌else◌, ℕ, zero, suc}
use Rattle.std.specs.Prelude.{List, [], ◌∷◌, length, take}
use Rattle.lif_model.specs.Tape.{Tape, record_at}
use Rattle.lif_model.specs.Directory.{entry_at}
use Rattle.lif_model.specs.declared.version.Version.TheVariants.{Two}
use Rattle.lif_model.specs.Redo.{Changes, redo_start, settled}
use Rattle.lif_model.specs.Writing.{SlotWrites, with_entry, slot_record, entry_from, with_slots}
use Rattle.lif_model.specs.Packing.{marked_slot, marked_count, unmarked, with_start}
use Rattle.lif_pack.specs.declared.marks.Move.{Move}

-- the entry with this implementation field, bytes 28 to 31
unfoldable pub with_mark : List ℕ → List ℕ → List ℕ
with_mark mark entry = take 28 entry ++ mark

-- ---- the changes of one commit

-- so many numbers, from one on
abbrev pub numbers_from : ℕ → ℕ → List ℕ
numbers_from k zero = []
numbers_from k (suc count) = k ∷ numbers_from (suc k) count

-- these records, from record k on
abbrev pub numbered_from : ℕ → List (List ℕ) → Changes
numbered_from k [] = []
numbered_from k (r ∷ rs) = (k, r) ∷ numbered_from (suc k) rs

-- one number more than another, where it is another
abbrev pub with_target : ℕ → List ℕ → List ℕ
with_target n [] = []
with_target n (k ∷ ks) = if k == n then k ∷ ks else k ∷ n ∷ ks

-- another first record in a slot, whose record of the directory may be the one that changes already
abbrev pub with_start_in : ℕ → ℕ → ℕ → Tape → Changes → Changes
with_start_in first slot start t [] = []
with_start_in first slot start t (c ∷ cs) =
    if c.0 == slot_record first slot
    then (c.0, with_entry c.1 (slot % 8) (with_start start (entry_at c.1 (slot % 8)))) ∷ cs
    else c ∷ (
      slot_record first slot,
      with_entry (record_at t (slot_record first slot)) (slot % 8) (with_start start (entry_from t first slot)),
    ) ∷ cs

-- ---- a move

-- The directory, from record `first` on and below record `end`, holds the slots of the redo entry and of the file, and
-- the records of the file move down and stand before the redo file.
pub record MayMove (n first end redo : ℕ) (move : Move) : Type 0 where
  pub redo_slot : slot_record first redo < end
  pub file_slot : slot_record first move.slot < end
  pub other : move.slot ≢ redo
  pub number : move.slot < 65535
  pub above : end ≤ move.place
  pub down : move.place < move.start
  pub part : move.moved < move.length
  pub below : move.start + move.length ≤ redo_start Two n

-- The first j records of the file stand at their places, but for those that did so before; these slots are written; and
-- all else below the redo file is as on u.
pub record IsMovedTo (first end : ℕ) (move : Move) (j : ℕ) (ws : SlotWrites) (u x : Tape) : Type 0 where
  pub records : length x ≡ length u
  pub moved : (q : ℕ) → move.moved ≤ q → q < j → record_at x (move.place + q) ≡ record_at u (move.start + q)
  pub directory : (k : ℕ) → first ≤ k → k < end → record_at x k ≡ record_at (with_slots first ws u) k
  pub others : (k : ℕ) → k < redo_start Two (length u) → (k < first) ⊎ (end ≤ k)
      → (k < move.place + move.moved) ⊎ (move.place + j ≤ k) → record_at x k ≡ record_at u k

-- an entry has the mark of the file in that slot, of which j records stand at its place
abbrev pub IsMarkedAs : ℕ → ℕ → List ℕ → Type 0
IsMarkedAs slot j entry = (marked_slot entry ≡ suc slot) × (marked_count entry ≡ j)

-- between two commits: where some have moved, the redo entry has the mark of them, and before the first it is as on u
pub record IsMidway (first end redo : ℕ) (move : Move) (j : ℕ) (u x : Tape) : Type 0 where
  pub entry : List ℕ
  pub size : length entry ≡ 32
  pub rest : take 28 entry ≡ take 28 (entry_from u first redo)
  pub before : j ≡ move.moved → entry ≡ entry_from u first redo
  pub mark : 0 < j → IsMarkedAs move.slot j entry
  pub tape : IsMovedTo first end move j ((redo, entry) ∷ []) u x

-- what a stop within a commit of so many records leaves, once it is settled: the tape before or after the commit
abbrev pub IsMidwayOrMore : (first end redo : ℕ) → Move → (j count : ℕ) → (u y : Tape) → Type 0
IsMidwayOrMore first end redo move j count u y =
    IsMidway first end redo move j u (settled y) ⊎ IsMidway first end redo move (j + count) u (settled y)

-- after the last one: it has none, and the file begins at its place
abbrev pub HasMoved : (first end redo : ℕ) → Move → (u x : Tape) → Type 0
HasMoved first end redo move u x = IsMovedTo first end move move.length
    ((redo, unmarked (entry_from u first redo))
    ∷ (move.slot, with_start move.place (entry_from u first move.slot)) ∷ []) u x

-- what a stop within the last commit leaves, once it is settled
abbrev pub IsMidwayOrMoved : (first end redo : ℕ) → Move → (j : ℕ) → (u y : Tape) → Type 0
IsMidwayOrMoved first end redo move j u y =
    IsMidway first end redo move j u (settled y) ⊎ HasMoved first end redo move u (settled y)

-- and within any of them
abbrev pub IsUnderWay : (first end redo : ℕ) → Move → (u y : Tape) → Type 0
IsUnderWay first end redo move u y =
    ((j : ℕ) × (move.moved ≤ j) × (j < move.length) × IsMidway first end redo move j u (settled y))
    ⊎ HasMoved first end redo move u (settled y)
