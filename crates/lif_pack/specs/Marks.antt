-- What a directory in memory says of a file that is being moved.
use Rattle.std.specs.Prelude.{◌≡◌, ◌<◌, ℕ, List, [], true, false, get_or, Option, Some, None}
use Rattle.lif_model.specs.Directory.{start_of, length_of}
use Rattle.lif_model.specs.Legal.{is_live}
use Rattle.lif_model.specs.Volume.{Volume}
use Rattle.lif_model.specs.Fit.{redo_place}
use Rattle.lif_model.specs.Packing.{is_in_order, packed_start, redo_slot, marked_slot, marked_count}
use Rattle.lif_model.specs.Packing.{bears_mark, is_move, move_of}
use Rattle.lif_pack.specs.declared.marks.Move.{Move}
use Rattle.lif_pack.specs.declared.marks.Mark.{Mark}

-- what holds of such a file, wherever the directory ends
pub record MayBeMoved (slots : List (List ℕ)) (move : Move) : Type 0 where
  pub before_redo : move.slot < redo_place slots
  pub number : move.slot < 65535
  pub live : is_live (get_or slots move.slot []) ≡ true
  pub in_order : is_in_order slots ≡ true
  pub part : move.moved < move.length
  pub down : move.place < move.start
  pub start : move.start ≡ start_of (get_or slots move.slot [])
  pub long : move.length ≡ length_of (get_or slots move.slot [])

-- it is that of slot i, of which j records stand at its place
pub record IsMoveAt (v : Volume) (i j : ℕ) (move : Move) : Type 0 where
  pub slot : move.slot ≡ i
  pub moved : move.moved ≡ j
  pub place : move.place ≡ packed_start v i
  pub start : move.start ≡ start_of (get_or v.slots i [])
  pub long : move.length ≡ length_of (get_or v.slots i [])

-- it is given exactly where j records of that file may stand at its place
abbrev pub IsMoving : Volume → ℕ → ℕ → Option Move → Type 0
IsMoving v i j None = is_move v i j ≡ false
IsMoving v i j (Some move) = (is_move v i j ≡ true) × IsMoveAt v i j move

-- the file of a good mark
abbrev pub IsMarked : Volume → Option Move → Type 0
IsMarked v None = move_of v ≡ None
IsMarked v (Some move) = (i j : ℕ) × (move_of v ≡ Some (i, j)) × IsMoveAt v i j move

-- the mark of a volume of n records, where it has one
abbrev pub IsMarkOf : ℕ → Volume → Option Mark → Type 0
IsMarkOf n v None = bears_mark n v ≡ false
IsMarkOf n v (Some mark) = (bears_mark n v ≡ true) × (mark.redo ≡ redo_place v.slots)
    × (mark.number ≡ marked_slot (redo_slot v)) × (mark.moved ≡ marked_count (redo_slot v))
