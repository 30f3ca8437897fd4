-- The steps of packing: slots in memory, whose files are moved to their places one after the other.
use Rattle.std.specs.Prelude.{◌≡◌, ◌⊎◌, ◌<◌, ◌≤◌, ◌+◌, ◌/◌, ℕ, List, [], ◌∷◌, true, false}
use Rattle.std.specs.Prelude.{length, get_or, take, drop, Some, Option}
use Rattle.std.specs.FinMap.{empty}
use Rattle.lif_model.specs.Tape.{Tape}
use Rattle.lif_model.specs.Header.{directory_start, directory_end}
use Rattle.lif_model.specs.Directory.{start_of}
use Rattle.lif_model.specs.Made.{in_four}
use Rattle.lif_model.specs.Redo.{Changes}
use Rattle.lif_model.specs.Writing.{SlotWrites, IsSlotWritten}
use Rattle.lif_model.specs.Legal.{is_live, occupies}
use Rattle.lif_model.specs.Volume.{Volume, IsVolume, volume_of, is_foreign_gated}
use Rattle.lif_model.specs.Fit.{redo_place}
use Rattle.lif_model.specs.Apply.{is_upgraded}
use Rattle.lif_model.specs.Finished.{StaysOutside}
use Rattle.lif_commit.specs.Staged.{IsStagedAs, AreBefore}
use Rattle.lif_model.specs.Packing.{is_in_order, live_records, are_packed, bears_mark, packed}

-- some volume with this record 0 and these slots
abbrev pub volume_with : List ℕ → List (List ℕ) → Volume
volume_with header slots = record { header = header; slots = slots; files = empty }

-- the start of the slot, in four bytes, is what stands in bytes 12 to 15
abbrev pub HasPlainStart : List ℕ → Type 0
HasPlainStart slot = in_four (start_of slot) ≡ take 4 (drop 12 slot)

-- The slots are those of a legal directory of version 2, which begins at record `first` and ends before record `end`.
-- They are in order and have no mark, and slot `redo` is the redo entry.
pub record MayPack (n first end redo : ℕ) (slots : List (List ℕ)) : Type 0 where
  pub header : List ℕ
  pub volume : IsVolume n (volume_with header slots)
  pub starts : directory_start header ≡ first
  pub ends : directory_end header ≡ end
  pub version : is_upgraded n (volume_with header slots) ≡ true
  pub unmarked : bears_mark n (volume_with header slots) ≡ false
  pub in_order : is_in_order slots ≡ true
  pub redo_is : redo_place slots ≡ redo
  pub plain : (k : ℕ) → k < length slots → occupies (get_or slots k []) ≡ true → HasPlainStart (get_or slots k [])

-- the files of so many slots stand at their places, the first of which is record `end`, and this is the next one
pub record ArePlaced (end count place : ℕ) (slots : List (List ℕ)) : Type 0 where
  pub packed : are_packed end (take count slots) ≡ true
  pub next : place ≡ end + live_records (take count slots)

-- of the volume of t, where it has these slots in a directory from record `first` on, which ends before record `end`
abbrev pub OfSlots : (first end : ℕ) → (slots : List (List ℕ)) → (t : Tape) → (Volume → Type 0) → Type 0
OfSlots first end slots t P = (v : Volume) → volume_of t ≡ Some v → v.slots ≡ slots → directory_start v.header ≡ first
    → directory_end v.header ≡ end → P v

-- The tape x has the volume of t with other slots: these in place of those. So the bytes of each file are as they were.
-- The records outside the directory and the places of the files, and below the redo file, are those of t.
pub record HasSlotsOf (first end : ℕ) (old new : List (List ℕ)) (t x : Tape) : Type 0 where
  pub volume : OfSlots first end old t (λ v. volume_of x ≡ Some (record v { slots = new }))
  pub outside : StaysOutside first (end + live_records (take (redo_place old) old)) t x

-- packing makes the same of a volume with either of these slots
abbrev pub ArePackedAlike : (n end : ℕ) → (old new : List (List ℕ)) → Type 0
ArePackedAlike n end old new = (v : Volume) → directory_end v.header ≡ end
    → packed n (record v { slots = new }) ≡ packed n (record v { slots = old })

-- Slots that may be packed have become slots that may be packed too, and packing makes the same of them.
abbrev pub MayStillPack : (n first : ℕ) → (old new : List (List ℕ)) → Type 0
MayStillPack n first old new = (end redo : ℕ) → MayPack n first end redo old
    → (place : ℕ) × MayPack n first end place new × ArePackedAlike n end old new

-- Where the slots may be packed and the tape before is told, the tape after is too, and has the new ones in their
-- place.
abbrev pub TapeHasSlots : (n first : ℕ) → (old new : List (List ℕ)) → (before after : Option Tape) → Type 0
TapeHasSlots n first old new before after = (end redo : ℕ) (t : Tape) → MayPack n first end redo old → before ≡ Some t
    → (x : Tape) × (after ≡ Some x) × HasSlotsOf first end old new t x

-- ---- closing up

-- no slot is purged
abbrev pub AreLive : List (List ℕ) → Type 0
AreLive slots = (k : ℕ) → k < length slots → is_live (get_or slots k []) ≡ true

-- the slots before slot `front` are live, and those from it on, before slot `slot`, are purged
pub record IsGap (front slot : ℕ) (slots : List (List ℕ)) : Type 0 where
  pub order : front ≤ slot
  pub closed : (k : ℕ) → k < front → is_live (get_or slots k []) ≡ true
  pub purged : (k : ℕ) → front ≤ k → k < slot → is_live (get_or slots k []) ≡ false

-- slots in these two ranges alone may have changed
abbrev pub StayBut : (front next from until : ℕ) → (old new : List (List ℕ)) → Type 0
StayBut front next from until old new =
    (k : ℕ) → (k < front) ⊎ (next ≤ k) → (k < from) ⊎ (until ≤ k) → get_or new k [] ≡ get_or old k []

-- no record after this one is among the changes
abbrev pub AreUpTo : ℕ → Changes → Type 0
AreUpTo n changes = (p : ℕ) → p < length changes → (get_or changes p (0, [])).0 ≤ n

-- each write is one of these slots
abbrev pub AreAmong : List (List ℕ) → SlotWrites → Type 0
AreAmong slots [] = Unit {0}
AreAmong slots (w ∷ ws) = (w.1 ≡ get_or slots w.0 []) × AreAmong slots ws

-- the changes are those that write these of the slots, in a directory that begins at record `first`
pub record AreSetAside (first : ℕ) (tape : Option Tape) (slots : List (List ℕ)) (writes : SlotWrites)
    (changes : Changes) : Type 0 where
  pub staged : IsStagedAs first tape (λ x. writes) changes
  pub before : AreBefore (length slots) (length slots) writes
  pub among : AreAmong slots writes

-- all slots of record i of the directory are written
abbrev pub HasRecord : List (List ℕ) → ℕ → SlotWrites → Type 0
HasRecord slots i writes = (k : ℕ) → k < length slots → k / 8 ≡ i → IsSlotWritten writes k

-- the tape has that volume, or it with these slots, and no gate that is not ours
abbrev pub IsOldOrClosed : Volume → List (List ℕ) → Tape → Type 0
IsOldOrClosed v new x =
    ((volume_of x ≡ Some v) ⊎ (volume_of x ≡ Some (record v { slots = new }))) × (is_foreign_gated x ≡ false)
