-- What a command changes of a directory: a slot, the slot after it where that changes too, and an end after them.
use Rattle.std.specs.Prelude.{◌≡◌, ◌≢◌, ◌<◌, ◌≤◌, ◌++◌, ◌==◌, if◌then◌else◌, ℕ, suc, Bool, List, [], ◌∷◌, true, length, max, set, Option, Some, None, IfSome}
use Rattle.lif_model.specs.Tape.{Tape}
use Rattle.lif_model.specs.Made.{with_type}
use Rattle.lif_model.specs.Writing.{SlotWrites, entry_from}
use Rattle.lif_dir.specs.declared.change.Change.{Change}
use Rattle.lif_dir.specs.declared.entries.FileEntry.{FileEntry}
use Rattle.lif_dir.specs.declared.entries.Slot.{Slot}
use Rattle.lif_dir.specs.Entries.{entry_bytes, slot_of, slot_from}

-- ---- places

-- the place after slot k and the one after it, where that changes too
abbrev pub after_next : ℕ → Option FileEntry → ℕ
after_next k None = suc k
after_next k (Some next) = suc (suc k)

-- the place after the slots that change
abbrev pub slot_after : Change → ℕ
slot_after change = after_next change.slot change.next

-- In a directory of so many slots, with room for so many, each slot that changes is one of them or, as one at most, stands
-- after the last, no entry is an end, and the end that is put after them has a slot, past all slots before; where they are more
-- than before and there is a slot for it, an end is put.
pub record FitsIn (room count : ℕ) (change : Change) : Type 0 where
  pub place : change.slot ≤ count
  pub one : slot_after change ≤ suc count
  pub within : change.slot < room
  pub kind : change.entry.kind ≢ 0xFFFF
  pub next : IfSome change.next (λ next. (suc change.slot < room) × (next.kind ≢ 0xFFFF))
  pub end_within : change.ended ≡ true → slot_after change < room
  pub end_past : change.ended ≡ true → count < slot_after change
  pub end_there : count < slot_after change → slot_after change < room → change.ended ≡ true

-- ---- what is written

-- an entry, where there is one
abbrev pub next_write : ℕ → Option FileEntry → SlotWrites
next_write k None = []
next_write k (Some next) = (k, entry_bytes next) ∷ []

-- slot k of a directory that begins at record `start` becomes an end, and keeps its other bytes
abbrev pub end_write : Bool → ℕ → ℕ → Tape → SlotWrites
end_write ended start k tape = if ended then (k, with_type 0xFFFF (entry_from tape start k)) ∷ [] else []

-- the entries
abbrev pub entry_writes : Change → SlotWrites
entry_writes change = (change.slot, entry_bytes change.entry) ∷ next_write (suc change.slot) change.next

-- what is written of a directory that begins at record `start`
abbrev pub change_writes : ℕ → Change → Tape → SlotWrites
change_writes start change tape = entry_writes change ++ end_write change.ended start (slot_after change) tape

-- ---- the slots with the change

-- slot k replaced, or appended where k is the place after the last
abbrev pub put_slot : {X : Type 0} → List X → ℕ → X → List X
put_slot xs k x = if k == length xs then xs ++ x ∷ [] else set xs k x

abbrev pub put_next : {X : Type 0} → (FileEntry → X) → ℕ → Option FileEntry → List X → List X
put_next f k None xs = xs
put_next f k (Some next) xs = put_slot xs k (f next)

-- with the entries as f tells them
abbrev pub put_change : {X : Type 0} → (FileEntry → X) → Change → List X → List X
put_change f change xs = put_next f (suc change.slot) change.next (put_slot xs change.slot (f change.entry))

abbrev pub slots_with : Change → List Slot → List Slot
slots_with = put_change slot_of

-- the same by their bytes
abbrev pub bytes_with : Change → List (List ℕ) → List (List ℕ)
bytes_with = put_change entry_bytes

-- the bytes of the entries tell them
pub record IsToldBack (change : Change) : Type 0 where
  pub entry : slot_from (entry_bytes change.entry) ≡ slot_of change.entry
  pub next : IfSome change.next (λ next. slot_from (entry_bytes next) ≡ slot_of next)

-- how many slots there are with the change
abbrev pub count_with : ℕ → Change → ℕ
count_with count change = max count (slot_after change)

-- ---- changes, one after the other

-- each fits in the directory with those before it, and these are the slots after all
abbrev pub AreInTurn : ℕ → List (List ℕ) → List Change → List (List ℕ) → Type 0
AreInTurn room slots [] later = slots ≡ later
AreInTurn room slots (c ∷ cs) later = FitsIn room (length slots) c × AreInTurn room (bytes_with c slots) cs later

-- how many slots there are with all of them
abbrev pub count_with_all : ℕ → List Change → ℕ
count_with_all count [] = count
count_with_all count (c ∷ cs) = count_with_all (count_with count c) cs

-- all that they write of a directory that begins at record `start`
abbrev pub all_writes : ℕ → List Change → Tape → SlotWrites
all_writes start [] tape = []
all_writes start (c ∷ cs) tape = change_writes start c tape ++ all_writes start cs tape
