-- A file of bytes: what reads give, what a power stop leaves, and what its calls do. Contracts may see its bytes or
-- not; they do not see those of a file of the system.
use Rattle.std.specs.Prelude.{◌≡◌, ◌⊎◌, ◌<◌, ◌≤◌, ◌+◌, ℕ, Bool, true, false, min, max, List, length, take, get_or, Option, Some, Result, Ok, Err, is_some}
use Rattle.lif_model.specs.Causes.{HasCause}
use Rattle.il_ports.specs.declared.tape_file.Access.{Access}

pub record FileView : Type 1 where
  -- the name of the image that it is, if contracts see it
  pub named : Option (List ℕ)
  -- what reads give, if contracts see it
  pub seen : Option (List ℕ)
  -- what a power stop now leaves, seen or not as what reads give
  pub kept : Option (List ℕ)
  -- it may have been opened for that access
  pub opened : Access → Type 0
  -- a call of `make` may have made it
  pub made : Type 0
  -- its number may be above those of the standard streams
  pub apart : Type 0
  -- its lock may have been granted for that access
  pub held : Access → Type 0
  -- another program may hold its lock
  pub refused : Type 0
  -- a sync of it may have failed
  pub unsynced : Type 0
  -- a sync has failed: nothing more may be asked of the file
  pub broken : Bool
  -- how many of its calls have failed, or more: the count never falls
  pub failures : ℕ
  -- the time, which never falls
  pub moment : ℕ
  -- a power stop at some moment since that one may have left these bytes
  pub left_since : ℕ → List ℕ → Type 0

-- from its end on a file reads as zeros
abbrev pub byte_at : List ℕ → ℕ → ℕ
byte_at bytes i = get_or bytes i 0

-- a place that is none of the `count` places from `from` on
abbrev pub IsOutside : ℕ → ℕ → ℕ → Type 0
IsOutside from count i = (i < from) ⊎ (from + count ≤ i)

-- a file becomes no shorter, and no longer than up to that end
pub record GrowsTo (end : ℕ) (old new : List ℕ) : Type 0 where
  pub no_shorter : length old ≤ length new
  pub no_longer : length new ≤ max (length old) end

-- the file with these bytes from a place on
pub record Overlaid (from : ℕ) (bytes old new : List ℕ) : Type 0 where
  pub here : (i : ℕ) → i < length bytes → byte_at new (from + i) ≡ byte_at bytes i
  pub elsewhere : (i : ℕ) → IsOutside from (length bytes) i → byte_at new i ≡ byte_at old i
  pub size : GrowsTo (from + length bytes) old new

-- the file with any bytes at `count` places
pub record Mixed (from count : ℕ) (old new : List ℕ) : Type 0 where
  pub elsewhere : (i : ℕ) → IsOutside from count i → byte_at new i ≡ byte_at old i
  pub size : GrowsTo (from + count) old new

-- What a stop leaves while these places are being written: any bytes there, and elsewhere what was on the disk, if
-- reads gave the same. What waited for a sync may be on the disk too.
pub record TornAt (from count : ℕ) (seen old new : List ℕ) : Type 0 where
  pub elsewhere : (i : ℕ) → IsOutside from count i → byte_at old i ≡ byte_at seen i → byte_at new i ≡ byte_at old i
  pub no_shorter : min (length old) (length seen) ≤ length new
  pub no_longer : length new ≤ max (max (length old) (length seen)) (from + count)

-- what holds of every file
pub record IsFile (v : FileView) : Type 0 where
  pub told : is_some v.seen ≡ is_some v.kept
  -- a stop now leaves what is kept, and since now there is no other
  pub leaves_now : (k : ℕ) (b : List ℕ) → k ≤ v.moment → v.kept ≡ Some b → v.left_since k b
  pub leaves_only : (b c : List ℕ) → v.kept ≡ Some b → v.left_since v.moment c → c ≡ b

-- ---- what calls need

-- the lock was granted for some access
abbrev pub HasLock : FileView → Type 0
HasLock v = (access : Access) × v.held access

-- the disk has all that was written, and more may be asked of the file
pub record IsClean (v : FileView) : Type 0 where
  pub sound : v.broken ≡ false
  pub synced : v.seen ≡ v.kept

-- besides, a power stop since any moment leaves what reads give: what was there earlier cannot return
pub record IsSettledFile (v : FileView) : Type 0 where
  pub clean : IsClean v
  pub since : (b : List ℕ) → v.kept ≡ Some b → (m : ℕ) (c : List ℕ) → v.left_since m c → c ≡ b

-- ---- what every call keeps to

-- it stays open for what it was, made if it was made, and apart from the standard streams
pub record StaysItself (v w : FileView) : Type 0 where
  pub opened : (access : Access) → v.opened access → w.opened access
  pub made : v.made → w.made
  pub apart : v.apart → w.apart
  pub unsynced : v.unsynced → w.unsynced

pub record FileAnswers {T E : Type 0} (v w : FileView) (answer : Result T E) : Type 0 where
  pub itself : StaysItself v w
  pub named : w.named ≡ v.named
  pub told : is_some w.seen ≡ is_some v.seen
  pub held : (access : Access) → v.held access → w.held access
  pub cause : HasCause v.failures w.failures answer

-- no byte changes, and no time goes by
pub record Rests (v w : FileView) : Type 0 where
  pub seen : w.seen ≡ v.seen
  pub kept : w.kept ≡ v.kept
  pub sound : w.broken ≡ v.broken
  pub moment : w.moment ≡ v.moment
  pub nothing_else : (m : ℕ) (c : List ℕ) → w.left_since m c → v.left_since m c
  pub keeps : (m : ℕ) (c : List ℕ) → v.left_since m c → w.left_since m c

-- time goes by over a call that writes to these places, or with a count of 0 to none
pub record TimePasses (from count : ℕ) (v w : FileView) : Type 0 where
  pub later : v.moment ≤ w.moment
  pub nothing_else : (s b : List ℕ) → v.seen ≡ Some s → v.kept ≡ Some b → (m : ℕ) (c : List ℕ) → m ≤ v.moment → w.left_since m c
      → v.left_since m c ⊎ TornAt from count s b c
  pub keeps : (m : ℕ) (c : List ℕ) → m ≤ v.moment → v.left_since m c → w.left_since m c
  -- what is kept then
  pub kept : (s b : List ℕ) → v.seen ≡ Some s → v.kept ≡ Some b → (c : List ℕ) × (w.kept ≡ Some c) × TornAt from count s b c
  pub told : is_some w.kept ≡ is_some v.kept

-- ---- what each call does

-- at Ok its number is above those of the standard streams
abbrev pub ApartAnswers : {T E : Type 0} → FileView → Result T E → Type 0
ApartAnswers w (Ok _) = w.apart
ApartAnswers w (Err _) = Unit {0}

-- nothing else changes
pub record SetApart {T E : Type 0} (v w : FileView) (answer : Result T E) : Type 0 where
  pub answers : FileAnswers v w answer
  pub rests : Rests v w
  pub apart : ApartAnswers w answer

-- The lock is asked for, and granted or not. If another program holds it, that counts as no failure.
pub record Claimed (access : Access) (v w : FileView) (granted : Bool) : Type 0 where
  pub itself : StaysItself v w
  pub named : w.named ≡ v.named
  pub failures : w.failures ≡ v.failures
  pub rests : Rests v w
  pub held : granted ≡ true → w.held access
  pub refused : granted ≡ false → w.refused

-- how many bytes the file has
abbrev pub LengthAnswers : {E : Type 0} → Option (List ℕ) → Result ℕ E → Type 0
LengthAnswers seen (Ok count) = (s : List ℕ) → seen ≡ Some s → length s ≡ count
LengthAnswers seen (Err _) = Unit {0}

pub record Measured {E : Type 0} (v w : FileView) (answer : Result ℕ E) : Type 0 where
  pub answers : FileAnswers v w answer
  pub rests : Rests v w
  pub answer_is : LengthAnswers v.seen answer

-- the first bytes of a buffer are those from a place on
abbrev pub AreBytes : ℕ → ℕ → List ℕ → List ℕ → Type 0
AreBytes from count buffer bytes = (i : ℕ) → i < count → byte_at buffer i ≡ byte_at bytes (from + i)

-- the answer of a read: no bytes come only from the end on
abbrev pub ReadAnswers : {E : Type 0} → ℕ → List ℕ → Option (List ℕ) → Result ℕ E → Type 0
ReadAnswers from buffer seen (Ok count) =
    (count ≤ length buffer) × ((s : List ℕ) → seen ≡ Some s → AreBytes from count buffer s × (count ≡ 0 → length s ≤ from))
ReadAnswers from buffer seen (Err _) = Unit {0}

pub record Gave {E : Type 0} (from : ℕ) (buffer : List ℕ) (v w : FileView) (answer : Result ℕ E) : Type 0 where
  pub answers : FileAnswers v w answer
  pub rests : Rests v w
  pub answer_is : ReadAnswers from buffer v.seen answer

-- The answer of a write: it took at least one byte, and reads give what it took. One that failed leaves any bytes in
-- the places that were to be written.
abbrev pub WriteAnswers : {E : Type 0} → ℕ → List ℕ → FileView → FileView → Result ℕ E → Type 0
WriteAnswers from bytes v w (Ok count) =
    (0 < count) × (count ≤ length bytes) × ((s : List ℕ) → v.seen ≡ Some s → (t : List ℕ) × (w.seen ≡ Some t) × Overlaid from (take count bytes) s t)
WriteAnswers from bytes v w (Err _) = (s : List ℕ) → v.seen ≡ Some s → (t : List ℕ) × (w.seen ≡ Some t) × Mixed from (length bytes) s t

-- What was written waits for a sync. A failed write breaks nothing.
pub record TookBytes {E : Type 0} (from : ℕ) (bytes : List ℕ) (v w : FileView) (answer : Result ℕ E) : Type 0 where
  pub answers : FileAnswers v w answer
  pub sound : w.broken ≡ v.broken
  pub time : TimePasses from (length bytes) v w
  pub answer_is : WriteAnswers from bytes v w answer

-- with Ok the file has that size, and reads as it did, with zeros after its old end
abbrev pub ResizeAnswers : {T E : Type 0} → ℕ → FileView → FileView → Result T E → Type 0
ResizeAnswers size v w (Ok _) =
    (s : List ℕ) → v.seen ≡ Some s → (t : List ℕ) × (w.seen ≡ Some t) × (length t ≡ size) × ((i : ℕ) → i < size → byte_at t i ≡ byte_at s i)
ResizeAnswers size v w (Err _) = Unit {0}

pub record Resized {T E : Type 0} (size : ℕ) (v w : FileView) (answer : Result T E) : Type 0 where
  pub answers : FileAnswers v w answer
  pub sound : w.broken ≡ v.broken
  pub answer_is : ResizeAnswers size v w answer

-- with Ok a stop leaves what reads give, and with an error nothing more may be asked
abbrev pub SyncAnswers : {T E : Type 0} → FileView → FileView → Result T E → Type 0
SyncAnswers v w (Ok _) = (w.broken ≡ false) × (w.seen ≡ v.seen) × (w.kept ≡ v.seen)
SyncAnswers v w (Err _) = w.unsynced

pub record Synced {T E : Type 0} (v w : FileView) (answer : Result T E) : Type 0 where
  pub answers : FileAnswers v w answer
  pub time : TimePasses 0 0 v w
  pub answer_is : SyncAnswers v w answer

-- the same, and the time before the call is over
abbrev pub SettleAnswers : {T E : Type 0} → FileView → FileView → Result T E → Type 0
SettleAnswers v w (Ok _) = IsSettledFile w × (w.seen ≡ v.seen)
SettleAnswers v w (Err _) = Unit {0}

pub record Settled {T E : Type 0} (v w : FileView) (answer : Result T E) : Type 0 where
  pub answers : FileAnswers v w answer
  pub answer_is : SettleAnswers v w answer
