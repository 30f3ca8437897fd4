-- Records of a file that are read whole, and written whole and synced.
use Rattle.std.specs.Prelude.{◌≡◌, ◌<◌, ◌+◌, ℕ, false, List, length, take, Option, Some, Result, Ok, Err}
use Rattle.il_ports.specs.Files.{FileView, FileAnswers, Overlaid, Mixed, TimePasses, Rests, IsClean, byte_at}
use Rattle.il_ports.specs.declared.file_tape.StoreFault.{StoreFault}
use Rattle.il_ports.specs.declared.file_tape.StoreFault.TheVariants as fault

-- the first bytes of a buffer are those of the file from a place on, where they are told
abbrev pub Filled : ℕ → ℕ → List ℕ → Option (List ℕ) → Type 0
Filled from count buffer seen = (s : List ℕ) → seen ≡ Some s → (i : ℕ) → i < count → byte_at buffer i ≡ byte_at s (from + i)

-- a read that fills its buffer
abbrev pub FillsBuffer : {T E : Type 0} → ℕ → List ℕ → Option (List ℕ) → Result T E → Type 0
FillsBuffer from buffer seen (Ok _) = Filled from 256 buffer seen
FillsBuffer from buffer seen (Err _) = Unit {0}

pub record FetchedBytes {T E : Type 0} (from : ℕ) (buffer : List ℕ) (v w : FileView) (answer : Result T E) : Type 0 where
  pub answers : FileAnswers v w answer
  pub rests : Rests v w
  pub fills : FillsBuffer from buffer v.seen answer

-- so many of these bytes are written, and none but those places may have changed
pub record Writing (from count : ℕ) (bytes : List ℕ) (v w : FileView) : Type 0 where
  pub answers : FileAnswers {T = Unit {0}} {E = Unit {0}} v w (Ok tt)
  pub sound : w.broken ≡ false
  pub seen : (s : List ℕ) → v.seen ≡ Some s → (t : List ℕ) × (w.seen ≡ Some t) × Overlaid from (take count bytes) s t
  pub time : TimePasses from (length bytes) v w

-- all of them are, or any bytes are at their places
abbrev pub PutAnswers : {T E : Type 0} → ℕ → List ℕ → FileView → FileView → Result T E → Type 0
PutAnswers from bytes v w (Ok _) = (s : List ℕ) → v.seen ≡ Some s → (t : List ℕ) × (w.seen ≡ Some t) × Overlaid from bytes s t
PutAnswers from bytes v w (Err _) = (s : List ℕ) → v.seen ≡ Some s → (t : List ℕ) × (w.seen ≡ Some t) × Mixed from (length bytes) s t

pub record Put {T E : Type 0} (from : ℕ) (bytes : List ℕ) (v w : FileView) (answer : Result T E) : Type 0 where
  pub answers : FileAnswers v w answer
  pub sound : w.broken ≡ false
  pub time : TimePasses from (length bytes) v w
  pub answer_is : PutAnswers from bytes v w answer

-- At Ok the bytes are on the disk. After a write that failed any bytes are, and nothing waits; after a sync that failed
-- nothing is said of what waits.
abbrev pub StoreAnswers : {T : Type 0} → ℕ → List ℕ → FileView → FileView → Result T StoreFault → Type 0
StoreAnswers from bytes v w (Ok _) = IsClean w × ((s : List ℕ) → v.seen ≡ Some s → (t : List ℕ) × (w.kept ≡ Some t) × Overlaid from bytes s t)
StoreAnswers from bytes v w (Err fault.Failed) = IsClean w
StoreAnswers from bytes v w (Err fault.Unsynced) = w.unsynced

pub record StoredBytes {T : Type 0} (from : ℕ) (bytes : List ℕ) (v w : FileView) (answer : Result T StoreFault) : Type 0 where
  pub answers : FileAnswers v w answer
  pub time : TimePasses from (length bytes) v w
  pub answer_is : StoreAnswers from bytes v w answer
