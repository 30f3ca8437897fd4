-- A file of the host that is read whole: which calls are made, and what they answer. Where two states of a file or of
-- the images are named, the calls led from the first to the second.
use Rattle.std.specs.Prelude.{◌≡◌, ◌<◌, ◌≤◌, ◌++◌, ℕ, true, false, List, [], length, take, Option, Some, Result, Ok, Err, Vec}
use Rattle.std.specs.IoError.{error_kind}
use Rattle.std.specs.declared.alloc.Global.{Global}
use Rattle.std.specs.declared.io.Error.{Error}
use Rattle.lif_model.specs.Shelf.{Shelf, image_of}
use Rattle.il_ports.specs.Files.{FileView, Claimed, Measured, Settled, Gave}
use Rattle.il_ports.specs.NamedImages.{ImagesView, Looked, Opened}
use Rattle.il_ports.specs.declared.images.Look.TheVariants as look
use Rattle.il_ports.specs.declared.tape_file.Access.TheVariants.{Read}
use Rattle.host_files.specs.declared.reading.NotRead.{NotRead}
use Rattle.host_files.specs.declared.reading.NotRead.TheVariants as not_read

-- ---- an open file

-- Reads of a file from its start on, each from where the one before ended. They gave these bytes.
pub data ReadsFrom {F : Type 0} (view : F → FileView) (f : F) : F → List ℕ → Type 0 where
  NoRead : ReadsFrom view f f []
  OneMore : (g h : F) (bytes buffer : List ℕ) (count : ℕ) → ReadsFrom view f g bytes → Gave {E = Error} (length bytes) buffer (view g) (view h) (Ok count)
      → ReadsFrom view f h (bytes ++ take count buffer)

-- Its lock was granted, to read it, and then it had this many bytes.
pub record IsMeasured {F : Type 0} (view : F → FileView) (f g : F) (count : ℕ) : Type 0 where
  pub claimed : F
  pub granted : Claimed Read (view f) (view claimed) true
  pub measured : Measured {E = Error} (view claimed) (view g) (Ok count)

-- After that it was settled: the disk has the bytes that reads give.
pub record IsSettledAt {F : Type 0} (view : F → FileView) (f g : F) (count : ℕ) : Type 0 where
  pub measured : F
  pub size : IsMeasured view f measured count
  pub settled : Settled {T = Unit {0}} {E = Error} (view measured) (view g) (Ok tt)

-- It was read whole: it had as many bytes as its reads gave.
pub record IsReadToEnd {F : Type 0} (view : F → FileView) (f g : F) (bytes : List ℕ) : Type 0 where
  pub settled : F
  pub size : IsSettledAt view f settled (length bytes)
  pub reads : ReadsFrom view settled g bytes

-- A read failed, or a read gave no byte before this many were read.
pub data ReadsFail {F : Type 0} (view : F → FileView) (f g : F) (count : ℕ) : Type 0 where
  NotGiven : (h : F) (bytes buffer : List ℕ) (error : Error) → ReadsFrom view f h bytes → Gave (length bytes) buffer (view h) (view g) (Err error)
      → ReadsFail view f g count
  Ended : (h : F) (bytes buffer : List ℕ) → ReadsFrom view f h bytes → length bytes < count → 0 < length buffer
      → Gave {E = Error} (length bytes) buffer (view h) (view g) (Ok 0) → ReadsFail view f g count

-- Its lock was not granted, or it was and then its length could not be found out.
pub data MeasureFails {F : Type 0} (view : F → FileView) (f g : F) : Type 0 where
  NotGranted : Claimed Read (view f) (view g) false → MeasureFails view f g
  NotMeasured : (h : F) (error : Error) → Claimed Read (view f) (view h) true → Measured (view h) (view g) (Err error) → MeasureFails view f g

-- Why a file could not be read: one of its calls failed, or it ended too early.
pub data IsUnread {F : Type 0} (view : F → FileView) (f g : F) : Type 0 where
  Unmeasured : MeasureFails view f g → IsUnread view f g
  Unsettled : (h : F) (count : ℕ) (error : Error) → IsMeasured view f h count → Settled {T = Unit {0}} (view h) (view g) (Err error) → IsUnread view f g
  Broke : (h : F) (count : ℕ) → IsSettledAt view f h count → ReadsFail view h g count → IsUnread view f g

-- what the parts of a read answer
abbrev pub Measures : {F E : Type 0} → (F → FileView) → (f g : F) → Result ℕ E → Type 0
Measures view f g (Ok count) = IsMeasured view f g count
Measures view f g (Err _) = MeasureFails view f g

abbrev pub ReadsCount : {F E : Type 0} → (F → FileView) → (count : ℕ) → (f g : F) → Result (Vec ℕ Global) E → Type 0
ReadsCount view count f g (Ok bytes) = ReadsFrom view f g bytes.items × (length bytes.items ≡ count)
ReadsCount view count f g (Err _) = ReadsFail view f g count

-- What was read of an open file. If it is too large, or there is no memory for its bytes, nothing was read.
abbrev pub OpenFileRead : {F : Type 0} → (F → FileView) → (most : ℕ) → (f g : F) → Result (Vec ℕ Global) NotRead → Type 0
OpenFileRead view most f g (Ok bytes) = IsReadToEnd view f g bytes.items × (length bytes.items ≤ most)
OpenFileRead view most f g (Err not_read.TooLarge) = (count : ℕ) × IsMeasured view f g count × (most < count)
OpenFileRead view most f g (Err not_read.Unread) = IsUnread view f g
OpenFileRead view most f g (Err not_read.OutOfMemory) = (count : ℕ) × IsMeasured view f g count × (count ≤ most)
OpenFileRead view most f g (Err _) = ⊥

-- ---- a file by its name

-- After a look that found a file it was opened, only to be read. This was read of it.
pub record IsHostFileReadAs {F I : Type 0} (view : F → FileView) (seen : I → ImagesView) (name : List ℕ) (most : ℕ) (looked new : I) (answer : Result (Vec ℕ Global) NotRead) : Type 0 where
  pub file : F
  pub opened : Opened {E = Error} view error_kind name Read (seen looked) (seen new) (Ok file)
  pub after : F
  pub read : OpenFileRead view most file after answer

-- the same, or it could not be opened
abbrev pub FoundRead : {F I : Type 0} → (F → FileView) → (I → ImagesView) → (name : List ℕ) → (most : ℕ) → (looked new : I) → Result (Vec ℕ Global) NotRead → Type 0
FoundRead view seen name most looked new (Err not_read.NotOpened) = (error : Error) × Opened view error_kind name Read (seen looked) (seen new) (Err error)
FoundRead view seen name most looked new answer = IsHostFileReadAs view seen name most looked new answer

-- the same, with that look, which is the only one
pub record IsHostFileFound {F I : Type 0} (view : F → FileView) (seen : I → ImagesView) (name : List ℕ) (most : ℕ) (old new : I) (answer : Result (Vec ℕ Global) NotRead) : Type 0 where
  pub looked : I
  pub there : Looked {E = Error} name (seen old) (seen looked) (Ok look.File)
  pub read : FoundRead view seen name most looked new answer

-- What was read of the file of that name. Nothing is opened unless the only look found a file.
abbrev pub HostFileRead : {F I : Type 0} → (F → FileView) → (I → ImagesView) → (name : List ℕ) → (most : ℕ) → (old new : I) → Result (Vec ℕ Global) NotRead → Type 0
HostFileRead view seen name most old new (Err not_read.Missing) = Looked {E = Error} name (seen old) (seen new) (Ok look.Missing)
HostFileRead view seen name most old new (Err not_read.NotAFile) = Looked {E = Error} name (seen old) (seen new) (Ok look.Other)
HostFileRead view seen name most old new (Err not_read.NotLooked) = (error : Error) × Looked name (seen old) (seen new) (Err error)
HostFileRead view seen name most old new answer = IsHostFileFound view seen name most old new answer

-- ---- what contracts see of its bytes

-- these are the bytes of the file of that name, if contracts see it
abbrev pub IsHostContent : (name : List ℕ) → Option Shelf → (bytes : List ℕ) → Type 0
IsHostContent name shelf bytes = (s : Shelf) → shelf ≡ Some s → image_of name s ≡ Some bytes

-- the file of that name has more than `most` bytes, if contracts see it
abbrev pub IsLarger : (name : List ℕ) → (most : ℕ) → Option Shelf → Type 0
IsLarger name most shelf = (s : Shelf) → shelf ≡ Some s → (bytes : List ℕ) × (image_of name s ≡ Some bytes) × (most < length bytes)
