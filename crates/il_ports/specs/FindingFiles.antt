-- How a file is made ready for a drive, and why that fails.
use Rattle.std.specs.Prelude.{◌≡◌, ◌⊎◌, ◌<◌, ℕ, Bool, List, true, false, length, Option, Some, None, Result, Ok, Err, is_some}
use Rattle.lif_model.specs.Shelf.{Shelf, image_of}
use Rattle.lif_model.specs.Causes.{Rose}
use Rattle.il_ports.specs.Files.{FileView, IsSettledFile, StaysItself, byte_at}
use Rattle.il_ports.specs.NamedImages.{ImagesView, MakesNone, IsOpenedFor, Looks, Opens, Makes, Names, Removes}
use Rattle.il_ports.specs.FileDrives.{IsFit}
use Rattle.il_ports.specs.declared.images.Look.TheVariants as look
use Rattle.il_ports.specs.declared.tape_file.Access.{Access}
use Rattle.il_ports.specs.declared.tape_file.Access.TheVariants.{Change, Read}

-- A file that was just opened. The disk has what it reads as if that is known.
pub record Claimable (access : Access) (is_settled : Bool) (v : FileView) : Type 0 where
  pub sound : v.broken ≡ false
  pub settled : is_settled ≡ true → IsSettledFile v
  pub opened : v.opened access

-- A file that is ready: it has its name, its lock and a number above those of the standard streams, a stop leaves what
-- it reads as, and it stays made if it was made.
pub record Ready (access : Access) (v w : FileView) : Type 0 where
  pub settled : IsSettledFile w
  pub held : w.held access
  pub apart : w.apart
  pub named : w.named ≡ v.named
  pub made : v.made → w.made
  pub told : is_some w.kept ≡ is_some v.seen

-- besides, it reads as before, and it has `count` bytes
abbrev pub IsTaken : Access → FileView → FileView → ℕ → Type 0
IsTaken access v w count = Ready access v w × (w.kept ≡ v.seen) × ((s : List ℕ) → v.seen ≡ Some s → length s ≡ count)

-- a call of the file failed, or another program holds its lock
abbrev pub FileRefuses : FileView → FileView → Type 0
FileRefuses v w = Rose v.failures w.failures ⊎ w.refused

-- After an error it is still the same file.
abbrev pub Claims : {E : Type 0} → Access → FileView → FileView → Result ℕ E → Type 0
Claims access v w (Ok count) = IsTaken access v w count
Claims access v w (Err _) = StaysItself v w × (w.named ≡ v.named) × FileRefuses v w

-- what a file keeps that is its maker's and may be removed again
pub record StaysOwn (v w : FileView) : Type 0 where
  pub itself : StaysItself v w
  pub held : v.held Change → w.held Change
  pub named : w.named ≡ v.named

-- A new file got `size` bytes: those that it had, and then zeros. After an error it may be removed.
abbrev pub LaidOut : {T E : Type 0} → ℕ → FileView → FileView → Result T E → Type 0
LaidOut size v w (Ok _) =
    Ready Change v w × ((s : List ℕ) → v.seen ≡ Some s → (t : List ℕ) × (w.kept ≡ Some t) × (length t ≡ size) × ((i : ℕ) → i < size → byte_at t i ≡ byte_at s i))
LaidOut size v w (Err _) = StaysOwn v w

-- a call of the file failed, or the call that brings its name to the disk
abbrev pub LayingFails : FileView → FileView → ImagesView → ImagesView → Type 0
LayingFails v w old new = Rose v.failures w.failures ⊎ Rose (old.failures Names) (new.failures Names)

-- a new file of `size` zeros
pub record WasMade (name : List ℕ) (images : Option Shelf) (size : ℕ) (v : FileView) : Type 0 where
  pub fit : IsFit name images Change v
  pub made : v.made
  pub missing : (s : Shelf) → images ≡ Some s → image_of name s ≡ None
  pub zeros : (s : Shelf) → images ≡ Some s → (b : List ℕ) × (v.kept ≡ Some b) × (length b ≡ size) × ((i : ℕ) → i < size → byte_at b i ≡ 0)

-- ---- why an insert fails

-- Why no image was made: no file could be made; or another program holds the lock of the new file, which then belongs
-- to that program; or the file could not get its size or its name, and then it was removed, or its removal failed.
pub data MakeFails {F : Type 0} (view : F → FileView) (v w : ImagesView) : Type 0 where
  NotCreated : Rose (v.failures Makes) (w.failures Makes) → MakeFails view v w
  HeldByAnother : (f : F) → (view f).made → (view f).refused → MakeFails view v w
  NotLaidOut : (f g : F) → (view f).made → StaysOwn (view f) (view g) → LayingFails (view f) (view g) v w
      → Rose v.removals w.removals ⊎ Rose (v.failures Removes) (w.failures Removes) → MakeFails view v w

-- Why an insert into a drive with that access failed: a call of the images failed, or a call of the file that was
-- opened; or another program holds the lock; or something that is no file has the name; or an image had to be made, and
-- the drive only reads. An image was made only if one had to be made, by a drive that changes images.
pub data InsertFails {F : Type 0} (view : F → FileView) (name : List ℕ) (made : Option ℕ) (drive : Access) (v w : ImagesView) : Type 0 where
  NotLooked : MakesNone v w → Rose (v.failures Looks) (w.failures Looks) → InsertFails view name made drive v w
  NoFile : MakesNone v w → w.was_found name look.Other → InsertFails view name made drive v w
  NotOpened : MakesNone v w → w.was_found name look.File → Rose (v.failures Opens) (w.failures Opens) → InsertFails view name made drive v w
  NotTaken : MakesNone v w → w.was_found name look.File → (access : Access) (f g : F) → IsOpenedFor name access w.shelf (view f)
      → StaysItself (view f) (view g) → (view g).named ≡ (view f).named → FileRefuses (view f) (view g) → InsertFails view name made drive v w
  ReadsOnly : MakesNone v w → w.was_found name look.Missing → is_some made ≡ true → drive ≡ Read → InsertFails view name made drive v w
  NotMade : w.was_found name look.Missing → is_some made ≡ true → drive ≡ Change → MakeFails view v w → InsertFails view name made drive v w
