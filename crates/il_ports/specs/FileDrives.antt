-- A drive whose images are files.
use Rattle.std.specs.Prelude.{◌≡◌, ◌⊎◌, ◌<◌, ℕ, List, length, false, Option, Some, None, Result, Ok, Err, is_some}
use Rattle.std.specs.Option.{option_map}
use Rattle.lif_model.specs.Shelf.{Shelf, image_of, inserted, cut, image_bytes, largest_image}
use Rattle.il_ports.specs.Media.{MediumView}
use Rattle.il_ports.specs.Inserting.{records_made}
use Rattle.il_ports.specs.declared.medium.New.{New}
use Rattle.il_ports.specs.declared.medium.New.TheVariants as making
use Rattle.il_ports.specs.Files.{FileView, IsSettledFile}
use Rattle.il_ports.specs.FileTapes.{TapeState, tape_view, ReadFails, WriteFails, StaysOpen, ReachesRecord}
use Rattle.il_ports.specs.declared.medium.Inserted.{Inserted}
use Rattle.il_ports.specs.declared.medium.Inserted.TheVariants as inserting
use Rattle.il_ports.specs.Sizes.{records_of_size}
use Rattle.il_ports.specs.declared.file_medium.Found.{Found}
use Rattle.il_ports.specs.declared.file_medium.Found.TheVariants as found
use Rattle.il_ports.specs.declared.tape_file.Access.{Access}
use Rattle.il_ports.specs.declared.tape_file.Access.TheVariants.{Read}
use Rattle.il_ports.specs.declared.images.Look.TheVariants as look
use Rattle.il_ports.specs.declared.images.Naming.{Naming}
use Rattle.il_ports.specs.NamedImages.{ImagesView, MakesNone}

pub record FileDrive (F I : Type 0) : Type 0 where
  -- the images, each as it was while the drive was empty
  pub images : I
  -- the tape that is inserted
  pub tape : Option (TapeState F)
  -- how many calls failed while no tape was inserted
  pub faults : ℕ

-- an empty drive: if contracts see the images, a stop leaves no tape
abbrev pub empty_drive : Option Shelf → ℕ → MediumView
empty_drive images faults = record {
  shelf = images;
  inside = None;
  tape = None;
  record_count = 0;
  faults = faults;
  moment = 0;
  left_since = λ m c. images ≡ None;
}

abbrev pub drive_view : {F : Type 0} → (F → FileView) → Option Shelf → Option (TapeState F) → ℕ → MediumView
drive_view view images None faults = empty_drive images faults
drive_view view images (Some tape) faults = tape_view view images tape

abbrev pub drive_of : {F I : Type 0} → (F → FileView) → (I → ImagesView) → FileDrive F I → MediumView
drive_of view seen drive = drive_view view (seen drive.images).shelf drive.tape drive.faults

-- A file that can be inserted: it has its name and its lock, its number is above those of the standard streams, and a
-- stop leaves what it reads as. Contracts see its bytes if and only if they see the images.
pub record IsFit (name : List ℕ) (images : Option Shelf) (access : Access) (v : FileView) : Type 0 where
  pub settled : IsSettledFile v
  pub held : v.held access
  pub apart : v.apart
  pub named : (s : Shelf) → images ≡ Some s → v.named ≡ Some name
  pub told : is_some v.kept ≡ is_some images

-- The bytes of the file: those of the image if it was there, and otherwise those of a whole medium.
pub record IsContent (name : List ℕ) (s : Shelf) (n : ℕ) (b : List ℕ) : Type 0 where
  pub there : (c : List ℕ) → image_of name s ≡ Some c → b ≡ c
  pub made : image_of name s ≡ None → length b ≡ image_bytes n

-- what a find by that name answers
abbrev pub IsFoundFile : {F : Type 0} → (F → FileView) → List ℕ → New → Option Shelf → Found F → Type 0
IsFoundFile view name new images (found.Tape file size access) =
    IsFit name images access (view file)
    × ((s : Shelf) → images ≡ Some s → (b : List ℕ) × ((view file).kept ≡ Some b) × (inserted (image_of name s) (records_made new) ≡ Some (cut (records_of_size size) b)) × IsContent name s (records_of_size size) b)
IsFoundFile view name new images found.NoSuch = (new ≡ making.No) × ((s : Shelf) → images ≡ Some s → image_of name s ≡ None)
IsFoundFile view name new images (found.BadSize size) =
    (largest_image < size) × ((s : Shelf) → images ≡ Some s → (b : List ℕ) × (image_of name s ≡ Some b) × (length b ≡ size))

-- What an image is used for: for the drive's access; or it is only read, if it may not be changed.
abbrev pub UsesAs : Access → Type 0 → Access → Type 0
UsesAs drive denied used = (used ≡ drive) ⊎ ((used ≡ Read) × denied)

-- A look found the image, and none was made; or a look found nothing, the image was made, and it is known whether the disk has its name.
abbrev pub FoundOrMade : List ℕ → ImagesView → ImagesView → Type 0
FoundOrMade name v w = w.was_found name look.File × MakesNone v w ⊎ (w.was_found name look.Missing × (how : Naming) × w.settled name how)

-- what a found file is used for, and whether it was there or was made
abbrev pub FoundFor : {F : Type 0} → List ℕ → Access → ImagesView → ImagesView → Found F → Type 0
FoundFor name drive v w (found.Tape file size used) = UsesAs drive (w.denied name) used × FoundOrMade name v w
FoundFor name drive v w found.NoSuch = w.was_found name look.Missing × MakesNone v w
FoundFor name drive v w (found.BadSize size) = w.was_found name look.File × MakesNone v w

-- the file of the tape that is inserted
abbrev pub file_in : {F : Type 0} → Option (TapeState F) → Option F
file_in tape = option_map (λ t. t.file) tape

-- What the inserted tape is used for, at any time: for the drive's access; or it is only read, and the images refused
-- to open an image to change it.
abbrev pub IsUsedFor : {F : Type 0} → Access → ImagesView → Option (TapeState F) → Type 0
IsUsedFor drive w (Some tape) = UsesAs drive ((name : List ℕ) × w.denied name) tape.access
IsUsedFor drive w None = Unit {0}

-- ---- what a drive of files promises beyond a medium

-- A tape that was just inserted: its file may be asked, and none of its bytes was changed.
abbrev pub IsNewTape : {F : Type 0} → (F → FileView) → List ℕ → Option Shelf → Option (TapeState F) → Type 0
IsNewTape view name images (Some tape) =
    (tape.is_broken ≡ false)
    × ((s : Shelf) → images ≡ Some s → (b : List ℕ) × ((view tape.file).kept ≡ Some b) × IsContent name s (records_of_size tape.size) b)
IsNewTape view name images None = ⊥

abbrev pub PutsIn : {F I E : Type 0} → (F → FileView) → (I → ImagesView) → List ℕ → FileDrive F I → FileDrive F I → Result Inserted E → Type 0
PutsIn view seen name old new (Ok inserting.Tape) = IsNewTape view name (seen old.images).shelf new.tape
PutsIn view seen name old new _ = new.tape ≡ old.tape

-- what the inserted tape is used for, and whether its image was there or was made
abbrev pub IsTapeFor : {F : Type 0} → List ℕ → Access → ImagesView → ImagesView → Option (TapeState F) → Type 0
IsTapeFor name drive v w (Some tape) = UsesAs drive (w.denied name) tape.access × FoundOrMade name v w
IsTapeFor name drive v w None = ⊥

abbrev pub PutsInFor : {F E : Type 0} → List ℕ → Access → ImagesView → ImagesView → Option (TapeState F) → Result Inserted E → Type 0
PutsInFor name drive v w tape (Ok inserting.Tape) = IsTapeFor name drive v w tape
PutsInFor name drive v w tape (Ok inserting.NoSuch) = w.was_found name look.Missing × MakesNone v w
PutsInFor name drive v w tape (Ok (inserting.BadSize size)) = w.was_found name look.File × MakesNone v w
PutsInFor name drive v w tape (Err e) = Unit {0}

-- the inserted tape stays inserted, and this holds for it before and after
abbrev pub OnTape : {F : Type 0} → (TapeState F → TapeState F → Type 0) → Option (TapeState F) → Option (TapeState F) → Type 0
OnTape P (Some old) (Some new) = P old new
OnTape P (Some old) None = ⊥
OnTape P None new = Unit {0}

abbrev pub ReadsTape : {F T E : Type 0} → (F → FileView) → Result T E → TapeState F → TapeState F → Type 0
ReadsTape view answer old new = ReadFails view old new answer × StaysOpen view old new

abbrev pub WritesTape : {F T E : Type 0} → (F → FileView) → ℕ → Result T E → TapeState F → TapeState F → Type 0
WritesTape view n answer old new = WriteFails view old new answer × StaysOpen view old new × ReachesRecord view n old new
