-- An image that is read whole, in a drive of its own.
use Rattle.std.specs.Prelude.{◌≡◌, ◌<◌, ◌≤◌, ◌*◌, ℕ, List, length, Some, None, Result, Ok, Err, Vec}
use Rattle.std.specs.declared.alloc.Global.{Global}
use Rattle.lif_model.specs.Causes.{Rose}
use Rattle.lif_model.specs.Stops.{StandsStill}
use Rattle.lif_model.specs.Tape.{Tape}
use Rattle.lif_model.specs.Shelf.{Shelf, bytes_of, image_of, inserted, largest_image}
use Rattle.il_ports.specs.Media.{MediumView}
use Rattle.host_model.specs.Leaves.{HasImage}
use Rattle.il_host.specs.Whole.{MayHaveLeft}
use Rattle.tape_volumes.specs.declared.went.Went.{Went}
use Rattle.tape_volumes.specs.declared.went.Went.TheVariants as went
use Rattle.tape_volumes.specs.declared.ending.Ending.{Ending}
use Rattle.tape_volumes.specs.declared.ending.Ending.TheVariants as ending
use Rattle.tape.specs.Images.{DriveSight, InOneDrive, JobEnds}

-- all records of the tape in the drive were read, and nothing changed
pub record TapeIsRead (bytes : List ℕ) (v m : MediumView) : Type 0 where
  pub content : (t : Tape) → v.tape ≡ Some t → bytes ≡ bytes_of t
  pub count : length bytes ≡ 256 * v.record_count
  pub tape : m.tape ≡ v.tape
  pub inside : m.inside ≡ v.inside
  pub shelf : m.shelf ≡ v.shelf
  pub faults : m.faults ≡ v.faults
  pub since : StandsStill v.left_since m.left_since

-- why they were not; no record and no image changed
abbrev pub IsUnreadable : Went → (v m : MediumView) → Type 0
IsUnreadable went.Fault v m = Rose v.faults m.faults × (m.record_count ≡ v.record_count) × (m.tape ≡ v.tape) × (m.shelf ≡ v.shelf)
IsUnreadable went.OutOfMemory v m = (m.faults ≡ v.faults) × (m.tape ≡ v.tape) × (m.shelf ≡ v.shelf)
IsUnreadable _ v m = ⊥

abbrev pub ReadsAllRecords : (v m : MediumView) → Result (Vec ℕ Global) Went → Type 0
ReadsAllRecords v m (Ok bytes) = TapeIsRead bytes.items v m
ReadsAllRecords v m (Err w) = IsUnreadable w v m

-- The image of that name reads as it did, and no other image changes, if contracts can see the images.
abbrev pub StaysAsRead : (name : List ℕ) (v m : MediumView) → Type 0
StaysAsRead name v m = (shelf : Shelf) → v.shelf ≡ Some shelf → HasImage name (inserted (image_of name shelf) None) shelf m.shelf

-- These are the bytes of the tape that the image of that name reads as, if contracts can see the images. No image changes, also if the
-- machine stops meanwhile.
pub record IsReadWhole (name bytes : List ℕ) (v m : MediumView) : Type 0 where
  pub reads : (shelf : Shelf) → v.shelf ≡ Some shelf → (t : Tape) × (inserted (image_of name shelf) None ≡ Some t) × (bytes ≡ bytes_of t)
      × ((x : Tape) → MayHaveLeft v m x → x ≡ t)
  pub stays : StaysAsRead name v m
  pub fits : length bytes ≤ largest_image
  pub faults : m.faults ≡ v.faults

-- Why the image of that name was not read: a read failed, with the image in the drive; or there was no memory; or it was
-- not opened, and `refused` says why an insert failed.
abbrev pub IsNotRead : (refused : Type 0) → Ending → (name : List ℕ) (v m : MediumView) → Type 0
IsNotRead refused (ending.Went went.Fault) name v m = Rose v.faults m.faults × (0 < m.record_count) × StaysAsRead name v m
IsNotRead refused (ending.Went went.OutOfMemory) name v m = (m.faults ≡ v.faults) × StaysAsRead name v m
IsNotRead refused (ending.Went w) name v m = ⊥
IsNotRead refused e name v m = JobEnds (λ w s t. ⊥) (λ s x. ⊥) (Unit {0}) refused e name v m

abbrev pub ReadsWhole : (refused : Type 0) → List ℕ → (v m : MediumView) → Result (Vec ℕ Global) Ending → Type 0
ReadsWhole refused name v m (Ok bytes) = IsReadWhole name bytes.items v m
ReadsWhole refused name v m (Err e) = IsNotRead refused e name v m

-- the image of that name was read whole, in a drive that was given for it and came back
abbrev pub ReadsInDrive : {M : Type 0} → DriveSight M → (name bytes : List ℕ) → Type 0
ReadsInDrive drives name bytes = InOneDrive drives name (λ refused v m. IsReadWhole name bytes v m)

-- it was not read
abbrev pub FailsToRead : {M : Type 0} → DriveSight M → (name : List ℕ) → Ending → Type 0
FailsToRead drives name e = InOneDrive drives name (λ refused v m. IsNotRead refused e name v m)

-- it was read, or not
abbrev pub ReadsImage : {M : Type 0} → DriveSight M → (name : List ℕ) → Result (Vec ℕ Global) Ending → Type 0
ReadsImage drives name (Ok bytes) = ReadsInDrive drives name bytes.items
ReadsImage drives name (Err e) = FailsToRead drives name e
