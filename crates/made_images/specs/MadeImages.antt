-- Images that are made for their drive.
use Rattle.std.specs.Prelude.{◌≡◌, ◌≢◌, ℕ, List, false, Result, Ok, Err}
use Rattle.std.specs.declared.io.Error.{Error}
use Rattle.lif_model.specs.Shelf.{image_bytes}
use Rattle.il_ports.specs.Media.{MediumView}
use Rattle.il_ports.specs.Files.{FileView}
use Rattle.il_ports.specs.FileTapes.{TapeState, tape_view}
use Rattle.il_ports.specs.FindingFiles.{WasMade, MakeFails}
use Rattle.il_ports.specs.NamedImages.{ImagesView, ImagesGoOn, Looked, IsOwn}
use Rattle.il_ports.specs.Sizes.{records_of_size}
use Rattle.il_ports.specs.declared.image.Size.{Size}
use Rattle.il_ports.specs.declared.images.Look.{Look}
use Rattle.il_ports.specs.declared.images.Look.TheVariants as look
use Rattle.il_ports.specs.declared.images.Naming.{Naming}
use Rattle.il_ports.specs.declared.tape_file.Access.TheVariants.{Change}
use Rattle.made_images.specs.declared.making.NotMade.{NotMade}
use Rattle.made_images.specs.declared.making.NotMade.TheVariants as not_made
use Rattle.made_images.specs.declared.making.Refused.{Refused}

-- ---- an image that was made, in its drive

pub record MadeState (F I : Type 0) : Type 0 where
  -- all images
  pub images : I
  -- the tape that is inserted
  pub tape : TapeState F
  -- the name of its image
  pub name : List ℕ

-- the drive as a medium
abbrev pub medium_of : {F I : Type 0} → (F → FileView) → (I → ImagesView) → MadeState F I → MediumView
medium_of view seen made = tape_view view (seen made.images).shelf made.tape

-- What holds at any time: the image may be changed, and it may be removed. A call of `make` made it, its lock is held,
-- and it has this name.
pub record IsItsMaker {F I : Type 0} (view : F → FileView) (seen : I → ImagesView)
    (made : MadeState F I) : Type 0 where
  pub access : made.tape.access ≡ Change
  pub own : IsOwn made.name (seen made.images).shelf (view made.tape.file)

-- A new image of that name and size, in zeros. A look found nothing of its name, and it is known whether the disk has
-- the name.
pub record IsNewImage (name : List ℕ) (size : Size) (w : ImagesView) (f : FileView) : Type 0 where
  pub file : WasMade name w.shelf (image_bytes (records_of_size size)) f
  pub looked : w.was_found name look.Missing
  pub settled : (how : Naming) × w.settled name how

-- the drive of an image that was just made
pub record IsMadeAs {F I : Type 0} (view : F → FileView) (seen : I → ImagesView) (name : List ℕ) (size : Size)
    (made : MadeState F I) : Type 0 where
  pub image : IsNewImage name size (seen made.images) (view made.tape.file)
  pub named : made.name ≡ name
  pub sized : made.tape.size ≡ size
  pub access : made.tape.access ≡ Change
  pub sound : made.tape.is_broken ≡ false
  pub faults : made.tape.faults ≡ 0

-- ---- an image that was not made

-- what a look says of an image that could not be made whole
abbrev pub reason_by : {E : Type 0} → Result Look E → NotMade
reason_by (Ok look.Missing) = not_made.Failed
reason_by (Ok look.File) = not_made.Left
reason_by (Ok look.Other) = not_made.Left
reason_by (Err _) = not_made.Left

-- a look at the name of an image that could not be made whole
pub record LooksAgain (name : List ℕ) (v w : ImagesView) (why : NotMade) : Type 0 where
  pub answer : Result Look Error
  pub looked : Looked name v w answer
  pub why_is : why ≡ reason_by answer

-- an image could not be made whole, and then its name was looked at
pub record FailsToMake {F I : Type 0} (view : F → FileView) (seen : I → ImagesView) (name : List ℕ)
    (old new : I) (why : NotMade) : Type 0 where
  pub tried : I
  pub goes_on : ImagesGoOn (seen old) (seen tried)
  pub fails : MakeFails view (seen old) (seen tried)
  pub again : LooksAgain name (seen tried) (seen new) why

-- the same after a look that found nothing of the name
pub record IsUnmade {F I : Type 0} (view : F → FileView) (seen : I → ImagesView) (name : List ℕ)
    (old new : I) (why : NotMade) : Type 0 where
  pub looked : I
  pub missing : Looked {E = Error} name (seen old) (seen looked) (Ok look.Missing)
  pub fails : FailsToMake view seen name looked new why

-- Why no image was made: the only look found something; or it failed; or an image could not be made whole; or there was
-- no memory, and nothing was asked.
abbrev pub IsNotMade : {F I : Type 0} → (F → FileView) → (I → ImagesView)
    → List ℕ → I → I → NotMade → Type 0
IsNotMade view seen name old new not_made.Exists =
    (found : Look) × Looked {E = Error} name (seen old) (seen new) (Ok found) × (found ≢ look.Missing)
IsNotMade view seen name old new not_made.NotLooked = (error : Error) × Looked name (seen old) (seen new) (Err error)
IsNotMade view seen name old new not_made.Failed = IsUnmade view seen name old new not_made.Failed
IsNotMade view seen name old new not_made.Left = IsUnmade view seen name old new not_made.Left
IsNotMade view seen name old new not_made.OutOfMemory = new ≡ old

-- the images after either answer
abbrev pub images_after : {F I : Type 0} → Result (MadeState F I) (Refused I) → I
images_after (Ok made) = made.images
images_after (Err refused) = refused.images
