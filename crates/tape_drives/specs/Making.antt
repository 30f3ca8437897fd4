-- New images, each made for a drive that is lent to a job.
use Rattle.std.specs.Prelude.{◌≡◌, ℕ, Bool, List, Some, Result, Ok, Err}
use Rattle.lif_model.specs.Shelf.{Shelf}
use Rattle.il_ports.specs.Media.{MediumView}
use Rattle.il_ports.specs.Sizes.{records_of_size}
use Rattle.il_ports.specs.declared.image.Size.{Size}
use Rattle.made_images.specs.declared.making.NotMade.{NotMade}
use Rattle.tape_drives.specs.Lending.{Lending, LendsOn, Gives, GivesNone, ComesBack}

-- what was made so far, and what became of it
pub record Making (M : Type 0) : Type 1 where
  -- the drives that were given, and those that are back
  pub lending : Lending M
  -- this drive was given, and with it a new image of that name and size
  pub made : List ℕ → Size → M → Type 0
  -- no image of that name was made, and this is why
  pub refused : List ℕ → NotMade → Type 0
  -- this drive came back, and its image stays
  pub kept : M → Type 0
  -- this drive came back, and its image was to be removed; and whether it was
  pub removed : M → Bool → Type 0

-- what was given or made stays so, and what came back stays back
pub record MakesOn {M : Type 0} (v w : Making M) : Type 0 where
  pub lending : LendsOn v.lending w.lending
  pub made : (name : List ℕ) (size : Size) (x : M) → v.made name size x → w.made name size x

-- the image of that name is in the drive, if contracts can see the images; it has the size
pub record IsInDrive (name : List ℕ) (size : Size) (v : MediumView) : Type 0 where
  pub count : v.record_count ≡ records_of_size size
  pub named : (s : Shelf) → v.shelf ≡ Some s → v.inside ≡ Some name

-- a drive was given, and with it a new image of that name and size
pub record Makes {M : Type 0} (view : M → MediumView) (name : List ℕ) (size : Size) (v w : Making M) (x : M) : Type 0 where
  pub goes_on : MakesOn v w
  pub gives : Gives v.lending w.lending x
  pub made : w.made name size x
  pub inside : IsInDrive name size (view x)

-- no drive was given
pub record MakesNoDrive {M : Type 0} (name : List ℕ) (v w : Making M) (why : NotMade) : Type 0 where
  pub goes_on : MakesOn v w
  pub none : GivesNone v.lending w.lending
  pub refused : w.refused name why

abbrev pub MayMake : {M : Type 0} → (M → MediumView) → (name : List ℕ) → Size → (v w : Making M) → Result M NotMade → Type 0
MayMake view name size v w (Ok x) = Makes view name size v w x
MayMake view name size v w (Err why) = MakesNoDrive name v w why

-- this drive came back, and its image stays
pub record KeepsImage {M : Type 0} (v w : Making M) (x : M) : Type 0 where
  pub goes_on : MakesOn v w
  pub takes : ComesBack v.lending w.lending x
  pub kept : w.kept x

-- this drive came back, and its image was to be removed; `gone` says whether it was
pub record Removes {M : Type 0} (v w : Making M) (x : M) (gone : Bool) : Type 0 where
  pub goes_on : MakesOn v w
  pub takes : ComesBack v.lending w.lending x
  pub removed : w.removed x gone
