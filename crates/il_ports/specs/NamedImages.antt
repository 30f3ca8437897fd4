-- Named images as files.
use Rattle.std.specs.Prelude.{◌≡◌, ◌⊎◌, ◌≤◌, ℕ, Bool, List, [], true, false, Option, Some, None, Result, Ok, Err, is_some}
use Rattle.std.specs.declared.io.ErrorKind.{ErrorKind}
use Rattle.std.specs.declared.io.ErrorKind.TheVariants.{PermissionDenied, ReadOnlyFilesystem}
use Rattle.lif_model.specs.Shelf.{Shelf, image_of}
use Rattle.lif_model.specs.Causes.{HasCause, Rose}
use Rattle.il_ports.specs.Files.{FileView, IsSettledFile}
use Rattle.il_ports.specs.declared.images.Look.{Look}
use Rattle.il_ports.specs.declared.images.Look.TheVariants as look
use Rattle.il_ports.specs.declared.images.Naming.{Naming}
use Rattle.il_ports.specs.declared.tape_file.Access.{Access}
use Rattle.il_ports.specs.declared.tape_file.Access.TheVariants.{Change, Read}

-- the calls of images, each of which has a count of failures
pub data ImageCall : Type 0 where
  Looks : ImageCall
  Opens : ImageCall
  Makes : ImageCall
  Names : ImageCall
  Removes : ImageCall

-- what contracts see of them
pub record ImagesView : Type 1 where
  -- the images, if contracts see them
  pub shelf : Option Shelf
  -- a look may have found this by that name
  pub was_found : List ℕ → Look → Type 0
  -- the system may have refused to open the image of that name to change it: by permission, or since its file system is
  -- only read
  pub denied : List ℕ → Type 0
  -- what is known of that name on the disk
  pub settled : List ℕ → Naming → Type 0
  -- how many calls of each kind have failed, or more: no count ever falls
  pub failures : ImageCall → ℕ
  -- how many images were removed, or more
  pub removals : ℕ
  -- how many images were made, or more
  pub makes : ℕ

-- what holds after every call: nothing that was found out is lost, and no count falls
pub record ImagesGoOn (v w : ImagesView) : Type 0 where
  pub shelf : w.shelf ≡ v.shelf
  pub was_found : (name : List ℕ) (found : Look) → v.was_found name found → w.was_found name found
  pub denied : (name : List ℕ) → v.denied name → w.denied name
  pub settled : (name : List ℕ) (how : Naming) → v.settled name how → w.settled name how
  pub later : (call : ImageCall) → v.failures call ≤ w.failures call
  pub removals : v.removals ≤ w.removals
  pub makes : v.makes ≤ w.makes

-- no image was made
abbrev pub MakesNone : ImagesView → ImagesView → Type 0
MakesNone v w = w.makes ≡ v.makes

-- what has a name
abbrev pub IsNamed : List ℕ → Option Shelf → Look → Type 0
IsNamed name shelf look.Missing = (s : Shelf) → shelf ≡ Some s → image_of name s ≡ None
IsNamed name shelf look.File = (s : Shelf) → shelf ≡ Some s → is_some (image_of name s) ≡ true
IsNamed name shelf look.Other = Unit {0}

abbrev pub LookFinds : {E : Type 0} → List ℕ → ImagesView → Result Look E → Type 0
LookFinds name w (Ok found) = w.was_found name found × IsNamed name w.shelf found
LookFinds name w (Err _) = Unit {0}

pub record Looked {E : Type 0} (name : List ℕ) (v w : ImagesView) (answer : Result Look E) : Type 0 where
  pub goes_on : ImagesGoOn v w
  pub unmade : MakesNone v w
  pub cause : HasCause (v.failures Looks) (w.failures Looks) answer
  pub finds : LookFinds name w answer

-- A file of that name, which reads as these bytes. Contracts see its bytes if and only if they see the images.
pub record Bears (name : List ℕ) (shelf : Option Shelf) (content : Shelf → Option (List ℕ)) (v : FileView) : Type 0 where
  pub sound : v.broken ≡ false
  pub named : (s : Shelf) → shelf ≡ Some s → v.named ≡ Some name
  pub told : is_some v.seen ≡ is_some shelf
  pub seen : (s : Shelf) → shelf ≡ Some s → v.seen ≡ content s

-- the image of that name, opened for that
pub record IsOpenedFor (name : List ℕ) (access : Access) (shelf : Option Shelf) (v : FileView) : Type 0 where
  pub bears : Bears name shelf (image_of name) v
  pub opened : v.opened access

-- the error says that the image may not be changed: by permission, or since its file system is only read
abbrev pub is_denial : ErrorKind → Bool
is_denial PermissionDenied = true
is_denial ReadOnlyFilesystem = true
is_denial _ = false

-- If an image was to be opened to change it, and it may not be changed, that counts as no failure.
pub record OpenFails (kind : ErrorKind) (name : List ℕ) (access : Access) (v w : ImagesView) : Type 0 where
  pub denied : access ≡ Change → is_denial kind ≡ true → w.denied name
  pub failed : (access ≡ Read) ⊎ (is_denial kind ≡ false) → Rose (v.failures Opens) (w.failures Opens)

-- The file of the image of that name. The disk has what it reads as, if it is opened only to be read and the system has
-- refused to open it to change it.
pub record OpenGives (name : List ℕ) (access : Access) (v w : ImagesView) (f : FileView) : Type 0 where
  pub opened : IsOpenedFor name access w.shelf f
  pub settled : access ≡ Read → v.denied name → IsSettledFile f
  pub unfailed : w.failures Opens ≡ v.failures Opens

-- errors have a kind
abbrev pub OpenAnswers : {F E : Type 0} → (F → FileView) → (E → ErrorKind) → List ℕ → Access → ImagesView → ImagesView → Result F E → Type 0
OpenAnswers view kind name access v w (Ok f) = OpenGives name access v w (view f)
OpenAnswers view kind name access v w (Err e) = OpenFails (kind e) name access v w

pub record Opened {F E : Type 0} (view : F → FileView) (kind : E → ErrorKind) (name : List ℕ) (access : Access) (v w : ImagesView) (answer : Result F E) : Type 0 where
  pub goes_on : ImagesGoOn v w
  pub unmade : MakesNone v w
  pub answer_is : OpenAnswers view kind name access v w answer

-- a new file without a byte
pub record IsNewFile (name : List ℕ) (shelf : Option Shelf) (v : FileView) : Type 0 where
  pub bears : Bears name shelf (λ s. Some []) v
  pub missing : (s : Shelf) → shelf ≡ Some s → image_of name s ≡ None
  pub opened : v.opened Change
  pub made : v.made

abbrev pub MakeAnswers : {F E : Type 0} → (F → FileView) → List ℕ → ImagesView → Result F E → Type 0
MakeAnswers view name w (Ok f) = IsNewFile name w.shelf (view f)
MakeAnswers view name w (Err _) = Unit {0}

pub record Created {F E : Type 0} (view : F → FileView) (name : List ℕ) (v w : ImagesView) (answer : Result F E) : Type 0 where
  pub goes_on : ImagesGoOn v w
  pub cause : HasCause (v.failures Makes) (w.failures Makes) answer
  pub answer_is : MakeAnswers view name w answer

-- what is known of the name on the disk
abbrev pub NameAnswers : {E : Type 0} → List ℕ → ImagesView → Result Naming E → Type 0
NameAnswers name w (Ok how) = w.settled name how
NameAnswers name w (Err _) = Unit {0}

pub record NameSettled {E : Type 0} (name : List ℕ) (v w : ImagesView) (answer : Result Naming E) : Type 0 where
  pub goes_on : ImagesGoOn v w
  pub unmade : MakesNone v w
  pub cause : HasCause (v.failures Names) (w.failures Names) answer
  pub answer_is : NameAnswers name w answer

-- what may be removed: an image of that name that a call of `make` made, while its lock is held to change it
pub record IsOwn (name : List ℕ) (shelf : Option Shelf) (v : FileView) : Type 0 where
  pub made : v.made
  pub held : v.held Change
  pub named : (s : Shelf) → shelf ≡ Some s → v.named ≡ Some name

abbrev pub RemoveAnswers : {T E : Type 0} → ImagesView → ImagesView → Result T E → Type 0
RemoveAnswers v w (Ok _) = Rose v.removals w.removals
RemoveAnswers v w (Err _) = Rose (v.failures Removes) (w.failures Removes)

pub record Removed {T E : Type 0} (v w : ImagesView) (answer : Result T E) : Type 0 where
  pub goes_on : ImagesGoOn v w
  pub unmade : MakesNone v w
  pub answer_is : RemoveAnswers v w answer
