-- A folder of the host, and the files in it. The bytes of a file that is to be kept first go to a part file, which has
-- a name of its own.
use Rattle.std.specs.Prelude.{◌≡◌, ◌≢◌, ◌⊎◌, ◌≤◌, ◌==◌, ◌++◌, ◌∷◌, [], ℕ, Bool, List, true, false, Option, Some, None, Result, Ok, Err, is_some, codes, decimal}
use Rattle.std.specs.Io.KnownBytes.{Appends}
use Rattle.std.specs.declared.io.ErrorKind.{ErrorKind}
use Rattle.std.specs.declared.io.ErrorKind.TheVariants.{AlreadyExists}
use Rattle.lif_model.specs.Shelf.{Shelf, image_of}
use Rattle.lif_model.specs.Causes.{HasCause, Rose}
use Rattle.il_ports.specs.declared.images.Look.{Look}
use Rattle.il_ports.specs.declared.images.Look.TheVariants as look

-- the name of the part file of that number
abbrev pub part_name : ℕ → List ℕ
part_name number = codes ".tape-" ++ decimal number ++ codes ".part"

-- a name is hidden if its first byte is a point: the names of part files are hidden, and a file that is kept has no such name
abbrev pub is_hidden : List ℕ → Bool
is_hidden [] = false
is_hidden (byte ∷ bytes) = byte == 46

-- what contracts see of a folder
pub record FolderView : Type 1 where
  -- the path by which the folder was opened
  pub path : List ℕ
  -- the folder is known to be there
  pub made : Bool
  -- the files by their names, if contracts can see them
  pub files : Option Shelf
  -- something that is no file has that name, and contracts can see that
  pub other : List ℕ → Bool
  -- the name of the part file that is open
  pub part : Option (List ℕ)
  -- the bytes of the open part file, if contracts can see them
  pub written : Option (List ℕ)
  -- the disk has these bytes
  pub on_disk : Bool
  -- if the machine stops now, this may be left under that name: these bytes, or no file
  pub leaves : List ℕ → Option (List ℕ) → Type 0
  -- the same for a stop at some moment since the folder was first seen
  pub left : List ℕ → Option (List ℕ) → Type 0
  -- how many calls have failed, or more
  pub failures : ℕ
  -- how many calls of `remove` have failed, or more
  pub unremoved : ℕ

-- contracts can see the files
abbrev pub ShowsFiles : FolderView → Type 0
ShowsFiles v = is_some v.files ≡ true

-- the bytes of the file of that name: none if there is no such file, or contracts cannot see the files
abbrev pub file_in_folder : List ℕ → Option Shelf → Option (List ℕ)
file_in_folder name None = None
file_in_folder name (Some files) = image_of name files

-- nothing has that name, as far as contracts can see
pub record IsUnusedName (name : List ℕ) (v : FolderView) : Type 0 where
  pub no_file : file_in_folder name v.files ≡ None
  pub no_other : v.other name ≡ false

-- a file has that name, or something else has it
abbrev pub IsUsedName : List ℕ → FolderView → Type 0
IsUsedName name v = (is_some (file_in_folder name v.files) ≡ true) ⊎ (v.other name ≡ true)

-- what holds for every folder
pub record IsFolder (v : FolderView) : Type 0 where
  -- a stop may come now
  pub now : (name : List ℕ) (content : Option (List ℕ)) → v.leaves name content → v.left name content
  -- a stop may leave a file as it is
  pub present : (name : List ℕ) → ShowsFiles v → is_hidden name ≡ false → v.leaves name (file_in_folder name v.files)
  -- a part file has a hidden name
  pub hidden : (part : List ℕ) → v.part ≡ Some part → is_hidden part ≡ true

-- The folder has the same path, and is there if it was. What is no file stays in it.
pub record SameFolder (v w : FolderView) : Type 0 where
  pub path : w.path ≡ v.path
  pub made : v.made ≡ true → w.made ≡ true
  pub others : (name : List ℕ) → w.other name ≡ v.other name

-- What holds after every call. A file is as it was, or as the call makes it, and so is what a stop may leave. No count
-- falls.
pub record FolderGoesOn (makes : List ℕ → Option (List ℕ) → Type 0) (v w : FolderView) : Type 0 where
  pub folder : SameFolder v w
  pub known : is_some w.files ≡ is_some v.files
  pub files : (name : List ℕ) → (file_in_folder name w.files ≡ file_in_folder name v.files) ⊎ makes name (file_in_folder name w.files)
  pub leaves : (name : List ℕ) (content : Option (List ℕ)) → w.leaves name content → v.leaves name content ⊎ makes name content
  pub since : (name : List ℕ) (content : Option (List ℕ)) → w.left name content → v.left name content ⊎ w.leaves name content
  pub failures : v.failures ≤ w.failures
  pub unremoved : v.unremoved ≤ w.unremoved

-- a call that changes no file
abbrev pub Nothing : List ℕ → Option (List ℕ) → Type 0
Nothing name content = ⊥

-- the open part file, or that none is open, is as before
pub record SamePart (v w : FolderView) : Type 0 where
  pub part : w.part ≡ v.part
  pub written : w.written ≡ v.written
  pub on_disk : w.on_disk ≡ v.on_disk

-- the folder is there
abbrev pub PrepareAnswers : {T E : Type 0} → FolderView → Result T E → Type 0
PrepareAnswers w (Ok _) = w.made ≡ true
PrepareAnswers w (Err _) = Unit {0}

pub record Prepared {T E : Type 0} (v w : FolderView) (answer : Result T E) : Type 0 where
  pub goes_on : FolderGoesOn Nothing v w
  pub part : SamePart v w
  pub cause : HasCause v.failures w.failures answer
  pub answer_is : PrepareAnswers w answer

-- what has a name
abbrev pub LookShows : {E : Type 0} → List ℕ → FolderView → Result Look E → Type 0
LookShows name v (Ok look.File) = ShowsFiles v → is_some (file_in_folder name v.files) ≡ true
LookShows name v (Ok look.Missing) = IsUnusedName name v
LookShows name v (Ok look.Other) = (file_in_folder name v.files ≡ None) × (ShowsFiles v → v.other name ≡ true)
LookShows name v (Err _) = Unit {0}

pub record FolderLooked {E : Type 0} (name : List ℕ) (v w : FolderView) (answer : Result Look E) : Type 0 where
  pub goes_on : FolderGoesOn Nothing v w
  pub part : SamePart v w
  pub cause : HasCause v.failures w.failures answer
  pub finds : LookShows name v answer

-- whether the file of that name has these bytes
abbrev pub HasBytes : {E : Type 0} → List ℕ → List ℕ → FolderView → Result Bool E → Type 0
HasBytes name bytes v (Ok true) = ShowsFiles v → file_in_folder name v.files ≡ Some bytes
HasBytes name bytes v (Ok false) = ShowsFiles v → file_in_folder name v.files ≢ Some bytes
HasBytes name bytes v (Err _) = Unit {0}

pub record Compared {E : Type 0} (name bytes : List ℕ) (v w : FolderView) (answer : Result Bool E) : Type 0 where
  pub goes_on : FolderGoesOn Nothing v w
  pub part : SamePart v w
  pub cause : HasCause v.failures w.failures answer
  pub has : HasBytes name bytes v answer

-- the error says that something has the name
abbrev pub is_taken : ErrorKind → Bool
is_taken AlreadyExists = true
is_taken _ = false

-- Why a call that gives a name failed. If something has the name, that counts as no failure.
pub record NameFails (kind : ErrorKind) (name : List ℕ) (v w : FolderView) : Type 0 where
  pub taken : is_taken kind ≡ true → (ShowsFiles v → IsUsedName name v) × (w.failures ≡ v.failures)
  pub failed : is_taken kind ≡ false → Rose v.failures w.failures

-- the part file of that number, which is open and has no bytes
pub record IsNewPart (number : ℕ) (v w : FolderView) : Type 0 where
  pub free : IsUnusedName (part_name number) v
  pub part : w.part ≡ Some (part_name number)
  pub empty : ShowsFiles w → w.written ≡ Some []
  pub file : ShowsFiles w → file_in_folder (part_name number) w.files ≡ Some []
  pub unsynced : w.on_disk ≡ false
  pub unfailed : w.failures ≡ v.failures

abbrev pub PartMakes : {T E : Type 0} → ℕ → Result T E → List ℕ → Option (List ℕ) → Type 0
PartMakes number (Ok _) name content = (name ≡ part_name number) × (content ≡ Some [])
PartMakes number (Err _) name content = ⊥

-- errors have a kind
abbrev pub PartAnswers : {T E : Type 0} → (E → ErrorKind) → ℕ → FolderView → FolderView → Result T E → Type 0
PartAnswers kind number v w (Ok _) = IsNewPart number v w
PartAnswers kind number v w (Err e) = (w.part ≡ None) × NameFails (kind e) (part_name number) v w

pub record PartMade {T E : Type 0} (kind : E → ErrorKind) (number : ℕ) (v w : FolderView) (answer : Result T E) : Type 0 where
  pub goes_on : FolderGoesOn (PartMakes number answer) v w
  pub answer_is : PartAnswers kind number v w answer

abbrev pub PartWriteAnswers : {T E : Type 0} → List ℕ → FolderView → FolderView → Result T E → Type 0
PartWriteAnswers bytes v w (Ok _) = Appends v.written w.written bytes
PartWriteAnswers bytes v w (Err _) = Unit {0}

pub record PartWritten {T E : Type 0} (bytes : List ℕ) (v w : FolderView) (answer : Result T E) : Type 0 where
  pub goes_on : FolderGoesOn (λ name content. v.part ≡ Some name) v w
  pub part : w.part ≡ v.part
  pub unsynced : w.on_disk ≡ false
  pub cause : HasCause v.failures w.failures answer
  pub answer_is : PartWriteAnswers bytes v w answer

abbrev pub PartSyncAnswers : {T E : Type 0} → FolderView → Result T E → Type 0
PartSyncAnswers w (Ok _) = w.on_disk ≡ true
PartSyncAnswers w (Err _) = Unit {0}

pub record PartSynced {T E : Type 0} (v w : FolderView) (answer : Result T E) : Type 0 where
  pub goes_on : FolderGoesOn Nothing v w
  pub part : w.part ≡ v.part
  pub written : w.written ≡ v.written
  pub cause : HasCause v.failures w.failures answer
  pub answer_is : PartSyncAnswers w answer

abbrev pub LinkMakes : {T E : Type 0} → List ℕ → FolderView → Result T E → List ℕ → Option (List ℕ) → Type 0
LinkMakes name v (Ok _) other content = (other ≡ name) × (content ≡ v.written)
LinkMakes name v (Err _) other content = ⊥

-- the file of the part has that name, which nothing had
pub record IsLinked (name : List ℕ) (v w : FolderView) : Type 0 where
  pub free : IsUnusedName name v
  pub file : ShowsFiles w → file_in_folder name w.files ≡ v.written
  pub unfailed : w.failures ≡ v.failures

abbrev pub LinkAnswers : {T E : Type 0} → (E → ErrorKind) → List ℕ → FolderView → FolderView → Result T E → Type 0
LinkAnswers kind name v w (Ok _) = IsLinked name v w
LinkAnswers kind name v w (Err e) = NameFails (kind e) name v w

pub record PartLinked {T E : Type 0} (kind : E → ErrorKind) (name : List ℕ) (v w : FolderView) (answer : Result T E) : Type 0 where
  pub goes_on : FolderGoesOn (LinkMakes name v answer) v w
  pub part : SamePart v w
  pub answer_is : LinkAnswers kind name v w answer

abbrev pub RenameMakes : {T E : Type 0} → List ℕ → FolderView → Result T E → List ℕ → Option (List ℕ) → Type 0
RenameMakes name v (Ok _) other content = ((other ≡ name) × (content ≡ v.written)) ⊎ ((v.part ≡ Some other) × (content ≡ None))
RenameMakes name v (Err _) other content = ⊥

-- the file of the part has that name, and no other
pub record IsRenamed (name : List ℕ) (v w : FolderView) : Type 0 where
  pub closed : w.part ≡ None
  pub file : ShowsFiles w → file_in_folder name w.files ≡ v.written
  pub gone : (part : List ℕ) → v.part ≡ Some part → file_in_folder part w.files ≡ None

abbrev pub RenameAnswers : {T E : Type 0} → List ℕ → FolderView → FolderView → Result T E → Type 0
RenameAnswers name v w (Ok _) = IsRenamed name v w
RenameAnswers name v w (Err _) = SamePart v w

pub record PartRenamed {T E : Type 0} (name : List ℕ) (v w : FolderView) (answer : Result T E) : Type 0 where
  pub goes_on : FolderGoesOn (RenameMakes name v answer) v w
  pub cause : HasCause v.failures w.failures answer
  pub answer_is : RenameAnswers name v w answer

abbrev pub RemoveMakes : {T E : Type 0} → FolderView → Result T E → List ℕ → Option (List ℕ) → Type 0
RemoveMakes v (Ok _) name content = (v.part ≡ Some name) × (content ≡ None)
RemoveMakes v (Err _) name content = ⊥

abbrev pub PartRemoveAnswers : {T E : Type 0} → FolderView → FolderView → Result T E → Type 0
PartRemoveAnswers v w (Ok _) = (part : List ℕ) → v.part ≡ Some part → file_in_folder part w.files ≡ None
PartRemoveAnswers v w (Err _) = Rose v.unremoved w.unremoved

pub record PartRemoved {T E : Type 0} (v w : FolderView) (answer : Result T E) : Type 0 where
  pub goes_on : FolderGoesOn (RemoveMakes v answer) v w
  pub closed : w.part ≡ None
  pub cause : HasCause v.failures w.failures answer
  pub answer_is : PartRemoveAnswers v w answer

-- a stop leaves each file that is not hidden as it is
abbrev pub FolderSettleAnswers : {T E : Type 0} → FolderView → Result T E → Type 0
FolderSettleAnswers w (Ok _) =
    (name : List ℕ) (content : Option (List ℕ)) → ShowsFiles w → is_hidden name ≡ false → w.leaves name content → content ≡ file_in_folder name w.files
FolderSettleAnswers w (Err _) = Unit {0}

pub record FolderSettled {T E : Type 0} (v w : FolderView) (answer : Result T E) : Type 0 where
  pub goes_on : FolderGoesOn Nothing v w
  pub part : SamePart v w
  pub cause : HasCause v.failures w.failures answer
  pub answer_is : FolderSettleAnswers w answer
