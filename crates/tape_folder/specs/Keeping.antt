-- A file that is kept in a folder: it is written there, unless the folder has something of that name.
use Rattle.std.specs.Prelude.{◌≡◌, ◌≢◌, ◌⊎◌, ◌≤◌, ◌<◌, ℕ, List, [], true, Option, Some, None, Result, Ok, Err, is_some}
use Rattle.lif_model.specs.Causes.{Rose}
use Rattle.tape_folder.specs.Folders.{FolderView, IsUnusedName, IsUsedName, SameFolder, ShowsFiles, file_in_folder, part_name, Nothing}
use Rattle.tape_folder.specs.declared.keeping.Kept.{Kept}
use Rattle.tape_folder.specs.declared.keeping.Kept.TheVariants as kept

-- how many numbers part files have
abbrev pub part_numbers : ℕ
part_numbers = 1000

-- the name of one of the part files
abbrev pub IsPartName : List ℕ → Type 0
IsPartName name = (number : ℕ) × (number < part_numbers) × (name ≡ part_name number)

-- for each of the first n numbers, something has the name of the part file
abbrev pub AreTaken : ℕ → FolderView → Type 0
AreTaken n v = (number : ℕ) → number < n → ShowsFiles v → IsUsedName (part_name number) v

-- no part file could be made: a call failed, or no number is free
abbrev pub WasUnable : FolderView → FolderView → Type 0
WasUnable v w = Rose v.failures w.failures ⊎ AreTaken part_numbers v

-- What some calls have done. A file is as it was, or as they have made it, and so is what a stop may leave.
pub record Steps (makes : List ℕ → Option (List ℕ) → Type 0) (v w : FolderView) : Type 0 where
  pub folder : SameFolder v w
  pub known : is_some w.files ≡ is_some v.files
  pub files : (name : List ℕ) → (file_in_folder name w.files ≡ file_in_folder name v.files) ⊎ makes name (file_in_folder name w.files)
  pub leaves : (name : List ℕ) (content : Option (List ℕ)) → w.leaves name content → v.leaves name content ⊎ makes name content
  pub left : (name : List ℕ) (content : Option (List ℕ)) → w.left name content → v.left name content ⊎ (v.leaves name content ⊎ makes name content)
  pub failures : v.failures ≤ w.failures
  pub unremoved : v.unremoved ≤ w.unremoved

-- the file of the open part may have any bytes
abbrev pub OfPart : FolderView → List ℕ → Option (List ℕ) → Type 0
OfPart v name content = v.part ≡ Some name

-- a part file without a byte is open, or no file has changed
pub record IsPartOpened (v w : FolderView) : Type 0 where
  pub number : ℕ
  pub below : number < part_numbers
  pub is_open : w.part ≡ Some (part_name number)
  pub free : IsUnusedName (part_name number) v
  pub steps : Steps (OfPart w) v w
  pub empty : ShowsFiles w → w.written ≡ Some []

pub record IsUnopened (v w : FolderView) : Type 0 where
  pub closed : w.part ≡ None
  pub steps : Steps Nothing v w
  pub unable : WasUnable v w

abbrev pub PartOpens : {T E : Type 0} → FolderView → FolderView → Result T E → Type 0
PartOpens v w (Ok _) = IsPartOpened v w
PartOpens v w (Err _) = IsUnopened v w

-- the part file has these bytes, and the disk has them
abbrev pub FillAnswers : {T E : Type 0} → List ℕ → FolderView → FolderView → Result T E → Type 0
FillAnswers bytes v w (Ok _) = (w.on_disk ≡ true) × (ShowsFiles v → v.written ≡ Some [] → w.written ≡ Some bytes)
FillAnswers bytes v w (Err _) = Rose v.failures w.failures

pub record PartFills {T E : Type 0} (bytes : List ℕ) (v w : FolderView) (answer : Result T E) : Type 0 where
  pub part : w.part ≡ v.part
  pub steps : Steps (OfPart v) v w
  pub answer_is : FillAnswers bytes v w answer

-- the name of the part is gone, unless that failed
abbrev pub IsGone : FolderView → FolderView → Type 0
IsGone v w = Rose v.unremoved w.unremoved ⊎ ((part : List ℕ) → v.part ≡ Some part → file_in_folder part w.files ≡ None)

pub record PartCloses (v w : FolderView) : Type 0 where
  pub closed : w.part ≡ None
  pub steps : Steps (OfPart v) v w
  pub gone : IsGone v w

-- the file that was given its name has this text
abbrev pub EndMakes : List ℕ → Option (List ℕ) → Kept → List ℕ → Option (List ℕ) → Type 0
EndMakes name text kept.Written other content = (other ≡ name) × (content ≡ text)
EndMakes name text _ other content = ⊥

abbrev pub PartEndsAs : List ℕ → Option (List ℕ) → FolderView → FolderView → Kept → Type 0
PartEndsAs name text v w kept.Written = ShowsFiles v → file_in_folder name w.files ≡ text
PartEndsAs name text v w kept.WasThere = ⊥
PartEndsAs name text v w kept.Differs = ShowsFiles v → IsUsedName name v
PartEndsAs name text v w kept.NotWritten = Rose v.failures w.failures

-- The part file was given its name, or was given up. None is open.
pub record PartEnds (name : List ℕ) (text : Option (List ℕ)) (v w : FolderView) (answer : Kept) : Type 0 where
  pub closed : w.part ≡ None
  pub steps : Steps (λ other content. OfPart v other content ⊎ EndMakes name text answer other content) v w
  pub gone : IsGone v w
  pub answer_is : PartEndsAs name text v w answer

-- the same for a part file that was filled with these bytes before
pub record PartIsUsed (name bytes : List ℕ) (v w : FolderView) (answer : Kept) : Type 0 where
  pub text : Option (List ℕ)
  pub text_is : ShowsFiles v → v.written ≡ Some [] → text ≡ Some bytes
  pub ends : PartEnds name text v w answer

-- the files after each answer, if contracts can see them
abbrev pub KeptIs : List ℕ → List ℕ → FolderView → FolderView → Kept → Type 0
KeptIs name bytes v w kept.Written = ShowsFiles v → IsUnusedName name v × (file_in_folder name w.files ≡ Some bytes)
KeptIs name bytes v w kept.WasThere = ShowsFiles v → (file_in_folder name v.files ≡ Some bytes) × (file_in_folder name w.files ≡ Some bytes)
KeptIs name bytes v w kept.Differs = ShowsFiles v
    → IsUsedName name v × (file_in_folder name v.files ≢ Some bytes) × (file_in_folder name w.files ≡ file_in_folder name v.files)
KeptIs name bytes v w kept.NotWritten = (file_in_folder name w.files ≡ file_in_folder name v.files) × WasUnable v w

-- what a stop may leave that it could not leave before
abbrev pub KeptMakes : List ℕ → List ℕ → Kept → List ℕ → Option (List ℕ) → Type 0
KeptMakes name bytes kept.Written other content = (other ≡ name) × (content ≡ Some bytes)
KeptMakes name bytes _ other content = ⊥

-- What was done to keep a file of these bytes in a folder under that name.
pub record FileKept (name bytes : List ℕ) (answer : Kept) (v w : FolderView) : Type 0 where
  pub folder : SameFolder v w
  -- no part file is open
  pub closed : w.part ≡ None
  pub known : is_some w.files ≡ is_some v.files
  pub answer_is : KeptIs name bytes v w answer
  -- each other file is as before, unless its name is that of a part file and no file had it
  pub others : (other : List ℕ) → (file_in_folder other w.files ≡ file_in_folder other v.files)
      ⊎ ((other ≡ name) ⊎ (IsPartName other × (file_in_folder other v.files ≡ None)))
  -- a part file was not removed, or the part files are as before
  pub parts : Rose v.unremoved w.unremoved ⊎ ((other : List ℕ) → IsPartName other → file_in_folder other w.files ≡ file_in_folder other v.files)
  -- a stop may leave what it could leave before, or the whole file if it was written
  pub leaves : (other : List ℕ) (content : Option (List ℕ)) → ShowsFiles v → (IsPartName other → ⊥) → w.leaves other content → v.leaves other content ⊎ KeptMakes name bytes answer other content
  pub left : (other : List ℕ) (content : Option (List ℕ)) → ShowsFiles v → (IsPartName other → ⊥) → w.left other content → v.left other content ⊎ KeptMakes name bytes answer other content
  -- no count falls
  pub failures : v.failures ≤ w.failures
  pub unremoved : v.unremoved ≤ w.unremoved
