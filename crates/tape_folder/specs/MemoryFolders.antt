-- A folder in memory.
use Rattle.std.specs.Prelude.{◌≡◌, ◌⊎◌, ◌||◌, ℕ, Bool, true, false, List, [], ◌∷◌, String, Option, Some, None, Result, Ok, Err, is_some, string_bytes}
use Rattle.std.specs.Str.{bytes_eq}
use Rattle.std.specs.declared.alloc.Global.{Global}
use Rattle.std.specs.declared.io.ErrorKind.{ErrorKind}
use Rattle.std.specs.declared.io.ErrorKind.TheVariants.{AlreadyExists, Other}
use Rattle.lif_model.specs.Causes.{next_count}
use Rattle.il_ports.specs.MemoryFiles.{failing_kind}
use Rattle.std.proofs.Common.{inl, inr, refl}
use Rattle.lif_model.specs.Shelf.{Shelf, image_of}
use Rattle.il_ports.specs.declared.images.Look.{Look}
use Rattle.il_ports.specs.declared.images.Look.TheVariants as look
use Rattle.tape_folder.specs.Folders.{FolderView, IsFolder, is_hidden}
use Rattle.tape_folder.specs.HiddenFolders.{part_named, part_is_hidden}

abbrev pub OwnedText : Type 0
OwnedText = String Global

-- each file of another name is as before
abbrev pub OtherFilesStay : List ℕ → Shelf → Shelf → Type 0
OtherFilesStay name before now = (other : List ℕ) → (image_of other now ≡ image_of other before) ⊎ (other ≡ name)

-- the same if there is such a name
abbrev pub FilesBut : Option (List ℕ) → Shelf → Shelf → Type 0
FilesBut name before now = (other : List ℕ) → (image_of other now ≡ image_of other before) ⊎ (name ≡ Some other)

-- A stop may leave the file as it is, or as it was when the folder was last settled. It may leave any hidden file.
abbrev pub MayLeave : Shelf → Shelf → List ℕ → Option (List ℕ) → Type 0
MayLeave files on_disk name content = (is_hidden name ≡ true) ⊎ ((content ≡ image_of name files) ⊎ (content ≡ image_of name on_disk))

-- the name is one of these
abbrev pub is_one_of : List OwnedText → List ℕ → Bool
is_one_of [] name = false
is_one_of (text ∷ rest) name = bytes_eq (string_bytes text) name || is_one_of rest name

-- what has that name, if these are the files and the names of what is no file
abbrev pub IsFoundInMemory : List ℕ → Shelf → List OwnedText → Look → Type 0
IsFoundInMemory name files others look.File = is_some (image_of name files) ≡ true
IsFoundInMemory name files others look.Missing = (image_of name files ≡ None) × (is_one_of others name ≡ false)
IsFoundInMemory name files others look.Other = (image_of name files ≡ None) × (is_one_of others name ≡ true)

-- The folder is always there. Before the first of these moments a stop may have left the file as it was at first.
abbrev pub memory_folder : List ℕ → List OwnedText → Shelf → Shelf → Shelf → Option ℕ → List ℕ → Bool → ℕ → ℕ → FolderView
memory_folder path others files on_disk first number written synced failures unremoved = record {
  path = path;
  made = true;
  files = Some files;
  other = is_one_of others;
  part = part_named number;
  written = Some written;
  on_disk = synced;
  leaves = MayLeave files on_disk;
  left = λ name content. MayLeave files on_disk name content ⊎ (content ≡ image_of name first);
  failures = failures;
  unremoved = unremoved;
}

pub memory_is_folder : (path : List ℕ) (others : List OwnedText) (files on_disk first : Shelf) (number : Option ℕ) (written : List ℕ) (synced : Bool) (failures unremoved : ℕ)
    → IsFolder (memory_folder path others files on_disk first number written synced failures unremoved)
memory_is_folder path others files on_disk first number written synced failures unremoved = record {
  now = λ name content is. inl is;
  present = λ name known shown. inr (inl refl);
  hidden = part_is_hidden number;
}

-- the kind of a call that fails: no listed call says that a name is taken
abbrev pub told_kind : ErrorKind → ErrorKind
told_kind AlreadyExists = Other
told_kind kind = kind

-- the answer of the call after so many calls: an error of the listed kind, or Ok if the list does not have its number
abbrev pub AsksAsListed : {T E : Type 0} → (E → ErrorKind) → ℕ → List (ℕ × ErrorKind) → Result T E → Type 0
AsksAsListed kind calls fails (Ok _) = failing_kind (next_count calls) fails ≡ None
AsksAsListed kind calls fails (Err e) = (listed : ErrorKind) × (failing_kind (next_count calls) fails ≡ Some listed) × (kind e ≡ told_kind listed)
