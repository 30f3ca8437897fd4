-- The folder of a path, and which errors of a sync mean that the file system has no sync.
use Rattle.std.specs.Prelude.{ℕ, ◌≡◌, ◌==◌, take, Bool, true, false, List, length, Option, Some, None, if◌then◌else◌, codes}
use Rattle.std.specs.Str.Pattern.{RFindsChar}
use Rattle.std.specs.declared.io.ErrorKind.{ErrorKind}
use Rattle.std.specs.declared.io.ErrorKind.TheVariants.{InvalidInput, Unsupported}

-- the folder whose path is before the last slash: with nothing there, it is the top folder
abbrev pub folder_before : List ℕ → List ℕ
folder_before front = if length front == 0 then codes "/" else front

-- the folder by the place of the last slash; without a slash, it is the folder in which the program runs
abbrev pub folder_by : List ℕ → Option (ℕ × ℕ) → List ℕ
folder_by name None = codes "."
folder_by name (Some place) = folder_before (take place.0 name)

-- std finds the place of the last slash, which has the code 47
abbrev pub IsFolderOf : List ℕ → List ℕ → Type 0
IsFolderOf name folder = (place : Option (ℕ × ℕ)) × RFindsChar 47 name place × (folder ≡ folder_by name place)

-- errors by which a file system says that it has no sync
abbrev pub has_no_sync : ErrorKind → Bool
has_no_sync InvalidInput = true
has_no_sync Unsupported = true
has_no_sync _ = false
