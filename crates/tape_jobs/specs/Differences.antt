-- The text that `diff` prints: how the files of two images differ.
use Rattle.std.specs.Prelude.{◌++◌, ◌==◌, ◌&&◌, ℕ, Bool, true, false, not, List, [], ◌∷◌, find, Option, Some, None, option_map, codes, if◌then◌else◌}
use Rattle.std.specs.List.{flat_map}
use Rattle.std.specs.Str.{bytes_eq}
use Rattle.lif_model.specs.Printed.{printed}
use Rattle.lif_dir.specs.Entries.{name_bytes}
use Rattle.tape_jobs.specs.Collecting.{collected_content}
use Rattle.tape_volumes.specs.Volumes.{FileContent}
use Rattle.tape_jobs.specs.declared.collecting.Collected.{Collected}

-- a file with its name, which has ten bytes
pub record NamedFile : Type 0 where
  pub name : List ℕ
  pub content : FileContent

abbrev pub named_file : Collected → NamedFile
named_file file = record { name = name_bytes file.name; content = collected_content file }

-- ---- two files

abbrev pub have_same_name : NamedFile → NamedFile → Bool
have_same_name f g = bytes_eq f.name g.name

-- the same type and the same implementation field
abbrev pub have_same_type : NamedFile → NamedFile → Bool
have_same_type f g = f.content.kind == g.content.kind && bytes_eq f.content.field g.content.field

abbrev pub have_same_bytes : NamedFile → NamedFile → Bool
have_same_bytes f g = bytes_eq f.content.bytes g.content.bytes

-- ---- lines

-- a line of a file
abbrev pub file_line_of : NamedFile → List ℕ → List ℕ
file_line_of f text = printed f.name ++ codes ": " ++ text ++ codes "\n"

-- the file is only on the image of that name
abbrev pub only_line : (image : List ℕ) → NamedFile → List ℕ
only_line image f = file_line_of f (codes "only on " ++ image)

-- how a file differs from the file of its name on the other image
abbrev pub change_line : NamedFile → NamedFile → List ℕ
change_line f g =
    if not (have_same_type f g) then file_line_of f (codes "other type or field")
    else if not (have_same_bytes f g) then file_line_of f (codes "other bytes")
    else []

-- the line of a file of the first image, by the file of its name on the other one
abbrev pub first_line : (image : List ℕ) → NamedFile → Option NamedFile → List ℕ
first_line image f None = only_line image f
first_line image f (Some g) = change_line f g

-- the line of a file of the other image, by the file of its name on the first one
abbrev pub other_line : (other : List ℕ) → NamedFile → Option NamedFile → List ℕ
other_line other g None = only_line other g
other_line other g (Some f) = []

-- ---- the text, of lists of anything that is a file with a name

module _ {A : Type 0} (named : A → NamedFile) where
  -- the file of the same name, if there is one
  abbrev pub namesake : A → List A → Option NamedFile
  namesake f files = option_map named (find (λ g. have_same_name (named f) (named g)) files)

  -- the lines of the files of the first image, and then of those that only the other one has; none if the files are the same
  abbrev pub differences : (image other : List ℕ) → (files others : List A) → List ℕ
  differences image other files others =
      flat_map (λ f. first_line image (named f) (namesake f others)) files ++ flat_map (λ g. other_line other (named g) (namesake g files)) others

-- no difference is told
abbrev pub are_alike : List ℕ → Bool
are_alike [] = true
are_alike (byte ∷ bytes) = false
