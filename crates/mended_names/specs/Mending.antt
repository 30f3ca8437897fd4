-- The names of the files of one job, on a tape whose names must be names that can be made. A name that can be made stays.
-- Another one is mended.
use Rattle.std.specs.Prelude.{◌&&◌, ◌-◌, ◌++◌, if◌then◌else◌, not, ℕ, Bool, true, false, List, [], ◌∷◌, length, map, take, codes, decimal, Option, None, Some}
use Rattle.std.specs.Char.{to_ascii_uppercase}
use Rattle.std.specs.List.{find, list_any, range_with_len}
use Rattle.std.specs.Option.{option_or, option_and_then}
use Rattle.std.specs.Str.{bytes_eq}
use Rattle.lif_model.specs.Printed.{trimmed}
use Rattle.lif_model.specs.Volume.{redo_name}
use Rattle.lif_dir.specs.Entries.{name_bytes}
use Rattle.lif_dir.specs.Names.{is_letter, is_name_byte, name_of_bytes, new_name, made_name}
use Rattle.lif_dir.specs.declared.entries.Name.{Name}
use Rattle.lif_dir.specs.declared.names.NewName.{NewName}

-- a letter as a capital; a byte that is no letter, digit or `_` as `_`
abbrev pub mended_byte : ℕ → ℕ
mended_byte byte = if is_name_byte (to_ascii_uppercase byte) then to_ascii_uppercase byte else 95

-- X, if the text does not begin with a letter
abbrev pub missing_letter : List ℕ → List ℕ
missing_letter [] = codes "X"
missing_letter (first ∷ _) = if is_letter first then [] else codes "X"

-- with that X before it
abbrev pub from_letter : List ℕ → List ℕ
from_letter text = missing_letter text ++ text

-- What the bytes of a name are mended to, if no other file has that name. The spaces at the end are no part of the name.
abbrev pub mended_base : List ℕ → List ℕ
mended_base name = take 10 (from_letter (map mended_byte (trimmed name)))

-- the same with a number at its end; both have ten bytes at most
abbrev pub with_number : (base : List ℕ) → ℕ → List ℕ
with_number base number = take (10 - length (decimal number)) base ++ decimal number

-- the largest number
unfoldable pub last_number : ℕ
last_number = 9999

-- a name that can be made, without the spaces at its end
abbrev pub given_text : NewName → List ℕ
given_text new = trimmed (name_bytes (made_name new))

-- whether a file that has this name, or none, has that text as its name
abbrev pub has_text : (text : List ℕ) → Option NewName → Bool
has_text text None = false
has_text text (Some new) = bytes_eq text (given_text new)

-- whether the text is neither the name of the redo file nor that of one of the others
abbrev pub is_free : (others : List (Option NewName)) → (text : List ℕ) → Bool
is_free others text = not (bytes_eq text (trimmed redo_name)) && not (list_any (has_text text) others)

-- the base with the first number, from 2 up to the largest, for which that is free
abbrev pub first_numbered : (others : List (Option NewName)) → (base : List ℕ) → Option (List ℕ)
first_numbered others base = find (is_free others) (map (with_number base) (range_with_len 2 (last_number - 1)))

-- the base if it is free
abbrev pub first_free : (others : List (Option NewName)) → (base : List ℕ) → Option (List ℕ)
first_free others base = if is_free others base then Some base else first_numbered others base

-- the name of that text, if it can be made
abbrev pub new_name_of : (text : List ℕ) → Option NewName
new_name_of text = option_and_then new_name (name_of_bytes text)

-- the name of a file that is mended, if the others have these
abbrev pub mended : (others : List (Option NewName)) → Name → Option NewName
mended others name = option_and_then new_name_of (first_free others (mended_base (name_bytes name)))

-- the name of a file: its own if that can be made
abbrev pub mended_name : (others : List (Option NewName)) → Name → Option NewName
mended_name others name = option_or (new_name name) (mended others name)

-- the names of the files one after the other: those before a file are others for it
abbrev pub mended_from : (others : List (Option NewName)) → List Name → List (Option NewName)
mended_from others [] = []
mended_from others (name ∷ rest) = mended_name others name ∷ mended_from (others ++ mended_name others name ∷ []) rest

-- The names of the files of a job. All of its names that can be made are others for each file that is mended. Without
-- mending, a file whose name cannot be made has none.
abbrev pub names_for : (mend : Bool) → List Name → List (Option NewName)
names_for false names = map new_name names
names_for true names = mended_from (map new_name names) names
