-- Names and labels that the host makes: narrower than what the LIF format takes, and what an HP-41 can type.
use Rattle.std.specs.Prelude.{ℕ, ◌==◌, ◌||◌, ◌&&◌, ◌-◌, ◌++◌, Bool, false, if◌then◌else◌, nat_le, List, [], ◌∷◌, length, replicate, Option, Some, None}
use Rattle.std.specs.List.{list_all}
use Rattle.lif_model.specs.Printed.{trimmed}
use Rattle.lif_dir.specs.Entries.{spaced, name_bytes}
use Rattle.lif_dir.specs.declared.entries.Name.{Name}
use Rattle.lif_dir.specs.declared.names.NewName.{NewName}
use Rattle.lif_dir.specs.declared.names.NewLabel.{NewLabel}

-- A to Z
abbrev pub is_letter : ℕ → Bool
is_letter byte = nat_le 65 byte && nat_le byte 90

-- 0 to 9
abbrev pub is_digit : ℕ → Bool
is_digit byte = nat_le 48 byte && nat_le byte 57

-- a letter, a digit or `_`
abbrev pub is_name_byte : ℕ → Bool
is_name_byte byte = is_letter byte || (is_digit byte || byte == 95)

-- one letter, and then letters, digits and `_`
abbrev pub is_made : List ℕ → Bool
is_made [] = false
is_made (first ∷ rest) = is_letter first && list_all is_name_byte rest

-- the name of one to ten bytes, filled up with spaces
abbrev pub name_of_bytes : List ℕ → Option Name
name_of_bytes bytes = if nat_le 1 (length bytes) && nat_le (length bytes) 10 then Some (record { bytes = spaced bytes }) else None

-- a name that may be made: its spaces at the end are no part of it
abbrev pub new_name : Name → Option NewName
new_name name = if is_made (trimmed (name_bytes name)) then Some (record { name = name }) else None

-- the name that is made
abbrev pub made_name : NewName → Name
made_name new = new.name

-- a label that may be made: one to six bytes, as they are, filled up with spaces
abbrev pub new_label : List ℕ → Option NewLabel
new_label bytes = if is_made bytes && nat_le (length bytes) 6 then Some (record { bytes = bytes ++ replicate (6 - length bytes) 32 }) else None

-- the six bytes of a label
abbrev pub label_bytes : NewLabel → List ℕ
label_bytes label = label.bytes
