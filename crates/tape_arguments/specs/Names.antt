-- The names that arguments spell.
use Rattle.std.specs.Prelude.{◌≡◌, ℕ, List, [], ◌∷◌, codes, Option, Some, None, find, is_none, option_map, option_and_then, Result, Err}
use Rattle.lif_dir.specs.Names.{name_of_bytes, new_name}
use Rattle.lif_dir.specs.declared.names.NewName.{NewName}
use Rattle.lif_dir.specs.declared.entries.Name.{Name}
use Rattle.il_script.specs.Spelling.{spelt}
use Rattle.tape_volumes.specs.Endings.{told_line}
use Rattle.tape_arguments.specs.declared.names.NoNames.{NoNames}
use Rattle.tape_arguments.specs.declared.names.NoNames.TheVariants.{NoName}

-- the name of one to ten bytes that a text spells
abbrev pub name_spelt : List ℕ → Option Name
name_spelt text = option_and_then name_of_bytes (spelt text)

-- the name that a text spells, if a file can be given it
abbrev pub new_name_spelt : List ℕ → Option NewName
new_name_spelt text = option_and_then new_name (name_spelt text)

-- the names that texts spell, if each of them spells one
abbrev pub names_spelt : List (List ℕ) → Option (List Name)
names_spelt [] = Some []
names_spelt (text ∷ texts) = option_and_then (λ name. option_map (λ names. name ∷ names) (names_spelt texts)) (name_spelt text)

-- the first of these texts that spells no name
abbrev pub unspelt : List (List ℕ) → Option (List ℕ)
unspelt texts = find (λ text. is_none (name_spelt text)) texts

-- not all of them spell names, and this is the first that does not
abbrev pub IsRefusedName : {T : Type 0} → List (List ℕ) → Result T NoNames → Type 0
IsRefusedName texts (Err (NoName text)) = (names_spelt texts ≡ None) × (unspelt texts ≡ Some text.now)
IsRefusedName texts _ = Unit {0}

-- a file can be given no name that this text spells
abbrev pub no_new_name_line : List ℕ → List ℕ
no_new_name_line text = told_line text (codes "a file can be given a name of a capital letter, and then capital letters, digits and _, ten at most") []
