-- The names of file types.
use Rattle.std.specs.Prelude.{ℕ, List, [], ◌∷◌, Option, nat_eq, codes}
use Rattle.std.specs.Map.{lookup}

-- the types that have a name: HP-41, HP-71 and HP-75 files
abbrev pub type_table : List (ℕ × List ℕ)
type_table =
    (0x0001, codes "TEXT")
    ∷ (0xE020, codes "WALL") ∷ (0xE030, codes "KEY") ∷ (0xE040, codes "STATUS") ∷ (0xE050, codes "ROM") ∷ (0xE080, codes "PROG")
    ∷ (0xE0D0, codes "SDATA")
    ∷ (0xE0D5, codes "TEXT-S") ∷ (0xE0F0, codes "DATA") ∷ (0xE0F1, codes "DATA-S") ∷ (0xE204, codes "BIN") ∷ (0xE208, codes "LEX")
    ∷ (0xE20C, codes "KEY") ∷ (0xE214, codes "BASIC") ∷ (0xE215, codes "BASIC-S") ∷ (0xE216, codes "BASIC-P") ∷ (0xE217, codes "BASIC-SP")
    ∷ (0xE218, codes "FORTH") ∷ (0xE21C, codes "ROM")
    ∷ (0xE052, codes "TEXT") ∷ (0xE088, codes "BASIC") ∷ (0xE089, codes "LEX") ∷ []

-- the name in the row of this type, if there is one
abbrev pub type_name : ℕ → Option (List ℕ)
type_name kind = lookup (nat_eq kind) type_table
