-- Worked examples, computed by the checker.
use Rattle.std.proofs.Common.{◌≡◌, ◌≢◌, ◌∷◌, ℕ, List, [], Bool, true, false, Option, Some, None, map, refl, ap}
use Rattle.std.specs.Prelude.{codes}
use Rattle.std.specs.Fmt.{digits}
use Rattle.std.specs.Option.{option_map, option_and_then}
use Rattle.lif_dir.specs.declared.names.NewName.{NewName}
use Rattle.mended_names.specs.Mending.{with_number, given_text, new_name_of, names_for}
use Rattle.mended_names.proofs.Found.{first_number}

-- the texts of the names of a job whose files have these ten bytes as names
abbrev texts : (mend : Bool) → List (List ℕ) → List (Option (List ℕ))
texts mend names = map (option_map given_text) (names_for mend (map (λ bytes. record { bytes = bytes }) names))

-- a byte that no name can have becomes `_`; without mending the file has no name
plus : (texts true (codes "A+B       " ∷ []) ≡ Some (codes "A_B") ∷ []) × (texts false (codes "A+B       " ∷ []) ≡ None ∷ [])
plus = (refl, refl)

-- a name that can be made stays
stays : texts true (codes "A_B       " ∷ codes "REDOFILE  " ∷ []) ≡ Some (codes "A_B") ∷ Some (codes "REDOFILE") ∷ []
stays = refl

-- X stands before a digit, and the tenth byte makes room for it
digit_first : texts true (codes "9LIVES.BAK" ∷ []) ≡ Some (codes "X9LIVES_BA") ∷ []
digit_first = refl

-- a name of spaces
spaces : texts true (codes "          " ∷ []) ≡ Some (codes "X") ∷ []
spaces = refl

-- the number follows, and takes the place of the last bytes if the name is long
numbers : (with_number (codes "A_B") 2 ≡ codes "A_B2") × (with_number (codes "ABCDEFGHIJ") 2 ≡ codes "ABCDEFGHI2") × (with_number (codes "ABCDEFGHIJ") 10 ≡ codes "ABCDEFGH10")
unfolding digits
numbers = (refl, refl, refl)

-- no file gets the name of the redo file
redo : texts true (codes "redofile  " ∷ []) ≡ Some (codes "REDOFILE2") ∷ []
unfolding digits
redo = ap (λ (o : Option (List ℕ)). option_map given_text (option_and_then new_name_of o) ∷ []) (first_number (None ∷ []) (codes "REDOFILE") refl)

abbrev a_b : NewName
a_b = record { name = record { bytes = codes "A_B       " } }

-- two names that are mended to the same
twice : texts true (codes "A+B       " ∷ codes "A-B       " ∷ []) ≡ Some (codes "A_B") ∷ Some (codes "A_B2") ∷ []
unfolding digits
twice =
    ap (λ (o : Option (List ℕ)). Some (codes "A_B") ∷ option_map given_text (option_and_then new_name_of o) ∷ [])
    (first_number (None ∷ None ∷ Some a_b ∷ []) (codes "A_B") refl)

-- the name of a later file
later : texts true (codes "A+B       " ∷ codes "A_B       " ∷ []) ≡ Some (codes "A_B2") ∷ Some (codes "A_B") ∷ []
unfolding digits
later =
    ap (λ (o : Option (List ℕ)). option_map given_text (option_and_then new_name_of o) ∷ Some (codes "A_B") ∷ [])
    (first_number (None ∷ Some a_b ∷ []) (codes "A_B") refl)

-- small letters do not stay
small : texts true (codes "data      " ∷ []) ≢ Some (codes "data") ∷ []
small same = cc
