-- The table of types, read both ways.
use Rattle.std.proofs.Common.{◌≡◌, ◌↔◌, ℕ, List, Some, refl}
use Rattle.std.specs.Prelude.{Contains, nat_eq}
use Rattle.std.specs.List.{IsDistinct}
use Rattle.std.specs.Map.{keys_of}
use Rattle.std.proofs.lemmas.Bool.{eqb-true}
use Rattle.std.proofs.lemmas.Cmp.{nat_eq_equiv}
use Rattle.std.proofs.lemmas.Map.Made.{IsDistinct-from_count}
use Rattle.std.proofs.lemmas.Map.Views.{Contains-from_lookup, lookup-from_Contains}
use Rattle.tape_names.specs.Types.{type_table, type_name}

-- no number is in two rows
distinct : IsDistinct nat_eq (keys_of type_table)
distinct = IsDistinct-from_count nat_eq_equiv (keys_of type_table) refl

-- a type has a name if and only if the two are a row of the table
pub name_of_row : (kind : ℕ) (name : List ℕ) → (type_name kind ≡ Some name) ↔ Contains type_table (kind, name)
name_of_row kind name =
    (Contains-from_lookup {eq = nat_eq} eqb-true kind name type_table, lookup-from_Contains {eq = nat_eq} nat_eq_equiv kind name type_table distinct)
