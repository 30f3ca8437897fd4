-- The index of a table: the places of its live slots, in the order of their names.
use Rattle.std.specs.Prelude.{◌≡◌, ◌≢◌, ◌<◌, ℕ, Bool, true, false, List, [], length, get_or}
use Rattle.std.specs.Ordering.{nat_cmp, is_gt}
use Rattle.std.specs.Cmp.Lexicographic.{slice_cmp}
use Rattle.lif_model.specs.Directory.{name_of}
use Rattle.lif_model.specs.Legal.{is_live}

-- the slot at that place is live; where there is no slot, none is
abbrev pub is_live_at : List (List ℕ) → ℕ → Bool
is_live_at slots i = is_live (get_or slots i [])

abbrev pub name_at : List (List ℕ) → ℕ → List ℕ
name_at slots i = name_of (get_or slots i [])

-- the name of the slot at the j-th of these places
abbrev pub name_in : List (List ℕ) → List ℕ → ℕ → List ℕ
name_in slots places j = name_at slots (get_or places j 0)

-- byte by byte, the first does not come after the second
abbrev pub IsUpTo : List ℕ → List ℕ → Type 0
IsUpTo a b = is_gt (slice_cmp nat_cmp a b) ≡ false

-- the places of the live slots, each once, in the order of their names
pub record IsIndex (slots : List (List ℕ)) (places : List ℕ) : Type 0 where
  pub live : (j : ℕ) → j < length places → is_live_at slots (get_or places j 0) ≡ true
  pub all : (i : ℕ) → is_live_at slots i ≡ true → (j : ℕ) × (j < length places) × (get_or places j 0 ≡ i)
  pub once : (j k : ℕ) → j < k → k < length places → get_or places j 0 ≢ get_or places k 0
  pub sorted : (j k : ℕ) → j < k → k < length places → IsUpTo (name_in slots places j) (name_in slots places k)

-- they are places of slots, and the names of these stand in order
pub record AreSorted (slots : List (List ℕ)) (places : List ℕ) : Type 0 where
  pub within : (j : ℕ) → j < length places → get_or places j 0 < length slots
  pub order : (j k : ℕ) → j < k → k < length places → IsUpTo (name_in slots places j) (name_in slots places k)
