-- Legal volumes: which extents and names the live files of a directory may have (the LIF directory format).
use Rattle.std.specs.Prelude.{◌≡◌, ◌≢◌, ◌⊎◌, ◌<◌, ◌≤◌, ◌+◌, ◌&&◌, ◌||◌, nat_lt, nat_le, not, ℕ, Bool, true, List, [], length, get_or, filter, find, Option}
use Rattle.std.specs.List.{list_all, list_any, position_or_len}
use Rattle.std.specs.Str.{bytes_eq}
use Rattle.lif_model.specs.Tape.{Tape, record_at}
use Rattle.lif_model.specs.Header.{directory_end, is_readable}
use Rattle.lif_model.specs.Directory.{name_of, start_of, length_of, is_purged, slots_of}
use Rattle.lif_model.specs.Pairs.{all_pairs}

-- ---- one slot

-- every type but that of a purged file
abbrev pub is_live : List ℕ → Bool
is_live slot = not (is_purged slot)

-- the first record after its extent; nothing is lost of the sum
abbrev pub end_of : List ℕ → ℕ
end_of slot = start_of slot + length_of slot

abbrev pub has_records : List ℕ → Bool
has_records slot = nat_lt 0 (length_of slot)

-- a live file that has records
abbrev pub occupies : List ℕ → Bool
occupies slot = is_live slot && has_records slot

abbrev pub lies_between : ℕ → ℕ → List ℕ → Bool
lies_between low high slot = nat_le low (start_of slot) && nat_le (end_of slot) high

-- record k is in its extent
abbrev pub holds : ℕ → List ℕ → Bool
holds k slot = nat_le (start_of slot) k && nat_lt k (end_of slot)

abbrev pub is_live_named : List ℕ → List ℕ → Bool
is_live_named name slot = is_live slot && bytes_eq (name_of slot) name

-- ---- two slots

-- no record is in both extents
abbrev pub are_apart : List ℕ → List ℕ → Bool
are_apart a b = nat_le (end_of a) (start_of b) || nat_le (end_of b) (start_of a)

-- the first one ends at or before the start of the other
abbrev pub ends_before : List ℕ → List ℕ → Bool
ends_before a b = nat_le (end_of a) (start_of b)

abbrev pub have_other_names : List ℕ → List ℕ → Bool
have_other_names a b = not (bytes_eq (name_of a) (name_of b))

-- ---- a directory

-- a live file of that name
abbrev pub has_file : List (List ℕ) → List ℕ → Bool
has_file slots name = list_any (is_live_named name) slots

-- the place of the first live slot of that name
abbrev pub place_named : List ℕ → List (List ℕ) → ℕ
place_named name slots = position_or_len (is_live_named name) slots

-- the live slot of that name; in a legal directory there is at most one
abbrev pub slot_named : List (List ℕ) → List ℕ → Option (List ℕ)
slot_named slots name = find (is_live_named name) slots

-- Record 0 is readable on a tape of n records; live extents that have records lie between the directory's end and n
-- and do not overlap; live names are distinct. A live file without records stands anywhere, and a purged slot holds
-- any numbers.
abbrev pub is_legal_with : ℕ → List ℕ → List (List ℕ) → Bool
is_legal_with n header slots = is_readable n header
    && (list_all (lies_between (directory_end header) n) (filter occupies slots)
    && (all_pairs are_apart (filter occupies slots) && all_pairs have_other_names (filter is_live slots)))

abbrev pub is_legal : Tape → Bool
is_legal tape = is_legal_with (length tape) (record_at tape 0) (slots_of tape)

-- the same, slot by slot
pub record IsLegal (n : ℕ) (header : List ℕ) (slots : List (List ℕ)) : Type 0 where
  pub readable : is_readable n header ≡ true
  pub within : (i : ℕ) → i < length slots → occupies (get_or slots i []) ≡ true → (directory_end header ≤ start_of (get_or slots i [])) × (end_of (get_or slots i []) ≤ n)
  pub apart : (i j : ℕ) → i < j → j < length slots → occupies (get_or slots i []) ≡ true → occupies (get_or slots j []) ≡ true
      → (end_of (get_or slots i []) ≤ start_of (get_or slots j [])) ⊎ (end_of (get_or slots j []) ≤ start_of (get_or slots i []))
  pub distinct : (i j : ℕ) → i < j → j < length slots → is_live (get_or slots i []) ≡ true → is_live (get_or slots j []) ≡ true → name_of (get_or slots i []) ≢ name_of (get_or slots j [])
