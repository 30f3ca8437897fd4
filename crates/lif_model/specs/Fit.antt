-- The choice of a place for a new file on an adopted volume, which is this project's own rule.
use Rattle.std.specs.Prelude.{◌+◌, ◌++◌, ◌&&◌, ◌==◌, if◌then◌else◌, nat_lt, nat_le, nat_eq, not, max, min, ℕ, suc, Bool, List, [], ◌∷◌, length, take, drop, filter}
use Rattle.std.specs.List.{position_or_len, list_any}
use Rattle.lif_model.specs.Gate.{gate_of}
use Rattle.lif_model.specs.Header.{directory_end, capacity_of}
use Rattle.lif_model.specs.Directory.{start_of, is_purged}
use Rattle.lif_model.specs.Legal.{end_of, has_records, is_live_named}
use Rattle.lif_model.specs.Volume.{Volume, redo_name}

pub data Place : Type 0 where
  -- the slot, and the first record
  At : ℕ → ℕ → Place
  NoSlot : Place
  NoRoom : Place

-- the slot of the redo entry
abbrev pub redo_place : List (List ℕ) → ℕ
redo_place slots = position_or_len (is_live_named redo_name) slots

-- ---- candidates

-- the places of the purged slots, where the first slot has place k
abbrev pub purged_from : ℕ → List (List ℕ) → List ℕ
purged_from k [] = []
purged_from k (slot ∷ slots) = if is_purged slot then k ∷ purged_from (suc k) slots else purged_from (suc k) slots

-- the redo entry is the last slot, and a slot more fits into the directory
abbrev pub can_append : ℕ → List (List ℕ) → Bool
can_append capacity slots = suc (redo_place slots) == length slots && nat_lt (length slots) capacity

-- the purged slots before the redo entry, and then the redo entry's own
abbrev pub candidates : ℕ → List (List ℕ) → List ℕ
candidates capacity slots = purged_from 0 (take (redo_place slots) slots) ++ (if can_append capacity slots then redo_place slots ∷ [] else [])

-- ---- the records that are free for a candidate

-- the greatest of a number and the ends of slots that have records, purged ones too
abbrev pub greatest_end : ℕ → List (List ℕ) → ℕ
greatest_end low [] = low
greatest_end low (slot ∷ slots) = if has_records slot then max (end_of slot) (greatest_end low slots) else greatest_end low slots

-- the least of a number and the starts of slots that have records, purged ones too
abbrev pub least_start : ℕ → List (List ℕ) → ℕ
least_start high [] = high
least_start high (slot ∷ slots) = if has_records slot then min (start_of slot) (least_start high slots) else least_start high slots

-- the slots after candidate i; the redo entry is after its own place
abbrev pub slots_behind : List (List ℕ) → ℕ → List (List ℕ)
slots_behind slots i = if i == redo_place slots then drop i slots else drop (suc i) slots

-- from this record on, at or after the directory's end
abbrev pub low_of : ℕ → List (List ℕ) → ℕ → ℕ
low_of directory_end slots i = greatest_end directory_end (take i slots)

-- and below this one, at or before the gate of a tape of n records
abbrev pub high_of : ℕ → List (List ℕ) → ℕ → ℕ
high_of n slots i = least_start (gate_of n) (slots_behind slots i)

-- ---- the choice

-- the first candidate with room for so many records
abbrev pub first_fit : ℕ → ℕ → List (List ℕ) → ℕ → List ℕ → Place
first_fit n directory_end slots count [] = NoRoom
first_fit n directory_end slots count (i ∷ rest) = if nat_le (low_of directory_end slots i + count) (high_of n slots i)
    then At i (low_of directory_end slots i) else first_fit n directory_end slots count rest

abbrev pub fit_among : ℕ → ℕ → List (List ℕ) → ℕ → List ℕ → Place
fit_among n directory_end slots count [] = NoSlot
fit_among n directory_end slots count (i ∷ rest) = first_fit n directory_end slots count (i ∷ rest)

-- the place of a file of so many records, on a tape of n records
abbrev pub fit : ℕ → ℕ → ℕ → List (List ℕ) → ℕ → Place
fit n directory_end capacity slots count = fit_among n directory_end slots count (candidates capacity slots)

-- the same, where these slots are no candidates
abbrev pub fit_beside : ℕ → ℕ → ℕ → List (List ℕ) → List ℕ → ℕ → Place
fit_beside n directory_end capacity slots barred count =
    fit_among n directory_end slots count (filter (λ i. not (list_any (nat_eq i) barred)) (candidates capacity slots))

abbrev pub fit_in : ℕ → Volume → ℕ → Place
fit_in n v count = fit n (directory_end v.header) (capacity_of v.header) v.slots count

abbrev pub fit_beside_in : ℕ → Volume → List ℕ → ℕ → Place
fit_beside_in n v barred count = fit_beside n (directory_end v.header) (capacity_of v.header) v.slots barred count
