-- The list of reads and writes of a store, oldest first. A store relates itself to the lists that it may have had: the
-- list need not be a function of what it holds.
use Rattle.std.specs.Prelude.{◌≡◌, ◌<◌, ◌*◌, ◌+◌, ◌++◌, ℕ, List, [], ◌∷◌, true, length, Result, Ok, Err}
use Rattle.lif_model.specs.Transfers.{Transfer}

-- the transfer comes at the end of the list
pub record Added (transfer : Transfer) (old new : List Transfer → Type 0) : Type 0 where
  pub at_end : (list : List Transfer) → old list → new (list ++ transfer ∷ [])

-- A call with Ok adds itself. After a trouble nothing is said.
abbrev pub Adds : {T E : Type 0} → Transfer → (List Transfer → Type 0) → (List Transfer → Type 0) → Result T E → Type 0
Adds transfer old new (Ok _) = Added transfer old new
Adds transfer old new (Err _) = Unit {0}

-- a write of whole records, each of which has P
pub record CoversOnly (P : ℕ → Type 0) (transfer : Transfer) : Type 0 where
  pub count : ℕ
  pub whole : length transfer.bytes ≡ 256 * count
  pub each : (k : ℕ) → k < count → P (transfer.first + k)

-- each write among them is one of records that have P
abbrev pub WritesOnly : (ℕ → Type 0) → List Transfer → Type 0
WritesOnly P [] = Unit {0}
WritesOnly P (transfer ∷ list) = (transfer.writes ≡ true → CoversOnly P transfer) × WritesOnly P list

-- the list goes on by transfers that write only such records
pub record GoesOnBy (P : ℕ → Type 0) (old new : List Transfer → Type 0) : Type 0 where
  pub goes_on : (list : List Transfer) → old list → (more : List Transfer) × new (list ++ more) × WritesOnly P more

-- So it does at Ok. After a trouble nothing is said.
abbrev pub AddsOnly : {T E : Type 0} → (ℕ → Type 0) → (List Transfer → Type 0) → (List Transfer → Type 0) → Result T E → Type 0
AddsOnly P old new (Ok _) = GoesOnBy P old new
AddsOnly P old new (Err _) = Unit {0}
