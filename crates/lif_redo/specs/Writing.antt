-- Which writes are added to the list of a store.
use Rattle.std.specs.Prelude.{◌≡◌, ◌++◌, ℕ, true, List, [], ◌∷◌, if◌then◌else◌, length, map}
use Rattle.lif_model.specs.Transfers.{Transfer}
use Rattle.lif_model.specs.Made.{filled}
use Rattle.lif_model.specs.Redo.{Changes}
use Rattle.lif_model.specs.Writing.{NewFile}

-- the writes among transfers, each the number of its first record and its bytes
abbrev pub writes_among : List Transfer → Changes
writes_among [] = []
writes_among (transfer ∷ list) = if transfer.writes then (transfer.first, transfer.bytes) ∷ writes_among list else writes_among list

-- each is of one record
abbrev pub AreSingle : List Transfer → Type 0
AreSingle [] = Unit {0}
AreSingle (transfer ∷ list) = (length transfer.bytes ≡ 256) × AreSingle list

-- ---- files

-- the whole file, written by one run
abbrev pub run_of : ℕ → List ℕ → Transfer
run_of first bytes = record { writes = true; first = first; bytes = filled bytes }

-- of each file one, from its start on
abbrev pub runs_filed : List NewFile → List Transfer
runs_filed files = map (λ file. run_of file.start file.bytes) files

-- ---- what a call adds

-- the list goes on by reads and writes of one record each, of which the writes are exactly these
pub record AddsWrites (writes : Changes) (old new : List Transfer → Type 0) : Type 0 where
  pub goes_on : (list : List Transfer) → old list → (more : List Transfer) × new (list ++ more) × (writes_among more ≡ writes) × AreSingle more
