-- What a step of the drive asks of its medium, and how it goes on by the answer.
use Rattle.std.specs.Prelude.{◌≡◌, ◌⊎◌, ℕ, List, set, Some, is_some}
use Rattle.lif_model.specs.Tape.{Tape, record_at}
use Rattle.lif_model.specs.Stops.{Torn, Elapses, StandsStill}
use Rattle.lif_model.specs.Causes.{Rose}
use Rattle.il_ports.specs.Inserting.{OthersAreKept}
use Rattle.il_ports.specs.Media.{MediumView, KeepsIn}

-- a value that is reached without the medium, by reading a record, or by writing one
pub data Step (X : Type 0) : Type 0 where
  Now : X → Step X
  -- the record that is read; the value by its bytes; the value where the read fails
  Reads : ℕ → (List ℕ → X) → X → Step X
  -- the record that is written, and its bytes; the value; the value where the write fails
  Writes : ℕ → List ℕ → X → X → Step X

-- the same step, and then g
abbrev pub then_by : {X Y : Type 0} → (X → Y) → Step X → Step Y
then_by g (Now x) = Now (g x)
then_by g (Reads k good bad) = Reads k (λ bytes. g (good bytes)) (g bad)
then_by g (Writes k bytes good bad) = Writes k bytes (g good) (g bad)

-- In what follows contracts see the medium before the step as v, and after it as w.

-- a read, with success or without, leaves all as it was
pub record IsStill (v w : MediumView) : Type 0 where
  pub stays_in : KeepsIn v w
  pub tape : w.tape ≡ v.tape
  pub shelf : w.shelf ≡ v.shelf
  pub moment : w.moment ≡ v.moment
  pub since : StandsStill v.left_since w.left_since

-- with success it gives the record
pub record GaveRecord {X : Type 0} (k : ℕ) (good : List ℕ → X) (x : X) (v w : MediumView) : Type 0 where
  pub bytes : List ℕ
  pub content : (t : Tape) → v.tape ≡ Some t → bytes ≡ record_at t k
  pub value : x ≡ good bytes
  pub count : w.faults ≡ v.faults

-- a write of record k, with success or without, leaves all else as it was
pub record HasWritten (k : ℕ) (v w : MediumView) : Type 0 where
  pub stays_in : KeepsIn v w
  pub shelf_told : is_some w.shelf ≡ is_some v.shelf
  pub others : OthersAreKept v.inside v.shelf w.shelf
  pub time : Elapses v.moment w.moment v.left_since w.left_since v.tape (Torn k)

-- with success the record holds the bytes
abbrev pub TookRecord : {X : Type 0} → ℕ → List ℕ → X → X → MediumView → MediumView → Type 0
TookRecord k bytes good x v w = (x ≡ good) × ((t : Tape) → v.tape ≡ Some t → w.tape ≡ Some (set t k bytes)) × (w.faults ≡ v.faults)

-- without success it holds any bytes
abbrev pub TornRecord : {X : Type 0} → ℕ → X → X → MediumView → MediumView → Type 0
TornRecord k bad x v w = (x ≡ bad) × ((t : Tape) → v.tape ≡ Some t → (u : Tape) × (w.tape ≡ Some u) × Torn k t u) × Rose v.faults w.faults

-- The step came to the value x, and the medium m, which contracts see by that view, to the medium n. A call of the
-- medium fails only where its count of faults rises.
abbrev pub Did : {M X : Type 0} → (M → MediumView) → Step X → X → M → M → Type 0
Did view (Now value) x m n = (x ≡ value) × (n ≡ m)
Did view (Reads k good bad) x m n = IsStill (view m) (view n) × (GaveRecord k good x (view m) (view n) ⊎ ((x ≡ bad) × Rose (view m).faults (view n).faults))
Did view (Writes k bytes good bad) x m n = HasWritten k (view m) (view n) × (TookRecord k bytes good x (view m) (view n) ⊎ TornRecord k bad x (view m) (view n))
