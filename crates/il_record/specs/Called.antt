-- What the calls of a store over the loop do that move no record: the drive's status, accessory IDs, the parallel poll, printing.
use Rattle.std.specs.Prelude.{◌≡◌, ◌≤◌, ◌+◌, ◌&&◌, ℕ, Bool, true, false, List, Result, Ok, Err}
use Rattle.lif_model.specs.Transfers.{Transfer}
use Rattle.il_ports.specs.Stores.{RecordsView, IsQuiet}
use Rattle.il_ports.specs.Trouble.{HasTroubleCause, answers_ok}
use Rattle.il_ports.specs.declared.records.Trouble.{Trouble}
use Rattle.il_ports.specs.declared.records.Trouble.TheVariants as trouble
use Rattle.il_ring.specs.Rings.{RingView}
use Rattle.il_control.specs.Lent.{LendBroken, LendMade}
use Rattle.il_record.specs.declared.records.Since.{Since}
use Rattle.il_record.specs.declared.records.Since.TheVariants as since
use Rattle.il_record.specs.LoopStores.{LoopView, since_frame, since_medium}

-- ---- how a call of exchanges ends

-- one that was broken off: the loop is not ready, and the store not sound
abbrev pub left_broken : {M : Type 0} → LoopView M → LoopView M
left_broken l = record l { ready = false; sound = false; since = since_frame l.since }

abbrev pub EndedBy : {M T E : Type 0} → Result T E → LoopView M → LoopView M → Result T Trouble → Type 0
EndedBy (Ok x) old new answer = (answer ≡ Ok x) × (new ≡ old)
EndedBy (Err e) old new answer = (answer ≡ Err trouble.Frame) × (new ≡ left_broken old)

-- the same of a run of records, by whether the medium moved them all
abbrev pub Moved : {M E : Type 0} → Result Bool E → LoopView M → LoopView M → Result (Unit {0}) Trouble → Type 0
Moved (Ok true) old new answer = (answer ≡ Ok tt) × (new ≡ old)
Moved (Ok false) old new answer = (answer ≡ Err trouble.Medium) × (new ≡ record old { sound = false; since = since_medium old.since })
Moved (Err e) old new answer = (answer ≡ Err trouble.Frame) × (new ≡ left_broken old)

-- ---- the calls

-- The ring became another, of which P tells what came, whole or broken off. The store is so sound and its log stands so now, and all
-- else is as before.
pub record Called {M : Type 0} (P : RingView M → RingView M → Type 0) (whole sound : Bool) (log : Since) (old new : LoopView M) : Type 0 where
  pub did : P old.ring new.ring
  pub left : new ≡ record old { ring = new.ring; ready = whole; sound = sound; since = log }

-- What such a call answers: P of what it told, or a fault of frames. Where it was whole the store is so sound after it, and the log
-- stands so.
abbrev pub Calls : {M T : Type 0} → (T → RingView M → RingView M → Type 0) → (RingView M → RingView M → Type 0) → Bool → Since → LoopView M → LoopView M → Result T Trouble → Type 0
Calls P Q sound log old new (Ok x) = Called (P x) true sound log old new
Calls P Q sound log old new (Err e) = (e ≡ trouble.Frame) × Called Q false false (since_frame log) old new

-- What it leaves of the store, as every store is seen: no record changes and no time goes by, the reads and writes stand as before,
-- and the store stays sound if it answers Ok. It takes the room of at most so many records. Where `told`, it still came from what it
-- came from.
pub record LeavesStore {S T : Type 0} (calls : ℕ) (told : Type 0) (v w : RecordsView S) (answer : Result T Trouble) : Type 0 where
  pub valid : w.valid
  pub quiet : IsQuiet v w
  pub size : w.record_count ≡ v.record_count
  pub sound : w.sound ≡ (v.sound && answers_ok answer)
  pub left : v.calls_left ≤ w.calls_left + calls
  pub room : w.room ≡ v.room
  pub cause : HasTroubleCause v.frame_faults w.frame_faults v.medium_faults w.medium_faults answer
  pub transferred : (list : List Transfer) → v.transferred list → w.transferred list
  pub stood : told → (s : S) → v.stood s → w.stood s
  pub resumed : (k : ℕ) → v.resumed k → w.resumed k

-- ---- a lend

-- Whether a second controller took control, or a fault of frames. The store is not sound, and its log is not read as exchanges.
abbrev pub LendCalls : {M : Type 0} → (a limit : ℕ) → LoopView M → LoopView M → Result Bool Trouble → Type 0
LendCalls a limit old new answer = Calls (LendMade a limit) (LendBroken a limit) false since.Mended old new answer

-- What it leaves of the store, as every store is seen: no record changes and no time goes by, and the medium does not fail. It takes the
-- room of at most so many records.
pub record LeavesLent {S : Type 0} (calls : ℕ) (v w : RecordsView S) : Type 0 where
  pub valid : w.valid
  pub quiet : IsQuiet v w
  pub size : w.record_count ≡ v.record_count
  pub sound : w.sound ≡ false
  pub left : v.calls_left ≤ w.calls_left + calls
  pub room : w.room ≡ v.room
  pub medium_faults : w.medium_faults ≡ v.medium_faults
  pub frame_faults : v.frame_faults ≤ w.frame_faults
  pub resumed : (k : ℕ) → v.resumed k → w.resumed k
