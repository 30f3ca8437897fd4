-- Records that are set aside for a commit, and slots of a directory that change by it.
use Rattle.std.specs.Prelude.{◌≡◌, ◌≢◌, ◌⊎◌, ◌<◌, ◌≤◌, ◌+◌, ◌*◌, ◌/◌, ◌++◌, nat_lt, ℕ, Bool, List, [], ◌∷◌, length, get_or, filter, Option, Some, IfOk, OnOk, Result}
use Rattle.lif_model.specs.Tape.{Tape, record_at}
use Rattle.lif_model.specs.declared.version.Version.{Version}
use Rattle.lif_model.specs.Redo.{Changes, targets_in}
use Rattle.lif_model.specs.Commit.{IsCommitted, IsOldOrNew, commit_writes}
use Rattle.lif_model.specs.Directory.{entry_at}
use Rattle.lif_model.specs.Writing.{SlotWrites, entry_from, touched, changes_by}
use Rattle.lif_model.specs.Gate.{has_open_gate}
use Rattle.il_ports.specs.declared.records.Trouble.{Trouble}
use Rattle.il_ports.specs.Stores.{RecordsView, GoesOn, IsQuiet, RunLeaves}
use Rattle.lif_redo.specs.Writing.{AddsWrites}
use Rattle.lif_redo.specs.Atomic.{commit_calls}
use Rattle.lif_dir.specs.declared.change.Change.{Change}
use Rattle.lif_dir.specs.Changes.{change_writes, all_writes, count_with_all}

-- ---- records that are set aside

-- Record n is among the changes, at that place; or it was not, and comes last with what it holds.
pub data BroughtIn (n place : ℕ) (tape : Option Tape) (old new : Changes) : Type 0 where
  there : place < length old → (get_or old place (0, [])).0 ≡ n → new ≡ old → BroughtIn n place tape old new
  read : ((p : ℕ) → p < length old → (get_or old p (0, [])).0 ≢ n) → place ≡ length old
      → (bytes : List ℕ) → new ≡ old ++ (n, bytes) ∷ []
      → ((t : Tape) → tape ≡ Some t → bytes ≡ record_at t n) → BroughtIn n place tape old new

-- the changes are those of these slots, of a directory that begins at record `start`; where the tape
-- is not told, of the same records
pub record IsStagedAs (start : ℕ) (tape : Option Tape) (writes : Tape → SlotWrites) (changes : Changes) : Type 0 where
  pub targets : (x : Tape) → targets_in changes ≡ touched start (writes x)
  pub contents : (t : Tape) → tape ≡ Some t → changes ≡ changes_by start (writes t) t

-- entries for slots before slot k, in a directory that has room for so many slots
abbrev pub AreBefore : ℕ → ℕ → SlotWrites → Type 0
AreBefore room k [] = Unit {0}
AreBefore room k (w ∷ ws) = (w.0 < room) × (w.0 < k) × (length w.1 ≡ 32) × AreBefore room k ws

-- ---- what is known of a directory, which begins at record `start` and has so many records

-- of so many slots the end stands in this record
abbrev pub EndsWith : ℕ → ℕ → ℕ → List ℕ → Tape → Type 0
EndsWith start size count last t = count < 8 * size → last ≡ record_at t (start + count / 8)

-- the slots, as far as the end, and the record with the end
pub record Knows (start size : ℕ) (slots : List (List ℕ)) (last : List ℕ) (t : Tape) : Type 0 where
  pub each : (k : ℕ) → k < length slots → get_or slots k [] ≡ entry_from t start k
  pub end : EndsWith start size (length slots) last t

-- the entries of this record are so many of the slots, from slot 8 i on
pub record HoldsSlots (slots : List (List ℕ)) (i count : ℕ) (bytes : List ℕ) : Type 0 where
  pub size : length bytes ≡ 256
  pub entries : (k : ℕ) → k < count → entry_at bytes k ≡ get_or slots (8 * i + k) []

-- the record with the end is what these changes put into record n, or it stays
abbrev pub KeepsLast : ℕ → Changes → (old new : List ℕ) → Type 0
KeepsLast n changes old new =
    ((p : ℕ) × (p < length changes) × ((get_or changes p (0, [])).0 ≡ n) × (new ≡ (get_or changes p (0, [])).1))
    ⊎ (((p : ℕ) → p < length changes → (get_or changes p (0, [])).0 ≢ n) × (new ≡ old))

-- ---- how many records a commit reads and writes

-- the records that a change touches; the bytes of a tape do not say which
abbrev pub touched_by : ℕ → Change → List ℕ
touched_by start change = touched start (change_writes start change [])

-- those that changes touch, one after the other
abbrev pub touched_by_all : ℕ → List Change → List ℕ
touched_by_all start changes = touched start (all_writes start changes [])

-- the records past the one with the end, of so many slots: they are read
abbrev pub past_end : ℕ → ℕ → List ℕ → ℕ
past_end start count records = length (filter (λ n. nat_lt (start + count / 8) n) records)

-- to change these records of a directory of so many slots, where the gate reads open or not
abbrev pub calls_among : ℕ → ℕ → Bool → List ℕ → ℕ
calls_among start count is_open records = past_end start count records + commit_calls is_open (length records)

abbrev pub calls_of : ℕ → ℕ → Bool → Change → ℕ
calls_of start count is_open change = calls_among start count is_open (touched_by start change)

abbrev pub calls_of_all : ℕ → ℕ → Bool → List Change → ℕ
calls_of_all start count is_open changes = calls_among start count is_open (touched_by_all start changes)

-- at most, of one change, which touches two records of a directory
abbrev pub most_commit_calls : ℕ
most_commit_calls = 10

-- and of a batch's, which touch 32 records, four of them past the one with the end
abbrev pub most_batch_calls : ℕ
most_batch_calls = 72

-- ---- records that are brought in

-- Changes in turn are set aside, of a directory of so many slots: a record is read for each that is past the end, and none
-- is written. The answer is how many slots there are with them.
pub record StagesAll {S : Type 0} (start slots : ℕ) (changes : List Change) (v w : RecordsView S) (new : Changes) (answer : Result ℕ Trouble) : Type 0 where
  pub goes_on : GoesOn (past_end start slots (touched_by_all start changes) + 3) v w answer
  pub few : OnOk answer (v.calls_left ≤ w.calls_left + past_end start slots (targets_in new))
  pub quiet : IsQuiet v w
  pub reads : OnOk answer (AddsWrites [] v.transferred w.transferred)
  pub staged : OnOk answer (IsStagedAs start v.tape (all_writes start changes) new)
  pub count : IfOk answer (λ n. n ≡ count_with_all slots changes)

-- ---- a commit

-- Slots of a settled directory, which begins at record `start`, change by one commit of that version.
pub record CommitsSlots {S T : Type 0} (calls : ℕ) (version : Version) (start : ℕ) (slots : Tape → SlotWrites) (v w : RecordsView S) (answer : Result T Trouble) : Type 0 where
  pub goes_on : GoesOn calls v w answer
  -- after an Ok they stand
  pub done : OnOk answer ((t : Tape) → v.tape ≡ Some t
      → (u : Tape) × (w.tape ≡ Some u) × IsCommitted version (changes_by start (slots t) t) t u)
  -- a stop at any moment leaves the old directory or the new one, and so does a trouble
  pub any_moment : (t : Tape) → v.tape ≡ Some t → RunLeaves v w (IsOldOrNew version (changes_by start (slots t) t) t)
  pub after : (t : Tape) → v.tape ≡ Some t
      → (u : Tape) × (w.tape ≡ Some u) × IsOldOrNew version (changes_by start (slots t) t) t u
  -- after an Ok these are the writes, in order
  pub writes : OnOk answer ((t : Tape) → v.tape ≡ Some t
      → AddsWrites (commit_writes version v.record_count (has_open_gate t) (changes_by start (slots t) t)) v.transferred w.transferred)

-- of one change
abbrev pub CommitsChange : {S T : Type 0} → ℕ → ℕ → Bool → Change → (v w : RecordsView S) → Result T Trouble → Type 0
CommitsChange start count is_open change v w answer =
    CommitsSlots (calls_of start count is_open change) change.version start (change_writes start change) v w answer

-- of changes in turn
abbrev pub CommitsAll : {S T : Type 0} → Version → ℕ → ℕ → Bool → List Change → (v w : RecordsView S) → Result T Trouble → Type 0
CommitsAll version start count is_open changes v w answer =
    CommitsSlots (calls_of_all start count is_open changes) version start (all_writes start changes) v w answer
