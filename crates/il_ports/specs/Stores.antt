-- What contracts see of a store of records, and what its calls do.
use Rattle.std.specs.Prelude.{◌≡◌, ◌<◌, ◌≤◌, ◌+◌, ◌%◌, ℕ, List, [], Bool, true, false, length, Option, Some, None, Result, is_some}
use Rattle.lif_model.specs.Tape.{Tape, IsTape, DidRead, DidReadRun}
use Rattle.lif_model.specs.Shelf.{bytes_of}
use Rattle.lif_model.specs.Stops.{Torn, Wrote, Elapses, StandsStill, LeavesOnly}
use Rattle.lif_model.specs.Transfers.{Transfer, PartlyReplaced, WroteRun}
use Rattle.il_ports.specs.Trouble.{HasTroubleCause, KeepsReady, answers_ok, failure_of}
use Rattle.il_ports.specs.Transfers.{Adds}
use Rattle.il_ports.specs.declared.records.Trouble.{Trouble}

-- A store whose log was last emptied when it stood as one of S. What it need not tell holds always.
pub record RecordsView (S : Type 0) : Type 1 where
  -- what holds of the store between its calls
  pub valid : Type 0
  -- the tape, where it is told
  pub tape : Option Tape
  -- the number of its records
  pub record_count : ℕ
  -- the way to the records need not be set up anew before the next call
  pub ready : Bool
  -- records can be read and written
  pub sound : Bool
  -- how many records may still be read and written; a resume counts as one
  pub calls_left : ℕ
  -- how many there are at least after each emptying of the log
  pub room : ℕ
  -- how many calls have failed with each trouble, or more: these counts never fall
  pub frame_faults : ℕ
  pub medium_faults : ℕ
  -- the time, which never falls
  pub moment : ℕ
  -- a power stop at some moment since that one may have left this tape
  pub left_since : ℕ → Tape → Type 0
  -- these may be the reads and writes with Ok since the log was last emptied, oldest first
  pub transferred : List Transfer → Type 0
  -- the store as it is
  pub present : S
  -- the second is the first with its log emptied
  pub emptied : S → S → Type 0
  -- the store came from this by its log, since that was last emptied
  pub stood : S → Type 0
  -- of the calls since the log was last emptied none may have failed, or the last one alone, by this trouble
  pub failed : Option Trouble → Type 0
  -- so many calls of `resume` may have come since the log was last emptied
  pub resumed : ℕ → Type 0

-- what holds of every store
pub record IsStore {S : Type 0} (v : RecordsView S) : Type 0 where
  -- a tape that is told has its number of records
  pub is_tape : (t : Tape) → v.tape ≡ Some t → IsTape v.record_count t
  -- a stop now leaves the tape as it reads
  pub leaves_now : (m : ℕ) (t : Tape) → m ≤ v.moment → v.tape ≡ Some t → v.left_since m t
  -- since now there is no other
  pub leaves_only : (t c : Tape) → v.tape ≡ Some t → v.left_since v.moment c → c ≡ t

-- so many records may be read and written
pub record IsReady {S : Type 0} (calls : ℕ) (v : RecordsView S) : Type 0 where
  pub valid : v.valid
  pub sound : v.sound ≡ true
  pub left : calls ≤ v.calls_left

-- so many bytes are whole records, at least one
pub record AreRecords (bytes : ℕ) : Type 0 where
  pub some : 0 < bytes
  pub whole : bytes % 256 ≡ 0

-- ---- what calls do

-- what every call of resume, read and write keeps to
pub record Continues {S T : Type 0} (calls : ℕ) (v w : RecordsView S) (answer : Result T Trouble) : Type 0 where
  pub valid : w.valid
  pub told : is_some w.tape ≡ is_some v.tape
  pub size : w.record_count ≡ v.record_count
  pub sound : w.sound ≡ answers_ok answer
  pub ready : KeepsReady v.ready w.ready answer
  pub left : v.calls_left ≤ w.calls_left + calls
  pub room : w.room ≡ v.room
  pub failed : v.failed None → w.failed (failure_of answer)
  pub cause : HasTroubleCause v.frame_faults w.frame_faults v.medium_faults w.medium_faults answer

-- no record changes, and no time goes by
pub record IsQuiet {S : Type 0} (v w : RecordsView S) : Type 0 where
  pub tape : w.tape ≡ v.tape
  pub moment : w.moment ≡ v.moment
  pub since : StandsStill v.left_since w.left_since

-- The log is emptied, and nothing else changes. No fewer calls may be made than before.
pub record Begun {S : Type 0} (v w : RecordsView S) : Type 0 where
  pub valid : w.valid
  pub quiet : IsQuiet v w
  pub size : w.record_count ≡ v.record_count
  pub ready : w.ready ≡ v.ready
  pub sound : w.sound ≡ v.sound
  pub frame_faults : w.frame_faults ≡ v.frame_faults
  pub medium_faults : w.medium_faults ≡ v.medium_faults
  pub left : v.calls_left ≤ w.calls_left
  pub enough : v.room ≤ w.calls_left
  pub room : w.room ≡ v.room
  pub emptied : v.emptied v.present w.present
  pub stood : w.stood w.present
  pub transferred : w.transferred []
  pub failed : w.failed None
  pub resumed : w.resumed 0

-- With Ok the store is sound again. What it came from is forgotten where a call had failed.
pub record Resumed {S T : Type 0} (v w : RecordsView S) (answer : Result T Trouble) : Type 0 where
  pub goes_on : Continues 1 v w answer
  pub quiet : IsQuiet v w
  pub transferred : (list : List Transfer) → v.transferred list → w.transferred list
  pub stood : v.failed None → (s : S) → v.stood s → w.stood s
  pub resumed : (k : ℕ) → v.resumed k → w.resumed (k + 1)

-- So many records were read and written, and only the last call may have failed.
pub record GoesOn {S T : Type 0} (calls : ℕ) (v w : RecordsView S) (answer : Result T Trouble) : Type 0 where
  pub continues : Continues calls v w answer
  pub stood : (s : S) → v.stood s → w.stood s
  pub resumed : (k : ℕ) → v.resumed k → w.resumed k

-- ---- one record

pub record Fetched {S T : Type 0} (n : ℕ) (bytes : List ℕ) (v w : RecordsView S) (answer : Result T Trouble) : Type 0 where
  pub goes_on : GoesOn 1 v w answer
  pub quiet : IsQuiet v w
  pub content : DidRead n bytes v.tape answer
  pub transfers : Adds (record { writes = false; first = n; bytes = bytes }) v.transferred w.transferred answer

pub record Stored {S T : Type 0} (n : ℕ) (bytes : List ℕ) (v w : RecordsView S) (answer : Result T Trouble) : Type 0 where
  pub goes_on : GoesOn 1 v w answer
  pub content : Wrote n bytes v.tape w.tape answer
  pub time : Elapses v.moment w.moment v.left_since w.left_since v.tape (Torn n)
  pub transfers : Adds (record { writes = true; first = n; bytes = bytes }) v.transferred w.transferred answer

-- ---- runs of records

-- so many records from record `first` on were read
pub record FetchedRun {S T : Type 0} (first count : ℕ) (bytes : List ℕ) (v w : RecordsView S) (answer : Result T Trouble) : Type 0 where
  pub goes_on : GoesOn count v w answer
  pub quiet : IsQuiet v w
  pub content : DidReadRun first count bytes v.tape answer
  pub transfers : Adds (record { writes = false; first = first; bytes = bytes }) v.transferred w.transferred answer

-- These pieces were written at the records from `first` on. A trouble leaves, and so does a power stop during the call,
-- the first ones, any bytes in the record of the next, and all others as before.
pub record StoredRun {S T : Type 0} (first : ℕ) (pieces : List (List ℕ)) (v w : RecordsView S) (answer : Result T Trouble) : Type 0 where
  pub goes_on : GoesOn (length pieces) v w answer
  pub content : WroteRun first pieces v.tape w.tape answer
  pub time : Elapses v.moment w.moment v.left_since w.left_since v.tape (PartlyReplaced first pieces)
  pub transfers : Adds (record { writes = true; first = first; bytes = bytes_of pieces }) v.transferred w.transferred answer

-- ---- what a power stop leaves

-- a run of calls: each tape that a stop during it may have left has P
abbrev pub RunLeaves : {S : Type 0} → RecordsView S → RecordsView S → (Tape → Type 0) → Type 0
RunLeaves v w P = LeavesOnly v.moment w.moment v.left_since w.left_since P
