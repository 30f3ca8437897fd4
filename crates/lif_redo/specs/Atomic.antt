-- What settling and a commit do.
use Rattle.std.specs.Prelude.{◌≡◌, ◌+◌, ◌*◌, if◌then◌else◌, ℕ, Bool, [], Some, OnOk, Result}
use Rattle.lif_model.specs.Tape.{Tape}
use Rattle.lif_model.specs.Gate.{has_open_gate}
use Rattle.lif_model.specs.declared.version.Version.{Version}
use Rattle.lif_model.specs.Redo.{Changes, redo_of, IsSettled}
use Rattle.lif_model.specs.Redo as redo
use Rattle.lif_model.specs.Commit.{IsCommitted, IsOldOrNew, IsRedoWrite, IsSettleWrite, SettlesAs, commit_writes, settle_writes}
use Rattle.il_ports.specs.declared.records.Trouble.{Trouble}
use Rattle.il_ports.specs.Transfers.{AddsOnly}
use Rattle.il_ports.specs.Stores.{RecordsView, GoesOn, RunLeaves}
use Rattle.lif_redo.specs.Writing.{AddsWrites}

-- ---- a commit

-- these changes, all at once, by a redo file of that version, in so many calls at most
pub record Commits {S T : Type 0} (calls : ℕ) (version : Version) (changes : Changes) (v w : RecordsView S) (answer : Result T Trouble) : Type 0 where
  -- at Ok the changes stand, the gate record is zero, and all else below the redo file is as before
  pub done : OnOk answer ((t : Tape) → v.tape ≡ Some t → (u : Tape) × (w.tape ≡ Some u) × IsCommitted version changes t u)
  -- then no redo is open
  pub settled : OnOk answer ((t : Tape) → w.tape ≡ Some t → IsSettled t)
  -- a stop at any moment leaves a tape that settles to the old one or to the one with all the changes
  pub any_moment : (t : Tape) → v.tape ≡ Some t → RunLeaves v w (IsOldOrNew version changes t)
  -- so does the tape as it reads after the call
  pub after : (t : Tape) → v.tape ≡ Some t → (u : Tape) × (w.tape ≡ Some u) × IsOldOrNew version changes t u
  pub goes_on : GoesOn calls v w answer
  -- at Ok these are the writes, in their order; whether the gate read open decides on the first of them
  pub writes : OnOk answer ((was_open : Bool) × ((t : Tape) → v.tape ≡ Some t → was_open ≡ has_open_gate t)
      × AddsWrites (commit_writes version v.record_count was_open changes) v.transferred w.transferred)
  -- so each is one of a target or of a record of the redo file
  pub transfers : AddsOnly (IsRedoWrite version v.record_count changes) v.transferred w.transferred answer

-- how many calls a commit of k changes makes where it is known whether the gate reads open
abbrev pub commit_calls : Bool → ℕ → ℕ
commit_calls is_open k = (if is_open then 1 else 0) + (2 * k + 3)

-- ---- settling

-- the redo that is open, of either version, is carried out, if one is
pub record Settles {S T : Type 0} (v w : RecordsView S) (answer : Result T Trouble) : Type 0 where
  pub done : OnOk answer ((t : Tape) → v.tape ≡ Some t → w.tape ≡ Some (redo.settled t))
  pub settled : OnOk answer ((t : Tape) → w.tape ≡ Some t → IsSettled t)
  pub any_moment : (t : Tape) → v.tape ≡ Some t → RunLeaves v w (SettlesAs (redo.settled t))
  pub after : (t : Tape) → v.tape ≡ Some t → (u : Tape) × (w.tape ≡ Some u) × SettlesAs (redo.settled t) u
  -- where no redo is open the tape stays as it is, at any moment and after the call
  pub idle : (t : Tape) → v.tape ≡ Some t → redo_of t ≡ [] → (w.tape ≡ Some t) × RunLeaves v w (λ x. x ≡ t)
  pub goes_on : GoesOn 70 v w answer
  -- at Ok the writes are those of some redo, in their order, and where the tape is told those of the one that was open
  pub writes : OnOk answer ((changes : Changes) × ((t : Tape) → v.tape ≡ Some t → changes ≡ redo_of t)
      × AddsWrites (settle_writes v.record_count changes) v.transferred w.transferred)
  pub transfers : (t : Tape) → v.tape ≡ Some t → AddsOnly (IsSettleWrite v.record_count (redo_of t)) v.transferred w.transferred answer
