-- What contracts see of a tape in memory.
use Rattle.std.specs.Prelude.{◌≡◌, ◌<◌, ◌≤◌, ◌+◌, ◌++◌, ◌-◌, ℕ, suc, List, [], ◌∷◌, Bool, length, set, take, Option, Some, None, Result, Ok, Err}
use Rattle.lif_model.specs.Tape.{Tape}
use Rattle.lif_model.specs.Redo.{Changes, changed}
use Rattle.il_ports.specs.Counted.{frame_faults_after, medium_faults_after, failing}
use Rattle.il_ports.specs.Trouble.{answers_ok}
use Rattle.il_ports.specs.declared.records.Trouble.{Trouble}
use Rattle.il_ports.specs.declared.memory_records.MemoryRecords.{MemoryRecords}

pub record RecordsState : Type 0 where
  -- the records, and the records as they were at first
  pub records : Tape
  pub first : Tape
  -- the writes with Ok, oldest first
  pub writes : Changes
  -- the numbers of the reads and writes that fail, counted together from 1, and how
  pub fails : List (ℕ × Trouble)
  -- how many reads and writes were made, and how many failed by a frame and by the medium
  pub calls : ℕ
  pub frame_faults : ℕ
  pub medium_faults : ℕ
  -- how many calls may still be made
  pub left : ℕ
  -- records can be read and written
  pub sound : Bool

-- the state that the parts of a store stand for
abbrev pub state_of : MemoryRecords → RecordsState
state_of r = record {
  records = r.records.items;
  first = r.first.items;
  writes = r.writes.items;
  fails = r.fails.items;
  calls = r.calls;
  frame_faults = r.frame_faults;
  medium_faults = r.medium_faults;
  left = r.left;
  sound = r.sound;
}

-- the counts and the soundness of a sound store after a read or a write
abbrev pub counted : {T : Type 0} → RecordsState → Result T Trouble → RecordsState
counted state answer = record state {
  calls = state.calls + 1;
  frame_faults = frame_faults_after state.frame_faults answer;
  medium_faults = medium_faults_after state.medium_faults answer;
  left = state.left - 1;
  sound = answers_ok answer;
}

-- how many records a run tries, of which so many are done
abbrev pub tried : {T E : Type 0} → ℕ → Result T E → ℕ
tried done (Ok _) = done
tried done (Err _) = done + 1

-- the same after a run, of which so many records are done
abbrev pub counted_run : {T : Type 0} → ℕ → RecordsState → Result T Trouble → RecordsState
counted_run done state answer = record state {
  calls = state.calls + tried done answer;
  frame_faults = frame_faults_after state.frame_faults answer;
  medium_faults = medium_faults_after state.medium_faults answer;
  left = state.left - tried done answer;
  sound = answers_ok answer;
}

-- the records after a write: one that fails changes none
abbrev pub records_after : {T E : Type 0} → ℕ → List ℕ → Tape → Result T E → Tape
records_after n bytes records (Ok _) = set records n bytes
records_after n bytes records (Err _) = records

-- the writes after a write: one that fails is not kept
abbrev pub writes_after : {T E : Type 0} → ℕ → List ℕ → Changes → Result T E → Changes
writes_after n bytes writes (Ok _) = writes ++ (n, bytes) ∷ []
writes_after n bytes writes (Err _) = writes

-- at Ok all were done; else a further one is listed with that trouble
abbrev pub EndsAs : {T : Type 0} → ℕ → ℕ → Option Trouble → Result T Trouble → Type 0
EndsAs count done next (Ok _) = done ≡ count
EndsAs count done next (Err trouble) = (done < count) × (next ≡ Some trouble)

-- pieces, one record after the other
abbrev pub placed : ℕ → List (List ℕ) → Changes
placed first [] = []
placed first (piece ∷ pieces) = (first, piece) ∷ placed (suc first) pieces

-- A run of records is done but for a failing one. None of the numbers of those that were done is listed; the next one is,
-- with the trouble that is answered, where not all were done.
pub record RunEnds {T : Type 0} (count done : ℕ) (state : RecordsState) (answer : Result T Trouble) : Type 0 where
  pub in_range : done ≤ count
  pub passed : (i : ℕ) → i < done → failing (state.calls + (i + 1)) state.fails ≡ None
  pub ended : EndsAs count done (failing (state.calls + (done + 1)) state.fails) answer

-- a run of reads after which the store is as it was but for its counts
pub record RanReads {T : Type 0} (count : ℕ) (old new : RecordsState) (answer : Result T Trouble) : Type 0 where
  pub done : ℕ
  pub ends : RunEnds count done old answer
  pub state : new ≡ counted_run done old answer

-- the state after a run of writes, of which so many pieces are written
abbrev pub written_run : {T : Type 0} → ℕ → List (List ℕ) → ℕ → RecordsState → Result T Trouble → RecordsState
written_run first pieces done state answer = record (counted_run done state answer) {
  records = changed (placed first (take done pieces)) state.records;
  writes = state.writes ++ placed first (take done pieces);
}

-- the first of these pieces were written, from record `first` on, and all of them at Ok
pub record RanWrites {T : Type 0} (first : ℕ) (pieces : List (List ℕ)) (old new : RecordsState) (answer : Result T Trouble) : Type 0 where
  pub done : ℕ
  pub ends : RunEnds (length pieces) done old answer
  pub state : new ≡ written_run first pieces done old answer
