-- What settling and a commit write, and what they may leave of a tape at any moment.
use Rattle.std.specs.Prelude.{◌≡◌, ◌≢◌, ◌⊎◌, ◌<◌, ◌≤◌, ◌++◌, ℕ, suc, Bool, [], ◌∷◌, true, false, if◌then◌else◌, length}
use Rattle.lif_model.specs.Tape.{Tape, record_at}
use Rattle.lif_model.specs.Gate.{gate_of, has_open_gate}
use Rattle.lif_model.specs.declared.version.Version.{Version}
use Rattle.lif_model.specs.Redo.{Valid, Changes, open_gate, zeros, redo_start, data_record, targets_place, targets_record, are_targets, targets_of, targets_in, behind, redo_of, changed, settled}

-- changes that one commit of that version takes, on a tape of n records
abbrev pub AreChanges : Version → ℕ → Changes → Type 0
AreChanges version n changes = are_targets version n (targets_in changes) ≡ true

-- ---- the writes in their order, each the number of a record and its bytes

-- settling: the changes in the order of the targets, and then a gate of zeros
abbrev pub settle_writes : ℕ → Changes → Changes
settle_writes n [] = []
settle_writes n (c ∷ cs) = (c ∷ cs) ++ (gate_of n, zeros) ∷ []

-- the new contents, each at its data record, the first of them that of target i
abbrev pub content_writes : Version → ℕ → ℕ → Changes → Changes
content_writes version n i [] = []
content_writes version n i (c ∷ cs) = (data_record version n i, c.1) ∷ content_writes version n (suc i) cs

-- a gate of zeros where the gate reads open
abbrev pub close_writes : ℕ → Bool → Changes
close_writes n was_open = if was_open then (gate_of n, zeros) ∷ [] else []

-- a commit: that gate, the contents, the targets record, the open gate, and then what settling writes
abbrev pub commit_writes : Version → ℕ → Bool → Changes → Changes
commit_writes version n was_open changes = close_writes n was_open ++ (content_writes version n 0 changes
    ++ (targets_place n, targets_record version (targets_in changes)) ∷ (gate_of n, open_gate) ∷ settle_writes n changes)

-- ---- at any moment

-- x settles to a tape that is t but for the gate record
pub record SettlesAs (t x : Tape) : Type 0 where
  pub records : length x ≡ length t
  pub same : (k : ℕ) → k ≢ gate_of (length t) → record_at (settled x) k ≡ record_at t k

-- x settles to a tape that is t below the redo file
pub record SettlesBelow (version : Version) (t x : Tape) : Type 0 where
  pub records : length x ≡ length t
  pub same : (k : ℕ) → k < redo_start version (length t) → record_at (settled x) k ≡ record_at t k

-- to the tape as it was, or with all the changes
abbrev pub IsOldOrNew : Version → Changes → Tape → Tape → Type 0
IsOldOrNew version changes t x = SettlesBelow version t x ⊎ SettlesBelow version (changed changes t) x

-- ---- between the steps

-- no redo is open, and below the redo file the tape is t
pub record Quiet (version : Version) (t x : Tape) : Type 0 where
  pub records : length x ≡ length t
  pub below : (k : ℕ) → k < redo_start version (length t) → record_at x k ≡ record_at t k
  pub none : redo_of x ≡ []

-- the gate is closed, and below the redo file the tape is t
pub record IsShut (version : Version) (t x : Tape) : Type 0 where
  pub records : length x ≡ length t
  pub below : (k : ℕ) → k < redo_start version (length t) → record_at x k ≡ record_at t k
  pub gate : has_open_gate x ≡ false

-- the redo file of that version holds these changes
pub record IsLoaded (version : Version) (changes : Changes) (x : Tape) : Type 0 where
  pub named : targets_of (length x) (record_at x (targets_place (length x))) ≡ Valid version (targets_in changes)
  pub holds : behind x ≡ changes

-- the same after a closed gate, and below the redo file the tape is t
pub record IsStaged (version : Version) (changes : Changes) (t x : Tape) : Type 0 where
  pub shut : IsShut version t x
  pub loaded : IsLoaded version changes x

-- the same, and the gate is open
pub record IsArmed (version : Version) (changes : Changes) (x : Tape) : Type 0 where
  pub gate : has_open_gate x ≡ true
  pub loaded : IsLoaded version changes x

-- ---- at the end

-- the changes stand, the gate record is zero, and all else below the redo file is as before
pub record IsCommitted (version : Version) (changes : Changes) (t x : Tape) : Type 0 where
  pub records : length x ≡ length t
  pub below : (k : ℕ) → k < redo_start version (length t) → record_at x k ≡ record_at (changed changes t) k
  pub gate : record_at x (gate_of (length t)) ≡ zeros

-- ---- the records written

abbrev pub IsTarget : Changes → ℕ → Type 0
IsTarget [] k = ⊥
IsTarget (c ∷ cs) k = (k ≡ c.0) ⊎ IsTarget cs k

-- a record of the redo file, or one of its targets
abbrev pub IsRedoWrite : Version → ℕ → Changes → ℕ → Type 0
IsRedoWrite version n changes k = (redo_start version n ≤ k) ⊎ IsTarget changes k

-- a record that settling writes: a target of the open redo, or the gate, and none where no redo is open
abbrev pub IsSettleWrite : ℕ → Changes → ℕ → Type 0
IsSettleWrite n [] k = ⊥
IsSettleWrite n (c ∷ cs) k = (k ≡ gate_of n) ⊎ IsTarget (c ∷ cs) k
