-- What a ring keeps beside its devices.
use Rattle.std.specs.Prelude.{◌≡◌, ◌≢◌, ◌<◌, ◌≤◌, ◌+◌, ℕ, true, List, [], length, drop, Option, Some, None}
use Rattle.il_frames.specs.declared.entry.Entry.{Entry}
use Rattle.il_frames.specs.Frames.{is_data}
use Rattle.il_ring.specs.declared.plan.Planned.{Planned}
use Rattle.il_ring.specs.declared.flight.Flight.{Flight}
use Rattle.il_ring.specs.Plans.{last_crossing, fault_at, rises_from}

-- the planned faults; how many crossings of links there were, and how many as the log was last emptied with no frame held;
-- the log, oldest entry first; how many entries it has room for; a data or end frame of a device that is at the host; and,
-- while the ring is lent to a second controller, the frame that is at the host, and a data or end frame that that one keeps
pub record BooksView : Type 0 where
  pub plan : List Planned
  pub crossings : ℕ
  pub begun : ℕ
  pub log : List Entry
  pub room : ℕ
  pub held : Option Flight
  pub lent : Option Flight
  pub kept : Option Flight

-- only data and end frames of devices are held
abbrev pub IsHeld : Option Flight → Type 0
IsHeld None = Unit {0}
IsHeld (Some f) = (f.source ≢ 0) × (is_data f.now ≡ true)

-- where the log begins that is emptied after this many crossings: here, or where it began while this frame is held somewhere
abbrev pub begun_anew : Option Flight → ℕ → ℕ → ℕ
begun_anew None crossings begun = crossings
begun_anew (Some f) crossings begun = begun

-- the books with an empty log
abbrev pub books_emptied : BooksView → BooksView
books_emptied b = record b {
  log = [];
  begun = begun_anew b.held (begun_anew b.lent (begun_anew b.kept b.crossings b.begun) b.begun) b.begun;
}

-- what holds of the books at every moment, with this many entries in memory for that many
pub record IsBooks (count capacity : ℕ) (b : BooksView) : Type 0 where
  pub within : count ≤ b.room
  pub reserved : b.room ≤ capacity
  pub crossings : b.crossings ≤ last_crossing
  pub held : IsHeld b.held

-- The first faults of a plan, this many of them, lie at crossings that were counted: nothing of them is planned at a later one.
-- The others lie at later ones, and rise.
pub record IsPassed (plan : List Planned) (crossings passed : ℕ) : Type 0 where
  pub later : (n : ℕ) → crossings < n → fault_at plan n ≡ fault_at (drop passed plan) n
  pub coming : rises_from crossings (drop passed plan) ≡ true

-- nothing is planned at the crossings after this many of them, up to this one
abbrev pub IsUnplanned : List Planned → ℕ → ℕ → Type 0
IsUnplanned plan crossings last = (n : ℕ) → crossings < n → n ≤ last → fault_at plan n ≡ None

-- a round that begins before this many crossings meets nothing that is planned: it crosses 31 links at most
abbrev pub IsClearBefore : List Planned → ℕ → ℕ → Type 0
IsClearBefore plan crossings before = crossings < before → (before + 30 ≤ last_crossing) × IsUnplanned plan crossings (before + 30)

-- the next crossings, this many of them, are counted, and nothing is planned at them
pub record IsClear (plan : List Planned) (crossings next : ℕ) : Type 0 where
  pub counted : crossings + next ≤ last_crossing
  pub free : IsUnplanned plan crossings (crossings + next)

-- a frame went past this many parties: plan, room, the frames that stand and where the log begins are as before, and the log grew by this many
-- entries at most
pub record KeepsBooks (parties : ℕ) (old new : BooksView) : Type 0 where
  pub plan : new.plan ≡ old.plan
  pub room : new.room ≡ old.room
  pub held : new.held ≡ old.held
  pub lent : new.lent ≡ old.lent
  pub kept : new.kept ≡ old.kept
  pub begun : new.begun ≡ old.begun
  pub grows : length new.log ≤ length old.log + parties
