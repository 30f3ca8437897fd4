-- How the entries of a log ended: as the faults made it that were planned at the crossings reached while the log was written.
use Rattle.std.specs.Prelude.{◌≡◌, ◌⊎◌, ◌<◌, ◌≤◌, ℕ, true, false, List, MatchBool, Option, Some, None, bit_xor}
use Rattle.std.specs.List.{All}
use Rattle.il_frames.specs.declared.frame.Frame.{Frame}
use Rattle.il_frames.specs.declared.entry.Entry.{Entry}
use Rattle.il_frames.specs.declared.entry.Outcome.{Outcome}
use Rattle.il_frames.specs.declared.entry.Outcome.TheVariants as outcome
use Rattle.il_frames.specs.Frames.{byte_of, is_data}
use Rattle.il_ring.specs.declared.plan.Planned.{Planned}
use Rattle.il_ring.specs.declared.plan.PlanFault.{PlanFault}
use Rattle.il_ring.specs.declared.plan.PlanFault.TheVariants.{Lose, Alter}
use Rattle.il_ring.specs.declared.flight.Flight.{Flight}
use Rattle.il_ring.specs.Plans.{fault_at}
use Rattle.il_ring.specs.Books.{BooksView}

-- this fault is planned at one of the crossings after the first count, up to the second
pub record IsReached (plan : List Planned) (from to : ℕ) (fault : PlanFault) : Type 0 where
  pub hop : ℕ
  pub after : from < hop
  pub up_to : hop ≤ to
  pub planned : fault_at plan hop ≡ Some fault

-- an alteration that was reached made the byte of the one frame that of the other
abbrev pub IsAltered : List Planned → ℕ → ℕ → Frame → Frame → Type 0
IsAltered plan from to f g = (change : ℕ) × IsReached plan from to (Alter change) × (byte_of g ≡ bit_xor (byte_of f) change)

-- two alterations were reached, one after the other
abbrev pub IsReachedTwice : List Planned → ℕ → ℕ → Type 0
IsReachedTwice plan from to = (between : ℕ) × (first : ℕ) × (second : ℕ) × IsReached plan from between (Alter first) × IsReached plan between to (Alter second)

-- a data or end frame came as this one: with its byte, or as an alteration made it
abbrev pub CameSo : List Planned → ℕ → ℕ → Frame → Frame → Type 0
CameSo plan from to f g = (byte_of g ≡ byte_of f) ⊎ IsAltered plan from to f g

-- a frame was lost: by a loss; by an alteration if it is no data or end frame; or by the second of two alterations
abbrev pub LostSo : List Planned → ℕ → ℕ → Frame → Type 0
LostSo plan from to f = IsReached plan from to Lose ⊎ (((is_data f ≡ false) × (change : ℕ) × IsReached plan from to (Alter change)) ⊎ IsReachedTwice plan from to)

-- the frame ended so; one that another took ended by no fault
abbrev pub EndsSo : List Planned → ℕ → ℕ → Frame → Outcome → Type 0
EndsSo plan from to f (outcome.Back g) = is_data f ≡ true → CameSo plan from to f g
EndsSo plan from to f (outcome.Taken party) = Unit {0}
EndsSo plan from to f (outcome.Lost party) = LostSo plan from to f

-- the entry ended as the plan made it
abbrev pub IsByPlan : List Planned → ℕ → ℕ → Entry → Type 0
IsByPlan plan from to e = EndsSo plan from to e.frame e.outcome

-- a frame on its way is still of its kind, and a data or end frame has its byte, or another if it was altered
pub record GoesByPlan (plan : List Planned) (from to : ℕ) (f : Flight) : Type 0 where
  pub kind : is_data f.now ≡ is_data f.sent
  pub byte : is_data f.sent ≡ true → MatchBool f.altered (IsAltered plan from to f.sent f.now) (byte_of f.now ≡ byte_of f.sent)

-- the same of one that may be there
abbrev pub HoldsByPlan : List Planned → ℕ → ℕ → Option Flight → Type 0
HoldsByPlan plan from to None = Unit {0}
HoldsByPlan plan from to (Some f) = GoesByPlan plan from to f

-- the log that began after this many crossings shows each fate as it was planned, and so do the frames that are held somewhere
pub record ShowsPlan (b : BooksView) : Type 0 where
  pub begun : b.begun ≤ b.crossings
  pub entries : All (IsByPlan b.plan b.begun b.crossings) b.log
  pub held : HoldsByPlan b.plan b.begun b.crossings b.held
  pub lent : HoldsByPlan b.plan b.begun b.crossings b.lent
  pub kept : HoldsByPlan b.plan b.begun b.crossings b.kept
