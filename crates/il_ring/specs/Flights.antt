-- A frame on its way, and how its entry in the log ends.
use Rattle.std.specs.Prelude.{◌≡◌, ◌==◌, ◌&&◌, ℕ, true, false, not, if◌then◌else◌, Option, Some, None, bit_xor}
use Rattle.il_frames.specs.declared.frame.Frame.{Frame}
use Rattle.il_frames.specs.declared.entry.Entry.{Entry}
use Rattle.il_frames.specs.declared.entry.Outcome.TheVariants as outcome
use Rattle.il_frames.specs.Frames.{framed, class_of, byte_of, is_data}
use Rattle.il_ring.specs.declared.plan.PlanFault.{PlanFault}
use Rattle.il_ring.specs.declared.plan.PlanFault.TheVariants.{Lose, Alter}
use Rattle.il_ring.specs.declared.flight.Flight.{Flight}

-- a party has just sent the frame
abbrev pub sourced : ℕ → Frame → Flight
sourced party f = record { source = party; sent = f; now = f; altered = false }

-- the frame with another byte
abbrev pub altered_by : ℕ → Frame → Frame
altered_by change f = framed (class_of f) (bit_xor (byte_of f) change)

-- The frame after a link if this is planned: a data or end frame is altered once on its trip. None if it is lost.
abbrev pub hit : Option PlanFault → Flight → Option Flight
hit None f = Some f
hit (Some Lose) f = None
hit (Some (Alter change)) f = if is_data f.now && not f.altered then Some (record f { now = altered_by change f.now; altered = true }) else None

-- there is one, and it was altered
abbrev pub HasAltered : Option Flight → Type 0
HasAltered o = (f : Flight) × (o ≡ Some f) × (f.altered ≡ true)

-- its entry if it did not reach a party
abbrev pub lost_at : Flight → ℕ → Entry
lost_at f party = record { source = f.source; frame = f.sent; outcome = outcome.Lost party }

-- its entry if it ended at a party: it came back to its source, or was taken by another
abbrev pub ended_at : Flight → ℕ → Entry
ended_at f party = record { source = f.source; frame = f.sent; outcome = if f.source == party then outcome.Back f.now else outcome.Taken party }
