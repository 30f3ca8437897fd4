-- Worked examples of the definitions, by hand from the rules of the ring. A ring has the drive at party 1 and a printer
-- at party 2, three links a round, if nothing else is said.
use Rattle.std.proofs.Common.{◌≡◌, ◌==◌, ℕ, Bool, List, Option, [], ◌∷◌, Some, None, true, false, inl, inr, refl, ap, arith}
use Rattle.std.specs.Prelude.{if◌then◌else◌}
use Rattle.std.proofs.lemmas.Bool.{eqb-true}
use Rattle.std.proofs.lemmas.List.Elements.{All-nil, All-cons, All-head}
use Rattle.il_frames.specs.declared.frame.Class.TheVariants as class
use Rattle.il_frames.specs.declared.frame.Frame.{Frame}
use Rattle.il_frames.specs.declared.entry.Entry.{Entry}
use Rattle.il_frames.specs.declared.entry.Outcome.TheVariants as outcome
use Rattle.il_frames.specs.Frames.{framed}
use Rattle.il_device.specs.State.{DeviceState, fresh}
use Rattle.il_device.specs.Takes.{eto}
use Rattle.il_frames.specs.NamedFrames.{entry, ifc, rfc, nrd}
use Rattle.il_ring.specs.declared.plan.Planned.{Planned}
use Rattle.il_ring.specs.declared.plan.PlanFault.{PlanFault}
use Rattle.il_ring.specs.declared.plan.PlanFault.TheVariants.{Lose, Alter}
use Rattle.il_ring.specs.declared.plan.Arrival.TheVariants as arrival
use Rattle.il_ring.specs.declared.flight.Flight.{Flight}
use Rattle.il_ring.specs.Plans.{hops_of, fault_at, next_fault, rises_from, last_crossing}
use Rattle.il_ring.specs.Flights.{sourced, altered_by, hit, lost_at, ended_at}
use Rattle.il_ring.specs.Books.{BooksView, books_emptied}
use Rattle.il_ring.specs.Fates.{IsReached, CameSo, LostSo, IsByPlan, GoesByPlan, ShowsPlan}
use Rattle.il_ring.specs.Journeys.{trip, answered, missed}
use Rattle.il_device.specs.declared.device.Out.TheVariants.{Pass, Source}
use Rattle.il_ring.specs.Rings.{fresh_books, paper_of, home, arriving, arrived}

-- ---- plans

-- a loss at crossing 2 and an alteration at crossing 5
abbrev plan : List Planned
plan = record { hop = 2; fault = Lose } ∷ record { hop = 5; fault = Alter 3 } ∷ []

plan_rises : rises_from 0 plan ≡ true
plan_rises = refl

plan_hops : hops_of plan ≡ 2 ∷ 5 ∷ []
plan_hops = refl

-- hops are counted from 1, rise strictly, and an alteration makes another byte
no_plan_at_0 : rises_from 0 (record { hop = 0; fault = Lose } ∷ []) ≡ false
no_plan_at_0 = refl

no_plan_twice : rises_from 0 (record { hop = 2; fault = Lose } ∷ record { hop = 2; fault = Alter 1 } ∷ []) ≡ false
no_plan_twice = refl

no_plan_by_0 : rises_from 0 (record { hop = 2; fault = Alter 0 } ∷ []) ≡ false
no_plan_by_0 = refl

-- the second crossing is the one after the first
fault_at_2 : fault_at plan 2 ≡ Some Lose
fault_at_2 = refl

fault_after_1 : next_fault plan 1 ≡ Some Lose
fault_after_1 = refl

none_after_2 : next_fault plan 2 ≡ None
none_after_2 = refl

-- a fault at the greatest count acts at the crossing that brings the count there, and at none after it
abbrev last : List Planned
last = record { hop = last_crossing; fault = Lose } ∷ []

fault_at_last : next_fault last 18446744073709551614 ≡ Some Lose
fault_at_last = refl

none_after_last : next_fault last last_crossing ≡ None
none_after_last = refl

-- ---- frames on their way

abbrev letter : ℕ → Frame
letter byte = framed class.Dab byte

-- a command and a ready frame are lost by every fault
ifc_lost : hit (Some Lose) (sourced 0 ifc) ≡ None
ifc_lost = refl

rfc_altered : hit (Some (Alter 1)) (sourced 0 rfc) ≡ None
rfc_altered = refl

-- 41 with 3 is 42, and a second time it is lost
letter_altered : hit (Some (Alter 3)) (sourced 0 (letter 0x41)) ≡ Some (record { source = 0; sent = letter 0x41; now = letter 0x42; altered = true })
letter_altered = refl

letter_twice : hit (Some (Alter 3)) (record { source = 0; sent = letter 0x41; now = letter 0x42; altered = true }) ≡ None
letter_twice = refl

-- the end keeps its class
end_altered : altered_by 3 (framed class.End 0x0A) ≡ framed class.End 0x09
end_altered = refl

-- ---- entries

-- ~ 0 IFC ! 2
ifc_entry : lost_at (sourced 0 ifc) 2 ≡ entry 0 ifc (outcome.Lost 2)
ifc_entry = refl

-- ~ 1 DAB 00 = DAB 01, and ~ 1 ETO > 0
back_entry : ended_at (record { source = 1; sent = letter 0; now = letter 1; altered = true }) 1 ≡ entry 1 (letter 0) (outcome.Back (letter 1))
back_entry = refl

taken_entry : ended_at (sourced 1 eto) 0 ≡ entry 1 eto (outcome.Taken 0)
taken_entry = refl

-- ---- at a party

-- the drive at party 1 passes a frame on, or takes it and sends its own
passed_on : answered 1 [] 1 (sourced 0 (letter 7)) (Pass (framed class.Dsr 7)) ≡ trip 1 [] (Some (record { source = 0; sent = letter 7; now = framed class.Dsr 7; altered = false }))
passed_on = refl

sent_own : answered 1 [] 1 (sourced 0 rfc) (Source (letter 0)) ≡ trip 1 (entry 0 rfc (outcome.Taken 1) ∷ []) (Some (sourced 1 (letter 0)))
sent_own = refl

not_reached : missed 2 [] 2 (sourced 0 ifc) ≡ trip 2 (entry 0 ifc (outcome.Lost 2) ∷ []) None
not_reached = refl

-- ---- at the host

-- two crossings before, and a byte of the drive is held
abbrev status : Flight
status = sourced 1 (letter 0)

abbrev books : List Planned → ℕ → Option Flight → BooksView
books plan n held = record { plan = plan; crossings = n; begun = 0; log = []; room = 100; held = held; lent = None; kept = None }

nothing_yet : fresh_books plan 100 ≡ books plan 0 None
nothing_yet = refl

-- NRD comes back, and the byte stays held; ETO is taken; another byte is held in its place
nrd_back : home (books [] 2 (Some status)) (Some (sourced 0 nrd)) ≡ record { plan = []; crossings = 3; begun = 0; log = entry 0 nrd (outcome.Back nrd) ∷ []; room = 100; held = Some status; lent = None; kept = None }
nrd_back = refl

eto_taken : home (books [] 2 (Some status)) (Some (sourced 1 eto)) ≡ record { plan = []; crossings = 3; begun = 0; log = entry 1 eto (outcome.Taken 0) ∷ []; room = 100; held = None; lent = None; kept = None }
eto_taken = refl

byte_held : home (books [] 2 None) (Some status) ≡ books [] 3 (Some status)
byte_held = refl

-- a lost NRD drops the byte, which has no entry: lost on the last link, and lost before
nrd_lost : home (books (record { hop = 3; fault = Lose } ∷ []) 2 (Some status)) (Some (sourced 0 nrd)) ≡ record { plan = record { hop = 3; fault = Lose } ∷ []; crossings = 3; begun = 0; log = entry 0 nrd (outcome.Lost 0) ∷ []; room = 100; held = None; lent = None; kept = None }
nrd_lost = refl

nrd_lost_before : home (books [] 2 (Some status)) None ≡ books [] 2 None
nrd_lost_before = refl

arrives : arrived (arriving [] 2 (Some status)) ≡ arrival.Frame (letter 0)
arrives = refl

arrives_altered : arrived (arriving (record { hop = 3; fault = Alter 1 } ∷ []) 2 (Some status)) ≡ arrival.Frame (letter 1)
arrives_altered = refl

arrives_not : arrived (arriving plan 1 (Some status)) ≡ arrival.Lost
arrives_not = refl

-- ---- the fates of entries

-- this alone is planned
abbrev alone : ℕ → PlanFault → List Planned
alone hop fault = record { hop = hop; fault = fault } ∷ []

planned_there : (hop n : ℕ) (here fault : PlanFault) → fault_at (alone hop here) n ≡ Some fault → (hop ≡ n) × (here ≡ fault)
planned_there hop n here fault planned = by_test (hop == n) refl planned
  where
    by_test : (test : Bool) → (hop == n) ≡ test → (if test then Some here else None) ≡ Some fault → (hop ≡ n) × (here ≡ fault)
    by_test true at planned = (eqb-true hop n at, ap (λ o. elim o [ Some z ↦ z | None ↦ here ]) planned)
    by_test false at planned = cc

-- after three crossings, and up to six
met_at_5 : (fault : PlanFault) → IsReached (alone 5 fault) 3 6 fault
met_at_5 fault = record { hop = 5; after = omega arith; up_to = omega arith; planned = refl }

-- what was planned up to then is reached no more, and what is planned later is not reached yet
not_met_before : IsReached (alone 3 Lose) 3 6 Lose → ⊥
not_met_before met = let there = planned_there 3 met.hop Lose Lose met.planned in omega (arith, there.0, met.after)

not_met_later : IsReached (alone 7 Lose) 3 6 Lose → ⊥
not_met_later met = let there = planned_there 7 met.hop Lose Lose met.planned in omega (arith, there.0, met.up_to)

-- 0 DAB 41 = DAB 40 is by an alteration with 1, and by no loss
altered_entry : IsByPlan (alone 5 (Alter 1)) 3 6 (entry 0 (letter 0x41) (outcome.Back (letter 0x40)))
altered_entry = λ is. inr (1, met_at_5 (Alter 1), refl)

not_altered_by_loss : IsByPlan (alone 5 Lose) 3 6 (entry 0 (letter 0x41) (outcome.Back (letter 0x40))) → ⊥
not_altered_by_loss told = by (told refl)
  where
    by : CameSo (alone 5 Lose) 3 6 (letter 0x41) (letter 0x40) → ⊥
    by (inl same) = omega (arith, same)
    by (inr altered) = let clash = (planned_there 5 altered.1.hop Lose (Alter altered.0) altered.1.planned).1 in cc

-- 0 DAB 41 ! 2 is by a loss, and by no one alteration
lost_entry : IsByPlan (alone 5 Lose) 3 6 (entry 0 (letter 0x41) (outcome.Lost 2))
lost_entry = inl (met_at_5 Lose)

not_lost_by_alteration : IsByPlan (alone 5 (Alter 1)) 3 6 (entry 0 (letter 0x41) (outcome.Lost 2)) → ⊥
not_lost_by_alteration (inl met) = let clash = (planned_there 5 met.hop (Alter 1) Lose met.planned).1 in cc
not_lost_by_alteration (inr (inl met)) = let clash = met.0 in cc
not_lost_by_alteration (inr (inr met)) = twice met.0 met.1 met.2 met.3 met.4
  where
    twice : (between first second : ℕ) → IsReached (alone 5 (Alter 1)) 3 between (Alter first) → IsReached (alone 5 (Alter 1)) between 6 (Alter second) → ⊥
    twice between first second one other =
        let at = planned_there 5 one.hop (Alter 1) (Alter first) one.planned in
        let again = planned_there 5 other.hop (Alter 1) (Alter second) other.planned in
        omega (arith, at.0, again.0, one.up_to, other.after)

-- 0 UNL ! 2 is by an alteration
command_lost : IsByPlan (alone 5 (Alter 1)) 3 6 (entry 0 (framed class.Cmd 0x3F) (outcome.Lost 2))
command_lost = inr (inl (refl, 1, met_at_5 (Alter 1)))

-- and 0 DAB 41 ! 2 by the second of two
abbrev two : List Planned
two = record { hop = 4; fault = Alter 1 } ∷ record { hop = 6; fault = Alter 2 } ∷ []

lost_twice : IsByPlan two 3 6 (entry 0 (letter 0x41) (outcome.Lost 2))
lost_twice = inr (inr (4, 1, 2, record { hop = 4; after = omega arith; up_to = omega arith; planned = refl }, record { hop = 6; after = omega arith; up_to = omega arith; planned = refl }))

-- a byte that is on its way as another was altered
altered_goes : GoesByPlan (alone 5 (Alter 1)) 3 6 (record { source = 1; sent = letter 0x41; now = letter 0x40; altered = true })
altered_goes = record { kind = refl; byte = λ is. (1, met_at_5 (Alter 1), refl) }

not_unaltered : GoesByPlan (alone 5 (Alter 1)) 3 6 (record { source = 1; sent = letter 0x41; now = letter 0x40; altered = false }) → ⊥
not_unaltered goes = omega (arith, goes.byte refl)

-- a log of one lost byte, with a loss planned, and with nothing planned
abbrev lost_byte : Entry
lost_byte = entry 0 (letter 0x41) (outcome.Lost 2)

abbrev lost_books : List Planned → BooksView
lost_books plan = record { plan = plan; crossings = 6; begun = 3; log = lost_byte ∷ []; room = 100; held = None; lent = None; kept = None }

shows_loss : ShowsPlan (lost_books (alone 5 Lose))
shows_loss = record { begun = omega arith; entries = All-cons (IsByPlan (alone 5 Lose) 3 6) lost_byte [] lost_entry (All-nil (IsByPlan (alone 5 Lose) 3 6)); held = tt; lent = tt; kept = tt }

shows_no_loss : ShowsPlan (lost_books []) → ⊥
shows_no_loss shows = by (All-head (IsByPlan [] 3 6) lost_byte [] shows.entries)
  where
    by : LostSo [] 3 6 (letter 0x41) → ⊥
    by (inl met) = let clash = met.planned in cc
    by (inr (inl met)) = let clash = met.0 in cc
    by (inr (inr met)) = let clash = met.3.planned in cc

-- a log that is emptied begins here, and if a byte is held as it began
begins_here : books_emptied (books [] 2 None) ≡ record { plan = []; crossings = 2; begun = 2; log = []; room = 100; held = None; lent = None; kept = None }
begins_here = refl

begins_before : books_emptied (books [] 2 (Some status)) ≡ books [] 2 (Some status)
begins_before = refl

-- ---- the printer

abbrev printer : DeviceState
printer = record (fresh (Some 32) 8192) { heard = 0x48 ∷ 0x50 ∷ []; heard_count = 2 }

first_printer : paper_of (fresh None 0 ∷ printer ∷ fresh (Some 32) 8192 ∷ []) ≡ Some (0x48 ∷ 0x50 ∷ [], 2)
first_printer = refl

no_printer : paper_of (fresh None 0 ∷ []) ≡ None
no_printer = refl
