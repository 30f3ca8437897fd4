-- Worked examples of a lent ring, by hand from the rules: a printer (party 1), the drive (party 2) and a second controller (party 3), which
-- has the address 3. Four links make a round. The logs are those of il_guest's lends.
use Rattle.std.proofs.Common.{◌≡◌, ◌≢◌, ◌++◌, ℕ, List, [], ◌∷◌, Option, Some, None, true, false, sum_by, count_by, ◌+◌, refl, ap, arith}
use Rattle.il_frames.specs.declared.entry.Entry.{Entry}
use Rattle.il_frames.specs.declared.entry.Outcome.TheVariants as outcome
use Rattle.il_frames.specs.declared.frame.Class.TheVariants as class
use Rattle.il_frames.specs.Frames.{framed}
use Rattle.il_device.specs.State.{fresh}
use Rattle.il_device.specs.Takes.{ete}
use Rattle.il_frames.specs.NamedFrames.{entry, nrd, rfc, tad, unl}
use Rattle.il_device.specs.declared.roles.Roles.{Roles}
use Rattle.loop_model.specs.Leading.{roles_led}
use Rattle.loop_model.specs.Reach.{brings_to, links_of}
use Rattle.il_ring.specs.ControlledAdds.{TookSince, standing}
use Rattle.il_guest.specs.declared.guest.GuestOut.TheVariants.{Pass, Source, Relay, Stop}
use Rattle.il_guest.specs.Frames.{nop, sst, tct}
use Rattle.il_ring.specs.declared.plan.Planned.{Planned}
use Rattle.il_ring.specs.declared.plan.PlanFault.TheVariants.{Lose}
use Rattle.il_ring.specs.declared.flight.Flight.{Flight}
use Rattle.il_ring.specs.Flights.{sourced, lost_at}
use Rattle.il_ring.specs.Books.{BooksView, books_emptied}
use Rattle.il_ring.specs.Journeys.{trip}
use Rattle.il_ring.specs.Lending.{ControlledTrip, controlled, controlled_answers, books_controlled, controlled_home, lending_ended, last_talks}

abbrev books : List Planned → ℕ → List Entry → Option Flight → Option Flight → BooksView
books plan n log lent kept = record { plan = plan; crossings = n; begun = 0; log = log; room = 100; held = None; lent = lent; kept = kept }

-- the frame goes to party 3 over three links, which answers so; what is at the host then, over the fourth
abbrev goes : List Planned → ℕ → List Entry → Flight → Option Flight → ControlledTrip → BooksView
goes plan n log f kept u = controlled_home true 3 (books_controlled (books plan n log None kept) u) u.trip.flight

-- ---- a lend of one frame: 0 TCT > 3, 3 NOP > 0, 0 IFC = IFC

abbrev handed : List Entry
handed = entry 0 tct (outcome.Taken 3) ∷ []

-- TCT comes to a second controller that talks, and it sends NOP, which is at the host
nop_stands : goes [] 3 [] (sourced 0 tct) None (controlled_answers 3 [] 3 (sourced 0 tct) None (Source nop)) ≡ books [] 4 handed (Some (sourced 3 nop)) None
nop_stands = refl

one_frame : (lending_ended 3 (books [] 4 handed (Some (sourced 3 nop)) None)).log ≡ handed ++ entry 3 nop (outcome.Taken 0) ∷ []
one_frame = refl

-- it is lost on the link to the host: the ring is not lent
nop_lost : goes (record { hop = 4; fault = Lose } ∷ []) 3 [] (sourced 0 tct) None (controlled_answers 3 [] 3 (sourced 0 tct) None (Source nop))
    ≡ books (record { hop = 4; fault = Lose } ∷ []) 4 (handed ++ entry 3 nop (outcome.Lost 0) ∷ []) None None
nop_lost = refl

-- one that does not talk passes TCT, which comes back as every frame of the host
tct_back : controlled_home false 3 (books_controlled (books [] 3 [] None None) (controlled_answers 3 [] 3 (sourced 0 tct) None (Pass tct))) (Some (sourced 0 tct)) ≡ books [] 4 (entry 0 tct (outcome.Back tct) ∷ []) None None
tct_back = refl

-- ---- a lend of three frames: 3 NOP = NOP, 3 RFC = RFC, 3 UNL > 0

abbrev two_back : List Entry
two_back = handed ++ entry 3 nop (outcome.Back nop) ∷ entry 3 rfc (outcome.Back rfc) ∷ []

rfc_stands : goes [] 7 handed (sourced 3 nop) None (controlled_answers 7 handed 3 (sourced 3 nop) None (Source rfc)) ≡ books [] 8 (handed ++ entry 3 nop (outcome.Back nop) ∷ []) (Some (sourced 3 rfc)) None
rfc_stands = refl

unl_stands : goes [] 11 (handed ++ entry 3 nop (outcome.Back nop) ∷ []) (sourced 3 rfc) None (controlled_answers 11 (handed ++ entry 3 nop (outcome.Back nop) ∷ []) 3 (sourced 3 rfc) None (Source unl)) ≡ books [] 12 two_back (Some (sourced 3 unl)) None
unl_stands = refl

three_frames : (lending_ended 3 (books [] 12 two_back (Some (sourced 3 unl)) None)).log ≡ two_back ++ entry 3 unl (outcome.Taken 0) ∷ []
three_frames = refl

-- it is the host that took it, and not the second controller
taken_by : Entry → ℕ
taken_by e = elim e.outcome [ outcome.Taken k ↦ k | _ ↦ 0 ]

not_taken_there : (lending_ended 3 (books [] 12 two_back (Some (sourced 3 unl)) None)).log ≢ two_back ++ entry 3 unl (outcome.Taken 3) ∷ []
unfolding taken_by
not_taken_there is = let sums = ap (λ log. sum_by taken_by log) is in omega (arith, sums)

-- ---- a byte of the drive is kept while NRD is on its way

abbrev byte : Flight
byte = sourced 2 (framed class.Dab 0)

abbrev asked : List Entry
asked = entry 3 sst (outcome.Taken 2) ∷ []

nrd_stands : goes [] 7 asked byte None (controlled_answers 7 asked 3 byte None (Source nrd)) ≡ books [] 8 asked (Some (sourced 3 nrd)) (Some byte)
nrd_stands = refl

-- control is taken back: the byte ends at the second controller, and directly after it NRD at the host
kept_first : (lending_ended 3 (books [] 8 asked (Some (sourced 3 nrd)) (Some byte))).log ≡ asked ++ entry 2 (framed class.Dab 0) (outcome.Taken 3) ∷ entry 3 nrd (outcome.Taken 0) ∷ []
kept_first = refl

-- NRD is lost before party 2: the same, and the ring is lent no more
nrd_lost : goes [] 10 asked (sourced 3 nrd) (Some byte) (controlled (trip 10 (asked ++ lost_at (sourced 3 nrd) 2 ∷ []) None) (Some byte))
    ≡ books [] 10 (asked ++ entry 2 (framed class.Dab 0) (outcome.Taken 3) ∷ entry 3 nrd (outcome.Lost 2) ∷ []) None None
nrd_lost = refl

-- or on the link to the host
nrd_lost_at_once : goes (record { hop = 8; fault = Lose } ∷ []) 7 asked byte None (controlled_answers 7 asked 3 byte None (Source nrd))
    ≡ books (record { hop = 8; fault = Lose } ∷ []) 8 (asked ++ entry 2 (framed class.Dab 0) (outcome.Taken 3) ∷ entry 3 nrd (outcome.Lost 0) ∷ []) None None
nrd_lost_at_once = refl

-- NRD comes back: the byte goes on to the host and is there
abbrev stopped : List Entry
stopped = asked ++ entry 3 nrd (outcome.Back nrd) ∷ []

byte_stands : goes [] 11 asked (sourced 3 nrd) (Some byte) (controlled_answers 11 asked 3 (sourced 3 nrd) (Some byte) (Relay (framed class.Dab 0))) ≡ books [] 12 stopped (Some byte) None
byte_stands = refl

-- ETE silences it: nothing comes to the host, and the ring is lent no more
ete_taken : goes [] 15 stopped (sourced 2 ete) None (controlled_answers 15 stopped 3 (sourced 2 ete) None Stop) ≡ books [] 15 (stopped ++ entry 2 ete (outcome.Taken 3) ∷ []) None None
ete_taken = refl

-- ---- an emptied log begins where a frame stands as it began

begins_before : books_emptied (books [] 8 asked (Some (sourced 3 nrd)) (Some byte)) ≡ record (books [] 8 [] (Some (sourced 3 nrd)) (Some byte)) { begun = 0 }
begins_before = refl

begins_here : books_emptied (books [] 8 asked None None) ≡ record (books [] 8 [] None None) { begun = 8 }
begins_here = refl

-- ---- the last device

last_of_three : last_talks (fresh None 0 ∷ fresh None 0 ∷ record (fresh None 0) { roles = record { address = Some 3; talks = true; listens = false } } ∷ []) ≡ true
last_of_three = refl

other_talks : last_talks (record (fresh None 0) { roles = record { address = Some 1; talks = true; listens = false } } ∷ fresh None 0 ∷ []) ≡ false
other_talks = refl

-- ---- what stands counts as it would end

-- NOP is back and RFC is at the host: four links more, and one frame more for the second controller
nop_passed : 4 + sum_by (links_of 3) (standing 3 (books [] 4 handed (Some (sourced 3 nop)) None))
    ≡ sum_by (links_of 3) ((entry 3 nop (outcome.Back nop) ∷ []) ++ standing 3 (books [] 8 [] (Some (sourced 3 rfc)) None))
nop_passed = refl

nop_came : TookSince 3 (standing 3 (books [] 4 handed (Some (sourced 3 nop)) None)) ((entry 3 nop (outcome.Back nop) ∷ []) ++ standing 3 (books [] 8 [] (Some (sourced 3 rfc)) None)) 3 (fresh None 0) (record (fresh None 0) { frames = 1 })
nop_came = (1, refl, refl)

-- not two for the second controller, to which its own frame came once
not_twice : (c : ℕ) → c + count_by (brings_to 3 3) (standing 3 (books [] 4 handed (Some (sourced 3 nop)) None)) ≡ count_by (brings_to 3 3) ((entry 3 nop (outcome.Back nop) ∷ []) ++ standing 3 (books [] 8 [] (Some (sourced 3 rfc)) None)) → c ≢ 2
not_twice c same two = let no : ⊥ = omega (arith, same, two) in absurd no

-- a byte that the second controller keeps has come to it, over one link
byte_kept : sum_by (links_of 3) (standing 3 (books [] 8 asked (Some (sourced 3 nrd)) (Some byte))) ≡ 2
byte_kept = refl

-- TAD 1 of the second controller is on its way: its own roles are changed, the printer's are not yet
abbrev no_roles_at : ℕ → Roles
no_roles_at a = record { address = Some a; talks = false; listens = false }

abbrev talking_last : List Roles
talking_last = no_roles_at 1 ∷ no_roles_at 2 ∷ record { address = Some 3; talks = true; listens = false } ∷ []

tad_stands : roles_led 3 talking_last (standing 3 (books [] 16 [] (Some (sourced 3 (tad 1))) None)) ≡ no_roles_at 1 ∷ no_roles_at 2 ∷ no_roles_at 3 ∷ []
tad_stands = refl

-- it is back: the printer talks
tad_back : roles_led 3 talking_last (entry 3 (tad 1) (outcome.Back (tad 1)) ∷ []) ≡ record { address = Some 1; talks = true; listens = false } ∷ no_roles_at 2 ∷ no_roles_at 3 ∷ []
tad_back = refl
