-- A ring with a second controller, which is its last party: what becomes there of a frame, and of the ring in a round.
-- The host lends the ring to it by TCT. From then on a frame is at the host, which sends it on, until the host takes
-- control back by IFC. What the second controller answers is il_guest's; how its frames end in the log is this project's
-- own.
use Rattle.std.specs.Prelude.{◌≡◌, ◌≤◌, ◌⊎◌, ◌+◌, ◌-◌, ◌++◌, ◌&&◌, ℕ, Bool, true, false, List, [], ◌∷◌, length, take, drop}
use Rattle.std.specs.Prelude.{Option, Some, None, option_map, is_some}
use Rattle.il_frames.specs.declared.frame.Frame.{Frame}
use Rattle.il_frames.specs.declared.entry.Entry.{Entry}
use Rattle.il_frames.specs.Frames.{is_data}
use Rattle.il_device.specs.State.{DeviceState, risen}
use Rattle.il_ports.specs.Media.{MediumView}
use Rattle.il_drive.specs.State.{IsDrive}
use Rattle.il_frames.specs.NamedFrames.{is_frame, nrd}
use Rattle.il_guest.specs.declared.control.Control.{Control}
use Rattle.il_guest.specs.declared.control.Control.TheVariants as control
use Rattle.il_guest.specs.declared.control.Place.{Place}
use Rattle.il_guest.specs.declared.control.Place.TheVariants as place
use Rattle.il_guest.specs.declared.guest.GuestOut.{GuestOut}
use Rattle.il_guest.specs.declared.guest.GuestOut.TheVariants.{Pass, Source, Relay, Stop}
use Rattle.il_guest.specs.Frames.{tct}
use Rattle.il_guest.specs.State.{GuestState, is_leading}
use Rattle.il_guest.specs.Steps.{sent_at}
use Rattle.il_guest.specs.Takes.{GuestTakes}
use Rattle.il_ring.specs.declared.plan.Planned.{Planned}
use Rattle.il_ring.specs.declared.plan.Arrival.{Arrival}
use Rattle.il_ring.specs.declared.plan.Arrival.TheVariants as arrival
use Rattle.il_ring.specs.declared.flight.Flight.{Flight}
use Rattle.il_ring.specs.Plans.{next_fault, last_crossing, IsPlan}
use Rattle.il_ring.specs.Flights.{sourced, hit, lost_at, ended_at}
use Rattle.il_ring.specs.Books.{BooksView}
use Rattle.il_ring.specs.Fates.{ShowsPlan}
use Rattle.il_ring.specs.Guests.{GuestMind, guest_devices, guest_mind, IsUnderHost}
use Rattle.il_ring.specs.Journeys.{Trip, trip, trip_of, missed, Passage, Journey, DriveTakes}
use Rattle.il_ring.specs.Rings.{RingView, Round, devices_of, home, books_at, arrived, arriving}

-- ---- who controls

-- a second controller does
abbrev pub leads : Option GuestMind → Bool
leads None = false
leads (Some mind) = is_leading mind.control

-- the last of these devices talks
abbrev pub last_talks : List DeviceState → Bool
last_talks [] = false
last_talks (d ∷ []) = d.roles.talks
last_talks (d ∷ e ∷ ds) = last_talks (e ∷ ds)

-- by this frame the host may hand control over: it is TCT, and a second controller talks
abbrev pub hands_over : {M : Type 0} → RingView M → Frame → Bool
hands_over r f = is_frame f tct && (is_some r.guest && last_talks r.after)

-- the host controls, and goes on to do so when it has sent this frame
pub record HostKeeps {M : Type 0} (r : RingView M) (f : Frame) : Type 0 where
  pub host : IsUnderHost r.guest
  pub hands : hands_over r f ≡ false

-- ---- at the second controller

-- how far a frame has come, and the data or end frame that the second controller keeps
pub record ControlledTrip : Type 0 where
  pub trip : Trip
  pub kept : Option Flight

abbrev pub controlled : Trip → Option Flight → ControlledTrip
controlled t kept = record { trip = t; kept = kept }

-- Party k has taken the frame in and sends this one of its own: it keeps a data or end frame, which ends later; any other
-- ends there.
abbrev pub controlled_sends : ℕ → List Entry → ℕ → Flight → Bool → Option Flight → Frame → ControlledTrip
controlled_sends n log k f true kept g = controlled (trip n log (Some (sourced k g))) (Some f)
controlled_sends n log k f false kept g = controlled (trip n (log ++ ended_at f k ∷ []) (Some (sourced k g))) kept

-- Party k has answered the frame: it goes on; or one of its own does; or the frame ends there, and the kept one goes on, or
-- none.
abbrev pub controlled_answers : ℕ → List Entry → ℕ → Flight → Option Flight → GuestOut → ControlledTrip
controlled_answers n log k f kept (Pass g) = controlled (trip n log (Some (record f { now = g }))) kept
controlled_answers n log k f kept (Source g) = controlled_sends n log k f (is_data f.now) kept g
controlled_answers n log k f kept (Relay g) = controlled (trip n (log ++ ended_at f k ∷ []) kept) None
controlled_answers n log k f kept Stop = controlled (trip n (log ++ ended_at f k ∷ []) None) kept

-- after the link the frame comes to it, or was lost
abbrev pub GuestMeets : ℕ → Trip → Option Flight → Flight → Option Flight → GuestState → ControlledTrip → GuestState → Type 0
GuestMeets k t kept f None g u h = (u ≡ controlled (missed (risen t.crossings) t.log k f) kept) × (h ≡ g)
GuestMeets k t kept f (Some at) g u h =
    (out : GuestOut) × GuestTakes g at.now out h × (u ≡ controlled_answers (risen t.crossings) t.log k at kept out)

abbrev pub GuestReaches :
    List Planned → ℕ → Trip → Option Flight → Option Flight → GuestState → ControlledTrip → GuestState → Type 0
GuestReaches plan k t kept None g u h = (u ≡ controlled t kept) × (h ≡ g)
GuestReaches plan k t kept (Some f) g u h = GuestMeets k t kept f (hit (next_fault plan t.crossings) f) g u h

-- The trip t goes over the link to party k if a second controller is there, which keeps a frame or none; the trip
-- and the kept frame are then u.
abbrev pub LastPassage :
    List Planned → ℕ → Trip → Option Flight → Option GuestState → ControlledTrip → Option GuestState → Type 0
LastPassage plan k t kept None u None = u ≡ controlled t kept
LastPassage plan k t kept (Some g) u (Some h) = GuestReaches plan k t kept t.flight g u h
LastPassage plan k t kept None u (Some h) = ⊥
LastPassage plan k t kept (Some g) u None = ⊥

-- ---- at the host, while a second controller controls

-- the entry is directly before the last one
abbrev pub before_last : Entry → List Entry → List Entry
before_last e log = take (length log - 1) log ++ e ∷ drop (length log - 1) log

-- nothing came home: the frame that party k kept, if any, was taken there before the last frame ended
abbrev pub kept_ended : ℕ → Option Flight → List Entry → List Entry
kept_ended k None log = log
kept_ended k (Some f) log = before_last (ended_at f k) log

abbrev pub lent_lost : ℕ → BooksView → BooksView
lent_lost k b = record b { log = kept_ended k b.kept b.log; held = None; lent = None; kept = None }

-- after the last link, which leads to the host: the frame is there
abbrev pub over_lent_link : ℕ → BooksView → Flight → Option Flight → BooksView
over_lent_link k b f None = lent_lost k (record b { log = b.log ++ lost_at f 0 ∷ [] })
over_lent_link k b f (Some g) = record b { held = None; lent = Some g }

abbrev pub lent_home : ℕ → BooksView → Option Flight → BooksView
lent_home k b None = lent_lost k b
lent_home k b (Some f) =
    over_lent_link k (record b { crossings = risen b.crossings }) f (hit (next_fault b.plan b.crossings) f)

-- the same by who controls: a second controller, or the host
abbrev pub controlled_home : Bool → ℕ → BooksView → Option Flight → BooksView
controlled_home true k b flight = lent_home k b flight
controlled_home false k b flight = home b flight

-- the books after a trip
abbrev pub books_controlled : BooksView → ControlledTrip → BooksView
books_controlled b u = record (books_at b u.trip) { kept = u.kept }

-- ---- a round

-- A frame goes past the devices before the drive, the drive, the devices after it and a second controller, if there is
-- one, and comes home to the host: if a second controller then controls it is there.
pub record ControlledRound {M : Type 0} (view : M → MediumView) (r : RingView M) (f : Flight) (answer : Arrival)
    (s : RingView M) : Type 0 where
  pub boxed : List DeviceState
  pub boxed_then : List DeviceState
  pub guest : Option GuestState
  pub guest_then : Option GuestState
  pub after : r.after ≡ boxed ++ guest_devices guest
  pub after_then : s.after ≡ boxed_then ++ guest_devices guest_then
  pub mind : r.guest ≡ guest_mind guest
  pub mind_then : s.guest ≡ guest_mind guest_then
  pub at_drive : Trip
  pub past_drive : Trip
  pub at_last : Trip
  pub past_all : ControlledTrip
  pub to_drive : Journey r.books.plan 1 (trip_of r.books (Some f)) r.before at_drive s.before
  pub at : Passage (DriveTakes view) r.books.plan (length r.before + 1) at_drive r.drive past_drive s.drive
  pub from_drive : Journey r.books.plan (length r.before + 2) past_drive boxed at_last boxed_then
  pub past_last : LastPassage r.books.plan (length (devices_of r)) at_last r.books.kept guest past_all guest_then
  pub books : s.books ≡ controlled_home (leads s.guest) (length (devices_of r)) (books_controlled r.books past_all) past_all.trip.flight
  pub answer_is : answer ≡ arrived (arriving r.books.plan past_all.trip.crossings past_all.trip.flight)

-- ---- control is taken back

-- the entry of a frame that party k takes, if any
abbrev pub entry_of_kept : ℕ → Option Flight → List Entry
entry_of_kept k None = []
entry_of_kept k (Some f) = ended_at f k ∷ []

-- the frame that is at the host ends there, and directly before it the one that party k keeps
abbrev pub lending_ended : ℕ → BooksView → BooksView
lending_ended k b = record b { log = (b.log ++ entry_of_kept k b.kept) ++ entry_of_kept 0 b.lent; lent = None; kept = None }

abbrev pub taken_back : {M : Type 0} → RingView M → RingView M
taken_back r = record r { books = lending_ended (length (devices_of r)) r.books }

-- as the host is about to send a frame
abbrev pub taken_back_if : {M : Type 0} → Bool → RingView M → RingView M
taken_back_if true r = taken_back r
taken_back_if false r = r

abbrev pub about_to_send : {M : Type 0} → RingView M → RingView M
about_to_send r = taken_back_if (leads r.guest) r

-- as the host controls the loop
abbrev pub as_host : GuestMind → GuestMind
as_host mind = record mind { control = control.Host }

-- the ring as the host controls it
abbrev pub host_leads : {M : Type 0} → RingView M → RingView M
host_leads r = record r { guest = option_map as_host r.guest }

-- An IFC went round a lent ring, or one whose second controller has fallen silent: what was lent has ended, and the frame
-- went round as on a ring that the host controls. The host controls again if it came to the second controller, and so
-- if it came back.
pub record TakesBack {M : Type 0} (view : M → MediumView) (r : RingView M) (f : Frame) (answer : Arrival)
    (s : RingView M) : Type 0 where
  pub round : Round view (host_leads (taken_back r)) r.books.held (sourced 0 f) answer (host_leads s)
  pub mind : (s ≡ host_leads s) ⊎ ((s.guest ≡ r.guest) × (answer ≡ arrival.Lost))

-- ---- the frame that is at the host goes on

-- it is not there any more
abbrev pub going_on : {M : Type 0} → RingView M → RingView M
going_on r = record r { books = record r.books { lent = None } }

-- ---- at every moment

-- If party k is at this place of its rounds, this frame is at the host, and it keeps this one, or none: its own frame
-- is there that it sent last, or the data or end frame of another that it has let go.
abbrev pub StandsAt : ℕ → Place → Flight → Option Flight → Type 0
StandsAt k (place.Held a d) f kept = (f ≡ sourced k nrd) × (h : Flight) × (kept ≡ Some h) × (h.now ≡ d)
StandsAt k (place.Relayed a d) f kept = (is_data f.now ≡ true) × (kept ≡ None)
StandsAt k p f kept = (f ≡ sourced k (sent_at p)) × (kept ≡ None)

abbrev pub StandsUnder : ℕ → Control → Flight → Option Flight → Type 0
StandsUnder k (control.Rounds p) f kept = StandsAt k p f kept
StandsUnder k c f kept = ⊥

-- a frame is at the host of a lent ring; of any other none is, and none is kept
abbrev pub StandsLent : ℕ → Option GuestMind → Option Flight → Option Flight → Type 0
StandsLent k mind None kept = kept ≡ None
StandsLent k None (Some f) kept = ⊥
StandsLent k (Some mind) (Some f) kept = StandsUnder k mind.control f kept

-- what arrived is at the host; or nothing did, and the ring is lent no more
abbrev pub StandsNow : Arrival → Option Flight → Type 0
StandsNow arrival.Lost lent = lent ≡ None
StandsNow (arrival.Frame g) lent = (f : Flight) × (lent ≡ Some f) × (f.now ≡ g)

-- what holds of a ring at every moment at which a second controller controls it, lent or not
pub record IsControlled {M : Type 0} (r : RingView M) : Type 0 where
  pub few : length r.before + length r.after ≤ 29
  pub plan : IsPlan r.books.plan
  pub crossings : r.books.crossings ≤ last_crossing
  pub held : r.books.held ≡ None
  pub drive : (n : ℕ) × IsDrive n r.drive.state
  pub leads : leads r.guest ≡ true
  pub stands : StandsLent (length (devices_of r)) r.guest r.books.lent r.books.kept
  pub told : ShowsPlan r.books
