-- A loop as a second controller sees it: it is the host of a ring of the devices before it. Its frames and its place in
-- the log have the number of its party there, and 0 here; the ends of the way from it to itself are the same.
use Rattle.std.specs.Prelude.{◌≡◌, ◌<◌, ◌==◌, ◌⊎◌, ◌++◌, ◌&&◌, ◌||◌, not, nat_le, if◌then◌else◌, Bool, true, false, ℕ, zero, suc, List, [], ◌∷◌, length, map, Option, Some, None}
use Rattle.il_frames.specs.declared.entry.Entry.{Entry}
use Rattle.il_frames.specs.declared.entry.Outcome.{Outcome}
use Rattle.il_frames.specs.declared.entry.Outcome.TheVariants as outcome
use Rattle.il_frames.specs.declared.message.Message.{Message}
use Rattle.il_frames.specs.declared.message.Message.TheVariants as msg
use Rattle.il_frames.specs.Frames.{is_data}
use Rattle.il_frames.specs.Messages.{message_of}
use Rattle.il_frames.specs.NamedFrames.{entry, nrd, rfc}
use Rattle.il_device.specs.declared.roles.Roles.{Roles}
use Rattle.il_device.specs.State.{DeviceState, risen}
use Rattle.loop_model.specs.Roles.{roles_by}
use Rattle.il_guest.specs.declared.control.Control.{Control}
use Rattle.il_guest.specs.declared.control.Control.TheVariants as control
use Rattle.il_guest.specs.declared.control.Place.TheVariants as place
use Rattle.il_guest.specs.declared.guest.GuestOut.{GuestOut}
use Rattle.il_guest.specs.Frames.{sst}
use Rattle.il_guest.specs.State.{GuestState, is_leading}
use Rattle.il_guest.specs.Steps.{command_frame}
use Rattle.il_guest.specs.Takes.{GuestTakes}
use Rattle.il_ports.specs.Media.{MediumView}
use Rattle.il_ring.specs.declared.plan.Arrival.{Arrival}
use Rattle.il_ring.specs.declared.plan.Arrival.TheVariants as arrival
use Rattle.il_ring.specs.declared.flight.Flight.{Flight}
use Rattle.il_ring.specs.Plans.{next_fault}
use Rattle.il_ring.specs.Flights.{hit, sourced}
use Rattle.il_ring.specs.Books.{BooksView}
use Rattle.il_ring.specs.Guests.{mind_of}
use Rattle.il_ring.specs.Lending.{ControlledTrip, books_controlled, entry_of_kept, controlled_answers, controlled_home}
use Rattle.il_ring.specs.Rings.{RingView, Round, arrived, arriving, comes, devices_of}

-- the party that is 0 if it is the host's
abbrev pub turned : ℕ → ℕ → ℕ
turned k zero = k
turned k (suc party) = suc party

abbrev pub turned_outcome : ℕ → Outcome → Outcome
turned_outcome k (outcome.Back f) = outcome.Back f
turned_outcome k (outcome.Taken q) = outcome.Taken (turned k q)
turned_outcome k (outcome.Lost q) = outcome.Lost (turned k q)

-- the entry of a loop whose controller is party k, that would be this one if the host is
abbrev pub turned_entry : ℕ → Entry → Entry
turned_entry k e = entry (turned k e.source) e.frame (turned_outcome k e.outcome)

abbrev pub turned_entries : ℕ → List Entry → List Entry
turned_entries k entries = map (turned_entry k) entries

-- the same of a frame on its way
abbrev pub turned_flight : ℕ → Flight → Flight
turned_flight k f = record f { source = turned k f.source }

-- ---- entries of a ring, and what they do to a host that has roles

-- a frame of this source ends so on a ring of n devices: at one of its parties, and a frame of the host is not taken by the host
abbrev pub ends_on : ℕ → ℕ → Outcome → Bool
ends_on n source (outcome.Back f) = true
ends_on n source (outcome.Taken q) = nat_le q n && (nat_le 1 source || nat_le 1 q)
ends_on n source (outcome.Lost q) = nat_le q n

-- The entry is of a ring of n devices: its source is a party of that ring, and so is the party that took the frame or before which it was
-- lost; none of the host's frames was taken by the host.
abbrev pub is_on : ℕ → Entry → Bool
is_on n e = nat_le e.source n && ends_on n e.source e.outcome

-- the message gives an address to a device that has none
abbrev pub is_auto_address : Message → Bool
is_auto_address (msg.Aad a) = true
is_auto_address m = false

-- the entry is no such message of the host
abbrev pub gives_no_address : Entry → Bool
gives_no_address e = not ((e.source == 0) && is_auto_address (message_of e.frame))

-- what the host itself, as one that has roles, does with them at an entry: it takes its own messages as the devices do
abbrev pub own_roles_entry : Roles → Entry → Roles
own_roles_entry r e = if e.source == 0 then roles_by (message_of e.frame) r else r

-- and after these entries, in their order
abbrev pub own_roles : Roles → List Entry → Roles
own_roles r [] = r
own_roles r (e ∷ es) = own_roles (own_roles_entry r e) es

-- ---- rings and frames

-- the ring of the drive and these devices before and after it, without the last, with these books
abbrev pub ring_before_last : {M : Type 0} → List DeviceState → BooksView → RingView M → RingView M
ring_before_last boxed b r = record r { after = boxed; guest = None; books = b }

-- if nothing is in the log yet, and this frame is held, or none
abbrev pub books_anew : Option Flight → BooksView → BooksView
books_anew held b = record b { log = []; held = held; lent = None; kept = None }

-- ---- what goes out

-- the frame that goes out as a second controller comes to stand so, if it keeps this one, or none
abbrev pub goes_out : ℕ → Control → Option Flight → Option Flight
goes_out k (control.Rounds (place.Command c)) kept = Some (sourced k (command_frame c))
goes_out k (control.Rounds (place.Ready c)) kept = Some (sourced k rfc)
goes_out k (control.Rounds (place.Start a)) kept = Some (sourced k sst)
goes_out k (control.Rounds (place.Held a d)) kept = Some (sourced k nrd)
goes_out k (control.Rounds (place.Relayed a d)) kept = kept
goes_out k control.Silent kept = None
goes_out k control.Host kept = None

-- what it keeps then
abbrev pub keeps_then : Control → Option Flight → Option Flight
keeps_then (control.Rounds (place.Relayed a d)) kept = None
keeps_then c kept = kept

-- after these entries this frame is at the host, as it came over the last link, and that one is kept
pub record StandsThere {M : Type 0} (r : RingView M) (entries : List Entry) (out : Flight) (kept : Option Flight) (before : ℕ) (answer : Arrival)
    (s : RingView M) : Type 0 where
  pub at : Flight
  pub came : hit (next_fault r.books.plan before) out ≡ Some at
  pub answer_is : answer ≡ arrival.Frame at.now
  pub log_is : s.books.log ≡ r.books.log ++ entries
  pub lent_is : s.books.lent ≡ Some at
  pub kept_is : s.books.kept ≡ kept
  pub crossings : s.books.crossings ≡ risen before

-- nothing does: after these entries and that of the frame that was kept, if any, the log ends with these
pub record StandsNot {M : Type 0} (r : RingView M) (entries : List Entry) (kept : Option Flight) (last : List Entry) (crossings : ℕ) (answer : Arrival)
    (s : RingView M) : Type 0 where
  pub answer_is : answer ≡ arrival.Lost
  pub log_is : s.books.log ≡ r.books.log ++ (entries ++ (entry_of_kept (length (devices_of r)) kept ++ last))
  pub lent_is : s.books.lent ≡ None
  pub kept_is : s.books.kept ≡ None
  pub crossings_are : s.books.crossings ≡ crossings

-- ---- a pass in two halves

-- The second controller, in the state g, was to take what came over the link to it, and is then in the state h; nothing came to it, or this
-- frame did, which it answered. In the words of the ring of the others, after these entries: what came home there, and its books then.
pub record NothingCame (k : ℕ) (log : List Entry) (kept : Option Flight) (g h : GuestState) (past_all : ControlledTrip) (arrives : Arrival) (own : BooksView) :
    Type 0 where
  pub arrives_is : arrives ≡ arrival.Lost
  pub same : h ≡ g
  pub flight : past_all.trip.flight ≡ None
  pub keeps : past_all.kept ≡ kept
  pub log_is : past_all.trip.log ≡ log ++ turned_entries k own.log
  pub crossings : past_all.trip.crossings ≡ own.crossings
  pub held : own.held ≡ None

pub record SomeCame (k : ℕ) (log : List Entry) (kept : Option Flight) (b : BooksView) (g h : GuestState) (past_all : ControlledTrip) (arrives : Arrival)
    (own : BooksView) : Type 0 where
  pub at : Flight
  pub within : at.source < k
  pub arrives_is : arrives ≡ arrival.Frame at.now
  pub out : GuestOut
  pub takes : GuestTakes g at.now out h
  pub count : ℕ
  pub entries : List Entry
  pub past_all_is : past_all ≡ controlled_answers count (log ++ turned_entries k entries) k (turned_flight k at) kept out
  pub own_is : own ≡ comes (record b { crossings = count; log = entries }) at (at.source == 0) (is_data at.now)

-- A round of the lent ring r, which begins with this frame at the host: it is first one of the ring of the devices before the second
-- controller, with that one in the host's place, which then answers; and what goes out comes home.
pub record HalvesOfRound {M : Type 0} (view : M → MediumView) (r : RingView M) (held : Option Flight) (f : Flight) (answer : Arrival) (s : RingView M) : Type 0 where
  pub boxed : List DeviceState
  pub boxed_then : List DeviceState
  pub g : GuestState
  pub h : GuestState
  pub after : r.after ≡ boxed ++ g.device ∷ []
  pub after_then : s.after ≡ boxed_then ++ h.device ∷ []
  pub mind : r.guest ≡ Some (mind_of g)
  pub mind_then : s.guest ≡ Some (mind_of h)
  pub before : length s.before ≡ length r.before
  pub same_many : length boxed_then ≡ length boxed
  pub arrives : Arrival
  pub own : BooksView
  pub its_round :
      Round view (ring_before_last boxed (books_anew held r.books) r) held f arrives (ring_before_last boxed_then own s)
  pub past_all : ControlledTrip
  pub came :
      NothingCame (length (devices_of r)) r.books.log r.books.kept g h past_all arrives own
      ⊎ SomeCame (length (devices_of r)) r.books.log r.books.kept (books_anew held r.books) g h past_all arrives own
  pub books : s.books ≡ controlled_home (is_leading h.control) (length (devices_of r)) (books_controlled r.books past_all) past_all.trip.flight
  pub answer_is : answer ≡ arrived (arriving r.books.plan past_all.trip.crossings past_all.trip.flight)
