-- A second controller that polls, at every moment at which a frame is at the host: where it is in its rounds, and what the loop is then.
use Rattle.std.specs.Prelude.{◌≡◌, ◌≤◌, ◌+◌, ◌++◌, ℕ, true, List, [], ◌∷◌, Option, Some, None, length, count_by}
use Rattle.il_control.specs.Receives.{IsCalm, IsDeaf, IsHolding}
use Rattle.il_device.specs.State.{DeviceState}
use Rattle.il_device.specs.declared.roles.Roles.{Roles}
use Rattle.il_frames.specs.NamedFrames.{entry, nrd, rfc, tad, unl, unt}
use Rattle.il_frames.specs.declared.entry.Entry.{Entry}
use Rattle.il_frames.specs.declared.entry.Outcome.TheVariants as outcome
use Rattle.il_frames.specs.declared.frame.Frame.{Frame}
use Rattle.il_guest.specs.Frames.{nop, sst}
use Rattle.il_guest.specs.Rounds.{addresses}
use Rattle.il_guest.specs.Steps.{IsRoundPlace, command_frame}
use Rattle.il_guest.specs.declared.control.Command.{Command}
use Rattle.il_guest.specs.declared.control.Command.TheVariants as command
use Rattle.il_guest.specs.declared.control.Control.TheVariants as control
use Rattle.il_guest.specs.declared.control.Place.{Place}
use Rattle.il_guest.specs.declared.control.Place.TheVariants as place
use Rattle.il_ports.specs.Media.{MediumView}
use Rattle.il_ring.specs.Flights.{sourced}
use Rattle.il_ring.specs.Guests.{GuestMind}
use Rattle.il_ring.specs.Lending.{IsControlled, going_on}
use Rattle.il_ring.specs.Lends.{RoundsEnd, end_entries, is_break_end, is_end_at, rounds_entries}
use Rattle.il_ring.specs.Lists.{Each}
use Rattle.il_ring.specs.Remaining.{AreRounds, BeginRounds, from_byte, from_command, from_ready, from_start}
use Rattle.il_ring.specs.Rings.{RingView, devices_of, roles_of}
use Rattle.il_ring.specs.Turned.{books_anew, ring_before_last}
use Rattle.il_ring.specs.declared.flight.Flight.{Flight}
use Rattle.loop_model.specs.Exchanges.{Answer, Sst, answer_entries, commanded, is_answer, is_echo, receive_front, returned, start_frame}
use Rattle.loop_model.specs.Reach.{brings_to}
use Rattle.loop_model.specs.Roles.{are_numbered, roles_after, talkers}
use Rattle.il_ring.specs.Remaining.{Follow}

-- with this frame held, or none
abbrev pub own_ring : {M : Type 0} → List DeviceState → Option Flight → RingView M → RingView M
own_ring boxed held r = ring_before_last boxed (books_anew held r.books) r

-- ---- since an address is asked

-- these entries were made since the address that is asked now is asked, in the words of the host of the other devices
abbrev pub SinceCommand : Command → List Entry → Type 0
SinceCommand command.Nop since = since ≡ []
SinceCommand (command.Unl a) since = since ≡ []
SinceCommand (command.Tad a) since = since ≡ commanded 0 unl
SinceCommand (command.Unt a) since = (answer : Answer) × (is_answer 0 answer ≡ true) × (since ≡ receive_front 0 a None ++ answer_entries 0 (start_frame Sst) answer)

abbrev pub SinceReady : Command → List Entry → Type 0
SinceReady command.Nop since = since ≡ returned 0 nop ∷ []
SinceReady (command.Unl a) since = since ≡ returned 0 unl ∷ []
SinceReady (command.Tad a) since = since ≡ commanded 0 unl ++ returned 0 (tad a) ∷ []
SinceReady (command.Unt a) since = (answer : Answer) × (is_answer 0 answer ≡ true) × (since ≡ receive_front 0 a None ++ (answer_entries 0 (start_frame Sst) answer ++ returned 0 unt ∷ []))

-- Before the first of them no device talked, and each had its number as address; these are their roles now.
pub record AskedSince (P : List Entry → Type 0) (front : List DeviceState) : Type 0 where
  pub before : List Roles
  pub silent : talkers before ≡ []
  pub numbered : are_numbered 1 before ≡ true
  pub since : List Entry
  pub made : P since
  pub roles : roles_of front ≡ roles_after before since

-- ---- nobody listens, and nobody sends

-- after UNL nobody listens, and after a talk address nobody has a frame of its own on the loop either
abbrev pub QuietCommand : Command → List DeviceState → Type 0
QuietCommand command.Nop front = Unit {0}
QuietCommand (command.Unl a) front = Unit {0}
QuietCommand (command.Tad a) front = Each IsDeaf 1 front
QuietCommand (command.Unt a) front = Unit {0}

abbrev pub QuietReady : Command → List DeviceState → Type 0
QuietReady command.Nop front = Unit {0}
QuietReady (command.Unl a) front = Each IsDeaf 1 front
QuietReady (command.Tad a) front = Each IsCalm 1 front
QuietReady (command.Unt a) front = Unit {0}

-- ---- the end of rounds

-- After these entries this end is in the place of one that is due.
pub record RoundsEndSo (k : ℕ) (asked : List ℕ) (entries tail : List Entry) (end : RoundsEnd) : Type 0 where
  pub all : List (List Answer)
  pub rounds_are : AreRounds k asked all
  pub due : Entry
  pub more : List Entry
  pub rounds : rounds_entries k asked all ≡ entries ++ due ∷ more
  pub tail_is : tail ≡ end_entries k due more end
  pub legal : is_end_at k due more end ≡ true

-- how many frames came to the host
abbrev pub came_by : ℕ → List Entry → ℕ
came_by k entries = count_by (brings_to k 0) entries

-- ---- at every moment

module _ {M : Type 0} (view : M → MediumView) (k last : ℕ) (own : Option ℕ) (base : List Entry) where
  abbrev pub asked : List ℕ
  asked = addresses own last

  abbrev pub front_of : RingView M → List DeviceState → List DeviceState
  front_of r boxed = devices_of (own_ring boxed None (going_on r))

  -- a frame of its own other than NRD is at the host
  pub record OwnStands (r : RingView M) (boxed : List DeviceState) (f : Frame) (Q : List DeviceState → Type 0) (P : List Entry → Type 0) (entries : List Entry) (yet : List ℕ) (goes : List Answer → List (List Answer) → List Entry) : Type 0 where
    pub lent_is : r.books.lent ≡ Some (sourced k f)
    pub kept_is : r.books.kept ≡ None
    pub quiet : Q (front_of r boxed)
    pub since : AskedSince P (front_of r boxed)
    pub begun : BeginRounds k asked entries yet goes

  -- NRD does, and it keeps this byte
  pub record HeldStands (r : RingView M) (boxed : List DeviceState) (a : ℕ) (d : Frame) (more : List ℕ) (entries : List Entry) : Type 0 where
    pub flight : Flight
    pub lent_is : r.books.lent ≡ Some (sourced k nrd)
    pub kept_is : r.books.kept ≡ Some flight
    pub holding : IsHolding (own_ring boxed (Some flight) (going_on r))
    pub holding_is : holding.flight ≡ flight
    pub since : AskedSince (λ since. since ≡ receive_front 0 a None ++ entry 0 sst (outcome.Taken flight.source) ∷ []) (front_of r boxed)
    pub begun : (back : Frame) → is_echo (record { sent = flight.sent; back = back }) ≡ true → BeginRounds k asked entries more (λ now later. returned k nrd ∷ from_byte k asked more flight.source (record { sent = flight.sent; back = back }) now later)

  -- the byte does, and its source is stopped
  pub record ByteStands (r : RingView M) (boxed : List DeviceState) (a : ℕ) (more : List ℕ) (entries : List Entry) : Type 0 where
    pub flight : Flight
    pub lent_is : r.books.lent ≡ Some flight
    pub kept_is : r.books.kept ≡ None
    pub holding : IsHolding (own_ring boxed (Some flight) (going_on r))
    pub holding_is : holding.flight ≡ flight
    pub stopped : holding.own.stopped ≡ true
    pub since : AskedSince (λ since. since ≡ receive_front 0 a None ++ entry 0 sst (outcome.Taken flight.source) ∷ returned 0 nrd ∷ []) (front_of r boxed)
    pub begun : (back : Frame) → is_echo (record { sent = flight.sent; back = back }) ≡ true → BeginRounds k asked entries more (from_byte k asked more flight.source (record { sent = flight.sent; back = back }))

  abbrev pub FollowsAsked : Command → List ℕ → Type 0
  FollowsAsked command.Nop more = Unit {0}
  FollowsAsked (command.Unl a) more = Follow own last a more
  FollowsAsked (command.Tad a) more = Follow own last a more
  FollowsAsked (command.Unt a) more = Follow own last a more

  -- the addresses that are asked yet in this round
  abbrev pub yet_at : Command → List ℕ → List ℕ
  yet_at command.Nop more = asked
  yet_at (command.Unl a) more = a ∷ more
  yet_at (command.Tad a) more = a ∷ more
  yet_at (command.Unt a) more = more

  abbrev pub StandsSo : Place → RingView M → List DeviceState → List Entry → Type 0
  StandsSo (place.Command c) r boxed entries = (more : List ℕ) × FollowsAsked c more × OwnStands r boxed (command_frame c) (QuietCommand c) (SinceCommand c) entries (yet_at c more) (from_command k asked more c)
  StandsSo (place.Ready c) r boxed entries = (more : List ℕ) × FollowsAsked c more × OwnStands r boxed rfc (QuietReady c) (SinceReady c) entries (yet_at c more) (from_ready k asked more c)
  StandsSo (place.Start a) r boxed entries = (more : List ℕ) × Follow own last a more × OwnStands r boxed sst (Each IsCalm 1) (λ since. since ≡ receive_front 0 a None) entries (a ∷ more) (from_start k asked more)
  StandsSo (place.Held a d) r boxed entries = (more : List ℕ) × Follow own last a more × HeldStands r boxed a d more entries
  StandsSo (place.Relayed a d) r boxed entries = (more : List ℕ) × Follow own last a more × ByteStands r boxed a more entries

  -- This many frames have come to the host since the ring was lent, and the log has these entries more than at that moment.
  pub record Polling (r : RingView M) (arrived : ℕ) : Type 0 where
    pub controlled : IsControlled r
    pub many : length (devices_of r) ≡ k
    pub boxed : List DeviceState
    pub device : DeviceState
    pub after : r.after ≡ boxed ++ device ∷ []
    pub address : device.roles.address ≡ own
    pub mind : GuestMind
    pub mind_is : r.guest ≡ Some mind
    pub last_is : mind.last ≡ last
    pub place : Place
    pub at : mind.control ≡ control.Rounds place
    pub range : IsRoundPlace place
    pub entries : List Entry
    pub log : r.books.log ≡ base ++ entries
    pub arrivals : came_by k entries + 1 ≡ arrived
    pub short : length entries ≤ arrived + arrived
    pub stands : StandsSo place r boxed entries

  -- the rounds broke off by these last entries
  pub record BrokeOff (s : RingView M) (arrived : ℕ) : Type 0 where
    pub entries : List Entry
    pub tail : List Entry
    pub end : RoundsEnd
    pub ends : RoundsEndSo k asked entries tail end
    pub breaks : is_break_end end ≡ true
    pub log : s.books.log ≡ base ++ (entries ++ tail)
    pub arrivals : came_by k (entries ++ tail) + 1 ≤ arrived
    pub short : length (entries ++ tail) ≤ arrived + arrived + 1
    pub lent_is : s.books.lent ≡ None
