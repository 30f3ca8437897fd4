-- What contracts see of a ring, and what becomes of a frame that goes round.
use Rattle.std.specs.Prelude.{◌≡◌, ◌≢◌, ◌≤◌, ◌+◌, ◌-◌, ◌==◌, ℕ, Bool, true, false, List, [], ◌∷◌, ◌++◌, length, map, Option, Some, None, find, option_map}
use Rattle.il_frames.specs.Frames.{is_data}
use Rattle.il_device.specs.declared.roles.Roles.{Roles}
use Rattle.il_device.specs.State.{DeviceState, IsDevice, IsIdle, risen}
use Rattle.il_ports.specs.Media.{MediumView}
use Rattle.il_drive.specs.State.{DriveView, IsDrive, device_of, drive_id}
use Rattle.il_ring.specs.declared.plan.Planned.{Planned}
use Rattle.il_ring.specs.declared.flight.Flight.{Flight}
use Rattle.il_ring.specs.declared.plan.Arrival.{Arrival}
use Rattle.il_ring.specs.declared.plan.Arrival.TheVariants as arrival
use Rattle.il_ring.specs.Plans.{next_fault, last_crossing, IsPlan}
use Rattle.il_ring.specs.Flights.{hit, lost_at, ended_at}
use Rattle.il_ring.specs.Books.{BooksView, IsHeld, books_emptied}
use Rattle.il_ring.specs.Fates.{ShowsPlan}
use Rattle.il_ring.specs.Journeys.{Trip, trip_of, Passage, Journey, DriveTakes}
use Rattle.il_ring.specs.Guests.{GuestMind}

-- the devices before the drive, the drive with its medium, the devices after it, a second controller's last among them, what
-- such a one has in mind, and the books
pub record RingView (M : Type 0) : Type 0 where
  pub before : List DeviceState
  pub drive : DriveView M
  pub after : List DeviceState
  pub guest : Option GuestMind
  pub books : BooksView

-- all devices in the order of the ring: the first is party 1
abbrev pub devices_of : {M : Type 0} → RingView M → List DeviceState
devices_of r = r.before ++ device_of r.drive.state ∷ r.after

-- their roles
abbrev pub roles_of : List DeviceState → List Roles
roles_of devices = map (λ d. d.roles) devices

-- the drive's party
abbrev pub drive_party : {M : Type 0} → RingView M → ℕ
drive_party r = length r.before + 1

-- how many more entries the log has room for
abbrev pub spare_of : {M : Type 0} → RingView M → ℕ
spare_of r = r.books.room - length r.books.log

-- what holds of a ring at every moment at which it is not lent; its drive is one over a tape of some number of records, no
-- frame is held as on a lent ring, and its log shows the planned faults as they were planned
pub record IsRing {M : Type 0} (r : RingView M) : Type 0 where
  pub few : length r.before + length r.after ≤ 29
  pub plan : IsPlan r.books.plan
  pub crossings : r.books.crossings ≤ last_crossing
  pub held : IsHeld r.books.held
  pub drive : (n : ℕ) × IsDrive n r.drive.state
  pub lent : r.books.lent ≡ None
  pub kept : r.books.kept ≡ None
  pub told : ShowsPlan r.books

-- ---- a new ring

-- nothing has come to it, and it is no second drive
abbrev pub IsNewcomer : DeviceState → Type 0
IsNewcomer d = IsIdle d × (d.accessory ≢ Some drive_id)

-- a device that may be on a new ring: a newcomer, which keeps the rules of every device
abbrev pub MayStand : DeviceState → Type 0
MayStand d = IsIdle d × (d.accessory ≢ Some drive_id) × IsDevice d

-- nothing has happened yet
abbrev pub fresh_books : List Planned → ℕ → BooksView
fresh_books plan room = record { plan = plan; crossings = 0; begun = 0; log = []; room = room; held = None; lent = None; kept = None }

-- with an empty log
abbrev pub ring_emptied : {M : Type 0} → RingView M → RingView M
ring_emptied r = record r { books = books_emptied r.books }

-- with this frame at the host, or none
abbrev pub with_held : {M : Type 0} → RingView M → Option Flight → RingView M
with_held r held = record r { books = record r.books { held = held } }

-- ---- the printer

-- the accessory ID of a printer
abbrev pub printer_id : ℕ
printer_id = 32

abbrev pub has_id : ℕ → Option ℕ → Bool
has_id id None = false
has_id id (Some other) = other == id

-- what the first device that is a printer has kept of what it heard, and how many bytes it heard
abbrev pub paper_of : List DeviceState → Option (List ℕ × ℕ)
paper_of devices = option_map (λ d. (d.heard, d.heard_count)) (find (λ d. has_id printer_id d.accessory) devices)

-- ---- one round

-- The frame has come to the host. Its own ends there; a data or end frame of a device is held there, and any other frame
-- of a device is taken.
abbrev pub comes : BooksView → Flight → Bool → Bool → BooksView
comes b f true is_data_frame = record b { log = b.log ++ ended_at f 0 ∷ [] }
comes b f false true = record b { held = Some f }
comes b f false false = record b { log = b.log ++ ended_at f 0 ∷ []; held = None }

-- after the last link, which leads to the host; a loss drops the held frame
abbrev pub over_last_link : BooksView → Flight → Option Flight → BooksView
over_last_link b f None = record b { log = b.log ++ lost_at f 0 ∷ []; held = None }
over_last_link b f (Some g) = comes b g (g.source == 0) (is_data g.now)

-- the frame that arrives at the host
abbrev pub arriving : List Planned → ℕ → Option Flight → Option Flight
arriving plan n None = None
arriving plan n (Some f) = hit (next_fault plan n) f

abbrev pub home : BooksView → Option Flight → BooksView
home b None = record b { held = None }
home b (Some f) = over_last_link (record b { crossings = risen b.crossings }) f (hit (next_fault b.plan b.crossings) f)

abbrev pub arrived : Option Flight → Arrival
arrived None = arrival.Lost
arrived (Some f) = arrival.Frame f.now

-- the books after a trip
abbrev pub books_at : BooksView → Trip → BooksView
books_at b t = record b { crossings = t.crossings; log = t.log }

-- A frame goes past the devices before the drive, the drive and the devices after it, and comes home to the host, or is
-- lost on its way. The ring is r before and s then, and `held` was at the host meanwhile.
pub record Round {M : Type 0} (view : M → MediumView) (r : RingView M) (held : Option Flight) (f : Flight) (answer : Arrival) (s : RingView M) : Type 0 where
  pub at_drive : Trip
  pub past_drive : Trip
  pub past_all : Trip
  pub to_drive : Journey r.books.plan 1 (trip_of r.books (Some f)) r.before at_drive s.before
  pub at : Passage (DriveTakes view) r.books.plan (length r.before + 1) at_drive r.drive past_drive s.drive
  pub from_drive : Journey r.books.plan (length r.before + 2) past_drive r.after past_all s.after
  pub guest : s.guest ≡ r.guest
  pub books : s.books ≡ home (books_at (record r.books { held = held }) past_all) past_all.flight
  pub answer_is : answer ≡ arrived (arriving r.books.plan past_all.crossings past_all.flight)
