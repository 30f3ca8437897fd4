-- How a frame goes from party to party.
use Rattle.std.specs.Prelude.{◌≡◌, ◌+◌, ℕ, Bool, true, false, Option, Some, None, List, [], ◌∷◌, ◌++◌}
use Rattle.il_frames.specs.declared.frame.Frame.{Frame}
use Rattle.il_frames.specs.declared.frame.Class.{Class}
use Rattle.il_frames.specs.declared.frame.Class.TheVariants as class
use Rattle.il_frames.specs.declared.message.Message.{Message}
use Rattle.il_frames.specs.declared.message.Message.TheVariants as msg
use Rattle.il_frames.specs.Frames.{class_of}
use Rattle.il_frames.specs.declared.entry.Entry.{Entry}
use Rattle.il_device.specs.declared.device.Out.{Out}
use Rattle.il_device.specs.declared.device.Out.TheVariants.{Pass, Source}
use Rattle.il_device.specs.State.{DeviceState, risen}
use Rattle.il_device.specs.Takes.{Takes}
use Rattle.il_ports.specs.Media.{MediumView}
use Rattle.il_drive.specs.State.{DriveView, IsDrive, device_of}
use Rattle.il_drive.specs.Steps.{Did}
use Rattle.il_drive.specs.Table.{drive_step}
use Rattle.il_ring.specs.declared.plan.Planned.{Planned}
use Rattle.il_ring.specs.declared.flight.Flight.{Flight}
use Rattle.il_ring.specs.Plans.{next_fault}
use Rattle.il_ring.specs.Flights.{sourced, hit, lost_at, ended_at}
use Rattle.il_ring.specs.Books.{BooksView}

-- the crossings so far, the log, and the frame that is on its way, none if it was lost
pub record Trip : Type 0 where
  pub crossings : ℕ
  pub log : List Entry
  pub flight : Option Flight

abbrev pub trip : ℕ → List Entry → Option Flight → Trip
trip n log flight = record { crossings = n; log = log; flight = flight }

-- with these books
abbrev pub trip_of : BooksView → Option Flight → Trip
trip_of b flight = trip b.crossings b.log flight

-- party k has answered the frame: it goes on, or ends there and the party's own goes on
abbrev pub answered : ℕ → List Entry → ℕ → Flight → Out → Trip
answered n log k f (Pass g) = trip n log (Some (record f { now = g }))
answered n log k f (Source g) = trip n (log ++ ended_at f k ∷ []) (Some (sourced k g))

-- the frame was lost before party k
abbrev pub missed : ℕ → List Entry → ℕ → Flight → Trip
missed n log k f = trip n (log ++ lost_at f k ∷ []) None

-- after the link the frame comes to party k, or was lost
abbrev pub Meets : {D : Type 0} → (D → Frame → Out → D → Type 0) → ℕ → Trip → Flight → Option Flight → D → Trip → D → Type 0
Meets takes k t f None d u e = (u ≡ missed (risen t.crossings) t.log k f) × (e ≡ d)
Meets takes k t f (Some g) d u e = (out : Out) × takes d g.now out e × (u ≡ answered (risen t.crossings) t.log k g out)

abbrev pub Reaches : {D : Type 0} → (D → Frame → Out → D → Type 0) → List Planned → ℕ → Trip → Option Flight → D → Trip → D → Type 0
Reaches takes plan k t None d u e = (u ≡ t) × (e ≡ d)
Reaches takes plan k t (Some f) d u e = Meets takes k t f (hit (next_fault plan t.crossings) f) d u e

-- the trip t goes over the link to party k, in the state d, which takes the frame; the trip is then u, and the state e
abbrev pub Passage : {D : Type 0} → (D → Frame → Out → D → Type 0) → List Planned → ℕ → Trip → D → Trip → D → Type 0
Passage takes plan k t d u e = Reaches takes plan k t t.flight d u e

-- the trip t goes past the parties from k on, whose states ds become es, and is then u
abbrev pub Journey : List Planned → ℕ → Trip → List DeviceState → Trip → List DeviceState → Type 0
Journey plan k t [] u [] = u ≡ t
Journey plan k t (d ∷ ds) u (e ∷ es) = (m : Trip) × Passage Takes plan k t d m e × Journey plan (k + 1) m ds u es
Journey plan k t [] u (e ∷ es) = ⊥
Journey plan k t (d ∷ ds) u [] = ⊥

-- the drive takes a frame as every device does, and as its table says, and keeps its law
pub record DriveTakes {M : Type 0} (view : M → MediumView) (d : DriveView M) (f : Frame) (out : Out) (e : DriveView M) : Type 0 where
  pub takes : Takes (device_of d.state) f out (device_of e.state)
  pub did : Did view (drive_step (view d.medium).record_count d.state f) (e.state, out) d.medium e.medium
  pub law : IsDrive (view e.medium).record_count e.state

-- a message whose frame goes on as it is, or as the next AAD
abbrev pub is_exact : Message → Bool
is_exact (msg.Dab b) = false
is_exact (msg.Dsr b) = false
is_exact (msg.End b) = false
is_exact (msg.Esr b) = false
is_exact (msg.Idy b) = false
is_exact (msg.Isr b) = false
is_exact m = true

abbrev pub is_identify_class : Class → Bool
is_identify_class class.Idy = true
is_identify_class class.Isr = true
is_identify_class _ = false

abbrev pub is_identify : Frame → Bool
is_identify f = is_identify_class (class_of f)
