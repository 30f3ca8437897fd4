-- What became of a ring as the host sent TCT to a second controller that talks.
use Rattle.std.specs.Prelude.{◌≡◌, ◌⊎◌, ◌≤◌, ◌++◌, ℕ, List, [], ◌∷◌, Some, None, length}
use Rattle.il_frames.specs.declared.entry.Outcome.TheVariants as outcome
use Rattle.il_frames.specs.Messages.{message_of}
use Rattle.il_frames.specs.NamedFrames.{entry}
use Rattle.il_device.specs.State.{DeviceState, risen}
use Rattle.il_drive.specs.State.{device_of}
use Rattle.il_guest.specs.Courses.{first_control}
use Rattle.il_guest.specs.Frames.{nop, tct}
use Rattle.il_guest.specs.State.{GuestState}
use Rattle.il_ring.specs.declared.plan.Arrival.{Arrival}
use Rattle.il_ring.specs.declared.plan.Arrival.TheVariants as arrival
use Rattle.il_ring.specs.Flights.{hit, lost_at, sourced}
use Rattle.il_ring.specs.Guests.{mind_of}
use Rattle.il_ring.specs.Lists.{First}
use Rattle.il_ring.specs.Outcomes.{Obeys}
use Rattle.il_ring.specs.Plans.{next_fault}
use Rattle.il_ring.specs.Rings.{RingView, devices_of}
use Rattle.il_ring.specs.Turned.{StandsNot, StandsThere}

-- It was lost before this party, and the host controls still.
pub record HandLost {M : Type 0} (r : RingView M) (answer : Arrival) (s : RingView M) : Type 0 where
  pub party : ℕ
  pub some : 1 ≤ party
  pub on_ring : party ≤ length (devices_of r)
  pub answer_is : answer ≡ arrival.Lost
  pub log_is : s.books.log ≡ r.books.log ++ entry 0 tct (outcome.Lost party) ∷ []
  pub guest_is : s.guest ≡ r.guest

-- The last party took it, and its NOP is at the host or was lost on the last link.
pub record HandedOver {M : Type 0} (r : RingView M) (answer : Arrival) (s : RingView M) : Type 0 where
  pub boxed : List DeviceState
  pub boxed_then : List DeviceState
  pub g : GuestState
  pub h : GuestState
  pub after : r.after ≡ boxed ++ g.device ∷ []
  pub after_then : s.after ≡ boxed_then ++ h.device ∷ []
  pub mind : r.guest ≡ Some (mind_of g)
  pub mind_then : s.guest ≡ Some (mind_of h)
  pub control : h.control ≡ first_control
  pub last : h.last ≡ g.last
  pub roles : h.device.roles ≡ g.device.roles
  pub obeyed : First (Obeys (message_of tct)) (length (r.before ++ device_of r.drive.state ∷ boxed)) (r.before ++ device_of r.drive.state ∷ boxed) (s.before ++ device_of s.drive.state ∷ boxed_then)
  pub out : (before : ℕ) × (StandsThere r (entry 0 tct (outcome.Taken (length (devices_of r))) ∷ []) (sourced (length (devices_of r)) nop) None before answer s
      ⊎ (StandsNot r (entry 0 tct (outcome.Taken (length (devices_of r))) ∷ []) None (lost_at (sourced (length (devices_of r)) nop) 0 ∷ []) (risen before) answer s
      × (hit (next_fault r.books.plan before) (sourced (length (devices_of r)) nop) ≡ None)))
  pub later : r.books.crossings ≤ out.0
