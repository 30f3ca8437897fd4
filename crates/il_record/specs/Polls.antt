-- A parallel poll of the first eight devices, and what its answer is (HP-IL Interface Specification, parallel poll).
use Rattle.std.specs.Prelude.{◌≡◌, ◌≤◌, ◌⊎◌, ◌+◌, ◌++◌, ℕ, true, false, min, List, [], ◌∷◌, length, None}
use Rattle.il_frames.specs.declared.frame.Frame.{Frame}
use Rattle.il_device.specs.State.{DeviceState}
use Rattle.il_ports.specs.Media.{MediumView}
use Rattle.il_frames.specs.NamedFrames.{lad, unl}
use Rattle.loop_model.specs.Devices.{EachBecomes}
use Rattle.loop_model.specs.Polls.{poll_enable, poll_place, poll_unconfigure, polled_along}
use Rattle.il_ring.specs.Outcomes.{HearsNothing}
use Rattle.il_ring.specs.Lists.{First}
use Rattle.il_ring.specs.Polls.{identified_along, KeepsPlace}
use Rattle.il_ring.specs.Rings.{RingView, devices_of, spare_of}
use Rattle.il_control.specs.Calls.{idy}
use Rattle.il_control.specs.Places.{GivenPlace}
use Rattle.il_record.specs.Asks.{Ask, AskCommand, AskIdentify, CameAsked, up_to}
use Rattle.il_record.specs.Came.{NoneHeard}
use Rattle.il_record.specs.LoopCalls.{LeavesDrive}

-- party k has no place in the poll, or has this one
abbrev pub MayPoll : ℕ → DeviceState → Type 0
MayPoll k d = (d.assignment ≡ None) ⊎ (d.assignment ≡ poll_place k)

-- party k may have a place after the call if it might before. It heard nothing, and wants service if it did.
pub record PollsOn (k : ℕ) (d e : DeviceState) : Type 0 where
  pub place : MayPoll k d → MayPoll k e
  pub nothing : HearsNothing d e
  pub wants : e.wants ≡ d.wants

-- each device has the place in the poll that it had
pub record PlacesKept {M : Type 0} (r s : RingView M) : Type 0 where
  pub kept : First KeepsPlace (length (devices_of r)) (devices_of r) (devices_of s)

-- it has no place any more
pub record Released (k : ℕ) (d e : DeviceState) : Type 0 where
  pub place : e.assignment ≡ None
  pub nothing : HearsNothing d e
  pub wants : e.wants ≡ d.wants

-- ---- what a poll asks for

-- the device of that address takes its place
abbrev pub place_asks : ℕ → List Ask
place_asks a = AskCommand unl ∷ AskCommand (lad a) ∷ AskCommand (poll_enable (7 + a)) ∷ []

-- the devices that have places answer by this frame, and give them up
abbrev pub collect_asks : Frame → List Ask
collect_asks f = AskCommand unl ∷ AskIdentify f ∷ AskCommand poll_unconfigure ∷ []

-- of so many devices
abbrev pub poll_asks : ℕ → Frame → List Ask
poll_asks n f = up_to place_asks (min n 8) ++ collect_asks f

-- ---- the poll

-- it was made, and this came back; no device heard anything
pub record HasPolled {M : Type 0} (view : M → MediumView) (f : Frame) (r s : RingView M) : Type 0 where
  pub frame : f ≡ polled_along 1 (devices_of r) idy
  pub came : CameAsked view true (poll_asks (length (devices_of r)) f) r s
  pub released : EachBecomes Released 1 (devices_of r) (devices_of s)
  pub unheard : NoneHeard r s
  pub drive : LeavesDrive r.drive s.drive
  pub room : spare_of r ≤ spare_of s + 53

-- what was asked for was broken off, and took n entries of the log at most; no device heard anything
pub record PollBroke {M : Type 0} (view : M → MediumView) (n : ℕ) (asks : List Ask) (r s : RingView M) : Type 0 where
  pub came : CameAsked view false asks r s
  pub devices : EachBecomes PollsOn 1 (devices_of r) (devices_of s)
  pub unheard : NoneHeard r s
  pub drive : LeavesDrive r.drive s.drive
  pub room : spare_of r ≤ spare_of s + n

-- ---- its parts

-- the device of that address, 1 to 8, was given its place
pub record Assigned {M : Type 0} (view : M → MediumView) (a : ℕ) (r s : RingView M) : Type 0 where
  pub came : CameAsked view true (place_asks a) r s
  pub given : EachBecomes (GivenPlace a (7 + a)) 1 (devices_of r) (devices_of s)
  pub unheard : NoneHeard r s
  pub drive : LeavesDrive r.drive s.drive
  pub room : spare_of r ≤ spare_of s + 6

-- the poll was made with the places that devices had
pub record Collected {M : Type 0} (view : M → MediumView) (f : Frame) (r s : RingView M) : Type 0 where
  pub frame : f ≡ identified_along (devices_of r) idy
  pub came : CameAsked view true (collect_asks f) r s
  pub released : EachBecomes Released 1 (devices_of r) (devices_of s)
  pub unheard : NoneHeard r s
  pub drive : LeavesDrive r.drive s.drive
  pub room : spare_of r ≤ spare_of s + 5
