-- What a lend reports of the drive.
use Rattle.std.specs.Prelude.{Bool, IsSome, List, MatchBool, None, Option, Some, [], false, is_some, length, sum_by, true, ℕ, ◌&&◌, ◌*◌, ◌++◌, ◌+◌, ◌∷◌, ◌≡◌, ◌≢◌, ◌≤◌, ◌⊎◌}
use Rattle.il_frames.specs.declared.entry.Entry.{Entry}
use Rattle.il_frames.specs.Frames.{byte_of}
use Rattle.il_poll.specs.Service.{status_byte_of}
use Rattle.il_drive.specs.declared.mode.Start.TheVariants as start
use Rattle.il_drive.specs.Resting.{IsMildFor}
use Rattle.il_drive.specs.State.{DriveView, status_of}
use Rattle.il_guest.specs.Rounds.{addresses}
use Rattle.il_ports.specs.Media.{MediumView}
use Rattle.il_ring.specs.Guests.{GuestMind, IsUnderHost, last_asked}
use Rattle.il_device.specs.Roles.{is_own}
use Rattle.il_device.specs.State.{DeviceState, risen_by}
use Rattle.loop_model.specs.Leading.{OneTalkerLed, are_commands_led, roles_led}
use Rattle.loop_model.specs.Reach.{links_of}
use Rattle.il_ring.specs.ControlledAdds.{AllTookSince, ControlledSince}
use Rattle.il_guest.specs.Frames.{tct}
use Rattle.loop_model.specs.Exchanges.{FrameLost, returned}
use Rattle.il_control.specs.declared.lending.Handed.{Handed}
use Rattle.il_control.specs.declared.lending.Handed.TheVariants as handed
use Rattle.il_ring.specs.declared.plan.Arrival.{Arrival}
use Rattle.il_ring.specs.Flights.{HasAltered, sourced}
use Rattle.il_ring.specs.HandedOver.{HandedOver}
use Rattle.il_ring.specs.Lending.{IsControlled, ControlledRound, hands_over, leads}
use Rattle.il_ring.specs.Lends.{Lend, came_back, handed_entries, is_lend, is_whole_lend, keeps_control, lend_address, lend_entries, reports_own, took_back, was_taken}
use Rattle.il_ring.specs.Lists.{Each, First}
use Rattle.il_ring.specs.Outcomes.{IsDeaf, met_between}
use Rattle.il_ring.specs.Plans.{last_crossing}
use Rattle.il_ring.specs.Polls.{KeepsPlace}
use Rattle.il_control.specs.Calls.{Broke, IsIdle, IsLost, Unheard, Whole}
use Rattle.il_control.specs.DriveAnswers.{AnswersBrokeOff, AnswersPolling}
use Rattle.il_control.specs.Polling.{BrokeOff, Polling}
use Rattle.il_ring.specs.declared.flight.Flight.{Flight}
use Rattle.il_ring.specs.Rings.{RingView, devices_of, drive_party, roles_of}
use Rattle.il_ring.specs.Statuses.{ReportsStatus, answers_always, reported_by}

-- While a second controller polls, and the log has these entries since it took control: the drive hears nothing and keeps its medium. Its
-- status is as it was, or reported; and if its byte is under way, that shows its status.
pub record DriveSo {M : Type 0} (before : DriveView M) (base : List Entry) (r : RingView M) : Type 0 where
  pub entries : List Entry
  pub log : r.books.log ≡ base ++ entries
  pub deaf : r.drive.state.interface.roles.listens ≡ false
  pub medium : r.drive.medium ≡ before.medium
  pub told : ReportsStatus (status_of before.state) (reported_by (length (devices_of r)) (drive_party r) entries) (status_of r.drive.state)
  pub under_way : (f : Flight) → (r.books.kept ≡ Some f) ⊎ (r.books.lent ≡ Some f) → f.source ≡ drive_party r → byte_of f.sent ≡ status_byte_of (status_of r.drive.state)

-- what is kept of the drive, which is asked for its status alone
pub record DriveMild {M : Type 0} (before : DriveView M) (base : List Entry) (r : RingView M) : Type 0 where
  pub so : DriveSo before base r
  pub mild : IsMildFor start.Status r.drive.state

-- what is left of it if the rounds broke off
pub record DriveLeft {M : Type 0} (before now : DriveView M) : Type 0 where
  pub medium : now.medium ≡ before.medium
  pub status : (status_of now.state ≡ status_of before.state) ⊎ (status_of now.state ≡ 0)

-- what is left of it by a whole lend of these entries
pub record DriveTold {M : Type 0} (q s : RingView M) (entries : List Entry) : Type 0 where
  pub medium : s.drive.medium ≡ q.drive.medium
  pub told : ReportsStatus (status_of q.drive.state) (reported_by (length (devices_of q)) (drive_party q) entries) (status_of s.drive.state)

-- ---- while it is lent

-- The host of the ring q lends it by the device of address a. The last device is the second controller.
abbrev pub last_of : Option GuestMind → ℕ
last_of None = 0
last_of (Some mind) = mind.last

-- the addresses that it asks
abbrev pub asked_on : {M : Type 0} → RingView M → List ℕ
asked_on q = addresses (Some (length (devices_of q))) (last_of q.guest)

-- the log as it has taken control
abbrev pub base_of : {M : Type 0} → ℕ → RingView M → List Entry
base_of a q = q.books.log ++ handed_entries a (length (devices_of q))

-- What stays meanwhile. No device hears anything, and each has its place in the poll.
pub record KeptSince {M : Type 0} (q r : RingView M) : Type 0 where
  pub plan : r.books.plan ≡ q.books.plan
  pub begun : r.books.begun ≡ q.books.begun
  pub room : r.books.room ≡ q.books.room
  pub before : length r.before ≡ length q.before
  pub last : last_asked r.guest ≡ last_asked q.guest
  pub unheard : Unheard q r
  pub places : First KeepsPlace (length (devices_of q)) (devices_of q) (devices_of r)

-- This many frames have come to the host since; nobody listens.
pub record LentSo {M : Type 0} (view : M → MediumView) (a : ℕ) (q r : RingView M) (arrived : ℕ) : Type 0 where
  pub at : a ≡ length (devices_of q)
  pub few_asked : last_of q.guest ≤ 30
  pub from : q.books.crossings ≤ last_crossing
  pub polls : Polling view (length (devices_of q)) (last_of q.guest) (Some (length (devices_of q))) (base_of a q) r arrived
  pub added : List Entry
  pub since : ControlledSince 0 (length (devices_of q)) q r added
  pub kept : KeptSince q r
  pub deaf : Each IsDeaf 1 (devices_of r)
  pub answers : AnswersPolling (base_of a q) r
  pub drive : DriveMild q.drive (base_of a q) r
  pub altered : HasAltered r.books.lent ⊎ HasAltered r.books.kept → met_between q r ≢ []

-- its rounds broke off before more than this many did
pub record LentBroke {M : Type 0} (view : M → MediumView) (a : ℕ) (q : RingView M) (limit : ℕ) (s : RingView M) : Type 0 where
  pub at : a ≡ length (devices_of q)
  pub few_asked : last_of q.guest ≤ 30
  pub arrived : ℕ
  pub few : arrived ≤ limit
  pub off : BrokeOff view (length (devices_of q)) (last_of q.guest) (Some (length (devices_of q))) (base_of a q) s arrived
  pub controlled : IsControlled s
  pub added : List Entry
  pub since : ControlledSince 0 (length (devices_of q)) q s added
  pub kept : KeptSince q s
  pub answers : AnswersBrokeOff (base_of a q) s
  pub drive : DriveLeft q.drive s.drive
  pub met : met_between q s ≢ []

-- lent by some host, and this many frames have come to it
abbrev pub IsLentNow : {M : Type 0} → (M → MediumView) → RingView M → ℕ → Type 0
IsLentNow {M} view r arrived = (a : ℕ) × (q : RingView M) × LentSo view a q r arrived

-- what became of it until this many had come
abbrev pub PolledUntil : {M : Type 0} → (M → MediumView) → Bool → RingView M → ℕ → RingView M → Type 0
PolledUntil {M} view whole old limit s = (a : ℕ) → (q : RingView M) → LentSo view a q old 1 → MatchBool whole (LentSo view a q s limit) (LentBroke view a q limit s)

-- the same before its end
abbrev pub PolledSoFar : {M : Type 0} → (M → MediumView) → RingView M → ℕ → RingView M → Type 0
PolledSoFar {M} view old arrived now = (a : ℕ) → (q : RingView M) → LentSo view a q old 1 → LentSo view a q now arrived

-- ---- a lend

-- the last of these devices has address a
abbrev pub last_at : ℕ → List DeviceState → Bool
last_at a [] = false
last_at a (d ∷ []) = is_own d.roles.address a
last_at a (d ∷ e ∷ ds) = last_at a (e ∷ ds)

-- a second controller, which is the last device, is there
abbrev pub controller_at : {M : Type 0} → ℕ → RingView M → Bool
controller_at a q = is_some q.guest && last_at a q.after

-- The log grew by the entries of a lend of address a, whole or broken off, and these count for the links that were
-- crossed, for the frames that came to each device, and for the roles. At most one party talked at every moment, and only
-- the talker spoke; each command was the controller's. If a second controller is at that address TCT does not come
-- back, and only there control is taken. The drive answers wherever it asks the drive. If control was not taken, a second
-- controller has the same in mind as before.
pub record Lends {M : Type 0} (a limit : ℕ) (whole : Bool) (q s : RingView M) : Type 0 where
  pub lend : Lend
  pub is : is_lend (length (devices_of q)) (asked_on q) limit lend ≡ true
  pub own : reports_own (asked_on q) lend ≡ true
  pub whole_is : is_whole_lend lend ≡ whole
  pub address : lend_address lend ≡ a
  pub log : s.books.log ≡ q.books.log ++ lend_entries (length (devices_of q)) (asked_on q) lend
  pub short : length (lend_entries (length (devices_of q)) (asked_on q) lend) ≤ 2 * limit + 9
  pub kept : KeptSince q s
  pub size : length (devices_of s) ≡ length (devices_of q)
  pub links : ℕ
  pub crossings : s.books.crossings ≡ risen_by links q.books.crossings
  pub linked : links ≡ sum_by (links_of (length (devices_of q))) (lend_entries (length (devices_of q)) (asked_on q) lend)
  pub frames : AllTookSince (length (devices_of q)) [] (lend_entries (length (devices_of q)) (asked_on q) lend) 0 (devices_of q) (devices_of s)
  pub roles : roles_of (devices_of s) ≡ roles_led 0 (roles_of (devices_of q)) (lend_entries (length (devices_of q)) (asked_on q) lend)
  pub one : OneTalkerLed 0 (roles_of (devices_of q)) (lend_entries (length (devices_of q)) (asked_on q) lend)
  pub commands : are_commands_led 0 (lend_entries (length (devices_of q)) (asked_on q) lend) ≡ true
  pub taker : was_taken lend ≡ true → controller_at a q ≡ true
  pub refused : came_back lend ≡ true → controller_at a q ≡ false
  pub answered : answers_always (length (devices_of q)) (drive_party q) None (lend_entries (length (devices_of q)) (asked_on q) lend) ≡ true
  pub guest : was_taken lend ≡ false → s.guest ≡ q.guest

-- It was whole. Somebody took control if and only if a second controller is at that address; if nobody did, no planned hop was reached.
-- The drive keeps its medium, and reported its status so.
pub record LendMade {M : Type 0} (a limit : ℕ) (taken : Bool) (q s : RingView M) : Type 0 where
  pub lends : Lends a limit true q s
  pub taken_is : was_taken lends.lend ≡ taken
  pub stands : taken ≡ controller_at a q
  pub drive : DriveTold q s (lend_entries (length (devices_of q)) (asked_on q) lends.lend)
  pub met : taken ≡ false → met_between q s ≡ []
  pub idle : IsIdle s

-- It was broken off. The drive keeps its medium, and its status may be reported. A planned hop was reached meanwhile. If the rounds of a second
-- controller broke off that one controls the loop still; if IFC came back the host does.
pub record LendBroken {M : Type 0} (a limit : ℕ) (q s : RingView M) : Type 0 where
  pub lends : Lends a limit false q s
  pub lost : IsLost s
  pub drive : DriveLeft q.drive s.drive
  pub met : met_between q s ≢ []
  pub host_leads : took_back lends.lend ≡ true → IsUnderHost s.guest
  pub leads_on : keeps_control lends.lend ≡ true → leads s.guest ≡ true

-- ---- TCT

-- a second controller took it
pub record Hands {M : Type 0} (view : M → MediumView) (r s : RingView M) : Type 0 where
  pub answer : Arrival
  pub round : ControlledRound view r (sourced 0 tct) answer s
  pub hands : hands_over r tct ≡ true
  pub over : HandedOver r answer s
  pub controlled : IsControlled s

-- it was lost, and if a second controller was to take it, before that one
pub record TctLost {M : Type 0} (view : M → MediumView) (r s : RingView M) : Type 0 where
  pub broke : Broke view r (returned 0 tct ∷ []) s
  pub before : hands_over r tct ≡ true → broke.break ≢ FrameLost 0

-- Nobody took it; or a second controller did, and its first frame is at the host; or it was lost, or that frame.
abbrev pub HandsOver : {M : Type 0} → (M → MediumView) → RingView M → Handed → RingView M → Type 0
HandsOver view r handed.NotTaken s = Whole view r (returned 0 tct ∷ []) s × (hands_over r tct ≡ false) × IsUnderHost s.guest
HandsOver view r handed.Taken s = Hands view r s × IsSome s.books.lent
HandsOver view r handed.Broken s = TctLost view r s ⊎ (Hands view r s × (s.books.lent ≡ None))
