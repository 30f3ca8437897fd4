-- What became of a frame that went round, as its kind has it.
use Rattle.std.specs.Prelude.{◌||◌, ◌==◌, not, ◌≡◌, ◌≢◌, ◌⊎◌, ◌≤◌, ◌<◌, ◌+◌, ◌++◌, ℕ, Bool, true, false, if◌then◌else◌, List, [], ◌∷◌, length, Option, Some, None, MatchBool}
use Rattle.il_frames.specs.declared.frame.Frame.{Frame}
use Rattle.il_frames.specs.declared.message.Message.{Message}
use Rattle.il_frames.specs.declared.message.Message.TheVariants as msg
use Rattle.il_frames.specs.declared.entry.Entry.{Entry}
use Rattle.il_frames.specs.declared.entry.Outcome.TheVariants as outcome
use Rattle.il_frames.specs.Frames.{byte_of, is_data, with_service}
use Rattle.il_device.specs.declared.device.Out.{Out}
use Rattle.il_device.specs.declared.device.Out.TheVariants.{Pass, Source}
use Rattle.il_device.specs.declared.interface.OwnFrame.{OwnFrame}
use Rattle.il_device.specs.Roles.{roles_after, own_after, assignment_after}
use Rattle.il_device.specs.State.{DeviceState, risen}
use Rattle.il_device.specs.Takes.{eto, ete, identity, kept, may_change_service}
use Rattle.il_ports.specs.Media.{MediumView}
use Rattle.il_frames.specs.NamedFrames.{entry}
use Rattle.loop_model.specs.Reach.{met}
use Rattle.loop_model.specs.Roles as by_log
use Rattle.il_ring.specs.declared.plan.Arrival.{Arrival}
use Rattle.il_ring.specs.declared.plan.Arrival.TheVariants as arrival
use Rattle.il_ring.specs.declared.flight.Flight.{Flight}
use Rattle.il_ring.specs.Plans.{hops_of}
use Rattle.il_ring.specs.Journeys.{DriveTakes}
use Rattle.std.specs.List.{list_all}
use Rattle.il_frames.specs.declared.entry.Outcome.{Outcome}
use Rattle.il_ring.specs.Rings.{RingView, devices_of, roles_of, drive_party}
use Rattle.il_ring.specs.Lists.{First, AllSilent}
use Rattle.il_frames.specs.Messages.{message_of}

-- the planned hops among the crossings of a call
abbrev pub met_between : {M : Type 0} → RingView M → RingView M → List ℕ
met_between r s = met (hops_of r.books.plan) r.books.crossings s.books.crossings

-- what a device keeps that hears nothing
pub record HearsNothing (d e : DeviceState) : Type 0 where
  pub heard : e.heard ≡ d.heard
  pub heard_count : e.heard_count ≡ d.heard_count
  pub room : e.room ≡ d.room
  pub accessory : e.accessory ≡ d.accessory

-- a device that a message comes to which asks nothing of it
pub record Obeys (m : Message) (d e : DeviceState) : Type 0 where
  pub nothing : HearsNothing d e
  pub roles : e.roles ≡ roles_after d.roles m
  pub own : e.own ≡ own_after d.roles d.own m
  pub assignment : e.assignment ≡ assignment_after d.roles d.assignment m
  pub wants : may_change_service m ≡ false → e.wants ≡ d.wants

-- What became of the drive: such a frame came to it, or none did, since a planned hop was reached.
abbrev pub DriveTook : {M : Type 0} → (M → MediumView) → (Frame → Type 0) → RingView M → RingView M → Type 0
DriveTook view P r s = ((s.drive ≡ r.drive) × (met_between r s ≢ [])) ⊎ ((g : Frame) × P g × ((out : Out) × DriveTakes view r.drive g out s.drive))

-- such a frame came to the drive
abbrev pub DriveHad : {M : Type 0} → (M → MediumView) → (Frame → Type 0) → RingView M → RingView M → Type 0
DriveHad view P r s = (g : Frame) × P g × ((out : Out) × DriveTakes view r.drive g out s.drive)

-- such a frame came to the drive, and this was its answer
abbrev pub DriveDid : {M : Type 0} → (M → MediumView) → (Frame → Out → Type 0) → RingView M → RingView M → Type 0
DriveDid view P r s = (g : Frame) × ((out : Out) × P g out × DriveTakes view r.drive g out s.drive)

-- it came back to the host as g, and no planned hop was reached
pub record Returned {M : Type 0} (r : RingView M) (held : Option Flight) (f g : Frame) (answer : Arrival) (s : RingView M) : Type 0 where
  pub answer_is : answer ≡ arrival.Frame g
  pub log : s.books.log ≡ r.books.log ++ entry 0 f (outcome.Back g) ∷ []
  pub held_is : s.books.held ≡ held
  pub met_none : met_between r s ≡ []

-- it was lost, at a planned hop
pub record WasLost {M : Type 0} (r : RingView M) (source : ℕ) (f : Frame) (answer : Arrival) (s : RingView M) : Type 0 where
  pub answer_is : answer ≡ arrival.Lost
  pub party : ℕ
  pub on_ring : party ≤ length (devices_of r)
  pub log : s.books.log ≡ r.books.log ++ entry source f (outcome.Lost party) ∷ []
  pub held_is : s.books.held ≡ None
  pub met_some : met_between r s ≢ []

-- a device that does not talk, to which a data or end frame of that byte comes
pub record HearsByte (byte : ℕ) (d e : DeviceState) : Type 0 where
  pub roles : e.roles ≡ d.roles
  pub own : e.own ≡ None
  pub heard : e.heard ≡ (if d.roles.listens then kept d.room d.heard byte else d.heard)
  pub heard_count : e.heard_count ≡ (if d.roles.listens then risen d.heard_count else d.heard_count)
  pub room : e.room ≡ d.room
  pub accessory : e.accessory ≡ d.accessory
  pub assignment : e.assignment ≡ d.assignment

-- a data or end frame came, and if no planned hop was reached it is f apart from the service bit
abbrev pub IsBrought : {M : Type 0} → RingView M → RingView M → Frame → Frame → Type 0
IsBrought r s f g = (is_data g ≡ true) × (met_between r s ≡ [] → with_service g ≡ with_service f)

-- it came back to the host with another byte, since a planned hop was reached
pub record CameAltered {M : Type 0} (r : RingView M) (held : Option Flight) (f : Frame) (answer : Arrival) (s : RingView M) : Type 0 where
  pub back : Frame
  pub answer_is : answer ≡ arrival.Frame back
  pub log : s.books.log ≡ r.books.log ++ entry 0 f (outcome.Back back) ∷ []
  pub held_is : s.books.held ≡ held
  pub data_frame : is_data back ≡ true
  pub other : byte_of back ≢ byte_of f
  pub met_some : met_between r s ≢ []

-- a byte, whatever it is
abbrev pub HearsAny : DeviceState → DeviceState → Type 0
HearsAny d e = (byte : ℕ) × HearsByte byte d e

-- the frame and what each device heard: the same; another; or it was lost
pub record DataReturned {M : Type 0} (r : RingView M) (held : Option Flight) (f : Frame) (answer : Arrival) (s : RingView M) : Type 0 where
  pub back : Frame
  pub same : with_service back ≡ with_service f
  pub data_frame : is_data back ≡ true
  pub returned : Returned r held f back answer s
  pub heard : First (HearsByte (byte_of f)) (length (devices_of r)) (devices_of r) (devices_of s)

pub record DataBroken {M : Type 0} (r : RingView M) (held : Option Flight) (f : Frame) (answer : Arrival) (s : RingView M) : Type 0 where
  pub how : CameAltered r held f answer s ⊎ WasLost r 0 f answer s
  pub reached : ℕ
  pub heard : First HearsAny reached (devices_of r) (devices_of s)

-- ---- start messages that no device took

-- it passed the message on: SAI only if it does not talk, or has no accessory ID
pub record LetsPass (f : Frame) (d e : DeviceState) : Type 0 where
  pub obeyed : Obeys (message_of f) d e
  pub roles : e.roles ≡ d.roles
  pub no_id : message_of f ≡ msg.Sai → d.roles.talks ≡ true → d.accessory ≡ None

-- it was not taken
pub record StartReturned {M : Type 0} (r : RingView M) (held : Option Flight) (f : Frame) (answer : Arrival) (s : RingView M) : Type 0 where
  pub returned : Returned r held f f answer s
  pub took : First (LetsPass f) (length (devices_of r)) (devices_of r) (devices_of s)

-- it was lost before it was taken
pub record StartGone {M : Type 0} (r : RingView M) (f : Frame) (answer : Arrival) (s : RingView M) : Type 0 where
  pub lost : WasLost r 0 f answer s
  pub reached : ℕ
  pub took : First (LetsPass f) reached (devices_of r) (devices_of s)

-- ---- a device that sends

-- the device at party p talks, and has this frame of its own on the loop; no other device talks
pub record IsTalking (p : ℕ) (own : Option OwnFrame) (devices : List DeviceState) : Type 0 where
  pub before : List DeviceState
  pub talker : DeviceState
  pub after : List DeviceState
  pub devices_are : devices ≡ before ++ talker ∷ after
  pub party : p ≡ length before + 1
  pub silent : AllSilent before
  pub talks : talker.roles.talks ≡ true
  pub own_is : talker.own ≡ own
  pub silent_after : AllSilent after

-- After these entries the frame that party p sent is held at the host, altered or not.
pub record IsHeldNow {M : Type 0} (r : RingView M) (entries : List Entry) (p : ℕ) (sent : Frame) (altered : Bool) (answer : Arrival) (s : RingView M) : Type 0 where
  pub now : Frame
  pub answer_is : answer ≡ arrival.Frame now
  pub log : s.books.log ≡ r.books.log ++ entries
  pub held_is : s.books.held ≡ Some (record { source = p; sent = sent; now = now; altered = altered })
  pub data_frame : is_data now ≡ true
  pub same : altered ≡ false → with_service now ≡ with_service sent
  pub other : altered ≡ true → byte_of now ≢ byte_of sent

-- Where a frame of party p can have been lost after these entries: with none, on its way from the host to its source; else it was sent then,
-- and lost before a party after its source, or before the host.
abbrev pub LostWhere : List Entry → ℕ → ℕ → Type 0
LostWhere [] p party = (1 ≤ party) × (party ≤ p)
LostWhere (e ∷ es) p party = (party ≡ 0) ⊎ (p < party)

-- after these entries it was lost
pub record IsLostNow {M : Type 0} (r : RingView M) (entries : List Entry) (p : ℕ) (sent : Frame) (answer : Arrival) (s : RingView M) : Type 0 where
  pub answer_is : answer ≡ arrival.Lost
  pub party : ℕ
  pub on_ring : party ≤ length (devices_of r)
  pub place : LostWhere entries p party
  pub log : s.books.log ≡ r.books.log ++ (entries ++ entry p sent (outcome.Lost party) ∷ [])
  pub held_is : s.books.held ≡ None
  pub met_some : met_between r s ≢ []

-- A start message was taken by party p, which sent a data frame in its place: to SAI its accessory ID, as the last one. That frame is held at
-- the host, or was lost.
pub record StartTaken {M : Type 0} (r : RingView M) (f : Frame) (answer : Arrival) (s : RingView M) : Type 0 where
  pub party : ℕ
  pub on_ring : (1 ≤ party) × (party ≤ length (devices_of r))
  pub sent : Frame
  pub data_frame : is_data sent ≡ true
  pub own : OwnFrame
  pub own_frame : own.frame ≡ sent
  pub runs : own.stopped ≡ false
  pub talking_before : IsTalking party None (devices_of r)
  pub id : message_of f ≡ msg.Sai → (n : ℕ) × (talking_before.talker.accessory ≡ Some n) × (own ≡ identity n)
  pub talking : IsTalking party (Some own) (devices_of s)
  pub end : ((altered : Bool) × IsHeldNow r (entry 0 f (outcome.Taken party) ∷ []) party sent altered answer s × MatchBool altered (met_between r s ≢ []) (met_between r s ≡ []))
      ⊎ IsLostNow r (entry 0 f (outcome.Taken party) ∷ []) party sent answer s

-- party p took the start message f and sent this frame in its place: up to that party the message came to the drive, after
-- it the frame, if a planned hop was not reached; the drive, if it is that party, answered by it
pub record DriveSawStart {M : Type 0} (view : M → MediumView) (f : Frame) (p : ℕ) (sent : Frame) (r s : RingView M) : Type 0 where
  pub up_to : drive_party r ≤ p → DriveHad view (λ g. g ≡ f) r s
  pub after : p < drive_party r → DriveTook view (IsBrought r s sent) r s
  pub said : drive_party r ≡ p → DriveDid view (λ g out. (g ≡ f) × (out ≡ Source sent)) r s

-- What came of a start message, and what of it came to the drive, which passed it on if no device took it.
abbrev pub StartAtDrive : {M : Type 0} → (M → MediumView) → RingView M → Option Flight → Frame → Arrival → RingView M → Type 0
StartAtDrive view r held f answer s = (StartReturned r held f answer s × DriveDid view (λ g out. (g ≡ f) × (out ≡ Pass f)) r s)
    ⊎ ((StartGone r f answer s × DriveTook view (λ g. g ≡ f) r s)
    ⊎ ((taken : StartTaken r f answer s) × DriveSawStart view f taken.party taken.sent r s))

-- ---- the held frame goes on

-- the frame stood so at the host
pub record StoodSo (held : Flight) : Type 0 where
  pub data_frame : is_data held.now ≡ true
  pub same : held.altered ≡ false → with_service held.now ≡ with_service held.sent
  pub other : held.altered ≡ true → byte_of held.now ≢ byte_of held.sent

-- how it came back to the device that sent it: the same apart from the service bit, or with another byte, since a planned hop
-- was reached in this call or before
pub record CameBack {M : Type 0} (r s : RingView M) (held : Flight) (right : Bool) (back : Frame) : Type 0 where
  pub data_frame : is_data back ≡ true
  pub echo : MatchBool right ((held.altered ≡ false) × (with_service back ≡ with_service held.sent))
      ((byte_of back ≢ byte_of held.sent) × ((held.altered ≡ true) ⊎ (met_between r s ≢ [])))

-- a frame came back to its source right or not: as it came to the drive on its way
abbrev pub CameAs : Bool → Frame → Frame → Type 0
CameAs right sent g = (is_data g ≡ true) × (right ≡ true → with_service g ≡ with_service sent)

-- the entry of the frame that came back
abbrev pub back_entry : Flight → Frame → Entry
back_entry held back = entry held.source held.sent (outcome.Back back)

-- after the right echo the device sent a further data frame
pub record SendsMore {M : Type 0} (r : RingView M) (held : Flight) (own : OwnFrame) (back : Frame) (answer : Arrival) (s : RingView M) : Type 0 where
  pub right : with_service back ≡ with_service held.sent
  pub unaltered : held.altered ≡ false
  pub goes_on : (own.stopped || own.last) ≡ false
  pub sent : Frame
  pub data_frame : is_data sent ≡ true
  pub next : OwnFrame
  pub next_frame : next.frame ≡ sent
  pub runs : next.stopped ≡ false
  pub talking : IsTalking held.source (Some next) (devices_of s)
  pub end : ((altered : Bool) × IsHeldNow r (back_entry held back ∷ []) held.source sent altered answer s × MatchBool altered (met_between r s ≢ []) (met_between r s ≡ []))
      ⊎ IsLostNow r (back_entry held back ∷ []) held.source sent answer s

-- or it ended the transmission: by ETO after the right echo, else by ETE
pub record EndsSending {M : Type 0} (r : RingView M) (held : Flight) (right : Bool) (back : Frame) (answer : Arrival) (s : RingView M) : Type 0 where
  pub talking : IsTalking held.source None (devices_of s)
  pub end : ((answer ≡ arrival.Frame (if right then eto else ete)) × (s.books.log ≡ r.books.log ++ (back_entry held back ∷ entry held.source (if right then eto else ete) (outcome.Taken 0) ∷ [])) × (s.books.held ≡ None)
      × (right ≡ true → met_between r s ≡ []))
      ⊎ IsLostNow r (back_entry held back ∷ []) held.source (if right then eto else ete) answer s

-- what came of it: it was lost; or it came back, and what the device sent then is held, taken by the host or lost
abbrev pub Relayed : {M : Type 0} → RingView M → Flight → OwnFrame → Arrival → RingView M → Type 0
Relayed r held own answer s = IsLostNow r [] held.source held.sent answer s
    ⊎ ((right : Bool) × (back : Frame) × CameBack r s held right back × (SendsMore r held own back answer s ⊎ EndsSending r held right back answer s))

-- What its source sent then, and what of it came to the drive: after the source the frame that it sent, if a planned hop was
-- not reached. The drive, if it is the source, answered by that.
abbrev pub SentAtDrive : {M : Type 0} → (M → MediumView) → RingView M → Flight → OwnFrame → Bool → Frame → Arrival → RingView M → Type 0
SentAtDrive view r held own right back answer s = ((more : SendsMore r held own back answer s)
    × (held.source < drive_party r → DriveTook view (IsBrought r s more.sent) r s)
    × (drive_party r ≡ held.source → DriveDid view (λ g out. CameAs right held.sent g × (out ≡ Source more.sent)) r s))
    ⊎ (EndsSending r held right back answer s
    × (held.source < drive_party r → DriveTook view (λ g. g ≡ (if right then eto else ete)) r s)
    × (drive_party r ≡ held.source → DriveDid view (λ g out. CameAs right held.sent g × (out ≡ Source (if right then eto else ete))) r s))

-- What came of it, and what of it came to the drive: up to its source the frame on its way back, and what the source sent then.
abbrev pub RelayedAtDrive : {M : Type 0} → (M → MediumView) → RingView M → Flight → OwnFrame → Arrival → RingView M → Type 0
RelayedAtDrive view r held own answer s = (IsLostNow r [] held.source held.sent answer s
    × (drive_party r ≤ held.source → DriveTook view (λ g. is_data g ≡ true) r s) × (held.source < drive_party r → s.drive ≡ r.drive))
    ⊎ ((right : Bool) × (back : Frame) × CameBack r s held right back
    × (drive_party r ≤ held.source → DriveHad view (CameAs right held.sent) r s)
    × SentAtDrive view r held own right back answer s)

-- ---- in every round

-- a device keeps its accessory ID and its room, and hears nothing if it does not listen
pub record Keeps (d e : DeviceState) : Type 0 where
  pub accessory : e.accessory ≡ d.accessory
  pub room : e.room ≡ d.room
  pub unheard : d.roles.listens ≡ false → (e.heard ≡ d.heard) × (e.heard_count ≡ d.heard_count)

-- each of them
abbrev pub AllKeep : List DeviceState → List DeviceState → Type 0
AllKeep [] [] = Unit {0}
AllKeep (d ∷ ds) (e ∷ es) = Keeps d e × AllKeep ds es
AllKeep [] (e ∷ es) = ⊥
AllKeep (d ∷ ds) [] = ⊥

-- it does not listen
abbrev pub IsDeaf : ℕ → DeviceState → Type 0
IsDeaf k d = d.roles.listens ≡ false

-- ---- roles, after any round

-- the entry is a device's
abbrev pub is_other : Entry → Bool
is_other e = not (e.source == 0)

-- The frame of the host ended so, and its entry comes first; the others are devices'.
pub record HostRound {M : Type 0} (r : RingView M) (f : Flight) (s : RingView M) : Type 0 where
  pub ended : Outcome
  pub rest : List Entry
  pub log : s.books.log ≡ r.books.log ++ entry 0 f.sent ended ∷ rest
  pub others : list_all is_other rest ≡ true
  pub roles : roles_of (devices_of s) ≡ by_log.roles_after (roles_of (devices_of r)) (entry 0 f.sent ended ∷ rest)

-- The held frame of a device goes on: no role changes, and all entries are devices'.
pub record DeviceRound {M : Type 0} (r : RingView M) (s : RingView M) : Type 0 where
  pub entries : List Entry
  pub log : s.books.log ≡ r.books.log ++ entries
  pub others : list_all is_other entries ≡ true
  pub roles : roles_of (devices_of s) ≡ roles_of (devices_of r)
