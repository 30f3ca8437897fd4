-- A receive: what a talker sent, and what the controller took of it.
use Rattle.std.specs.Prelude.{◌≡◌, ◌≢◌, ◌≤◌, ◌<◌, ◌+◌, ◌-◌, ◌⊎◌, ◌++◌, ◌||◌, ◌==◌, nat_le, ℕ, zero, suc, Bool, true, false, MatchBool, MatchOption, List, [], ◌∷◌, length, take, drop, map, Option, Some, None, IfSome, IsSome}
use Rattle.std.specs.List.{list_all}
use Rattle.il_frames.specs.declared.frame.Frame.{Frame}
use Rattle.il_frames.specs.declared.entry.Entry.{Entry}
use Rattle.il_frames.specs.declared.entry.Outcome.TheVariants as outcome
use Rattle.il_frames.specs.Frames.{byte_of, is_data}
use Rattle.il_frames.specs.Messages.{message_of}
use Rattle.il_frames.specs.declared.message.Message.TheVariants as msg
use Rattle.il_device.specs.declared.device.Out.{Out}
use Rattle.il_device.specs.declared.device.Out.TheVariants.{Pass, Source}
use Rattle.il_device.specs.declared.interface.OwnFrame.{OwnFrame}
use Rattle.il_device.specs.State.{DeviceState}
use Rattle.il_device.specs.Takes.{eto, ete, identity}
use Rattle.il_ports.specs.Media.{MediumView}
use Rattle.il_frames.specs.NamedFrames.{entry, nrd, unt}
use Rattle.loop_model.specs.Exchanges.{Start, Sda, Sst, Sdi, Sai, Answer, NotTaken, ToItsEnd, Stopped, Receive, Echo, Break, echoed, returned, commanded, answer_entries, start_frame, break_entries, cut_at, can_cut, is_answer, is_break, is_echo, answers_as_asked, bytes_of, receive_front}
use Rattle.loop_model.specs.Reach.{held_at_end as held_after}
use Rattle.il_ring.specs.declared.flight.Flight.{Flight}
use Rattle.il_ring.specs.declared.plan.Arrival.{Arrival}
use Rattle.il_ring.specs.declared.plan.Arrival.TheVariants as arrival
use Rattle.il_ring.specs.Guests.{IsUnderHost}
use Rattle.il_ring.specs.Rings.{RingView, IsRing, devices_of, drive_party}
use Rattle.il_ring.specs.Lists.{Each}
pub use Rattle.il_ring.specs.Outcomes.{IsDeaf}
use Rattle.il_ring.specs.Outcomes.{met_between, IsTalking, StoodSo}
use Rattle.il_ring.specs.Adds.{Adds}
use Rattle.il_control.specs.declared.frames.Sot.{Sot}
use Rattle.il_control.specs.declared.frames.Sot.TheVariants as sot
use Rattle.il_control.specs.declared.receiving.Onward.{Onward}
use Rattle.il_control.specs.declared.receiving.Onward.TheVariants as onward
use Rattle.il_control.specs.declared.receiving.Begun.{Begun}
use Rattle.il_control.specs.declared.receiving.Begun.TheVariants as begun
use Rattle.il_control.specs.declared.receiving.Front.{Front}
use Rattle.il_control.specs.declared.receiving.Front.TheVariants as front
use Rattle.il_control.specs.Brought.{Brought, CutBrought}
use Rattle.il_control.specs.Calls.{Whole, Broke, Made, BrokenOff, Unheard, AllStay}

-- ---- what came of it

-- the start message in the words of the exchanges
abbrev pub start_of : Sot → Start
start_of sot.Sda = Sda
start_of sot.Sst = Sst
start_of sot.Sdi = Sdi
start_of sot.Sai = Sai

-- the bytes that it brought
abbrev pub received : Answer → List ℕ
received NotTaken = []
received (ToItsEnd p ds) = bytes_of ds
received (Stopped p ds last) = bytes_of ds ++ byte_of last.sent ∷ []

-- the party that took the start message
abbrev pub talker_of : Answer → Option ℕ
talker_of NotTaken = None
talker_of (ToItsEnd p ds) = Some p
talker_of (Stopped p ds last) = Some p

-- the data frames as they were sent
abbrev pub frames_of : List Echo → List Frame
frames_of ds = map (λ d. d.sent) ds

abbrev pub sent_frames : Answer → List Frame
sent_frames NotTaken = []
sent_frames (ToItsEnd p ds) = frames_of ds
sent_frames (Stopped p ds last) = frames_of ds ++ last.sent ∷ []

abbrev pub is_stopped : Answer → Bool
is_stopped NotTaken = false
is_stopped (ToItsEnd p ds) = false
is_stopped (Stopped p ds last) = true

-- with room for w bytes the controller stops the talker at the w-th, and not before
abbrev pub fits : ℕ → Answer → Bool
fits w NotTaken = true
fits w (ToItsEnd p ds) = nat_le (length ds) w
fits w (Stopped p ds last) = suc (length ds) == w

-- ---- what comes to the drive meanwhile

-- a frame that comes to a device after a talker while that one sends
abbrev pub IsSpoken : Frame → Type 0
IsSpoken g = (is_data g ≡ true) ⊎ ((g ≡ nrd) ⊎ ((g ≡ eto) ⊎ (g ≡ ete)))

abbrev pub AllSpoken : List Frame → Type 0
AllSpoken [] = Unit {0}
AllSpoken (g ∷ gs) = IsSpoken g × AllSpoken gs

-- What came to party q, which comes after the talker: the commands before the start message, in order; frames of the talker; and the
-- commands after them.
pub record PassesBy (k q a : ℕ) (number : Option ℕ) (came : List Frame) : Type 0 where
  pub before : List Frame
  pub spoken : List Frame
  pub after : List Frame
  pub all : came ≡ before ++ (spoken ++ after)
  pub first : Brought k q (receive_front 0 a number) before
  pub during : AllSpoken spoken
  pub last : Brought k q (commanded 0 unt) after

-- how many entries a receive has up to the end of the talker's
abbrev pub up_to_end : ℕ → Option ℕ → Start → Answer → ℕ
up_to_end a number start answer = length (receive_front 0 a number) + length (answer_entries 0 (start_frame start) answer)

-- The same of a receive that was broken off once a device had taken the start message. This many of its entries stand, and up to the end of the
-- talker's there are `ended`. The commands before the start message all came; of those after the talker's frames none came if the break
-- was before them, and else those of the entries that stand, and of the one that broke off at most its frame.
pub record PassesInPart (k q a : ℕ) (number : Option ℕ) (ended standing : ℕ) (came : List Frame) : Type 0 where
  pub before : List Frame
  pub spoken : List Frame
  pub after : List Frame
  pub all : came ≡ before ++ (spoken ++ after)
  pub first : Brought k q (receive_front 0 a number) before
  pub during : AllSpoken spoken
  pub last : ((standing < ended) × (after ≡ [])) ⊎ ((ended ≤ standing) × CutBrought k q (commanded 0 unt) (standing - ended) after)

-- the frames that the drive sent of its own among its answers
abbrev pub own_frames : List Out → List Frame
own_frames [] = []
own_frames (Pass g ∷ outs) = own_frames outs
own_frames (Source g ∷ outs) = g ∷ own_frames outs

-- what the talker sends to a start message and to the echoes of its frames; nothing if no device took the message
abbrev pub said_of : Answer → List Frame
said_of NotTaken = []
said_of (ToItsEnd p ds) = sent_frames (ToItsEnd p ds) ++ eto ∷ []
said_of (Stopped p ds last) = sent_frames (Stopped p ds last) ++ eto ∷ []

-- no device took the start message, or the drive did
abbrev pub SaysOf : {M : Type 0} → Answer → RingView M → Type 0
SaysOf answer r = IfSome (talker_of answer) (λ p. p ≡ drive_party r)

-- What came to the drive and what it answered, if it is the talker or no device took the start message: the commands before that
-- message; the message and the echoes, for which it sent its data frames and ETO, or nothing of its own; and the commands after them.
pub record SpokenBy (k q a : ℕ) (number : Option ℕ) (start : Start) (answer : Answer) (came : List Frame) (answers : List Out) : Type 0 where
  pub before : List Frame
  pub during : List Frame
  pub after : List Frame
  pub all : came ≡ before ++ (during ++ after)
  pub first : Brought k q (receive_front 0 a number) before
  pub middle : Brought k q (answer_entries 0 (start_frame start) answer) during
  pub last : Brought k q (commanded 0 unt) after
  pub answers_before : List Out
  pub answers_during : List Out
  pub answers_after : List Out
  pub all_answers : answers ≡ answers_before ++ (answers_during ++ answers_after)
  pub many_before : length answers_before ≡ length before
  pub many_during : length answers_during ≡ length during
  pub said : own_frames answers_during ≡ said_of answer

-- a device took the start message, and the drive comes after it
abbrev pub LiesAfter : {M : Type 0} → Answer → RingView M → Type 0
LiesAfter answer r = IfSome (talker_of answer) (λ p. p < drive_party r) × IsSome (talker_of answer)

-- the accessory ID of the device at this place, counted from 0, if there is one and it has one
abbrev pub accessory_at : ℕ → List DeviceState → Option ℕ
accessory_at i [] = None
accessory_at zero (d ∷ ds) = d.accessory
accessory_at (suc i) (d ∷ ds) = accessory_at i ds

-- as the bytes that report it
abbrev pub id_bytes : Option ℕ → List ℕ
id_bytes None = []
id_bytes (Some id) = id ∷ []

-- The exchange was made. The talker was the device of that address; it was stopped if and only if it brought as many bytes as there
-- was room for, and the first n bytes are those that it brought. No device heard anything, and each keeps its place in the poll.
-- To SAI it brought the accessory ID of the device of that address, and nothing if there is none.
pub record Received {M : Type 0} (view : M → MediumView) (a : ℕ) (number : Option ℕ) (start : Start) (n : ℕ) (r : RingView M) (old new : List ℕ) (s : RingView M) : Type 0 where
  pub answer : Answer
  pub asked : answers_as_asked (length (devices_of r)) (Receive a number start answer) ≡ true
  pub made : Made view (Receive a number start answer) r s
  pub count : n ≡ length (received answer)
  pub within : n ≤ length old
  pub bytes : new ≡ received answer ++ drop n old
  pub stops : is_stopped answer ≡ (n == length old)
  pub unheard : Unheard r s
  pub stays : AllStay false r s
  pub id : start ≡ Sai → received answer ≡ id_bytes (accessory_at (a - 1) (devices_of r))
  pub passed : LiesAfter answer r → PassesBy (length (devices_of r)) (drive_party r) a number made.whole.adds.came
  pub spoken : SaysOf answer r → SpokenBy (length (devices_of r)) (drive_party r) a number start answer made.whole.adds.came made.whole.adds.answers

-- it was broken off
pub record NotReceived {M : Type 0} (view : M → MediumView) (a : ℕ) (number : Option ℕ) (start : Start) (w : ℕ) (r s : RingView M) : Type 0 where
  pub answer : Answer
  pub asked : answers_as_asked (length (devices_of r)) (Receive a number start answer) ≡ true
  pub fitting : fits w answer ≡ true
  pub broken : BrokenOff view (Receive a number start answer) r s
  pub unheard : Unheard r s
  pub stays : AllStay false r s
  pub passed : LiesAfter answer r → PassesInPart (length (devices_of r)) (drive_party r) a number (up_to_end a number start answer) broken.broke.standing broken.broke.adds.came

-- ---- before the start message

-- neither listens nor has a frame of its own on the loop
abbrev pub IsCalm : ℕ → DeviceState → Type 0
IsCalm k d = (d.roles.listens ≡ false) × (d.own ≡ None)

-- The device was told to talk, and no device listens.
pub record Asked {M : Type 0} (view : M → MediumView) (a : ℕ) (number : Option ℕ) (r s : RingView M) : Type 0 where
  pub whole : Whole view r (receive_front 0 a number) s
  pub calm : Each IsCalm 1 (devices_of s)

-- These entries were added while party p sent. If the drive is that party or is before it, the frames that came to it are those
-- that the entries brought; after it they are frames of the talker and NRD.
pub record AddsBy {M : Type 0} (view : M → MediumView) (m : RingView M) (p : ℕ) (from : Option ℕ) (entries : List Entry) (to : Option ℕ) (brought : ℕ → ℕ → List Frame → List Out → Type 0) (s : RingView M) : Type 0 where
  pub adds : Adds view m from entries to s
  pub near : drive_party m ≤ p → brought (length (devices_of m)) (drive_party m) adds.came adds.answers
  pub far : p < drive_party m → AllSpoken adds.came

-- the entries brought their frames; if the drive is that party, what it sent has S
abbrev pub Brings : {M : Type 0} → (M → MediumView) → RingView M → ℕ → (List Frame → Type 0) → Option ℕ → List Entry → Option ℕ → RingView M → Type 0
Brings view m p S from entries to s = AddsBy view m p from entries to (λ k q gs outs. Brought k q entries gs × (q ≡ p → S (own_frames outs))) s

-- the first n of these did, and of the next at most its frame came
abbrev pub CutBrings : {M : Type 0} → (M → MediumView) → RingView M → ℕ → Option ℕ → List Entry → ℕ → Break → Option ℕ → RingView M → Type 0
CutBrings view m p from entries n break to s = AddsBy view m p from (cut_at entries n break) to (λ k q gs outs. CutBrought k q entries n gs) s

-- ---- a held frame

-- A data frame of the one device that talks is held at the host, and no device listens.
pub record IsHolding {M : Type 0} (m : RingView M) : Type 0 where
  pub ring : IsRing m
  pub host : IsUnderHost m.guest
  pub flight : Flight
  pub held : m.books.held ≡ Some flight
  pub data_frame : is_data flight.sent ≡ true
  pub stood : StoodSo flight
  pub own : OwnFrame
  pub talking : IsTalking flight.source (Some own) (devices_of m)
  pub frame : own.frame ≡ flight.sent
  pub deaf : Each IsDeaf 1 (devices_of m)

-- a planned hop was reached by then, by the held frame or after it
abbrev pub ReachesFault : {M : Type 0} (m : RingView M) → IsHolding m → RingView M → Type 0
ReachesFault m h s = (h.flight.altered ≡ true) ⊎ (met_between m s ≢ [])

-- none was
abbrev pub ReachesNoFault : {M : Type 0} (m : RingView M) → IsHolding m → RingView M → Type 0
ReachesNoFault m h s = (h.flight.altered ≡ false) × (met_between m s ≡ [])

-- It came back right, and the talker's next frame is held, which was altered if and only if a planned hop was reached.
pub record RelaysNext {M : Type 0} (view : M → MediumView) (m : RingView M) (h : IsHolding m) (s : RingView M) : Type 0 where
  pub back : Frame
  pub right : is_echo (record { sent = h.flight.sent; back = back }) ≡ true
  pub goes_on : (h.own.stopped || h.own.last) ≡ false
  pub next : IsHolding s
  pub source : next.flight.source ≡ h.flight.source
  pub added : Brings view m h.flight.source (λ gs. gs ≡ next.flight.sent ∷ []) (Some h.flight.source) (echoed h.flight.source (record { sent = h.flight.sent; back = back }) ∷ []) (Some h.flight.source) s
  pub unaltered : h.flight.altered ≡ false
  pub met : MatchBool next.flight.altered (met_between m s ≢ []) (met_between m s ≡ [])
  pub unheard : Unheard m s

-- it came back right, and the talker ended
pub record Ended {M : Type 0} (view : M → MediumView) (m : RingView M) (h : IsHolding m) (s : RingView M) : Type 0 where
  pub back : Frame
  pub right : is_echo (record { sent = h.flight.sent; back = back }) ≡ true
  pub added : Brings view m h.flight.source (λ gs. gs ≡ eto ∷ []) (Some h.flight.source) (echoed h.flight.source (record { sent = h.flight.sent; back = back }) ∷ entry h.flight.source eto (outcome.Taken 0) ∷ []) None s
  pub ring : IsRing s
  pub held : s.books.held ≡ None
  pub clean : ReachesNoFault m h s
  pub unheard : Unheard m s

-- Which frame was due as it broke off, after these that came back right: the held one, one that the talker sent after it, or the end.
pub data DueAt (p : ℕ) (own : OwnFrame) (whole : List Echo) (due : Entry) : Type 0 where
  AtHeld : (d : Echo) → is_echo d ≡ true → whole ≡ [] → due ≡ echoed p d → DueAt p own whole due
  AtNext : (c d : Echo) → is_echo c ≡ true → is_echo d ≡ true → (own.stopped || own.last) ≡ false → whole ≡ c ∷ [] → due ≡ echoed p d → DueAt p own whole due
  AtEnd : (d : Echo) → is_echo d ≡ true → whole ≡ d ∷ [] → due ≡ entry p eto (outcome.Taken 0) → DueAt p own whole due

-- it broke off
pub record RelayBroken {M : Type 0} (view : M → MediumView) (m : RingView M) (h : IsHolding m) (s : RingView M) : Type 0 where
  pub whole : List Echo
  pub due : Entry
  pub break : Break
  pub due_at : DueAt h.flight.source h.own whole due
  pub legal : is_break 0 due break ≡ true
  pub added : AddsBy view m h.flight.source (Some h.flight.source) (map (echoed h.flight.source) whole ++ break_entries due break) None (λ k q gs outs. CutBrought k q (map (echoed h.flight.source) whole ++ due ∷ []) (length whole) gs) s
  pub ring : IsRing s
  pub held : s.books.held ≡ None
  pub spoilt : ReachesFault m h s
  pub unheard : Unheard m s

-- what came of a held frame that went on
abbrev pub RelaysAs : {M : Type 0} → (M → MediumView) → RingView M → Onward → RingView M → Type 0
RelaysAs view m onward.More s = (h : IsHolding m) → RelaysNext view m h s
RelaysAs view m onward.Ended s = (h : IsHolding m) → Ended view m h s
RelaysAs view m onward.Broken s = (h : IsHolding m) → RelayBroken view m h s

-- by what arrived
abbrev pub IsOnward : Arrival → Onward → Type 0
IsOnward answer onward.More = (g : Frame) × (answer ≡ arrival.Frame g) × (is_data g ≡ true)
IsOnward answer onward.Ended = answer ≡ arrival.Frame eto
IsOnward answer onward.Broken = (answer ≡ arrival.Lost) ⊎ ((g : Frame) × (answer ≡ arrival.Frame g) × (is_data g ≡ false) × (g ≢ eto))

-- ---- the start message

-- a talker has no accessory ID
abbrev pub IsNameless : ℕ → DeviceState → Type 0
IsNameless k d = d.roles.talks ≡ true → d.accessory ≡ None

-- Party p took it, and its first frame is held, which was altered if and only if a planned hop was reached.
pub record BeginWhole {M : Type 0} (view : M → MediumView) (start : Frame) (r m : RingView M) : Type 0 where
  pub now : IsHolding m
  pub added : Brings view r now.flight.source (λ gs. gs ≡ now.flight.sent ∷ []) None (entry 0 start (outcome.Taken now.flight.source) ∷ []) (Some now.flight.source) m
  pub talked : IsTalking now.flight.source None (devices_of r)
  pub id : message_of start ≡ msg.Sai → (n : ℕ) × (talked.talker.accessory ≡ Some n) × (now.own ≡ identity n)
  pub met : MatchBool now.flight.altered (met_between r m ≢ []) (met_between r m ≡ [])
  pub unheard : Unheard r m

-- It was lost, whatever was to come of it; or party p took it and its first frame was lost.
pub data BeginBroken {M : Type 0} (view : M → MediumView) (start : Frame) (r s : RingView M) : Type 0 where
  StartLost : Broke view r (returned 0 start ∷ []) s → Unheard r s → BeginBroken view start r s
  FirstLost : (p : ℕ) (d : Echo) → is_echo d ≡ true → IsTalking p None (devices_of r) → (broke : Broke view r (entry 0 start (outcome.Taken p) ∷ echoed p d ∷ []) s) → (p < drive_party r → AllSpoken broke.adds.came) → Unheard r s → BeginBroken view start r s

abbrev pub Begins : {M : Type 0} → (M → MediumView) → Frame → RingView M → Begun → RingView M → Type 0
Begins view start r begun.NotTaken s = (whole : Whole view r (returned 0 start ∷ []) s) × (own_frames whole.adds.answers ≡ []) × (message_of start ≡ msg.Sai → Each IsNameless 1 (devices_of r)) × Unheard r s
Begins view start r begun.Taken s = BeginWhole view start r s
Begins view start r begun.Broken s = BeginBroken view start r s

-- ---- all frames of a talker

-- the entries after that of the start message
abbrev pub past_start : Answer → List Entry
past_start NotTaken = []
past_start (ToItsEnd p ds) = map (echoed p) ds ++ entry p eto (outcome.Taken 0) ∷ []
past_start (Stopped p ds last) = map (echoed p) ds ++ returned 0 nrd ∷ echoed p last ∷ entry p eto (outcome.Taken 0) ∷ []

-- This many of them came back right, and the next is held. There are none if the first is the last.
pub record TakesSoFar {M : Type 0} (view : M → MediumView) (m : RingView M) (h : IsHolding m) (bytes : List ℕ) (s : RingView M) : Type 0 where
  pub ds : List Echo
  pub echoes : list_all is_echo ds ≡ true
  pub bytes_are : bytes ≡ bytes_of ds
  pub now : IsHolding s
  pub source : now.flight.source ≡ h.flight.source
  pub alone : h.own.last ≡ true → (bytes ≡ []) × (now.own.last ≡ true) × (now.flight.sent ≡ h.flight.sent)
  pub added : Brings view m h.flight.source (λ gs. h.flight.sent ∷ gs ≡ frames_of ds ++ now.flight.sent ∷ []) (Some h.flight.source) (map (echoed h.flight.source) ds) (Some h.flight.source) s
  pub met : MatchBool now.flight.altered (ReachesFault m h s) (ReachesNoFault m h s)
  pub unheard : Unheard m s

-- all came, and the talker ended, of itself or stopped
pub record TakesWhole {M : Type 0} (view : M → MediumView) (m : RingView M) (h : IsHolding m) (stops : Bool) (bytes : List ℕ) (s : RingView M) : Type 0 where
  pub answer : Answer
  pub talker : talker_of answer ≡ Some h.flight.source
  pub legal : is_answer 0 answer ≡ true
  pub stopped : is_stopped answer ≡ stops
  pub bytes_are : bytes ≡ received answer
  pub alone : h.own.last ≡ true → bytes ≡ byte_of h.flight.sent ∷ []
  pub added : Brings view m h.flight.source (λ gs. h.flight.sent ∷ gs ≡ sent_frames answer ++ eto ∷ []) (Some h.flight.source) (past_start answer) None s
  pub ring : IsRing s
  pub held : s.books.held ≡ None
  pub clean : ReachesNoFault m h s
  pub unheard : Unheard m s

-- they broke off; there was room for w bytes
pub record TakesBroken {M : Type 0} (view : M → MediumView) (m : RingView M) (h : IsHolding m) (w : ℕ) (s : RingView M) : Type 0 where
  pub answer : Answer
  pub talker : talker_of answer ≡ Some h.flight.source
  pub legal : is_answer 0 answer ≡ true
  pub fitting : fits w answer ≡ true
  pub standing : ℕ
  pub break : Break
  pub cuts : can_cut 0 (past_start answer) standing break ≡ true
  pub held_at_end : Option ℕ
  pub ended : held_at_end ≡ held_after (Some h.flight.source) (cut_at (past_start answer) standing break)
  pub added : CutBrings view m h.flight.source (Some h.flight.source) (past_start answer) standing break held_at_end s
  pub ring : IsRing s
  pub held : s.books.held ≡ None
  pub spoilt : ReachesFault m h s
  pub unheard : Unheard m s

-- ---- the calls

-- of a place in front of the last one
abbrev pub Fronts : {M : Type 0} → (M → MediumView) → RingView M → List ℕ → List ℕ → Front → RingView M → Type 0
Fronts view m old new front.Full s = (length new ≡ length old) × ((h : IsHolding m) → TakesSoFar view m h new s)
Fronts view m old new (front.Ended n) s = (n ≤ length old) × (n ≡ length (take n new)) × (new ≡ take n new ++ drop n old) × ((h : IsHolding m) → TakesWhole view m h false (take n new) s)
Fronts view m old new front.Broken s = (h : IsHolding m) → TakesBroken view m h (suc (length old)) s

-- of the last one
abbrev pub Stops : {M : Type 0} → (M → MediumView) → RingView M → Bool → RingView M → Type 0
Stops view m true s = (h : IsHolding m) → TakesWhole view m h true (byte_of h.flight.sent ∷ []) s
Stops view m false s = (h : IsHolding m) → TakesBroken view m h 1 s

-- of all
pub record TakesInto {M : Type 0} (view : M → MediumView) (m : RingView M) (h : IsHolding m) (old new : List ℕ) (n : ℕ) (s : RingView M) : Type 0 where
  pub bytes : List ℕ
  pub count : n ≡ length bytes
  pub within : n ≤ length old
  pub filled : new ≡ bytes ++ drop n old
  pub took : TakesWhole view m h (n == length old) bytes s

abbrev pub TakesBytes : {M : Type 0} → (M → MediumView) → RingView M → List ℕ → List ℕ → Option ℕ → RingView M → Type 0
TakesBytes view m old new None s = (h : IsHolding m) → TakesBroken view m h (length old) s
TakesBytes view m old new (Some n) s = (h : IsHolding m) → TakesInto view m h old new n s

-- the one device that talked was the talker
abbrev pub WasTalking : {M : Type 0} → Answer → RingView M → Type 0
WasTalking answer r = IfSome (talker_of answer) (λ p. IsTalking p None (devices_of r))

-- Of SAI: the bytes show the talker's accessory ID. It was not taken if no talker has one.
abbrev pub SaysId : Answer → List DeviceState → Type 0
SaysId answer ds = MatchOption (talker_of answer) (Each IsNameless 1 ds) (λ p. received answer ≡ id_bytes (accessory_at (p - 1) ds))

-- what came of the start message
pub record Answered {M : Type 0} (view : M → MediumView) (start : Start) (n : ℕ) (r : RingView M) (old new : List ℕ) (s : RingView M) : Type 0 where
  pub answer : Answer
  pub legal : is_answer 0 answer ≡ true
  pub talked : WasTalking answer r
  pub whole : Whole view r (answer_entries 0 (start_frame start) answer) s
  pub far : LiesAfter answer r → AllSpoken whole.adds.came
  pub said : SaysOf answer r → own_frames whole.adds.answers ≡ said_of answer
  pub count : n ≡ length (received answer)
  pub within : n ≤ length old
  pub bytes : new ≡ received answer ++ drop n old
  pub stops : is_stopped answer ≡ (n == length old)
  pub unheard : Unheard r s
  pub id : start ≡ Sai → SaysId answer (devices_of r)

pub record NotAnswered {M : Type 0} (view : M → MediumView) (start : Start) (w : ℕ) (r s : RingView M) : Type 0 where
  pub answer : Answer
  pub legal : is_answer 0 answer ≡ true
  pub talked : WasTalking answer r
  pub fitting : fits w answer ≡ true
  pub broke : Broke view r (answer_entries 0 (start_frame start) answer) s
  pub ended : broke.held_at_end ≡ held_after None (cut_at (answer_entries 0 (start_frame start) answer) broke.standing broke.break)
  pub far : LiesAfter answer r → AllSpoken broke.adds.came
  pub unheard : Unheard r s

-- i of the places in front of the last one are filled
pub record FrontAt {M : Type 0} (view : M → MediumView) (m : RingView M) (i : ℕ) (old now : List ℕ) (count : ℕ) (s : RingView M) : Type 0 where
  pub so : (h : IsHolding m) → TakesSoFar view m h (take i now) s
  pub rest : drop i now ≡ drop i old
  pub many : length now ≡ length old
  pub count_is : count ≡ i
