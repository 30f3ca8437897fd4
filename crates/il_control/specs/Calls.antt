-- What a call of the controller did to the ring: these entries, or a broken beginning of them.
use Rattle.std.specs.Prelude.{◌≡◌, ◌≢◌, ◌&&◌, ◌==◌, not, ℕ, Bool, true, false, List, [], ◌∷◌, ◌++◌, length, Option, Some, None}
use Rattle.std.specs.List.{list_all}
use Rattle.il_frames.specs.declared.frame.Class.TheVariants as class
use Rattle.il_frames.specs.declared.frame.Frame.{Frame}
use Rattle.il_frames.specs.declared.entry.Entry.{Entry}
use Rattle.il_frames.specs.Frames.{class_of, framed, same_class}
use Rattle.il_frames.specs.declared.message.Message.{Message}
use Rattle.il_frames.specs.Messages.{message_of}
use Rattle.il_device.specs.State.{DeviceState}
use Rattle.il_ports.specs.Media.{MediumView}
use Rattle.il_frames.specs.NamedFrames.{ifc, aau, is_no_nrd}
use Rattle.loop_model.specs.Loops.{Loop, host_loop}
use Rattle.loop_model.specs.Roles.{talkers, is_at_most_one, OneTalker, are_numbered, is_aau}
use Rattle.loop_model.specs.Exchanges.{Break, Echo, Exchange, Command, Address, echoed, entries_of, is_exchange, is_host_echo, is_talk_address, cut_at, can_cut}
use Rattle.loop_model.specs.Reach.{held_at_end as held_after}
use Rattle.loop_model.specs.Hearing.{has_no_data}
use Rattle.il_ring.specs.declared.plan.Arrival.{Arrival}
use Rattle.il_ring.specs.declared.plan.Arrival.TheVariants as arrival
use Rattle.il_ring.specs.Guests.{IsUnderHost}
use Rattle.il_ring.specs.Rings.{RingView, IsRing, devices_of, roles_of, drive_party}
use Rattle.il_ring.specs.Lists.{Each, First}
use Rattle.il_ring.specs.Outcomes.{met_between, Obeys, HearsNothing, HearsByte, HearsAny}
use Rattle.il_ring.specs.Adds.{Adds}
use Rattle.il_ring.specs.Polls.{KeepsPlace}
use Rattle.il_control.specs.Brought.{Brought, CutBrought, is_from_here}

-- a frame came to the host
abbrev pub arrives : Arrival → Bool
arrives (arrival.Frame f) = true
arrives arrival.Lost = false

-- no device heard anything
abbrev pub Unheard : {M : Type 0} → RingView M → RingView M → Type 0
Unheard r s = First HearsNothing (length (devices_of r)) (devices_of r) (devices_of s)

-- each device obeyed this message, and nothing else came to it that changes roles
abbrev pub Obeyed : {M : Type 0} → Message → RingView M → RingView M → Type 0
Obeyed m r s = First (Obeys m) (length (devices_of r)) (devices_of r) (devices_of s)

-- the first n devices obeyed it, and the others are as they were
abbrev pub ObeyedInPart : {M : Type 0} → Message → RingView M → RingView M → Type 0
ObeyedInPart m r s = (reached : ℕ) × First (Obeys m) reached (devices_of r) (devices_of s)

-- What a device keeps that gets no poll message and hears nothing: its place in the parallel poll too; and, if `still`, whether it
-- wants service.
pub record Stays (still : Bool) (d e : DeviceState) : Type 0 where
  pub nothing : HearsNothing d e
  pub place : KeepsPlace d e
  pub wants : still ≡ true → e.wants ≡ d.wants

-- each of them
abbrev pub AllStay : {M : Type 0} → Bool → RingView M → RingView M → Type 0
AllStay still r s = First (Stays still) (length (devices_of r)) (devices_of r) (devices_of s)

-- The entries, whole: no planned hop was reached, no frame is held, and if none of them is a data frame no device heard anything.
-- If each is of the host, the drive or a device after it, the frames that they brought to the drive came to it in their order.
pub record Whole {M : Type 0} (view : M → MediumView) (r : RingView M) (entries : List Entry) (s : RingView M) : Type 0 where
  pub adds : Adds view r None entries None s
  pub ring : IsRing s
  pub held : s.books.held ≡ None
  pub met_none : met_between r s ≡ []
  pub unheard : list_all has_no_data entries ≡ true → Unheard r s
  pub brought : list_all (is_from_here (drive_party r)) entries ≡ true → Brought (length (devices_of r)) (drive_party r) entries adds.came

-- This many of them, and then a break in the place of the next: a planned hop was reached, and no frame is held. A frame was held as they
-- ended at most if NRD is one of them.
pub record Broke {M : Type 0} (view : M → MediumView) (r : RingView M) (entries : List Entry) (s : RingView M) : Type 0 where
  pub standing : ℕ
  pub break : Break
  pub legal : can_cut 0 entries standing break ≡ true
  pub held_at_end : Option ℕ
  pub told : list_all is_no_nrd entries ≡ true → held_at_end ≡ None
  pub adds : Adds view r None (cut_at entries standing break) held_at_end s
  pub ring : IsRing s
  pub held : s.books.held ≡ None
  pub met_some : met_between r s ≢ []
  pub unheard : list_all has_no_data entries ≡ true → Unheard r s
  pub brought : list_all (is_from_here (drive_party r)) entries ≡ true → CutBrought (length (devices_of r)) (drive_party r) entries standing adds.came

-- ---- the states

-- a ring on which no frame is held
pub record IsFree {M : Type 0} (r : RingView M) : Type 0 where
  pub ring : IsRing r
  pub held : r.books.held ≡ None

-- the host controls the loop, no device talks, and the k-th device has the address k
pub record IsIdle {M : Type 0} (r : RingView M) : Type 0 where
  pub free : IsFree r
  pub host : IsUnderHost r.guest
  pub silent : talkers (roles_of (devices_of r)) ≡ []
  pub numbered : are_numbered 1 (roles_of (devices_of r)) ≡ true

-- at most one device talks, whoever controls the loop
pub record IsLost {M : Type 0} (r : RingView M) : Type 0 where
  pub free : IsFree r
  pub one : is_at_most_one (talkers (roles_of (devices_of r))) ≡ true

-- ---- exchanges

-- the loop of the ring
abbrev pub loop_of : {M : Type 0} → RingView M → Loop
loop_of r = host_loop (length (devices_of r)) (drive_party r)

-- the identify frame of a controller, on which no device has set a bit
abbrev pub idy : Frame
idy = framed class.Idy 0x00

-- a command that gives no talk address and takes no address away
abbrev pub is_command : Frame → Bool
is_command f = same_class (class_of f) class.Cmd && (not (is_talk_address (message_of f)) && not (is_aau (message_of f)))

-- the exchange was made, and at most one party talked at every moment of it
pub record Made {M : Type 0} (view : M → MediumView) (x : Exchange) (r s : RingView M) : Type 0 where
  pub whole : Whole view r (entries_of 0 x) s
  pub legal : is_exchange (loop_of r) x ≡ true
  pub one : OneTalker (roles_of (devices_of r)) (entries_of 0 x)
  pub idle : IsIdle s

-- it was broken off; whether a frame was held as it ended is read off its entries
pub record BrokenOff {M : Type 0} (view : M → MediumView) (x : Exchange) (r s : RingView M) : Type 0 where
  pub broke : Broke view r (entries_of 0 x) s
  pub ended : broke.held_at_end ≡ held_after None (cut_at (entries_of 0 x) broke.standing broke.break)
  pub legal : is_exchange (loop_of r) x ≡ true
  pub one : OneTalker (roles_of (devices_of r)) (cut_at (entries_of 0 x) broke.standing broke.break)
  pub lost : IsLost s

-- ---- from any roles

-- the entries of a controller that addresses all devices, which are this many
abbrev pub addressing : ℕ → List Entry
addressing devices = entries_of 0 (Command ifc) ++ (entries_of 0 (Command aau) ++ entries_of 0 (Address devices))

-- party k has its number as address, and neither talks nor listens
abbrev pub IsAddressed : ℕ → DeviceState → Type 0
IsAddressed k d = d.roles ≡ record { address = Some k; talks = false; listens = false }

-- all devices were addressed; there are n
pub record Resumed {M : Type 0} (view : M → MediumView) (n : ℕ) (r s : RingView M) : Type 0 where
  pub count : n ≡ length (devices_of r)
  pub whole : Whole view r (addressing n) s
  pub one : OneTalker (roles_of (devices_of r)) (addressing n)
  pub addressed : Each IsAddressed 1 (devices_of s)
  pub idle : IsIdle s

-- that was broken off
pub record NotResumed {M : Type 0} (view : M → MediumView) (r s : RingView M) : Type 0 where
  pub broke : Broke view r (addressing (length (devices_of r))) s
  pub one : OneTalker (roles_of (devices_of r)) (cut_at (addressing (length (devices_of r))) broke.standing broke.break)
  pub lost : IsLost s

-- ---- a send, byte by byte

-- the data frame of a byte, and what came back of it
abbrev pub sent_as : ℕ → Frame → Echo
sent_as byte back = record { sent = framed class.Dab byte; back = back }

-- party k listens if and only if it is a
abbrev pub IsTold : ℕ → ℕ → DeviceState → Type 0
IsTold a k d = d.roles.listens ≡ (k == a)

-- The data frame of this byte came back the same apart from the service bit, and each device that listens heard it.
pub record Sent {M : Type 0} (view : M → MediumView) (byte : ℕ) (r s : RingView M) : Type 0 where
  pub back : Frame
  pub legal : is_host_echo (sent_as byte back) ≡ true
  pub whole : Whole view r (echoed 0 (sent_as byte back) ∷ []) s
  pub one : OneTalker (roles_of (devices_of r)) (echoed 0 (sent_as byte back) ∷ [])
  pub heard : First (HearsByte byte) (length (devices_of r)) (devices_of r) (devices_of s)
  pub idle : IsIdle s

-- It was lost, or came back with another byte; the first n devices heard what came to them.
pub record NotSent {M : Type 0} (view : M → MediumView) (byte : ℕ) (r s : RingView M) : Type 0 where
  pub broke : Broke view r (echoed 0 (sent_as byte (framed class.Dab byte)) ∷ []) s
  pub one : OneTalker (roles_of (devices_of r)) (cut_at (echoed 0 (sent_as byte (framed class.Dab byte)) ∷ []) broke.standing broke.break)
  pub reached : ℕ
  pub heard : First HearsAny reached (devices_of r) (devices_of s)
  pub lost : IsLost s
