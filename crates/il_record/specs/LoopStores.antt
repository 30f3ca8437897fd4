-- What contracts see of a store of records over the loop.
use Rattle.std.specs.Prelude.{◌≡◌, ◌⊎◌, ◌≤◌, ◌+◌, ◌-◌, ◌/◌, ℕ, Bool, true, false, min, [], length, Option, Some, None, Result, Ok, Err}
use Rattle.il_ports.specs.Media.{MediumView}
use Rattle.il_ports.specs.Stores.{RecordsView}
use Rattle.il_drive.specs.State.{status_of}
use Rattle.il_drive.specs.Resting.{IsFree}
use Rattle.loop_model.specs.Effect.{Transferred, all_good}
use Rattle.loop_model.specs.Reach.{met}
use Rattle.loop_model.specs.Units.{units_of}
use Rattle.il_ring.specs.Plans.{hops_of}
use Rattle.il_ring.specs.Lists.{Each}
use Rattle.il_ring.specs.Rings.{RingView, ring_emptied, devices_of, drive_party, spare_of}
use Rattle.il_control.specs.Calls.{IsFree as IsFreeRing, IsIdle, IsLost, loop_of}
use Rattle.il_record.specs.declared.records.Since.{Since}
use Rattle.il_record.specs.declared.records.Since.TheVariants as since
use Rattle.il_ports.specs.declared.records.Trouble.{Trouble}
use Rattle.il_ports.specs.declared.records.Trouble.TheVariants as trouble
use Rattle.il_record.specs.Came.{OnlyHeard, CameBy}
use Rattle.il_record.specs.Polls.{MayPoll}
use Rattle.il_record.specs.Runs.{LeavesDevices, Readied, Interrupted, Cleared, address_asks, clear_asks}

-- the ring; whether the loop is addressed and no device talks; whether records can be read and written; how the log stands since it
-- was last emptied; and how many calls of `resume` there were since, a count that stays at its greatest value
pub record LoopView (M : Type 0) : Type 0 where
  pub ring : RingView M
  pub ready : Bool
  pub sound : Bool
  pub since : Since
  pub resumes : ℕ

-- ---- what holds between two calls

-- the last exchange of the log was broken off
abbrev pub is_broken : Since → Bool
is_broken since.Broken = true
is_broken since.SaidBroken = true
is_broken _ = false

-- bytes were sent to another device than the drive
abbrev pub has_said : Since → Bool
has_said since.Said = true
has_said since.SaidBroken = true
has_said _ = false

-- Each device has no place in the parallel poll, or that of its party. Where the loop is ready the drive rests, with status 0, if the
-- store is sound; where it is not, the store is not sound.
abbrev pub StandsBy : {M : Type 0} → Bool → RingView M → Bool → Since → Type 0
StandsBy true r sound log = IsIdle r × (sound ≡ true → IsFree (drive_party r) r.drive.state) × (is_broken log ≡ false) × Each MayPoll 1 (devices_of r)
StandsBy false r sound log = IsLost r × (sound ≡ false) × Each MayPoll 1 (devices_of r)

abbrev pub StandsSo : {M : Type 0} → LoopView M → Type 0
StandsSo l = StandsBy l.ready l.ring l.sound l.since

-- ---- what became of the ring

-- whole exchanges, of which each unit has status 0, and the medium did not fail
pub record CameGood {M : Type 0} (view : M → MediumView) (r s : RingView M) : Type 0 where
  pub came : CameBy view true r s
  pub good : all_good (units_of (loop_of r) came.pieces) ≡ true
  pub count : (view s.drive.medium).faults ≡ (view r.drive.medium).faults

-- whole exchanges, of which a unit has another status; the drive has told it, and its status is 0 now
pub record CameBad {M : Type 0} (view : M → MediumView) (r s : RingView M) : Type 0 where
  pub came : CameBy view true r s
  pub bad : all_good (units_of (loop_of r) came.pieces) ≡ false
  pub told : status_of s.drive.state ≡ 0

-- The exchanges by which r became s, if there were any, by how the log stands: where no call failed, where the medium failed, and
-- where one was broken off.
abbrev pub StoodBy : {M : Type 0} → (M → MediumView) → Since → RingView M → RingView M → Type 0
StoodBy view since.Unbroken r s = (s ≡ r) ⊎ CameGood view r s
StoodBy view since.Failed r s = CameBad view r s
StoodBy view since.Broken r s = CameBy view false r s
StoodBy view since.Mended r s = ⊥
StoodBy view since.Said r s = CameBy view true r s
StoodBy view since.SaidBroken r s = CameBy view false r s

-- The ring r, on which no frame was held, became s since the log was emptied. Where bytes were sent to no other device, none but the
-- drive heard anything, by the log too.
pub record Stood {M : Type 0} (view : M → MediumView) (log : Since) (r s : RingView M) : Type 0 where
  pub free : IsFreeRing r
  pub unheard : has_said log ≡ false → OnlyHeard (drive_party r) r s
  pub by : StoodBy view log r s

-- ---- counts

-- how many records the room for so many entries is enough for
abbrev pub calls_in : ℕ → ℕ
calls_in spare = min 4294967295 ((spare - 32) / 300)

-- how many planned hops were crossed so far
abbrev pub crossed_hops : {M : Type 0} → RingView M → ℕ
crossed_hops r = length (met (hops_of r.books.plan) 0 r.books.crossings)

-- the greatest count of calls of `resume`
abbrev pub most_resumes : ℕ
most_resumes = 4294967295

-- ---- the view

-- How the calls since the log was last emptied ended, where no bytes were sent to another device than the drive: none failed, or the
-- last one alone. Where the loop is ready it was failed by the medium, and where it is not by a frame.
abbrev pub FailedReady : Since → Option Trouble → Type 0
FailedReady since.Unbroken failure = failure ≡ None
FailedReady since.Failed failure = failure ≡ Some trouble.Medium
FailedReady _ failure = ⊥

abbrev pub FailedLost : Since → Option Trouble → Type 0
FailedLost since.Unbroken failure = failure ≡ None
FailedLost since.Broken failure = failure ≡ Some trouble.Frame
FailedLost _ failure = ⊥

abbrev pub FailedBy : Bool → Since → Option Trouble → Type 0
FailedBy true log = FailedReady log
FailedBy false log = FailedLost log

-- A store over the loop as every store is seen. It starts as a ring.
abbrev pub view_of : {M S : Type 0} → (M → MediumView) → (S → RingView M) → S → LoopView M → RecordsView S
view_of view seen present l = record {
  valid = StandsSo l;
  tape = (view l.ring.drive.medium).tape;
  record_count = (view l.ring.drive.medium).record_count;
  ready = l.ready;
  sound = l.sound;
  calls_left = calls_in (spare_of l.ring);
  room = calls_in l.ring.books.room;
  frame_faults = crossed_hops l.ring;
  medium_faults = (view l.ring.drive.medium).faults;
  moment = (view l.ring.drive.medium).moment;
  left_since = (view l.ring.drive.medium).left_since;
  transferred = Transferred (loop_of l.ring) l.ring.books.log;
  present = present;
  emptied = λ old new. seen new ≡ ring_emptied (seen old);
  stood = λ start. Stood view l.since (seen start) l.ring;
  failed = FailedBy l.ready l.since;
  resumed = λ k. min k most_resumes ≡ l.resumes;
}

-- of which no call was made yet
pub record IsFresh {S : Type 0} (v : RecordsView S) : Type 0 where
  pub valid : v.valid
  pub stood : v.stood v.present
  pub transferred : v.transferred []
  pub failed : v.failed None
  pub resumed : v.resumed 0

-- ---- for the calls

-- how the log comes after a call that failed
abbrev pub since_medium : Since → Since
since_medium since.Unbroken = since.Failed
since_medium other = other

abbrev pub since_frame : Since → Since
since_frame since.Unbroken = since.Broken
since_frame since.Failed = since.Broken
since_frame since.Said = since.SaidBroken
since_frame _ = since.Mended

-- how it goes on after a broken exchange
abbrev pub since_more : Since → Since
since_more since.Broken = since.Mended
since_more since.SaidBroken = since.Mended
since_more other = other

-- after bytes for another device than the drive
abbrev pub since_said : Since → Since
since_said since.Unbroken = since.Said
since_said since.Failed = since.Said
since_said since.Said = since.Said
since_said _ = since.Mended

-- with the log of its ring emptied
abbrev pub log_emptied : {M : Type 0} → LoopView M → LoopView M
log_emptied l = record l { ring = ring_emptied l.ring; since = since.Unbroken; resumes = 0 }

-- What `ready` does: nothing where the loop is ready. Else the devices are addressed, or an exchange was broken off.
pub record Addressed {M : Type 0} (view : M → MediumView) (old new : LoopView M) : Type 0 where
  pub left : new ≡ record old { ring = new.ring; ready = true; since = since_more old.since }
  pub readied : Readied view old.ring new.ring
  pub used : spare_of old.ring ≤ spare_of new.ring + 5

pub record NotAddressed {M : Type 0} (view : M → MediumView) (old new : LoopView M) : Type 0 where
  pub left : new ≡ record old { ring = new.ring; ready = false; sound = false; since = since_frame old.since }
  pub interrupted : Interrupted view address_asks (drive_party old.ring) old.ring new.ring
  pub leaves : LeavesDevices old.ring new.ring
  pub used : spare_of old.ring ≤ spare_of new.ring + 6

abbrev pub Addresses : {M T : Type 0} → (M → MediumView) → Bool → LoopView M → LoopView M → Result T Trouble → Type 0
Addresses view true old new (Ok x) = new ≡ old
Addresses view true old new (Err e) = ⊥
Addresses view false old new (Ok x) = Addressed view old new
Addresses view false old new (Err e) = (e ≡ trouble.Frame) × NotAddressed view old new

-- ---- resuming

-- one call of `resume` more
abbrev pub counted_resume : {M : Type 0} → LoopView M → LoopView M
counted_resume l = record l { resumes = min (l.resumes + 1) most_resumes }

-- The loop is as `ready` leaves it, and then the drive was cleared.
pub record Mended {M : Type 0} (view : M → MediumView) (old new : LoopView M) : Type 0 where
  pub ready : LoopView M
  pub addressed : Addresses {T = Unit {0}} view old.ready old ready (Ok tt)
  pub at : ready.ready ≡ true
  pub cleared : Cleared view (drive_party ready.ring) ready.ring new.ring
  pub used : spare_of ready.ring ≤ spare_of new.ring + 7
  pub left : new ≡ record ready { ring = new.ring; sound = true }

-- Then an exchange of the clearing was broken off.
pub record NotMended {M : Type 0} (view : M → MediumView) (old new : LoopView M) : Type 0 where
  pub ready : LoopView M
  pub addressed : Addresses {T = Unit {0}} view old.ready old ready (Ok tt)
  pub at : ready.ready ≡ true
  pub interrupted : Interrupted view (clear_asks (drive_party ready.ring)) (drive_party ready.ring) ready.ring new.ring
  pub used : spare_of ready.ring ≤ spare_of new.ring + 7
  pub left : new ≡ record ready { ring = new.ring; ready = false; sound = false; since = since_frame ready.since }

-- What `resume` does, by whether the store is sound: nothing where it is. An error comes from addressing or from clearing.
abbrev pub Resumes : {M T : Type 0} → (M → MediumView) → Bool → LoopView M → LoopView M → Result T Trouble → Type 0
Resumes view true old new (Ok x) = new ≡ old
Resumes view true old new (Err e) = ⊥
Resumes view false old new (Ok x) = Mended view old new
Resumes {T = T} view false old new (Err e) = Addresses {T = T} view old.ready old new (Err e) ⊎ ((e ≡ trouble.Frame) × NotMended view old new)
