-- Calls of a store over the loop that move no record.
use Rattle.std.proofs.Common.{◌≡◌, ◌∙◌, ◌≤◌, ◌+◌, ◌*◌, ℕ, Bool, true, false, List, [], refl, sym, ap, subst, arith, append-nil}
use Rattle.std.specs.Prelude.{Result, Ok, Err, IfOk, IfErr, Option}
use Rattle.il_ports.specs.declared.records.Trouble.{Trouble}
use Rattle.il_ports.specs.Media.{MediumView}
use Rattle.il_drive.specs.Resting.{IsFree}
use Rattle.il_ring.specs.Lists.{Each}
use Rattle.il_ring.specs.Rings.{RingView, devices_of, drive_party, spare_of}
use Rattle.il_control.specs.Calls.{loop_of}
use Rattle.il_frames.specs.declared.frame.Frame.{Frame}
use Rattle.il_record.specs.declared.records.Since.{Since}
use Rattle.il_record.specs.declared.records.Since.TheVariants as since
use Rattle.il_record.specs.Asks.{Ask}
use Rattle.il_record.specs.Called.{Calls, EndedBy, LeavesStore}
use Rattle.il_record.specs.Came.{CameUnits, NoneHeard}
use Rattle.il_record.specs.LoopCalls.{AllNamed, LeavesDrive, LeftAlone, NotSaid, Said}
use Rattle.loop_model.specs.Effect.{Transferred}
use Rattle.il_record.specs.LoopStores.{LoopView, StandsBy, StandsSo, Stood, calls_in, is_broken, since_frame, since_said, view_of}
use Rattle.il_record.specs.Polls.{HasPolled, MayPoll, PlacesKept, PollBroke}
use Rattle.il_record.specs.Runs.{NotPolled, Polled}
use Rattle.il_record.proofs.CameLaws.{not_polled_came, polled_came}
use Rattle.il_record.proofs.HeardLogs.{heard_none}
use Rattle.il_record.proofs.Places.{free_on, kept_left, kept_not_said, kept_said, may_poll_broke, may_poll_kept, may_poll_polled}
use Rattle.il_record.proofs.StoreCalls.{calls_less, frames_rose, frames_same, stood_frame, stood_not_said, stood_said, stood_whole, transferred_then}
use Rattle.il_record.proofs.StoreRuns.{as_left, party_of}
use Rattle.il_record.proofs.StoreStarts.{count_of, sound_and, sound_none, still_of}

-- ---- what stands before a call

pub stands : {M : Type 0} (ready : Bool) (r : RingView M) (sound : Bool) (log : Since) → ready ≡ true → StandsBy ready r sound log → StandsBy true r sound log
stands ready r sound log is so = subst (λ b. StandsBy b r sound log) is so

-- ---- what exchanges leave that move no record, whole or broken off, where the log stood so and stands so after them

pub record Mild {M : Type 0} (view : M → MediumView) (whole : Bool) (log new : Since) (r s : RingView M) : Type 0 where
  pub units : CameUnits view whole [] r s
  pub medium : s.drive.medium ≡ r.drive.medium
  pub may : Each MayPoll 1 (devices_of r) → Each MayPoll 1 (devices_of s)
  pub free : whole ≡ true → IsFree (drive_party r) r.drive.state → IsFree (drive_party s) s.drive.state
  pub stood : is_broken log ≡ false → (start : RingView M) → Stood view log start r → Stood view new start s

-- by what they leave of the drive and of the devices
module _ {M : Type 0} (view : M → MediumView) (log : Since) (r s : RingView M) (drive : LeavesDrive r.drive s.drive) (may : Each MayPoll 1 (devices_of r) → Each MayPoll 1 (devices_of s)) where
  mild_whole : CameUnits view true [] r s → NoneHeard r s → Mild view true log log r s
  mild_whole units unheard = record {
    units = units;
    medium = drive.medium;
    may = may;
    free = λ whole free. free_on view r s [] free units drive;
    stood = λ alive start so. stood_whole view log [] start r s so alive units refl (heard_none (drive_party r) r s unheard) (count_of view r s drive.medium) (λ before. drive.status ∙ before);
  }

  mild_broken : CameUnits view false [] r s → NoneHeard r s → Mild view false log (since_frame log) r s
  mild_broken units unheard = record { units = units; medium = drive.medium; may = may; free = λ whole. cc; stood = λ alive start so. stood_frame view log start r s so alive units.came (heard_none (drive_party r) r s unheard) }

module _ {M : Type 0} (view : M → MediumView) (log : Since) (r s : RingView M) where
  pub status_mild : (byte : ℕ) → PlacesKept r s → Polled view (drive_party r) byte r s → Mild view true log log r s
  status_mild byte places told =
      let units = polled_came view (drive_party r) r s byte told in
      record {
        units = units;
        medium = told.drive.medium;
        may = may_poll_kept r s places;
        free = λ whole free. subst (λ d. IsFree d s.drive.state) (sym (party_of view true r s units.came)) told.drive.rests.free;
        stood = λ alive start so. stood_whole view log [] start r s so alive units refl (heard_none (drive_party r) r s told.unheard) (count_of view r s told.drive.medium) (λ before. told.drive.rests.free.status);
      }

  pub not_told_mild : PlacesKept r s → NotPolled view (drive_party r) r s → Mild view false log (since_frame log) r s
  not_told_mild places not =
      let units = not_polled_came view (drive_party r) r s not in
      record { units = units; medium = not.medium; may = may_poll_kept r s places; free = λ whole. cc; stood = λ alive start so. stood_frame view log start r s so alive units.came (heard_none (drive_party r) r s not.unheard) }

  pub names_mild : (ids : List (Option ℕ)) → AllNamed view ids r s → Mild view true log log r s
  names_mild ids named = let left = named.left in mild_whole view log r s left.drive (may_poll_kept r s (kept_left view r s true _ left)) left.came.units left.unheard

  pub not_named_mild : (asks : List Ask) → LeftAlone view false asks r s → Mild view false log (since_frame log) r s
  not_named_mild asks left = mild_broken view log r s left.drive (may_poll_kept r s (kept_left view r s false asks left)) left.came.units left.unheard

  pub poll_mild : (f : Frame) → HasPolled view f r s → Mild view true log log r s
  poll_mild f polled = mild_whole view log r s polled.drive (λ may. may_poll_polled view r s f polled) polled.came.units polled.unheard

  pub not_polled_mild : (n : ℕ) (asks : List Ask) → PollBroke view n asks r s → Mild view false log (since_frame log) r s
  not_polled_mild n asks broke = mild_broken view log r s broke.drive (may_poll_broke view r s n asks broke) broke.came.units broke.unheard

  pub said_mild : (a : ℕ) (bytes : List ℕ) → Said view a bytes r s → Mild view true log (since_said log) r s
  said_mild a bytes said =
      let units = said.came.units in
      record { units = units; medium = said.drive.medium; may = may_poll_kept r s (kept_said view r s a bytes said); free = λ whole free. free_on view r s [] free units said.drive; stood = λ alive start so. stood_said view log start r s so alive units.came }

  pub not_said_mild : (a : ℕ) (bytes : List ℕ) → NotSaid view a bytes r s → Mild view false log (since_frame (since_said log)) r s
  not_said_mild a bytes not =
      let units = not.came.units in
      record { units = units; medium = not.drive.medium; may = may_poll_kept r s (kept_not_said view r s a bytes not); free = λ whole. cc; stood = λ alive start so. stood_not_said view log start r s so alive units.came }

pub poll_used : {M E : Type 0} (view : M → MediumView) (r s : RingView M) (asks : List Ask) (answer : Result Frame E) → IfOk answer (λ f. HasPolled view f r s) → IfErr answer (λ e. PollBroke view 54 asks r s) → spare_of r ≤ spare_of s + 54
poll_used view r s asks (Ok f) polled not = let room = polled.room in omega (arith, room)
poll_used view r s asks (Err e) polled not = not.room

pub said_alive : (log : Since) → is_broken (since_said log) ≡ false
said_alive since.Unbroken = refl
said_alive _ = refl

-- ---- what a call tells, by how its exchanges ended

-- the loop stays ready
pub left_whole : {M : Type 0} (sound : Bool) (log : Since) (old new : LoopView M) (s : RingView M) → old.ready ≡ true → new ≡ record old { ring = s; sound = sound; since = log } → new ≡ record old { ring = s; ready = true; sound = sound; since = log }
left_whole sound log old new s ready is = is ∙ ap (λ (b : Bool). record old { ring = s; ready = b; sound = sound; since = log }) ready

pub calls : {M T E : Type 0} (P : T → RingView M → RingView M → Type 0) (Q : RingView M → RingView M → Type 0) (sound : Bool) (log now : Since) (old new : LoopView M) (s : RingView M) → old.ready ≡ true → now ≡ log → (answer : Result T E) (result : Result T Trouble)
    → EndedBy answer (record old { ring = s; sound = sound; since = now }) new result → IfOk answer (λ x. P x old.ring s) → IfErr answer (λ e. Q old.ring s) → Calls P Q sound log old new result
calls {M} {T} {E} P Q sound log now old new s ready logged answer result ended did not = by answer (subst (λ (log : Since). EndedBy answer (record old { ring = s; sound = sound; since = log }) new result) logged ended) did not
  where
    by : (answer : Result T E) → EndedBy answer (record old { ring = s; sound = sound; since = log }) new result → IfOk answer (λ x. P x old.ring s) → IfErr answer (λ e. Q old.ring s) → Calls P Q sound log old new result
    by (Ok x) ended did not = as_left (λ l result. Calls P Q sound log old l result) new _ result _ (ended.0, left_whole sound log old new s ready ended.1) (record { did = did; left = refl })
    by (Err e) ended did not = as_left (λ l result. Calls P Q sound log old l result) new _ result _ ended (refl, record { did = not; left = refl })

-- ---- what it leaves

module _ {M S : Type 0} (view : M → MediumView) (seen : S → RingView M) (p q : S) (log now : Since) (logged : now ≡ log) (old new : LoopView M) (s : RingView M) (ready : old.ready ≡ true) (valid : StandsSo old) (told : Type 0) (k n : ℕ) (used : spare_of old.ring ≤ spare_of s + n) (few : n ≤ 300 * k) (alive : is_broken log ≡ false) where
  before : StandsBy true old.ring old.sound old.since
  before = stands old.ready old.ring old.sound old.since ready valid

  leaves_by : {T E : Type 0} (answer : Result T E) (result : Result T Trouble) → EndedBy answer (record old { ring = s; since = log }) new result → IfOk answer (λ x. Mild view true old.since log old.ring s) → IfErr answer (λ e. Mild view false old.since (since_frame log) old.ring s)
      → LeavesStore k told (view_of view seen p old) (view_of view seen q new) result
  leaves_by (Ok x) result ended mild not =
      let still = still_of view old.ring s mild.medium in
      let units = mild.units in
      as_left (λ l result. LeavesStore k told (view_of view seen p old) (view_of view seen q l) result) new _ result _ (ended.0, left_whole old.sound log old new s ready ended.1) (record {
        valid = (units.came.talked.state, (λ is. mild.free refl (before.1 is)), alive, mild.may before.3);
        quiet = record { tape = still.tape; moment = still.moment; since = still.since };
        size = still.stays_in.size;
        sound = sound_and old.sound;
        left = calls_less k n old.ring s used few;
        room = ap calls_in units.came.talked.adds.room;
        cause = (frames_same view units.came.pieces old.ring s before.0.free.ring units.came.talked, count_of view old.ring s mild.medium);
        transferred = λ list so. subst (λ list. Transferred (loop_of s) s.books.log list) (append-nil list) (transferred_then view true [] old.ring s list units refl so);
        stood = λ told start so. mild.stood before.2 (seen start) so;
        resumed = λ k so. so;
      })
  leaves_by (Err e) result ended mild not =
      let still = still_of view old.ring s not.medium in
      let units = not.units in
      let count = count_of view old.ring s not.medium in
      as_left (λ l result. LeavesStore k told (view_of view seen p old) (view_of view seen q l) result) new _ result _ ended (record {
        valid = (units.came.talked.state, refl, not.may before.3);
        quiet = record { tape = still.tape; moment = still.moment; since = still.since };
        size = still.stays_in.size;
        sound = sound_none old.sound;
        left = calls_less k n old.ring s used few;
        room = ap calls_in units.came.talked.adds.room;
        cause = (frames_rose view units.came.pieces old.ring s before.0.free.ring units.came.talked, omega (arith, count));
        transferred = λ list so. subst (λ list. Transferred (loop_of s) s.books.log list) (append-nil list) (transferred_then view false [] old.ring s list units refl so);
        stood = λ told start so. not.stood before.2 (seen start) so;
        resumed = λ k so. so;
      })

  pub leaves : {T E : Type 0} (answer : Result T E) (result : Result T Trouble) → EndedBy answer (record old { ring = s; since = now }) new result → IfOk answer (λ x. Mild view true old.since log old.ring s) → IfErr answer (λ e. Mild view false old.since (since_frame log) old.ring s)
      → LeavesStore k told (view_of view seen p old) (view_of view seen q new) result
  leaves answer result ended mild not = leaves_by answer result (subst (λ (log : Since). EndedBy answer (record old { ring = s; since = log }) new result) logged ended) mild not
