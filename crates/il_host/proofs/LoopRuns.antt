-- What a command of the loop did with the ring on which its log was emptied, whole or broken off.
use Rattle.std.proofs.Common.{◌≡◌, ◌∙◌, ℕ, Bool, true, false, not, List, [], length, Some, None, refl, sym, ap, subst, arith}
use Rattle.il_ports.specs.Media.{MediumView}
use Rattle.il_drive.specs.State.{drive_id}
use Rattle.il_drive.specs.Steps.{IsStill}
use Rattle.loop_model.specs.Polls.{polled_along}
use Rattle.il_ring.specs.Rings.{RingView, devices_of, drive_party}
use Rattle.il_control.specs.Calls.{idy}
use Rattle.il_record.specs.Asks.{up_to, CameAsked}
use Rattle.il_record.specs.Came.{CameBy, NoneHeard, OnlyHeard}
use Rattle.il_record.specs.LoopCalls.{LeftAlone, id_asks, LeavesDrive}
use Rattle.il_record.specs.Polls.{poll_asks}
use Rattle.il_record.specs.Runs.{NotPolled, Polled}
use Rattle.il_record.proofs.HeardLogs.{heard_none, heard_then}
use Rattle.il_record.proofs.StoreStarts.{still_of}
use Rattle.il_script.specs.declared.reply.Reply.{Reply}
use Rattle.il_script.specs.declared.reply.Reply.TheVariants as reply
use Rattle.il_script.specs.declared.reply.Code.TheVariants as code
use Rattle.host_model.specs.Requests.{Asks, Devices, Item, Poll, Say, Status, Lend, is_lending}
use Rattle.host_model.specs.LoopStates.{LoopState, all_roles, device_count, printer_at, all_ids}
use Rattle.host_model.specs.Replies.{if_printer, reply_of}
use Rattle.host_model.specs.RingStates.{loop_on, state_on}
use Rattle.host_model.specs.Courses.{Due, course_of, addressed_first, ids_due}
use Rattle.host_model.specs.Next.{BoxedBecome, Next}
use Rattle.host_model.specs.Steps.{Exchanged, HearsLog, Replied, is_frame_fault}
use Rattle.il_host.proofs.CommandTravels.{event_on}
use Rattle.il_host.proofs.LoopCallsEvents.{ids_kept, poll_course, poll_kept, refused_kept, say_due, unnamed_kept}
use Rattle.il_host.proofs.LoopCallsNext.{devices_next, poll_next, say_refused_next, say_unnamed_next}
use Rattle.il_host.proofs.LoopEvents.{IsOfLoop, Readies, keeps_interrupted, keeps_ready, loop_broken, loop_done, loop_refused}
use Rattle.il_host.proofs.LoopNext.{Still, loop_interrupted_next, status_broken_next, status_next}
use Rattle.il_host.proofs.LoopReady.{ReadyBroke}
use Rattle.il_host.proofs.LoopReplied.{LeavesOnTape, loop_fault_replied, loop_refusal_replied, loop_replied}
use Rattle.il_host.proofs.LoopTravels.{ready_came}
use Rattle.il_host.proofs.Sounding.{HeardOf}
use Rattle.il_host.proofs.StatusEvents.{not_polled_keeps, polled_keeps, ready_leaves, status_course}
use Rattle.il_host.proofs.VolumeNext.{volume_heard}
use Rattle.il_host.proofs.VolumeStarts.{heard_of_ready}
use Rattle.il_script.specs.declared.reply.Code.{Code}
use Rattle.il_host.proofs.Keeping.{Keeps}

-- The ring r, whose log is empty, became s by the exchanges of the item, and this was replied. No record changed.
pub record Ran {M : Type 0} (view : M → MediumView) (item : Item) (answered : Reply) (was is : Bool) (r s : RingView M) : Type 0 where
  pub empty : r.books.log ≡ []
  pub came : CameBy view is r s
  pub still : IsStill (view r.drive.medium) (view s.drive.medium)
  pub ends : is ≡ not (is_frame_fault answered)
  pub replied : Replied (event_on view item answered was is r s)
  pub next : Next item answered (loop_on r) (loop_on s)
  pub heard : HeardOf (event_on view item answered was is r s)
  pub exchanged : Exchanged (r.books.plan) (event_on view item answered was is r s)

-- ---- the addressing was broken off

-- what such a command makes
pub course_there : (item : Item) (z : LoopState) → IsOfLoop item → is_lending item ≡ false → (course : List Due) × (course_of item z ≡ Some course)
course_there (Asks (Lend frames)) z of_loop other = let clash : true ≡ false = other in cc
course_there (Asks Devices) z of_loop other = (_, refl)
course_there (Asks Status) z of_loop other = (_, refl)
course_there (Asks Poll) z of_loop other = (_, refl)
course_there (Asks (Say bytes)) z of_loop other = (_, refl)
course_there _ z of_loop other = absurd of_loop

-- which leaves the tape
pub still_tape : {M : Type 0} (view : M → MediumView) (r s : RingView M) → IsStill (view r.drive.medium) (view s.drive.medium) → LeavesOnTape view r s
still_tape view r s still = record { tape = still.tape; size = still.stays_in.size }

pub ran_unready : {M : Type 0} (view : M → MediumView) (item : Item) (r s : RingView M) → IsOfLoop item → is_lending item ≡ false → r.books.log ≡ [] → ReadyBroke view r s → Ran view item reply.FaultFrame false false r s
ran_unready view item r s of_loop other empty broke =
    let cut = broke.interrupted in
    let course = course_there item (loop_on r) of_loop other in
    record {
      empty = empty;
      came = cut.came.units.came;
      still = cut.drive.still;
      ends = refl;
      replied = loop_fault_replied view item of_loop false false r s (still_tape view r s cut.drive.still);
      next = loop_interrupted_next view item r s of_loop cut broke.leaves;
      heard = volume_heard r s cut.came.units.came.talked.adds.before empty cut.unheard false;
      exchanged = loop_broken view item of_loop course.0 false false r s empty course.1 (keeps_interrupted view course.0 r s cut) cut.drive.count;
    }

-- ---- how a command of the loop ends

-- What it is to make, whole with ok or a refusal, or broken off, makes of its reply and its exchanges what they are to be.
pub record Outcome {M : Type 0} (view : M → MediumView) (item : Item) (answered : Reply) (was is : Bool) (r s : RingView M) : Type 0 where
  pub ends : is ≡ not (is_frame_fault answered)
  pub replied : LeavesOnTape view r s → Replied (event_on view item answered was is r s)
  pub exchanged : (course : List Due) → course_of item (loop_on r) ≡ Some course → Keeps view is (addressed_first (loop_on r) was course) r s → (view s.drive.medium).faults ≡ (view r.drive.medium).faults → Exchanged (r.books.plan) (event_on view item answered was is r s)

module _ {M : Type 0} (view : M → MediumView) (item : Item) (of_loop : IsOfLoop item) (was : Bool) (r s : RingView M) (empty : r.books.log ≡ []) where
  pub done : reply.Ok ≡ reply_of item (state_on view was false r) → Outcome view item reply.Ok was true r s
  done right = record { ends = refl; replied = λ leaves. loop_replied view item of_loop was true r s leaves right; exchanged = λ course due kept same. loop_done view item of_loop course was true r s empty due kept same }

  pub refused : (code : Code) → reply.No code ≡ reply_of item (state_on view was false r) → Outcome view item (reply.No code) was true r s
  refused code right = record { ends = refl; replied = λ leaves. loop_refusal_replied view item of_loop was true r s leaves code right; exchanged = λ course due kept same. loop_refused view item of_loop course was true r s empty due code kept same }

  pub broken : Outcome view item reply.FaultFrame was false r s
  broken = record { ends = refl; replied = λ leaves. loop_fault_replied view item of_loop was false r s leaves; exchanged = λ course due kept same. loop_broken view item of_loop course was false r s empty due kept (omega (arith, same)) }

-- ---- `ready`, and then one call

module _ {M : Type 0} (view : M → MediumView) (was : Bool) (r m s : RingView M) (empty : r.books.log ≡ []) (ready : Readies view was r m) where
  -- none but the drive heard anything
  only_drive : NoneHeard m s → OnlyHeard (drive_party r) r s
  only_drive none = heard_then (drive_party r) r m s (heard_of_ready view was r m ready) (heard_none (drive_party r) m s none)

  -- by such a call, whole or broken off
  ran_call : (item : Item) (answered : Reply) (is : Bool) → Outcome view item answered was is r s → (course : List Due) → course_of item (loop_on r) ≡ Some course → Keeps view is course m s → s.drive.medium ≡ m.drive.medium → NoneHeard m s
      → Next item answered (loop_on r) (loop_on s) → Ran view item answered was is r s
  ran_call item answered is out course due keeps same none next = record {
    empty = empty;
    came = came;
    still = still;
    ends = out.ends;
    replied = out.replied (still_tape view r s still);
    next = next;
    heard = subst (λ whole. HeardBy whole) out.ends (volume_heard r s came.talked.adds.before empty (only_drive none) is);
    exchanged = out.exchanged course due (keeps_ready view was is course r m s ready keeps) (ap (λ medium. (view medium).faults) medium);
  }
    where
      medium : s.drive.medium ≡ r.drive.medium
      medium = same ∙ (ready_leaves view was r m ready).medium

      still : IsStill (view r.drive.medium) (view s.drive.medium)
      still = still_of view r s medium

      came : CameBy view is r s
      came = ready_came view was is r m s ready keeps.came.came

      HeardBy : Bool → Type 0
      HeardBy whole = BoxedBecome (HearsLog (device_count (loop_on r)) (all_roles (loop_on r)) s.books.log whole) (loop_on r) (loop_on s)

  -- the status
  pub ran_status : (byte : ℕ) → Polled view (drive_party m) byte m s → Ran view (Asks Status) reply.Ok was true r s
  ran_status byte told =
      ran_call (Asks Status) reply.Ok true (done view (Asks Status) tt was r s empty refl) (status_course r) refl (polled_keeps view byte r m s (ready_leaves view was r m ready) told) told.drive.medium told.unheard (status_next view was r m s ready byte told)

  pub ran_status_broken : NotPolled view (drive_party m) m s → Ran view (Asks Status) reply.FaultFrame was false r s
  ran_status_broken not =
      ran_call (Asks Status) reply.FaultFrame false (broken view (Asks Status) tt was r s empty) (status_course r) refl (not_polled_keeps view r m s (ready_leaves view was r m ready) not) not.medium not.unheard (status_broken_next view was r m s ready not)

  -- the parallel poll
  pub ran_poll : (answered : Reply) (is : Bool) → Outcome view (Asks Poll) answered was is r s → CameAsked view is (poll_asks (length (devices_of m)) (polled_along 1 (devices_of m) idy)) m s → LeavesDrive m.drive s.drive → NoneHeard m s → BoxedBecome Still (loop_on m) (loop_on s)
      → Ran view (Asks Poll) answered was is r s
  ran_poll answered is out came drive none still = ran_call (Asks Poll) answered is out (poll_course view was r m s ready) refl (poll_kept view was r m s ready is came) drive.medium none (poll_next view was r m s ready answered still drive)

  module _ (drive : r.drive.state.interface.accessory ≡ Some drive_id) where
    -- accessory IDs
    pub ran_devices : (answered : Reply) (is : Bool) → Outcome view (Asks Devices) answered was is r s → LeftAlone view is (up_to (id_asks (devices_of m)) (length (devices_of m))) m s → Ran view (Asks Devices) answered was is r s
    ran_devices answered is out left =
        ran_call (Asks Devices) answered is out (ids_due 1 (all_ids (loop_on r))) refl (ids_kept view was r m s ready is drive left) left.drive.medium left.unheard (devices_next view was r m s ready answered is _ left)

    -- bytes for a printer: no device is one, or a device was asked for its ID, and that was broken off
    pub ran_no_printer : (bytes : List ℕ) → printer_at (loop_on r) ≡ None → LeftAlone view true (up_to (id_asks (devices_of m)) (length (devices_of m))) m s → Ran view (Asks (Say bytes)) (reply.No code.NoPrinter) was true r s
    ran_no_printer bytes none left =
        ran_call (Asks (Say bytes)) (reply.No code.NoPrinter) true (refused view (Asks (Say bytes)) tt was r s empty code.NoPrinter (ap if_printer (sym none))) (say_due r bytes None) (ap (λ printer. Some (say_due r bytes printer)) none)
        (refused_kept view was r m ready drive bytes s left) left.drive.medium left.unheard (say_refused_next view was r m s ready bytes code.NoPrinter _ left)

    pub ran_unnamed : (bytes : List ℕ) → LeftAlone view false (up_to (id_asks (devices_of m)) (length (devices_of m))) m s → Ran view (Asks (Say bytes)) reply.FaultFrame was false r s
    ran_unnamed bytes left =
        ran_call (Asks (Say bytes)) reply.FaultFrame false (broken view (Asks (Say bytes)) tt was r s empty) (say_due r bytes (printer_at (loop_on r))) refl
        (unnamed_kept view was r m ready drive bytes s left) left.drive.medium left.unheard (say_unnamed_next view was r m s ready bytes _ left)
