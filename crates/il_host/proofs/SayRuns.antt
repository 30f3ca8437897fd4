-- What the command that sends bytes to the printer did with the ring on which its log was emptied, whole or broken off.
use Rattle.std.proofs.Common.{◌≡◌, ◌==◌, ◌∙◌, ℕ, Bool, true, false, List, [], length, take, Option, Some, sym, ap}
use Rattle.il_ports.specs.Media.{MediumView}
use Rattle.il_drive.specs.State.{drive_id}
use Rattle.il_drive.specs.Steps.{IsStill}
use Rattle.il_ring.specs.Rings.{RingView, drive_party}
use Rattle.il_record.specs.Came.{OnlyHeard}
use Rattle.il_record.specs.Listening.{Hears, HearsPart}
use Rattle.il_record.specs.LoopCalls.{AllNamed, LeavesDrive, NotSaid, Said, say_asks}
use Rattle.il_record.specs.Asks.{CameAsked}
use Rattle.il_record.proofs.HeardLogs.{heard_none, heard_then}
use Rattle.il_record.proofs.StoreStarts.{still_of}
use Rattle.il_script.specs.declared.reply.Reply.{Reply}
use Rattle.il_script.specs.declared.reply.Reply.TheVariants as reply
use Rattle.host_model.specs.Requests.{Asks, Say}
use Rattle.host_model.specs.LoopStates.{printer_at}
use Rattle.host_model.specs.Next.{Next}
use Rattle.host_model.specs.Replies.{if_printer}
use Rattle.host_model.specs.RingStates.{loop_on}
use Rattle.il_host.proofs.Devices.{boxed_to}
use Rattle.il_host.proofs.LoopCallsEvents.{said_kept, say_due}
use Rattle.il_host.proofs.LoopCallsNext.{say_broken_next, say_next}
use Rattle.il_host.proofs.LoopEvents.{Readies, keeps_ready}
use Rattle.il_host.proofs.Keeping.{Keeps}
use Rattle.il_host.proofs.CommandTravels.{event_on}
use Rattle.il_host.proofs.Sounding.{HeardOf}
use Rattle.il_host.proofs.LoopRuns.{Outcome, Ran, broken, done, still_tape}
use Rattle.il_host.proofs.LoopTravels.{ready_came}
use Rattle.il_host.proofs.SayHeard.{HeardAt, heard_front, heard_whole, say_heard}
use Rattle.il_host.proofs.StatusEvents.{ready_leaves}
use Rattle.il_host.proofs.VolumeStarts.{heard_of_ready}

-- `ready`, then all devices told their IDs, and then the bytes went to the printer
module _ {M : Type 0} (view : M → MediumView) (was : Bool) (r m n s : RingView M) (empty : r.books.log ≡ []) (ready : Readies view was r m) (a : ℕ) (bytes : List ℕ) (printer : printer_at (loop_on r) ≡ Some a)
    (drive : r.drive.state.interface.accessory ≡ Some drive_id) (ids : List (Option ℕ)) (named : AllNamed view ids m n) where
  -- until the bytes none but the drive heard anything
  only_named : OnlyHeard (drive_party r) r n
  only_named = heard_then (drive_party r) r m n (heard_of_ready view was r m ready) (heard_none (drive_party r) m n named.left.unheard)

  place_named : length n.before ≡ length r.before
  place_named = named.left.came.units.came.talked.adds.before ∙ (ready_leaves view was r m ready).place

  -- the bytes went to the printer, all or the first ones
  ran_by : (answered : Reply) (is : Bool) → Outcome view (Asks (Say bytes)) answered was is r s → CameAsked view is (say_asks a bytes) n s → LeavesDrive n.drive s.drive → Next (Asks (Say bytes)) answered (loop_on r) (loop_on s) → HeardOf (event_on view (Asks (Say bytes)) answered was is r s)
      → Ran view (Asks (Say bytes)) answered was is r s
  ran_by answered is out came leaves next heard = record {
    empty = empty;
    came = ready_came view was is r m s ready kept.came.came;
    still = still;
    ends = out.ends;
    replied = out.replied (still_tape view r s still);
    next = next;
    heard = heard;
    exchanged = out.exchanged (say_due r bytes (Some a)) (ap (λ printer. Some (say_due r bytes printer)) printer) (keeps_ready view was is (say_due r bytes (Some a)) r m s ready kept) (ap (λ medium. (view medium).faults) medium);
  }
    where
      kept : Keeps view is (say_due r bytes (Some a)) m s
      kept = said_kept view was r m ready drive bytes n s a is named.left came

      medium : s.drive.medium ≡ r.drive.medium
      medium = leaves.medium ∙ named.left.drive.medium ∙ (ready_leaves view was r m ready).medium

      still : IsStill (view r.drive.medium) (view s.drive.medium)
      still = still_of view r s medium

  -- The printer heard all bytes.
  pub ran_said : Said view a bytes n s → Ran view (Asks (Say bytes)) reply.Ok was true r s
  ran_said said =
      ran_by reply.Ok true (done view (Asks (Say bytes)) tt was r s empty (ap if_printer (sym printer))) said.came said.drive (say_next view was r m n s ready _ named.left a bytes printer said)
      (say_heard r n s empty only_named a said.unheard true bytes said.by_log place_named
      (boxed_to (Hears a bytes) (HeardAt a true bytes) n s said.came.units.came.talked.adds.before said.heard (λ party d e h. heard_whole (party == a) bytes d e h.1)))

  -- That was broken off.
  pub ran_not_said : NotSaid view a bytes n s → Ran view (Asks (Say bytes)) reply.FaultFrame was false r s
  ran_not_said said =
      ran_by reply.FaultFrame false (broken view (Asks (Say bytes)) tt was r s empty) said.came said.drive (say_broken_next view was r m n s ready _ named.left a bytes printer said)
      (say_heard r n s empty only_named a said.unheard false (take said.whole bytes) said.by_log place_named
      (boxed_to (HearsPart a said.whole bytes) (HeardAt a false (take said.whole bytes)) n s said.came.units.came.talked.adds.before said.heard (λ party d e h. heard_front (party == a) said.whole bytes d e h.1)))
