-- Commands of the loop: their exchanges, once the loop is ready.
use Rattle.std.proofs.Common.{◌≡◌, ◌≤◌, ℕ, Bool, true, false, List, [], Option, Some, refl, sym, ap, subst}
use Rattle.lif_model.specs.Volume.{Volume}
use Rattle.il_ports.specs.Media.{MediumView}
use Rattle.il_frames.specs.NamedFrames.{ifc, aau}
use Rattle.loop_model.specs.Exchanges.{Piece}
use Rattle.loop_model.specs.Units.{RecordUnit, units_of}
use Rattle.loop_model.specs.Effect.{all_good}
use Rattle.il_ring.specs.Rings.{RingView, drive_party}
use Rattle.il_control.specs.Calls.{IsFree, IsIdle, loop_of}
use Rattle.il_record.specs.Asks.{AskAddresses}
use Rattle.il_record.specs.Runs.{Readied, Interrupted, address_asks}
use Rattle.il_script.specs.declared.reply.Reply.{Reply}
use Rattle.il_script.specs.declared.reply.Reply.TheVariants as reply
use Rattle.il_script.specs.declared.reply.Code.{Code}
use Rattle.host_model.specs.Requests.{Item, Asks, NoCommand, OfVolume, Get, Pack, Devices, Status, Poll, Say, Paper, is_of_volume, Lend}
use Rattle.host_model.specs.RingStates.{loop_on}
use Rattle.host_model.specs.Courses.{Due, addressed_first, addresses_due, course_of, keeps_course, is_numbering}
use Rattle.host_model.specs.Steps.{Exchanged, IsCarried}
use Rattle.host_model.proofs.RingStates.{count_on}
use Rattle.il_host.proofs.CommandTravels.{event_on}
use Rattle.il_host.proofs.CommandLogs.{exchanged_came}
use Rattle.il_host.proofs.Keeping.{Keeps, Meets, MeetsOne, keeps_asked, keeps_broken, keeps_then, meets_addresses, meets_command}

-- ---- the loop is ready

-- the ring m after `ready`: as it was, where the loop was ready; else all devices were addressed
abbrev pub Readies : {M : Type 0} → (M → MediumView) → Bool → RingView M → RingView M → Type 0
Readies view true r m = (m ≡ r) × IsIdle r
Readies view false r m = IsFree r × Readied view r m

pub meets_addressing : {M : Type 0} (r : RingView M) → Meets (loop_of r) address_asks (addresses_due (loop_on r))
meets_addressing r =
    (meets_command (loop_of r) ifc, (meets_command (loop_of r) aau, (subst (λ k. MeetsOne (loop_of r) AskAddresses (is_numbering k)) (sym (count_on r)) (meets_addresses (loop_of r)), tt)))

module _ {M : Type 0} (view : M → MediumView) where
  -- the addressing, and then the course of the command
  pub keeps_ready : (was whole : Bool) (course : List Due) (r m s : RingView M) → Readies view was r m → Keeps view whole course m s → Keeps view whole (addressed_first (loop_on r) was course) r s
  keeps_ready true whole course r m s ready more = subst (λ (m : RingView M). Keeps view whole course m s) ready.0 more
  keeps_ready false whole course r m s ready more =
      keeps_then view whole (addresses_due (loop_on r)) course r m s ready.0
      (keeps_asked view true address_asks (addresses_due (loop_on r)) r m ready.1.came (meets_addressing r)) more

  -- the addressing was broken off
  pub keeps_interrupted : (course : List Due) (r s : RingView M) → Interrupted view address_asks (drive_party r) r s → Keeps view false (addressed_first (loop_on r) false course) r s
  keeps_interrupted course r s broke =
      keeps_broken view (addresses_due (loop_on r)) course r s (keeps_asked view false address_asks (addresses_due (loop_on r)) r s broke.came (meets_addressing r))

-- ---- the events

-- a command of the loop
abbrev pub IsOfLoop : Item → Type 0
IsOfLoop (Asks (OfVolume command)) = ⊥
IsOfLoop (Asks (Get name)) = ⊥
IsOfLoop (Asks Pack) = ⊥
IsOfLoop (Asks Paper) = ⊥
IsOfLoop (Asks request) = Unit {0}
IsOfLoop (NoCommand code) = ⊥

-- it says nothing of bytes that transfers carry
carries_none : (item : Item) (answer : Reply) (n : ℕ) (v : Option Volume) (units : List RecordUnit) → IsOfLoop item → IsCarried item answer n v units
carries_none (Asks Devices) answer n v units of_loop = tt
carries_none (Asks Status) answer n v units of_loop = tt
carries_none (Asks Poll) answer n v units of_loop = tt
carries_none (Asks (Say bytes)) answer n v units of_loop = tt
carries_none (Asks (Lend frames)) answer n v units of_loop = tt
carries_none _ answer n v units of_loop = absurd of_loop

-- it is none of the volume
pub not_of_volume : (item : Item) → IsOfLoop item → is_of_volume item ≡ true → ⊥
not_of_volume (Asks Devices) of_loop is = cc
not_of_volume (Asks Status) of_loop is = cc
not_of_volume (Asks Poll) of_loop is = cc
not_of_volume (Asks (Say bytes)) of_loop is = cc
not_of_volume (Asks (Lend frames)) of_loop is = cc
not_of_volume _ of_loop is = absurd of_loop

course_kept : {M : Type 0} (r : RingView M) (was : Bool) (due : Option (List Due)) (course : List Due) (pieces : List Piece) → due ≡ Some course
    → keeps_course (loop_on r) was (Some course) pieces ≡ true → keeps_course (loop_on r) was due pieces ≡ true
course_kept r was due course pieces is keeps = subst (λ due. keeps_course (loop_on r) was due pieces ≡ true) (sym is) keeps

module _ {M : Type 0} (view : M → MediumView) (item : Item) (of_loop : IsOfLoop item) (course : List Due) (was is : Bool) (r s : RingView M) (empty : r.books.log ≡ []) (due : course_of item (loop_on r) ≡ Some course) where
  -- it was done
  pub loop_done : Keeps view true (addressed_first (loop_on r) was course) r s → (view s.drive.medium).faults ≡ (view r.drive.medium).faults
      → Exchanged (r.books.plan) (event_on view item reply.Ok was is r s)
  loop_done kept count =
      let good : all_good (units_of (loop_of r) kept.came.came.pieces) ≡ true = ap all_good kept.came.are in
      exchanged_came view item reply.Ok was is false false true r s empty kept.came.came refl
      (record { course = course_kept r was (course_of item (loop_on r)) course kept.came.came.pieces due kept.keeps; begins = λ of. absurd (not_of_volume item of_loop of); cause = (kept.came.came.talked.met, count, good); carried = carries_none item reply.Ok _ _ _ of_loop })

  -- it was refused after whole exchanges
  pub loop_refused : (code : Code) → Keeps view true (addressed_first (loop_on r) was course) r s → (view s.drive.medium).faults ≡ (view r.drive.medium).faults
      → Exchanged (r.books.plan) (event_on view item (reply.No code) was is r s)
  loop_refused code kept count =
      let good : all_good (units_of (loop_of r) kept.came.came.pieces) ≡ true = ap all_good kept.came.are in
      exchanged_came view item (reply.No code) was is false false true r s empty kept.came.came refl
      (record { course = course_kept r was (course_of item (loop_on r)) course kept.came.came.pieces due kept.keeps; begins = λ of. absurd (not_of_volume item of_loop of); cause = (kept.came.came.talked.met, count, good); carried = carries_none item (reply.No code) _ _ _ of_loop })

  -- an exchange of it was broken off
  pub loop_broken : Keeps view false (addressed_first (loop_on r) was course) r s → (view r.drive.medium).faults ≤ (view s.drive.medium).faults
      → Exchanged (r.books.plan) (event_on view item reply.FaultFrame was is r s)
  loop_broken kept count =
      exchanged_came view item reply.FaultFrame was is false false false r s empty kept.came.came refl
      (record { course = course_kept r was (course_of item (loop_on r)) course kept.came.came.pieces due kept.keeps; begins = λ of. absurd (not_of_volume item of_loop of); cause = (kept.came.came.talked.met, count); carried = carries_none item reply.FaultFrame _ _ _ of_loop })
