-- What a whole run leaves, by how it ends.
use Rattle.std.specs.Prelude.{◌≡◌, ◌≤◌, ◌+◌, ◌++◌, ◌==◌, ℕ, true, false, List, length, map, Option, Some, None, if◌then◌else◌, is_some}
use Rattle.std.specs.List.{All}
use Rattle.std.specs.declared.dyn_box.DynBox.{DynBox}
use Rattle.std.specs.Global.{Global}
use Rattle.lif_model.specs.Shelf.{IsSize}
use Rattle.lif_model.specs.Stops.{LeavesOnly}
use Rattle.lif_model.specs.Finished.{IsPlain}
use Rattle.lif_model.specs.Tape.{Tape}
use Rattle.il_device.specs.State.{DeviceState}
use Rattle.il_guest.specs.State.{GuestState}
use Rattle.il_ports.specs.Media.{MediumView}
use Rattle.il_ring.specs.declared.rig.Rig.{Rig}
use Rattle.il_ring.specs.Guests.{IsIdleGuest, MayBeGuest, guest_devices}
use Rattle.il_ring.specs.Rings.{MayStand}
use Rattle.host_model.specs.HostStates.{HostState, fresh_host}
use Rattle.host_model.specs.Runs.{ended_ok}
use Rattle.host_model.specs.Stops.{LeftWithin}
use Rattle.host_model.specs.Histories.{RunTells}
use Rattle.host_model.specs.Endings.{RunEnd, InsertFailed, HasNoTape, HasEndingCause, IsEarly, exit_status}
use Rattle.host_model.specs.Orders.{Order, Outside, HandsBack, asks_last, mode_of, taking_part}
use Rattle.host_model.specs.Leaves.{RunSoFar, LeavesBy}
use Rattle.il_host.specs.HostView.{KeepsImages}
use Rattle.il_host.specs.Words.{order_in}

-- ---- what a run finds outside, and hands back

-- the tape in the drive, where one is in and it is told
abbrev pub tape_in : MediumView → Option Tape
tape_in m = if m.record_count == 0 then None else m.tape

-- the medium, what is left of the script and what was written, the devices before and after the drive, and a second controller
abbrev pub outside : MediumView → (left written : Option (List ℕ)) → (before after : List DeviceState) → Option GuestState → Outside
outside m left written before after guest = record {
  shelf = m.shelf;
  tape = tape_in m;
  left = left;
  written = written;
  faults = m.faults;
  before = before;
  after = after;
  guest = guest;
}

-- the same of a rig, by what contracts see of its medium, of the script, of the output and of a device
abbrev pub outside_of : {M S K I : Type 0} {D : I → Type 0} → (M → MediumView) → (S → Option (List ℕ)) → (K → Option (List ℕ)) → (DynBox I Global D → DeviceState)
    → S → K → Rig M I D → Outside
outside_of view left written state script out rig =
    outside (view rig.medium) (left script) (written out) (map state rig.before.items) (map state rig.after.items) rig.guest

-- what a run asks of the devices: at most 29, a second controller among them, each of which may stand beside the drive
abbrev pub MayStandBeside : {X : Type 0} → (X → DeviceState) → (before after : List X) → Option GuestState → Type 0
MayStandBeside state before after guest =
    (length before + length after + length (guest_devices guest) ≤ 29) × All (λ b. MayStand (state b)) before × All (λ b. MayStand (state b)) after
    × IsIdleGuest guest × MayBeGuest guest

-- A stop since the run began may have left this tape, and none before it.
abbrev pub MayHaveLeft : MediumView → MediumView → Tape → Type 0
MayHaveLeft v w x = (v.left_since v.moment x → ⊥) × w.left_since v.moment x

-- ---- the script

-- A host with the faults planned that the words ask for was opened on the medium v and the devices of `old`, answered the script that
-- they ask for, and handed back w and the devices of `now`.
pub record AnswersOver (order : Order) (end : RunEnd) (v w : MediumView) (old now : Outside) : Type 0 where
  pub start : HostState
  pub finish : HostState
  pub fresh : start ≡ fresh_host v.tape v.record_count v.faults old.before (old.after ++ guest_devices (taking_part order.guest old.guest))
      (asks_last (taking_part order.guest old.guest))
  pub ran : RunSoFar order.plan order.generated (mode_of order) end start finish old.left now.left old.written now.written
  pub tells : RunTells order.plan start ran.events finish
  pub back : HandsBack order finish old now
  -- if the last command of the volume replied ok, nothing is left to settle or to finish
  pub plain : ended_ok false ran.events ≡ true → (t : Tape) → finish.tape ≡ Some t → IsPlain finish.records t
  pub stops : is_some start.tape ≡ true → LeavesOnly v.moment w.moment v.left_since w.left_since (LeftWithin ran.events finish)
  pub size : IsSize w.record_count
  pub images : KeepsImages v.inside w.inside v.shelf w.shelf

-- ---- the whole run

-- why the image could not be put into the drive, where it could not
abbrev pub FailsBy : RunEnd → Option Order → (List ℕ → Option ℕ → Type 0) → Type 0
FailsBy InsertFailed (Some order) refused = refused order.image order.made
FailsBy InsertFailed None refused = ⊥
FailsBy end order refused = Unit {0}

-- A run by these words, over the medium v and what is outside, has this status: by one ending, of which all else is told. Where no
-- item was answered, source and sink are `untouched`.
pub record RunLeaves (status : ℕ) (words : List (List ℕ)) (v w : MediumView) (old now : Outside) (source_before source_now sink_before sink_now : ℕ)
    (refused : List ℕ → Option ℕ → Type 0) (untouched : Type 0) : Type 0 where
  pub end : RunEnd
  pub status_is : status ≡ exit_status end
  pub cause : HasEndingCause end source_before source_now sink_before sink_now v.faults w.faults
  pub leaves : LeavesBy end (order_in words) old now (MayHaveLeft v w)
  pub failed : FailsBy end (order_in words) refused
  pub empty : HasNoTape end → w.record_count ≡ 0
  pub early : IsEarly end → untouched
