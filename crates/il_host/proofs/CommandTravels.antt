-- What the frames of a command over the loop did on the ring.
use Rattle.std.proofs.Common.{◌≡◌, ◌≤◌, ◌++◌, ◌∙◌, Bool, true, false, List, [], length, refl, sym, ap, subst, arith}
use Rattle.il_frames.specs.declared.entry.Entry.{Entry}
use Rattle.il_ports.specs.Media.{MediumView}
use Rattle.loop_model.specs.Leading.{OneTalkerLed}
use Rattle.loop_model.specs.Roles.{talkers, is_at_most_one}
use Rattle.il_ring.specs.Rings.{RingView, devices_of, drive_party, roles_of}
use Rattle.il_record.specs.Came.{CameBy}
use Rattle.il_record.specs.Talks.{all_entries}
use Rattle.il_script.specs.declared.reply.Reply.{Reply}
use Rattle.host_model.specs.Requests.{Item}
use Rattle.host_model.specs.LoopStates.{device_count}
use Rattle.host_model.specs.HostStates.{log_room}
use Rattle.host_model.specs.RingStates.{loop_on, state_on}
use Rattle.host_model.specs.Steps.{Event, Travels, TookFrames, event}
use Rattle.host_model.proofs.RingStates.{host_led, travels_on, roles_on}
use Rattle.host_model.proofs.Steps.{boxed_same}

-- a command over the loop: the ring r as it began, with an empty log, became s; the loop was ready before it, or not, and is
-- after it; and so the store was sound
abbrev pub event_by : {M : Type 0} → (M → MediumView) → Item → Reply → (was is sound sound_now : Bool) → (r s : RingView M) → Event
event_by view item reply was is sound sound_now r s =
    event item reply s.books.log (state_on view was sound r) (state_on view is sound_now s)

-- of a store that was not sound and is not
abbrev pub event_on : {M : Type 0} → (M → MediumView) → Item → Reply → (was is : Bool) → (r s : RingView M) → Event
event_on view item reply was is r s = event_by view item reply was is false false r s

-- the same with a log that is told otherwise
abbrev event_with : {M : Type 0} → (M → MediumView) → Item → Reply → (was is : Bool) → List Entry → (r s : RingView M) → Event
event_with view item reply was is log r s =
    event item reply log (state_on view was false r) (state_on view is false s)

-- after an empty log the log is that of the exchanges
pub log_came : {M : Type 0} (view : M → MediumView) (whole : Bool) (r s : RingView M) → r.books.log ≡ [] → (came : CameBy view whole r s)
    → s.books.log ≡ all_entries came.pieces
log_came view whole r s empty came = came.talked.adds.log ∙ ap (λ log. log ++ all_entries came.pieces) empty

-- a command by exchanges, whole or broken off
pub travels_came : {M : Type 0} (view : M → MediumView) (item : Item) (reply : Reply) (was is whole : Bool) (r s : RingView M) → r.books.log ≡ []
    → CameBy view whole r s → length s.books.log ≤ log_room (view r.drive.medium).record_count → Travels (event_on view item reply was is r s)
travels_came view item reply was is whole r s empty came short =
    let log = log_came view whole r s empty came in
    let room = subst (λ log. length log ≤ log_room (view r.drive.medium).record_count) log short in
    subst (λ log. Travels (event_with view item reply was is log r s)) (sym log)
    (travels_on view item reply was is false false (all_entries came.pieces) r s came.talked.adds
    (host_led (devices_of r) (length (devices_of r)) (drive_party r) (all_entries came.pieces) (record { pieces = came.pieces; legal = came.talked.legal; entries = refl }) came.talked.one) room)

-- a command that sent no frame
pub travels_none : {M : Type 0} (view : M → MediumView) (item : Item) (reply : Reply) (was is : Bool) (r s : RingView M) → r.books.log ≡ []
    → is_at_most_one (talkers (roles_of (devices_of r))) ≡ true → s ≡ r → Travels (event_on view item reply was is r s)
travels_none {M} view item reply was is r s empty one same =
    subst (λ (s : RingView M). Travels (event_on view item reply was is r s)) (sym same)
    (subst (λ log. Travels (event_with view item reply was is log r r)) (sym empty) nothing)
  where
    nothing : Travels (event_with view item reply was is [] r r)
    nothing = record {
      one_talker = subst (λ rs. OneTalkerLed 0 rs []) (sym (roles_on r)) one;
      commands = refl;
      roles = refl;
      crossings = refl;
      frames = boxed_same (TookFrames (device_count (loop_on r)) []) (λ party d. refl) (loop_on r);
      guest = refl;
      short = omega arith;
    }
