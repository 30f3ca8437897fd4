-- A command of the volume, as a step of a run: all that is said of it but its reply.
use Rattle.std.proofs.Common.{◌≡◌, ◌∙◌, ◌≤◌, ◌-◌, ℕ, Bool, true, false, not, List, Some, None, refl, sym, ap, subst, arith}
use Rattle.std.specs.Prelude.{Result, Ok, Err}
use Rattle.std.specs.List.{All}
use Rattle.lif_model.specs.Apply.{VolumeCommand}
use Rattle.il_drive.specs.State.{status_of}
use Rattle.il_ports.specs.Media.{MediumView}
use Rattle.il_ports.specs.Stores.{GoesOn}
use Rattle.il_ports.specs.Trouble.{HasTroubleCause, answers_ok, failure_of}
use Rattle.il_ports.specs.declared.records.Trouble.{Trouble}
use Rattle.il_ports.specs.declared.records.Trouble.TheVariants as trouble
use Rattle.il_ring.specs.Rings.{RingView, drive_party}
use Rattle.il_ring.specs.declared.plan.Planned.{Planned}
use Rattle.il_ring.specs.Fates.{IsByPlan}
use Rattle.il_control.specs.Calls.{IsIdle}
use Rattle.il_record.specs.declared.records.Since.{Since}
use Rattle.il_record.specs.declared.records.Since.TheVariants as since
use Rattle.il_record.specs.Came.{OnlyHeard}
use Rattle.il_record.specs.LoopStores.{FailedBy, FailedLost, FailedReady, LoopView, StandsBy, Stood, calls_in, crossed_hops, view_of}
use Rattle.il_record.proofs.StoreStarts.{nothing_since, unbroken, unfailed}
use Rattle.il_script.specs.declared.reply.Reply.{Reply}
use Rattle.host_model.specs.Requests.{Asks, Item, Lend, OfVolume, is_of_volume, uses_frames}
use Rattle.host_model.specs.Next.{Next}
use Rattle.host_model.specs.Steps.{Event, Exchanged, Acts, Replied, Travels, is_fault, is_frame_fault, takes_back_first}
use Rattle.host_model.proofs.Fronts.{controls_still}
use Rattle.il_host.specs.Standings.{event_at}
use Rattle.il_host.proofs.CommandTravels.{event_by}
use Rattle.il_host.proofs.Sounding.{HeardOf}
use Rattle.il_host.proofs.VolumeExchanges.{EndsBy}

-- ---- the parts of a step

-- what a step says of the loop, where it is one of a command of the volume
pub record TellsLoop (plan : List Planned) (e : Event) : Type 0 where
  pub next : Next e.item e.reply e.before.loop e.after.loop
  pub travels : Travels e
  pub heard : HeardOf e
  pub exchanged : Exchanged plan e
  pub by_plan : All (IsByPlan plan e.before.crossings e.after.crossings) e.log
  pub ready : e.after.ready ≡ not (is_frame_fault e.reply)
  pub clears : e.before.ready ≡ false → takes_back_first e.log ≡ true
  pub sound : e.after.sound ≡ not (is_fault e.reply)

-- with its reply it is a step
pub volume_step : (plan : List Planned) (e : Event) (command : VolumeCommand) → e.item ≡ Asks (OfVolume command) → Replied e → TellsLoop plan e → Acts plan e
volume_step plan e command is replied loop = record {
  replied = replied;
  next = loop.next;
  travels = loop.travels;
  heard = λ other. loop.heard;
  exchanged = λ other. loop.exchanged;
  lent = λ frames lends. let clash : Asks (OfVolume command) ≡ Asks (Lend frames) = sym is ∙ lends in cc;
  by_plan = loop.by_plan;
  ready = λ frames. loop.ready;
  controls = λ on. controls_still plan e loop.exchanged;
  clears = λ frames. loop.clears;
  sound = λ of. loop.sound;
  unsound = λ other. let clash : true ≡ false = sym (ap is_of_volume is) ∙ other in cc;
  still = λ none. let clash : true ≡ false = sym (ap uses_frames is) ∙ none in cc;
}

-- ---- the rings

-- what is told of the event by its rings, where the loop is so ready after it
pub tells_rings : {M : Type 0} (view : M → MediumView) (item : Item) (answer : Reply) (begun new : LoopView M) (is : Bool) → new.ready ≡ is → TellsLoop begun.ring.books.plan (event_by view item answer begun.ready is begun.sound new.sound begun.ring new.ring)
    → TellsLoop begun.ring.books.plan (event_at view item answer begun new)
tells_rings view item answer begun new is ready tells = subst (λ is. TellsLoop begun.ring.books.plan (event_by view item answer begun.ready is begun.sound new.sound begun.ring new.ring)) (sym ready) tells

-- ---- the room of the log

-- where a call is left, the log is within its room
pub within_room : (room log : ℕ) → 1 ≤ calls_in (room - log) → log ≤ room
within_room room log left = omega (arith, left)

-- ---- the store answered

-- how the log comes after a call that failed
idle_medium : (log : Since) → FailedReady log (Some trouble.Medium) → log ≡ since.Failed
idle_medium since.Unbroken is = cc
idle_medium since.Failed is = refl
idle_medium _ is = absurd is

idle_frame : (log : Since) → FailedReady log (Some trouble.Frame) → ⊥
idle_frame since.Unbroken is = cc
idle_frame since.Failed is = cc
idle_frame _ is = is

lost_medium : (log : Since) → FailedLost log (Some trouble.Medium) → ⊥
lost_medium since.Unbroken is = cc
lost_medium since.Broken is = cc
lost_medium _ is = is

lost_frame : (log : Since) → FailedLost log (Some trouble.Frame) → log ≡ since.Broken
lost_frame since.Unbroken is = cc
lost_frame since.Broken is = refl
lost_frame _ is = absurd is

-- whether the loop is ready after this answer
abbrev pub ready_behind : {T : Type 0} → Result T Trouble → Bool
ready_behind (Ok x) = true
ready_behind (Err trouble.Frame) = false
ready_behind (Err trouble.Medium) = true

-- the drive's status is 0 but after a fault of the frames
abbrev pub StatusAs : {T : Type 0} → Result T Trouble → ℕ → Type 0
StatusAs (Ok x) status = status ≡ 0
StatusAs (Err trouble.Frame) status = Unit {0}
StatusAs (Err trouble.Medium) status = status ≡ 0

-- What became of the ring m of a ready loop, whose log tells all since then.
pub record Behind {M T : Type 0} (view : M → MediumView) (answer : Result T Trouble) (m : RingView M) (new : LoopView M) : Type 0 where
  pub ready : new.ready ≡ ready_behind answer
  pub ends : EndsBy view answer m new.ring
  pub unheard : OnlyHeard (drive_party m) m new.ring
  pub sound : new.sound ≡ answers_ok answer
  pub status : StatusAs answer (status_of new.ring.drive.state)
  pub size : (view new.ring.drive.medium).record_count ≡ (view m.drive.medium).record_count

module _ {M : Type 0} (view : M → MediumView) (new : LoopView M) (m : RingView M) (stood : Stood view new.since m new.ring) (size : (view new.ring.drive.medium).record_count ≡ (view m.drive.medium).record_count) where
  behind_by : {T : Type 0} (ready : Bool) (answer : Result T Trouble) → new.ready ≡ ready → StandsBy ready new.ring new.sound new.since → FailedBy ready new.since (failure_of answer) → new.sound ≡ answers_ok answer
      → HasTroubleCause (crossed_hops m) (crossed_hops new.ring) (view m.drive.medium).faults (view new.ring.drive.medium).faults answer → Behind view answer m new
  behind_by true (Ok x) is so failed sound cause =
      let stands = subst (λ log. Stood view log m new.ring) (unfailed true new.since failed) stood in
      record { ready = is; ends = stands.by; unheard = stands.unheard refl; sound = sound; status = (so.1 sound).status; size = size }
  behind_by true (Err trouble.Medium) is so failed sound cause =
      let stands = subst (λ log. Stood view log m new.ring) (idle_medium new.since failed) stood in
      record { ready = is; ends = (stands.by, cause.1); unheard = stands.unheard refl; sound = sound; status = stands.by.told; size = size }
  behind_by true (Err trouble.Frame) is so failed sound cause = absurd (idle_frame new.since failed)
  behind_by false (Ok x) is so failed sound cause = let clash : true ≡ false = sym sound ∙ so.1 in cc
  behind_by false (Err trouble.Medium) is so failed sound cause = absurd (lost_medium new.since failed)
  behind_by false (Err trouble.Frame) is so failed sound cause =
      let stands = subst (λ log. Stood view log m new.ring) (lost_frame new.since failed) stood in
      record { ready = is; ends = (stands.by, cause.1); unheard = stands.unheard refl; sound = sound; status = tt; size = size }

-- from what the store says as every store
pub behind : {M S T : Type 0} (view : M → MediumView) (seen : S → RingView M) (p q : S) (calls : ℕ) (mid new : LoopView M) (answer : Result T Trouble) → mid.since ≡ since.Unbroken → IsIdle mid.ring → seen p ≡ mid.ring
    → GoesOn calls (view_of view seen p mid) (view_of view seen q new) answer → Behind view answer mid.ring new
behind {M} view seen p q calls mid new answer whole idle agrees goes =
    let c = goes.continues in
    let began = subst (λ log. Stood view log (seen p) mid.ring) (sym whole) (nothing_since view (seen p) mid.ring idle.free agrees) in
    behind_by view new mid.ring (subst (λ (m : RingView M). Stood view new.since m new.ring) agrees (goes.stood p began)) c.size new.ready answer refl c.valid (c.failed (subst (λ log. FailedBy mid.ready log None) (sym whole) (unbroken mid.ready))) c.sound c.cause
