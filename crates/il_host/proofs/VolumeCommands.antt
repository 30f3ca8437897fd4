-- What is said of the loop by a command of the volume: of one that could not make the store sound, and of one that asked the volume.
use Rattle.std.proofs.Common.{◌≡◌, ◌∙◌, ◌≤◌, ◌+◌, inr, ℕ, Bool, true, false, not, [], length, refl, sym, ap, subst}
use Rattle.std.specs.Prelude.{Result, Ok, Err}
use Rattle.lif_model.specs.Apply.{VolumeCommand}
use Rattle.il_drive.specs.State.{status_of}
use Rattle.il_ports.specs.Media.{MediumView}
use Rattle.il_ports.specs.Stores.{GoesOn}
use Rattle.il_ports.specs.Trouble.{answers_ok}
use Rattle.il_ports.specs.declared.records.Trouble.{Trouble}
use Rattle.il_ports.specs.declared.records.Trouble.TheVariants as trouble
use Rattle.loop_model.specs.Roles.{is_at_most_one, talkers}
use Rattle.il_ring.specs.Rings.{RingView, devices_of, drive_party, roles_of, IsRing}
use Rattle.il_record.specs.declared.records.Since.{Since}
use Rattle.il_record.specs.declared.records.Since.TheVariants as since
use Rattle.il_record.specs.Came.{OnlyHeard}
use Rattle.il_record.specs.LoopStores.{LoopView, StandsBy, view_of}
use Rattle.il_record.proofs.StoreStarts.{stands_free}
use Rattle.il_record.proofs.HeardLogs.{heard_then}
use Rattle.il_script.specs.declared.reply.Reply.{Reply}
use Rattle.il_script.specs.declared.reply.Reply.TheVariants as reply
use Rattle.host_model.specs.Requests.{Asks, OfVolume}
use Rattle.host_model.specs.HostStates.{log_room, volume_at}
use Rattle.host_model.specs.Next.{StatusBehindVolume}
use Rattle.host_model.specs.Steps.{Exchanged, is_fault, is_frame_fault}
use Rattle.host_model.proofs.Fronts.{clears_volume}
use Rattle.il_host.specs.Standings.{HasDriveStatus, FitsAnswer, IsHostRing, MakesSound, event_at, state_at}
use Rattle.il_host.proofs.CommandTravels.{event_by}
use Rattle.il_host.proofs.Images.{KeepsMedium, images_then}
use Rattle.il_host.proofs.VolumeCarries.{CarriesAs, carries_by}
use Rattle.il_host.proofs.VolumeExchanges.{CarriesBy, Started, frame_joined, joined_broken, volume_exchanged}
use Rattle.il_host.proofs.VolumeNext.{volume_heard, volume_next}
use Rattle.il_host.proofs.VolumeStarts.{Emptied, MadeSound, StartBroke, made_sound, start_broke}
use Rattle.il_host.proofs.VolumeSteps.{Behind, StatusAs, TellsLoop, behind, ready_behind, tells_rings, within_room}
use Rattle.il_host.proofs.VolumeTravels.{WentBy, one_talks, volume_went, went_images, went_loop, went_place, went_plan, went_room, went_travels, went_by_plan}

-- ---- what a command keeps

-- The plan of faults stays, and so does the room of the log. No image changes but the one in the drive.
pub record KeepsRing {M : Type 0} (view : M → MediumView) (old new : LoopView M) : Type 0 where
  pub plan : new.ring.books.plan ≡ old.ring.books.plan
  pub room : IsHostRing view new.ring
  pub images : KeepsMedium (view old.ring.drive.medium) (view new.ring.drive.medium)

module _ {M : Type 0} (view : M → MediumView) where
  -- where a call is left, the log is within its room
  pub short_at : {S : Type 0} (seen : S → RingView M) (q : S) (new : LoopView M) → 1 ≤ (view_of view seen q new).calls_left → length new.ring.books.log ≤ new.ring.books.room
  short_at seen q new left = within_room new.ring.books.room (length new.ring.books.log) left

  pub keeps_by : (old new : LoopView M) → new.ring.books.plan ≡ old.ring.books.plan → new.ring.books.room ≡ old.ring.books.room → KeepsMedium (view old.ring.drive.medium) (view new.ring.drive.medium)
      → (view new.ring.drive.medium).record_count ≡ (view old.ring.drive.medium).record_count → IsHostRing view old.ring → KeepsRing view old new
  keeps_by old new plan_is room_is images size room = record { plan = plan_is; room = room_is ∙ room ∙ ap log_room (sym size); images = images }

  pub keeps_rings : (old new : LoopView M) → WentBy view old.ring new.ring → (view new.ring.drive.medium).record_count ≡ (view old.ring.drive.medium).record_count → IsHostRing view old.ring → KeepsRing view old new
  keeps_rings old new went size room = keeps_by old new (went_plan view old.ring new.ring went) (went_room view old.ring new.ring went) (went_images view old.ring new.ring went) size room

  -- What is kept from the emptying of the log on, is kept from before it.
  pub keeps_emptied : (old begun new : LoopView M) → Emptied view old begun → KeepsRing view begun new → KeepsRing view old new
  keeps_emptied old begun new emptied keeps = record { plan = keeps.plan ∙ emptied.plan; room = keeps.room; images = images_then _ _ _ _ _ _ emptied.images keeps.images }

-- ---- the reply

-- by the answer of the store
abbrev FrameAs : {T : Type 0} → Result T Trouble → Reply → Type 0
FrameAs answer answered = (ready_behind answer ≡ not (is_frame_fault answered)) × (answers_ok answer ≡ not (is_fault answered))

fits_ready : {T : Type 0} (answer : Result T Trouble) (answered : Reply) → FitsAnswer answer answered → FrameAs answer answered
fits_ready (Ok x) reply.FaultFrame fits = cc
fits_ready (Ok x) reply.FaultMedium fits = cc
fits_ready (Err trouble.Frame) answered fits = subst (λ a. FrameAs {T = Unit {0}} (Err trouble.Frame) a) (sym fits) (refl, refl)
fits_ready (Err trouble.Medium) answered fits = subst (λ a. FrameAs {T = Unit {0}} (Err trouble.Medium) a) (sym fits) (refl, refl)
fits_ready _ _ fits = (refl, refl)

fits_status : {T : Type 0} (answer : Result T Trouble) (answered : Reply) (status : ℕ) → FitsAnswer answer answered → StatusAs answer status → status ≤ 3 → StatusBehindVolume answered status
fits_status (Ok x) reply.FaultFrame status fits so low = cc
fits_status (Ok x) reply.FaultMedium status fits so low = cc
fits_status (Err trouble.Frame) answered status fits so low = subst (λ a. StatusBehindVolume a status) (sym fits) low
fits_status (Err trouble.Medium) answered status fits so low = subst (λ a. StatusBehindVolume a status) (sym fits) so
fits_status _ _ status fits so low = so

-- where the loop is not ready the store is not sound
unsound_lost : {M : Type 0} (ready : Bool) (r : RingView M) (sound : Bool) (log : Since) → StandsBy ready r sound log → ready ≡ false → sound ≡ false
unsound_lost true r sound log so off = let clash : true ≡ false = off in cc
unsound_lost false r sound log so off = so.1

-- ---- the laws

module _ {M : Type 0} (view : M → MediumView) (command : VolumeCommand) (begun new : LoopView M) (stands : StandsBy begun.ready begun.ring begun.sound since.Unbroken) (empty : begun.ring.books.log ≡ []) (begins : begun.ring.books.begun ≡ begun.ring.books.crossings) (room : IsHostRing view begun.ring) (low : HasDriveStatus new.ring) where
  abbrev was : Bool
  was = begun.ready

  abbrev r : RingView M
  r = begun.ring

  abbrev s : RingView M
  s = new.ring

  one_here : is_at_most_one (talkers (roles_of (devices_of r))) ≡ true
  one_here = one_talks was r begun.sound since.Unbroken stands

  ring_here : IsRing r
  ring_here = (stands_free was r begun.sound since.Unbroken stands).ring

  -- The store could not be made sound: a frame was lost or altered as the loop was addressed or the drive cleared.
  pub volume_broke : {S : Type 0} (T : Type 0) (seen : S → RingView M) (q : S) (e : Trouble) → 1 ≤ (view_of view seen q new).calls_left → MakesSound {T = T} view begun new (Err e)
      → (e ≡ trouble.Frame) × TellsLoop (begun.ring.books.plan) (event_at view (Asks (OfVolume command)) reply.FaultFrame begun new) × KeepsRing view begun new
  volume_broke T seen q e left makes = (so.1, tells_rings view (Asks (OfVolume command)) reply.FaultFrame begun new false broke.lost tells, keeps_rings view begun new went size room)
    where
      so : (begun.sound ≡ false) × (e ≡ trouble.Frame) × StartBroke view begun new
      so = start_broke T view begun new e stands makes

      broke : StartBroke view begun new
      broke = so.2

      went : WentBy view r s
      went = inr (false, broke.keeps.came.came)

      size : (view s.drive.medium).record_count ≡ (view r.drive.medium).record_count
      size = broke.drive.still.stays_in.size

      short : length s.books.log ≤ log_room (view r.drive.medium).record_count
      short = subst (λ n. length s.books.log ≤ n) (went_room view r s went ∙ room) (short_at view seen q new left)

      exchanged : Exchanged (r.books.plan) (event_by view (Asks (OfVolume command)) reply.FaultFrame was false begun.sound new.sound r s)
      exchanged = subst (λ sound. Exchanged (r.books.plan) (event_by view (Asks (OfVolume command)) reply.FaultFrame was false sound new.sound r s)) (sym so.0)
          (frame_joined view command was false false new.sound r s empty [] (joined_broken view was r s broke.keeps) broke.drive.count)

      tells : TellsLoop (r.books.plan) (event_by view (Asks (OfVolume command)) reply.FaultFrame was false begun.sound new.sound r s)
      tells = record {
        next = volume_next r s (went_place view r s went) broke.unheard command reply.FaultFrame low;
        travels = went_travels view r s went (Asks (OfVolume command)) reply.FaultFrame was false begun.sound new.sound empty one_here short;
        heard = volume_heard r s (went_place view r s went) empty broke.unheard false;
        exchanged = exchanged;
        by_plan = went_by_plan view r s went ring_here begins;
        ready = refl;
        clears = λ off. clears_volume (r.books.plan) (event_by view (Asks (OfVolume command)) reply.FaultFrame was false begun.sound new.sound r s) exchanged refl so.0 off;
        sound = broke.unsound;
      }

  -- The store was made sound, and the volume's command did with it what every store allows. The reply fits the answer of the store; with ok
  -- the bytes of a store, a batch or a fetch were carried.
  pub volume_done : {S T : Type 0} (x : T) (seen : S → RingView M) (p q : S) (calls : ℕ) (mid : LoopView M) (answer : Result (Unit {0}) Trouble) (answered : Reply) → begun.since ≡ since.Unbroken → MakesSound view begun mid (Ok x)
      → seen p ≡ mid.ring → GoesOn calls (view_of view seen p mid) (view_of view seen q new) answer → FitsAnswer answer answered
      → CarriesAs command answered (state_at view begun).records (volume_at (state_at view begun)) (view_of view seen q new).transferred
      → 1 ≤ (view_of view seen q new).calls_left
      → TellsLoop (begun.ring.books.plan) (event_at view (Asks (OfVolume command)) answered begun new) × KeepsRing view begun new
  volume_done {S} {T} x seen p q calls mid answer answered unbroken makes agrees goes fits carries left =
      (tells_rings view (Asks (OfVolume command)) answered begun new is so.ready tells, keeps_rings view begun new went size room)
    where
      is : Bool
      is = ready_behind answer

      made : MadeSound view begun mid
      made = made_sound view begun mid unbroken x stands makes

      m : RingView M
      m = mid.ring

      so : Behind view answer m new
      so = behind view seen p q calls mid new answer made.since made.idle agrees goes

      start : Started view was begun.sound r m
      start = made.started

      went : WentBy view r s
      went = volume_went view was begun.sound r m s answer start so.ends

      size : (view s.drive.medium).record_count ≡ (view r.drive.medium).record_count
      size = so.size ∙ ap (λ medium. (view medium).record_count) start.medium

      short : length s.books.log ≤ log_room (view r.drive.medium).record_count
      short = subst (λ n. length s.books.log ≤ n) (went_room view r s went ∙ room) (short_at view seen q new left)

      place : drive_party m ≡ drive_party r
      place = ap (λ n. n + 1) start.place

      unheard : OnlyHeard (drive_party r) r s
      unheard = heard_then (drive_party r) r m s start.unheard (subst (λ d. OnlyHeard d m s) place so.unheard)

      carried : CarriesBy view command answered was r s
      carried = carries_by view was r s (went_loop view r s went) command answered carries

      frame : FrameAs answer answered
      frame = fits_ready answer answered fits

      exchanged : Exchanged (r.books.plan) (event_by view (Asks (OfVolume command)) answered was is begun.sound new.sound r s)
      exchanged = volume_exchanged view command was is begun.sound new.sound r m s answer answered empty start so.ends fits carried

      tells : TellsLoop (r.books.plan) (event_by view (Asks (OfVolume command)) answered was is begun.sound new.sound r s)
      tells = record {
        next = volume_next r s (went_place view r s went) unheard command answered (fits_status answer answered (status_of s.drive.state) fits so.status low);
        travels = went_travels view r s went (Asks (OfVolume command)) answered was is begun.sound new.sound empty one_here short;
        heard = volume_heard r s (went_place view r s went) empty unheard (not (is_frame_fault answered));
        exchanged = exchanged;
        by_plan = went_by_plan view r s went ring_here begins;
        ready = frame.0;
        clears = λ off. clears_volume (r.books.plan) (event_by view (Asks (OfVolume command)) answered was is begun.sound new.sound r s) exchanged refl (unsound_lost was r begun.sound since.Unbroken stands off) off;
        sound = so.sound ∙ frame.1;
      }
