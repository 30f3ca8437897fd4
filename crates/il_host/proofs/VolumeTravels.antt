-- What the frames of a command of the volume did on the ring.
use Rattle.std.proofs.Common.{◌≡◌, ◌⊎◌, ◌≤◌, ◌∙◌, ⊎_elim, inl, inr, Bool, true, false, [], length, sym, ap, subst}
use Rattle.std.specs.Prelude.{Result, Ok, Err, MatchBool}
use Rattle.std.specs.List.{All}
use Rattle.il_ports.specs.Media.{MediumView}
use Rattle.il_ports.specs.declared.records.Trouble.{Trouble}
use Rattle.il_ports.specs.declared.records.Trouble.TheVariants as trouble
use Rattle.loop_model.specs.Roles.{is_at_most_one, talkers}
use Rattle.il_ring.specs.Rings.{RingView, devices_of, roles_of, IsRing}
use Rattle.il_ring.specs.Fates.{IsByPlan}
use Rattle.il_control.specs.Calls.{loop_of, IsIdle, IsLost}
use Rattle.il_record.specs.declared.records.Since.{Since}
use Rattle.il_record.specs.Came.{CameBy}
use Rattle.il_record.specs.LoopStores.{StandsBy}
use Rattle.il_record.proofs.Talks.{same_loop}
use Rattle.il_script.specs.declared.reply.Reply.{Reply}
use Rattle.host_model.specs.Requests.{Item}
use Rattle.host_model.specs.HostStates.{log_room}
use Rattle.host_model.specs.Steps.{Travels}
use Rattle.il_host.proofs.CommandTravels.{event_by, event_on, travels_came, travels_none}
use Rattle.il_host.proofs.Images.{KeepsMedium, came_images, same_images}
use Rattle.il_host.proofs.Sounding.{travels_sounding}
use Rattle.il_host.proofs.VolumeExchanges.{EndsBy, Started, joined}

-- where the controller stands, idle or lost, at most one device talks
pub one_talks : {M : Type 0} (ready : Bool) (r : RingView M) (sound : Bool) (log : Since) → StandsBy ready r sound log → is_at_most_one (talkers (roles_of (devices_of r))) ≡ true
one_talks true r sound log so = ap is_at_most_one so.0.silent
one_talks false r sound log so = so.0.one

-- ---- exchanges, or none

-- the ring stayed as it was, or exchanges came
abbrev pub WentBy : {M : Type 0} → (M → MediumView) → RingView M → RingView M → Type 0
WentBy view r s = (s ≡ r) ⊎ ((whole : Bool) × CameBy view whole r s)

module _ {M : Type 0} (view : M → MediumView) (r s : RingView M) (went : WentBy view r s) where
  -- the drive stays in its place
  pub went_place : length s.before ≡ length r.before
  went_place = ⊎_elim (λ same. ap (λ (s : RingView M). length s.before) same) (λ so. so.1.talked.adds.before) went

  -- the loop stays as it is
  pub went_loop : loop_of s ≡ loop_of r
  went_loop = ⊎_elim (λ same. ap (λ (s : RingView M). loop_of s) same) (λ so. same_loop view r s _ _ _ so.1.talked.adds) went

  -- and so do the plan of faults and the room of the log
  pub went_plan : s.books.plan ≡ r.books.plan
  went_plan = ⊎_elim (λ same. ap (λ (s : RingView M). s.books.plan) same) (λ so. so.1.talked.adds.plan) went

  pub went_begun : s.books.begun ≡ r.books.begun
  went_begun = ⊎_elim (λ same. ap (λ (s : RingView M). s.books.begun) same) (λ so. so.1.talked.adds.begun) went

  went_ring : IsRing r → IsRing s
  went_ring ring = ⊎_elim (λ same. subst IsRing (sym same) ring) (λ so. by so.0 so.1.talked.state) went
    where
      by : (whole : Bool) → MatchBool whole (IsIdle s) (IsLost s) → IsRing s
      by true idle = idle.free.ring
      by false lost = lost.free.ring

  -- and each entry ended as it was planned, where the log began with them
  pub went_by_plan : IsRing r → r.books.begun ≡ r.books.crossings → All (IsByPlan r.books.plan r.books.crossings s.books.crossings) s.books.log
  went_by_plan ring begins =
      subst (λ n. All (IsByPlan r.books.plan n s.books.crossings) s.books.log) (went_begun ∙ begins)
      (subst (λ plan. All (IsByPlan plan s.books.begun s.books.crossings) s.books.log) went_plan (went_ring ring).told.entries)

  pub went_room : s.books.room ≡ r.books.room
  went_room = ⊎_elim (λ same. ap (λ (s : RingView M). s.books.room) same) (λ so. so.1.talked.adds.room) went

  -- and no image changes but the one in the drive
  pub went_images : KeepsMedium (view r.drive.medium) (view s.drive.medium)
  went_images = ⊎_elim (λ same. same_images view r.drive.medium s.drive.medium (ap (λ (s : RingView M). s.drive.medium) same)) (λ so. came_images view so.0 r s so.1) went

  -- what the frames did
  pub went_travels : (item : Item) (answer : Reply) (was is sound sound_now : Bool) → r.books.log ≡ [] → is_at_most_one (talkers (roles_of (devices_of r))) ≡ true
      → length s.books.log ≤ log_room (view r.drive.medium).record_count → Travels (event_by view item answer was is sound sound_now r s)
  went_travels item answer was is sound sound_now empty one short = travels_sounding (event_on view item answer was is r s) sound sound_now (⊎_elim
      (λ same. travels_none view item answer was is r s empty one same)
      (λ so. travels_came view item answer was is so.0 r s empty so.1 short)
      went)

-- those that make the store sound, and then those by the answer of the store
pub volume_went : {M T : Type 0} (view : M → MediumView) (was sound : Bool) (r m s : RingView M) (answer : Result T Trouble) → Started view was sound r m → EndsBy view answer m s → WentBy view r s
volume_went {M} {T} view was sound r m s answer start ends = by answer ends
  where
    alone : (sound : Bool) → Started view was sound r m → s ≡ m → WentBy view r s
    alone true start same = inl (same ∙ start.by)
    alone false start same = inr (true, subst (λ (s : RingView M). CameBy view true r s) (sym same) start.by.came.came)

    by : (answer : Result T Trouble) → EndsBy view answer m s → WentBy view r s
    by (Ok x) so = ⊎_elim (λ same. alone sound start same) (λ good. inr (true, (joined view was r true sound m s start good.came).came.came)) so
    by (Err trouble.Frame) so = inr (false, (joined view was r false sound m s start so.0).came.came)
    by (Err trouble.Medium) so = inr (true, (joined view was r true sound m s start so.0.came).came.came)
