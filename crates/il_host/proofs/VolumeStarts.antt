-- A command of the volume begins: the log is emptied, and the store is made sound.
use Rattle.std.proofs.Common.{◌≡◌, ◌∙◌, ◌+◌, ⊎_elim, Bool, true, false, [], refl, sym, ap, subst, arith}
use Rattle.std.specs.Prelude.{Ok, Err}
use Rattle.il_drive.specs.Resting.{sdc}
use Rattle.il_ports.specs.Media.{MediumView}
use Rattle.il_ports.specs.Stores.{Begun}
use Rattle.il_ports.specs.declared.records.Trouble.{Trouble}
use Rattle.il_ports.specs.declared.records.Trouble.TheVariants as trouble
use Rattle.il_frames.specs.NamedFrames.{lad, unl}
use Rattle.il_ring.specs.Rings.{RingView, drive_party, ring_emptied}
use Rattle.il_ring.specs.Books.{begun_anew}
use Rattle.il_control.specs.Calls.{IsFree, IsIdle, loop_of}
use Rattle.il_record.specs.declared.records.Since.TheVariants as since
use Rattle.il_record.specs.Asks.{AskCommand}
use Rattle.il_record.specs.Came.{OnlyHeard}
use Rattle.il_record.specs.LoopStores.{Addresses, LoopView, Mended, NotMended, StandsBy, counted_resume, since_more, view_of}
use Rattle.il_record.specs.Runs.{Cleared, LeavesRecords, clear_asks}
use Rattle.il_record.proofs.HeardLogs.{heard_same, heard_then}
use Rattle.il_record.proofs.ReadRuns.{leaves_then}
use Rattle.il_record.proofs.StoreStarts.{count_of, stands_free, still_of, unfailed}
use Rattle.host_model.specs.RingStates.{loop_on, state_on}
use Rattle.host_model.specs.Courses.{addressed_first, clears_due, is_commanding}
use Rattle.il_host.specs.Standings.{IsHostRing, MakesSound, MakesSoundBy, state_at}
use Rattle.il_host.proofs.Images.{KeepsMedium, same_images}
use Rattle.il_host.proofs.Keeping.{Keeps, Meets, MeetsOne, keeps_asked, meets_command}
use Rattle.il_host.proofs.LoopEvents.{Readies, keeps_interrupted, keeps_ready}
use Rattle.il_host.proofs.LoopReady.{ready_err, ready_ok}
use Rattle.il_host.proofs.StatusEvents.{ready_leaves}
use Rattle.il_host.proofs.VolumeExchanges.{Started}

-- ---- the log is emptied

-- All stands as before, the log is empty, and no call came since.
pub record Emptied {M : Type 0} (view : M → MediumView) (old begun : LoopView M) : Type 0 where
  pub state : state_at view begun ≡ state_at view old
  pub log : begun.ring.books.log ≡ []
  pub begins : begun.ring.books.begun ≡ begun.ring.books.crossings
  pub plan : begun.ring.books.plan ≡ old.ring.books.plan
  pub room : IsHostRing view old.ring → IsHostRing view begun.ring
  pub images : KeepsMedium (view old.ring.drive.medium) (view begun.ring.drive.medium)
  pub ready : begun.ready ≡ old.ready
  pub sound : begun.sound ≡ old.sound
  pub unbroken : begun.since ≡ since.Unbroken
  pub stands : StandsBy begun.ready begun.ring begun.sound since.Unbroken

-- the second ring is the first with its log emptied
pub emptied_ring : {M S : Type 0} (view : M → MediumView) (seen : S → RingView M) (p q : S) (old begun : LoopView M) → seen p ≡ old.ring → seen q ≡ begun.ring → Begun (view_of view seen p old) (view_of view seen q begun) → begun.ring ≡ ring_emptied old.ring
emptied_ring view seen p q old begun here there so = sym there ∙ so.emptied ∙ ap ring_emptied here

-- a log that is emptied while no frame stands on the ring begins there
begins_here : {M : Type 0} (r s : RingView M) → s ≡ ring_emptied r → IsFree r → s.books.begun ≡ s.books.crossings
begins_here r s ring free =
    ap (λ (s : RingView _). s.books.begun) ring
    ∙ ap (λ held. begun_anew held (begun_anew r.books.lent (begun_anew r.books.kept r.books.crossings r.books.begun) r.books.begun) r.books.begun) free.held
    ∙ ap (λ lent. begun_anew lent (begun_anew r.books.kept r.books.crossings r.books.begun) r.books.begun) free.ring.lent
    ∙ ap (λ kept. begun_anew kept r.books.crossings r.books.begun) free.ring.kept
    ∙ sym (ap (λ (s : RingView _). s.books.crossings) ring)

pub volume_begun : {M S : Type 0} (view : M → MediumView) (seen : S → RingView M) (p q : S) (old begun : LoopView M) → (view_of view seen p old).valid → seen p ≡ old.ring → seen q ≡ begun.ring → Begun (view_of view seen p old) (view_of view seen q begun) → Emptied view old begun
volume_begun {M} view seen p q old begun valid here there so =
    let ring = emptied_ring view seen p q old begun here there so in
    let whole = unfailed begun.ready begun.since so.failed in
    record {
      state = λ i. state_on view (so.ready i) (so.sound i) (ring i);
      log = ap (λ (s : RingView M). s.books.log) ring;
      begins = begins_here old.ring begun.ring ring (stands_free old.ready old.ring old.sound old.since valid);
      plan = ap (λ (s : RingView M). s.books.plan) ring;
      room = λ room. subst (λ (s : RingView M). IsHostRing view s) (sym ring) room;
      images = same_images view old.ring.drive.medium begun.ring.drive.medium (ap (λ (s : RingView M). s.drive.medium) ring);
      ready = so.ready;
      sound = so.sound;
      unbroken = whole;
      stands = subst (λ log. StandsBy begun.ready begun.ring begun.sound log) whole so.valid;
    }

-- ---- the store is made sound

meets_clearing : {M : Type 0} (r m : RingView M) → drive_party m ≡ drive_party r → Meets (loop_of m) (clear_asks (drive_party m)) (clears_due (loop_on r))
meets_clearing r m place =
    (meets_command (loop_of m) unl, (subst (λ d. MeetsOne (loop_of m) (AskCommand (lad (drive_party m))) (is_commanding (lad d))) place (meets_command (loop_of m) (lad (drive_party m))), (meets_command (loop_of m) sdc, tt)))

module _ {M : Type 0} (view : M → MediumView) (was : Bool) (r m : RingView M) (ready : Readies view was r m) where
  party_of_ready : drive_party m ≡ drive_party r
  party_of_ready = ap (λ n. n + 1) (ready_leaves view was r m ready).place

  free_of_ready : IsFree r
  free_of_ready = by was ready
    where
      by : (was : Bool) → Readies view was r m → IsFree r
      by true ready = ready.1.free
      by false ready = ready.0

  pub heard_of_ready : OnlyHeard (drive_party r) r m
  heard_of_ready = by was ready
    where
      by : (was : Bool) → Readies view was r m → OnlyHeard (drive_party r) r m
      by true ready = subst (λ (m : RingView M). OnlyHeard (drive_party r) r m) (sym ready.0) (heard_same (drive_party r) r)
      by false ready = ready.1.unheard

  -- `ready`, and then the drive was cleared
  started_cleared : (s : RingView M) → Cleared view (drive_party m) m s → Started view was false r s
  started_cleared s done = record {
    free = free_of_ready;
    by = keeps_ready view was true (clears_due (loop_on r)) r m s ready (keeps_asked view true (clear_asks (drive_party m)) (clears_due (loop_on r)) m s done.came (meets_clearing r m party_of_ready));
    unheard = heard_then (drive_party r) r m s heard_of_ready (subst (λ d. OnlyHeard d m s) party_of_ready done.unheard);
    medium = done.medium ∙ (ready_leaves view was r m ready).medium;
    place = done.came.units.came.talked.adds.before ∙ (ready_leaves view was r m ready).place;
  }

-- the loop is ready after it, and the store sound
pub record MadeSound {M : Type 0} (view : M → MediumView) (begun mid : LoopView M) : Type 0 where
  pub ready : mid.ready ≡ true
  pub sound_now : mid.sound ≡ true
  pub since : mid.since ≡ since.Unbroken
  pub idle : IsIdle mid.ring
  pub started : Started view begun.ready begun.sound begun.ring mid.ring

module _ {M : Type 0} (view : M → MediumView) (begun new : LoopView M) (unbroken : begun.since ≡ since.Unbroken) where
  -- how the log comes after `ready`
  since_ready : (is : Bool) (ready : LoopView M) → Addresses {T = Unit {0}} view is (counted_resume begun) ready (Ok tt) → ready.since ≡ since.Unbroken
  since_ready true ready so = ap (λ (l : LoopView M). l.since) so ∙ unbroken
  since_ready false ready so = ap (λ (l : LoopView M). l.since) so.left ∙ ap since_more unbroken

  -- it was sound
  kept_sound : (is : Bool) → begun.ready ≡ is → StandsBy is begun.ring true since.Unbroken → begun.sound ≡ true → new ≡ begun → MadeSound view begun new
  kept_sound true is so sound same = subst (λ (l : LoopView M). MadeSound view begun l) (sym same) (record {
    ready = is;
    sound_now = sound;
    since = unbroken;
    idle = so.0;
    started = subst (λ b. Started view begun.ready b begun.ring begun.ring) (sym sound) (record { free = so.0.free; by = refl; unheard = heard_same (drive_party begun.ring) begun.ring; medium = refl; place = refl });
  })
  kept_sound false is so sound same = let clash : true ≡ false = so.1 in cc

  -- it was not
  mended_sound : begun.sound ≡ false → StandsBy begun.ready begun.ring false since.Unbroken → Mended view (counted_resume begun) new → MadeSound view begun new
  mended_sound sound so mended =
      let ready = ready_ok view tt begun.ready false since.Unbroken (counted_resume begun) mended.ready so mended.addressed in
      record {
        ready = ap (λ (l : LoopView M). l.ready) mended.left ∙ mended.at;
        sound_now = ap (λ (l : LoopView M). l.sound) mended.left;
        since = ap (λ (l : LoopView M). l.since) mended.left ∙ since_ready begun.ready mended.ready mended.addressed;
        idle = mended.cleared.idle;
        started = subst (λ b. Started view begun.ready b begun.ring new.ring) (sym sound) (started_cleared view begun.ready begun.ring mended.ready.ring ready new.ring mended.cleared);
      }

  pub made_sound : {T : Type 0} (x : T) → StandsBy begun.ready begun.ring begun.sound since.Unbroken → MakesSound view begun new (Ok x) → MadeSound view begun new
  made_sound {T} x so makes = by begun.sound refl so makes
    where
      by : (sound : Bool) → begun.sound ≡ sound → StandsBy begun.ready begun.ring sound since.Unbroken → MakesSoundBy {T = T} view sound begun new (Ok x) → MadeSound view begun new
      by true is so makes = kept_sound begun.ready refl so is makes
      by false is so makes = mended_sound is so makes

-- ---- that was broken off

-- in the addressing or in the clearing: the loop is not ready, and the store is not sound
pub record StartBroke {M : Type 0} (view : M → MediumView) (begun new : LoopView M) : Type 0 where
  pub lost : new.ready ≡ false
  pub unsound : new.sound ≡ false
  pub keeps : Keeps view false (addressed_first (loop_on begun.ring) begun.ready (clears_due (loop_on begun.ring))) begun.ring new.ring
  pub unheard : OnlyHeard (drive_party begun.ring) begun.ring new.ring
  pub drive : LeavesRecords view begun.ring.drive new.ring.drive

module _ {M : Type 0} (T : Type 0) (view : M → MediumView) (begun new : LoopView M) where
  -- the addressing
  broke_addressing : (e : Trouble) → Addresses {T = T} view begun.ready (counted_resume begun) new (Err e) → (e ≡ trouble.Frame) × StartBroke view begun new
  broke_addressing e so =
      let broke = ready_err T view e begun.ready (counted_resume begun) new so in
      let not = broke.2 in (
        broke.1,
        record {
          lost = ap (λ (l : LoopView M). l.ready) not.left;
          unsound = ap (λ (l : LoopView M). l.sound) not.left;
          keeps = subst (λ was. Keeps view false (addressed_first (loop_on begun.ring) was (clears_due (loop_on begun.ring))) begun.ring new.ring) (sym broke.0) (keeps_interrupted view (clears_due (loop_on begun.ring)) begun.ring new.ring not.interrupted);
          unheard = not.interrupted.unheard;
          drive = not.interrupted.drive;
        },
      )

  -- the clearing
  broke_clearing : StandsBy begun.ready begun.ring false since.Unbroken → NotMended view (counted_resume begun) new → StartBroke view begun new
  broke_clearing so not =
      let was = begun.ready in
      let r = begun.ring in
      let m = not.ready.ring in
      let s = new.ring in
      let ready = ready_ok view tt was false since.Unbroken (counted_resume begun) not.ready so not.addressed in
      let medium = (ready_leaves view was r m ready).medium in
      record {
        lost = ap (λ (l : LoopView M). l.ready) not.left;
        unsound = ap (λ (l : LoopView M). l.sound) not.left;
        keeps = keeps_ready view was false (clears_due (loop_on r)) r m s ready (keeps_asked view false (clear_asks (drive_party m)) (clears_due (loop_on r)) m s not.interrupted.came (meets_clearing r m (party_of_ready view was r m ready)));
        unheard = heard_then (drive_party r) r m s (heard_of_ready view was r m ready) (subst (λ d. OnlyHeard d m s) (party_of_ready view was r m ready) not.interrupted.unheard);
        drive = leaves_then view r.drive m.drive s.drive (record { still = still_of view r m medium; count = omega (arith, count_of view r m medium) }) not.interrupted.drive;
      }

  pub start_broke : (e : Trouble) → StandsBy begun.ready begun.ring begun.sound since.Unbroken → MakesSound {T = T} view begun new (Err e) → (begun.sound ≡ false) × (e ≡ trouble.Frame) × StartBroke view begun new
  start_broke e so makes = by begun.sound refl so makes
    where
      by : (sound : Bool) → begun.sound ≡ sound → StandsBy begun.ready begun.ring sound since.Unbroken → MakesSoundBy {T = T} view sound begun new (Err e) → (begun.sound ≡ false) × (e ≡ trouble.Frame) × StartBroke view begun new
      by true is so makes = absurd makes
      by false is so makes =
          let both : (e ≡ trouble.Frame) × StartBroke view begun new = ⊎_elim (λ addressing. broke_addressing e addressing) (λ clearing. (clearing.0, broke_clearing so clearing.1)) makes in
          (is, both.0, both.1)
