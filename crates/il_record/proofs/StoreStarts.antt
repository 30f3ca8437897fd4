-- What emptying the log, addressing the loop and clearing the drive mean to a store over the loop.
use Rattle.std.proofs.Common.{◌≡◌, ◌∙◌, ◌≤◌, ◌+◌, ◌&&◌, ℕ, Bool, true, false, inl, [], None, refl, sym, ap, subst, arith, append-nil}
use Rattle.std.specs.Prelude.{Result, Ok, Err, IfOk, IfErr, IsErr}
use Rattle.std.specs.Result.{IsErrAnd}
use Rattle.il_ports.specs.declared.records.Trouble.{Trouble}
use Rattle.il_ports.specs.declared.records.Trouble.TheVariants as trouble
use Rattle.il_ports.specs.Media.{MediumView}
use Rattle.il_ports.specs.Stores.{Begun}
use Rattle.il_drive.specs.State.{status_of}
use Rattle.il_drive.specs.Steps.{IsStill}
use Rattle.il_drive.specs.Resting.{IsFree}
use Rattle.il_drive.proofs.Reading.{nothing_read}
use Rattle.il_ring.specs.Rings.{RingView, ring_emptied, devices_of, drive_party, spare_of}
use Rattle.il_ring.specs.Lists.{Each}
use Rattle.il_ring.proofs.Rings.{IsRing-clear}
use Rattle.il_control.specs.Calls.{AllStay, IsFree as IsFreeRing, IsIdle, IsLost, loop_of}
use Rattle.il_control.specs.Calls as calls
use Rattle.il_control.proofs.Made.{idle_cleared, lost_cleared}
use Rattle.il_record.proofs.Addressed.{readied, not_readied}
use Rattle.il_record.proofs.CameLaws.{nothing_came}
use Rattle.il_record.proofs.Places.{kept_stays, may_poll_kept}
use Rattle.il_record.proofs.Used.{resumed_used, not_resumed_used}
use Rattle.il_record.specs.declared.records.Since.{Since}
use Rattle.il_record.specs.declared.records.Since.TheVariants as since
use Rattle.il_record.specs.Called.{EndedBy, LeavesStore, left_broken}
use Rattle.il_record.specs.Came.{OnlyHeard, CameUnits}
use Rattle.il_record.specs.Polls.{MayPoll}
use Rattle.loop_model.specs.Effect.{Transferred}
use Rattle.il_record.specs.LoopStores.{LoopView, Addresses, Addressed, NotAddressed, FailedBy, IsFresh, StandsBy, StandsSo, Stood, calls_in, is_broken, log_emptied, since_more, view_of}
use Rattle.il_record.proofs.HeardLogs.{heard_same}
use Rattle.il_record.proofs.StoreCalls.{stood_whole, stood_frame, transferred_then, frames_same, frames_rose, calls_less}
use Rattle.il_record.proofs.StoreRuns.{on_error}

-- how the log stands where no call failed
pub unfailed : (ready : Bool) (log : Since) → FailedBy ready log None → log ≡ since.Unbroken
unfailed true since.Unbroken is = refl
unfailed true since.Failed is = cc
unfailed false since.Unbroken is = refl
unfailed false since.Broken is = cc
unfailed _ _ is = absurd is

pub alive_more : (log : Since) → is_broken (since_more log) ≡ false
alive_more since.Unbroken = refl
alive_more _ = refl

pub sound_and : (b : Bool) → b ≡ (b && true)
sound_and true = refl
sound_and false = refl

pub sound_none : (b : Bool) → false ≡ (b && false)
sound_none true = refl
sound_none false = refl

-- no frame is held
pub stands_free : {M : Type 0} (ready : Bool) (r : RingView M) (sound : Bool) (log : Since) → StandsBy ready r sound log → IsFreeRing r
stands_free true r sound log so = so.0.free
stands_free false r sound log so = so.0.free

pub still_of : {M : Type 0} (view : M → MediumView) (r s : RingView M) → s.drive.medium ≡ r.drive.medium → IsStill (view r.drive.medium) (view s.drive.medium)
still_of view r s same = subst (λ m. IsStill (view r.drive.medium) (view m)) (sym same) (nothing_read (view r.drive.medium)).still

pub count_of : {M : Type 0} (view : M → MediumView) (r s : RingView M) → s.drive.medium ≡ r.drive.medium → (view s.drive.medium).faults ≡ (view r.drive.medium).faults
count_of view r s same = ap (λ m. (view m).faults) same

-- ---- the log is emptied

pub nothing_since : {M : Type 0} (view : M → MediumView) (start s : RingView M) → IsFreeRing s → start ≡ s → Stood view since.Unbroken start s
nothing_since {M} view start s free is = subst (λ (start : RingView M). Stood view since.Unbroken start s) (sym is) (record { free = free; unheard = λ none. heard_same (drive_party s) s; by = inl refl })

cleared_stands : {M : Type 0} (ready : Bool) (r : RingView M) (sound : Bool) (log : Since) → StandsBy ready r sound log → StandsBy ready (ring_emptied r) sound since.Unbroken
cleared_stands true r sound log so = (idle_cleared r so.0, so.1, refl, so.3)
cleared_stands false r sound log so = (lost_cleared r so.0, so.1, so.2)

pub unbroken : (ready : Bool) → FailedBy ready since.Unbroken None
unbroken true = refl
unbroken false = refl

begun_at : {M S : Type 0} (view : M → MediumView) (seen : S → RingView M) (p q : S) (old : LoopView M) → StandsSo old → seen p ≡ old.ring → seen q ≡ ring_emptied old.ring → Begun (view_of view seen p old) (view_of view seen q (log_emptied old))
begun_at view seen p q old valid here there = record {
  valid = cleared_stands old.ready old.ring old.sound old.since valid;
  quiet = record { tape = refl; moment = refl; since = record { nothing_else = λ m t left. left; keeps = λ m t left. left } };
  size = refl;
  ready = refl;
  sound = refl;
  frame_faults = refl;
  medium_faults = refl;
  left = omega arith;
  enough = omega arith;
  room = refl;
  emptied = there ∙ sym (ap ring_emptied here);
  stood = nothing_since view (seen q) (ring_emptied old.ring) free_cleared there;
  transferred = record { reading = record { pieces = []; legal = refl; entries = refl }; outside = refl; good = refl; are = refl };
  failed = unbroken old.ready;
  resumed = refl;
}
  where
    free : IsFreeRing old.ring
    free = stands_free old.ready old.ring old.sound old.since valid

    free_cleared : IsFreeRing (ring_emptied old.ring)
    free_cleared = record { ring = IsRing-clear old.ring free.ring; held = free.held }

pub begun : {M S : Type 0} (view : M → MediumView) (seen : S → RingView M) (p q : S) (old : LoopView M) (s : RingView M) → StandsSo old → seen p ≡ old.ring → seen q ≡ s → s ≡ ring_emptied old.ring
    → Begun (view_of view seen p old) (view_of view seen q (record old { ring = s; since = since.Unbroken; resumes = 0 }))
begun {M} view seen p q old s valid here there is =
    subst (λ (s : RingView M). Begun (view_of view seen p old) (view_of view seen q (record old { ring = s; since = since.Unbroken; resumes = 0 }))) (sym is) (begun_at view seen p q old valid here (there ∙ is))

-- a new store
fresh_at : {M S : Type 0} (view : M → MediumView) (seen : S → RingView M) (q : S) → IsLost (seen q) → Each MayPoll 1 (devices_of (seen q)) → (seen q).books.log ≡ []
    → IsFresh (view_of view seen q (record { ring = seen q; ready = false; sound = false; since = since.Unbroken; resumes = 0 }))
fresh_at view seen q lost may empty = record {
  valid = (lost, refl, may);
  stood = nothing_since view (seen q) (seen q) lost.free refl;
  transferred = subst (λ log. Transferred (loop_of (seen q)) log []) (sym empty) (record { reading = record { pieces = []; legal = refl; entries = refl }; outside = refl; good = refl; are = refl });
  failed = refl;
  resumed = refl;
}

pub fresh : {M S : Type 0} (view : M → MediumView) (seen : S → RingView M) (q : S) (r : RingView M) → IsLost r → Each MayPoll 1 (devices_of r) → r.books.log ≡ [] → seen q ≡ r
    → IsFresh (view_of view seen q (record { ring = seen q; ready = false; sound = false; since = since.Unbroken; resumes = 0 }))
fresh {M} view seen q r lost may empty here =
    fresh_at view seen q (subst (λ (r : RingView M). IsLost r) (sym here) lost) (subst (λ (r : RingView M). Each MayPoll 1 (devices_of r)) (sym here) may) (ap (λ (r : RingView M). r.books.log) here ∙ empty)

-- ---- the loop is addressed

module _ {M : Type 0} (view : M → MediumView) (old : LoopView M) (s : RingView M) (unready : old.ready ≡ false) (valid : StandsSo old) (stays : AllStay true old.ring s) where
  few : drive_party old.ring ≤ 30
  few = let ring = (stands_free old.ready old.ring old.sound old.since valid).ring in omega (arith, ring.few)

  pub addressed : {T U E : Type 0} (y : T) (answer : Result U E) (x : U) (n : U → ℕ) (mid : LoopView M) (log : Since) → EndedBy answer (record old { ring = s }) mid (Ok x) → IfOk answer (λ x. calls.Resumed view (n x) old.ring s) → log ≡ since_more mid.since
      → Addresses view old.ready old (record mid { ready = true; since = log }) (Ok y)
  addressed {T} y (Ok z) x n mid log ended done logged =
      let now : Addressed view old (record old { ring = s; ready = true; since = since_more old.since }) = record { left = refl; readied = readied view (n z) old.ring s few done stays; used = resumed_used view (n z) old.ring s done } in
      subst (λ b. Addresses view b old (record mid { ready = true; since = log }) (Ok y)) (sym unready)
      (subst (λ (log : Since). Addressed view old (record mid { ready = true; since = log })) (sym logged)
      (subst (λ (l : LoopView M). Addressed view old (record l { ready = true; since = since_more l.since })) (sym ended.1) now))
  addressed y (Err e) x n mid log ended done logged = let clash = ended.0 in cc

  pub not_addressed : {T U E : Type 0} (answer : Result U E) (new : LoopView M) (e : Trouble) (result : Result T Trouble) → EndedBy answer (record old { ring = s }) new (Err e) → IfErr answer (λ b. calls.NotResumed view old.ring s) → IsErr result × IsErrAnd result (λ x. x ≡ e) → Addresses view old.ready old new result
  not_addressed {T} (Ok z) new e result ended not handed = let clash = ended.0 in cc
  not_addressed {T} (Err b) new e result ended not handed =
      let so = not_readied view old.ring s few not stays in
      let now : NotAddressed view old (left_broken (record old { ring = s })) = record { left = refl; interrupted = so.0; leaves = so.1; used = not_resumed_used view old.ring s not } in
      let is : e ≡ trouble.Frame = let same = ended.0 in cc in
      on_error result e (λ result. Addresses view old.ready old new result) handed
      (subst (λ b. Addresses {T = T} view b old new (Err e)) (sym unready) (is, subst (λ (l : LoopView M). NotAddressed view old l) (sym ended.1) now))

-- ---- where `ready` answered Ok

-- The loop is ready: as before, or addressed.
pub record GotReady {M : Type 0} (view : M → MediumView) (old mid : LoopView M) : Type 0 where
  pub units : CameUnits view true [] old.ring mid.ring
  pub unheard : OnlyHeard (drive_party old.ring) old.ring mid.ring
  pub status : status_of mid.ring.drive.state ≡ status_of old.ring.drive.state
  pub medium : mid.ring.drive.medium ≡ old.ring.drive.medium
  pub used : spare_of old.ring ≤ spare_of mid.ring + 5
  pub may : Each MayPoll 1 (devices_of mid.ring)
  pub idle : IsIdle mid.ring
  pub free : mid.sound ≡ true → IsFree (drive_party mid.ring) mid.ring.drive.state
  pub alive : is_broken mid.since ≡ false
  pub same : old.since ≡ since.Unbroken → mid.since ≡ since.Unbroken
  pub ready : mid.ready ≡ true
  pub sound : mid.sound ≡ old.sound
  pub resumes : mid.resumes ≡ old.resumes

not_sound : {A : Type 0} (b : Bool) → b ≡ false → b ≡ true → A
not_sound true is clash = cc
not_sound false is clash = cc

pub got_ready : {M U : Type 0} (view : M → MediumView) (old mid : LoopView M) (y : U) → StandsSo old → Addresses view old.ready old mid (Ok y) → GotReady view old mid
got_ready {M} {U} view old mid y valid so = by old.ready refl valid so
  where
    by : (ready : Bool) → old.ready ≡ ready → StandsBy ready old.ring old.sound old.since → Addresses {T = U} view ready old mid (Ok y) → GotReady view old mid
    by true is valid so = subst (λ (l : LoopView M). GotReady view old l) (sym so) (record {
      units = nothing_came view old.ring valid.0;
      unheard = heard_same (drive_party old.ring) old.ring;
      status = refl;
      medium = refl;
      used = omega arith;
      may = valid.3;
      idle = valid.0;
      free = valid.1;
      alive = valid.2;
      same = λ is. is;
      ready = is;
      sound = refl;
      resumes = refl;
    })
    by false is valid so = record {
      units = so.readied.came.units;
      unheard = so.readied.unheard;
      status = so.readied.leaves.status;
      medium = so.readied.leaves.medium;
      used = so.used;
      may = may_poll_kept old.ring mid.ring (kept_stays old.ring mid.ring true so.readied.leaves.stays) valid.2;
      idle = so.readied.idle;
      free = λ sound. not_sound old.sound valid.1 (sym (ap (λ (l : LoopView M). l.sound) so.left) ∙ sound);
      alive = ap (λ (l : LoopView M). is_broken l.since) so.left ∙ alive_more old.since;
      same = λ is. ap (λ (l : LoopView M). l.since) so.left ∙ ap since_more is;
      ready = ap (λ (l : LoopView M). l.ready) so.left;
      sound = ap (λ (l : LoopView M). l.sound) so.left;
      resumes = ap (λ (l : LoopView M). l.resumes) so.left;
    }

-- what `ready` leaves of the store
module _ {M S : Type 0} (view : M → MediumView) (seen : S → RingView M) (p q : S) (old new : LoopView M) (valid : StandsSo old) where
  left_ready : {T : Type 0} (x : T) → GotReady view old new → LeavesStore 1 (FailedBy old.ready old.since None) (view_of view seen p old) (view_of view seen q new) (Ok x)
  left_ready x got =
      let still = still_of view old.ring new.ring got.medium in
      let units = got.units in
      record {
        valid = subst (λ b. StandsBy b new.ring new.sound new.since) (sym got.ready) (got.idle, got.free, got.alive, got.may);
        quiet = record { tape = still.tape; moment = still.moment; since = still.since };
        size = still.stays_in.size;
        sound = got.sound ∙ sound_and old.sound;
        left = calls_less 1 5 old.ring new.ring got.used (omega arith);
        room = ap calls_in units.came.talked.adds.room;
        cause = (frames_same view units.came.pieces old.ring new.ring (stands_free old.ready old.ring old.sound old.since valid).ring units.came.talked, count_of view old.ring new.ring got.medium);
        transferred = λ list so. subst (λ list. Transferred (loop_of new.ring) new.ring.books.log list) (append-nil list) (transferred_then view true [] old.ring new.ring list units refl so);
        stood = λ none start so.
            let whole = unfailed old.ready old.since none in
            subst (λ log. Stood view log (seen start) new.ring) (sym (got.same whole))
            (stood_whole view since.Unbroken [] (seen start) old.ring new.ring (subst (λ log. Stood view log (seen start) old.ring) whole so) refl units refl got.unheard (count_of view old.ring new.ring got.medium) (λ before. got.status ∙ before));
        resumed = λ k so. so ∙ sym got.resumes;
      }

  left_unready : {T : Type 0} → StandsBy false old.ring old.sound old.since → NotAddressed view old new → LeavesStore {T = T} 1 (FailedBy old.ready old.since None) (view_of view seen p old) (view_of view seen q new) (Err trouble.Frame)
  left_unready {T} lost not =
      let still = not.interrupted.drive.still in
      let units = not.interrupted.came.units in
      let s = new.ring in
      subst (λ (l : LoopView M). LeavesStore {T = T} 1 (FailedBy old.ready old.since None) (view_of view seen p old) (view_of view seen q l) (Err trouble.Frame)) (sym not.left) (record {
        valid = (units.came.talked.state, refl, may_poll_kept old.ring s not.interrupted.places lost.2);
        quiet = record { tape = still.tape; moment = still.moment; since = still.since };
        size = still.stays_in.size;
        sound = sound_none old.sound;
        left = calls_less 1 6 old.ring s not.used (omega arith);
        room = ap calls_in units.came.talked.adds.room;
        cause = (frames_rose view units.came.pieces old.ring s lost.0.free.ring units.came.talked, not.interrupted.drive.count);
        transferred = λ list so. subst (λ list. Transferred (loop_of s) s.books.log list) (append-nil list) (transferred_then view false [] old.ring s list units refl so);
        stood = λ none start so. stood_frame view old.since (seen start) old.ring s so (ap is_broken (unfailed old.ready old.since none)) units.came not.interrupted.unheard;
        resumed = λ k so. so;
      })

  pub ready_leaves : {T : Type 0} (answer : Result T Trouble) → Addresses view old.ready old new answer → LeavesStore 1 (FailedBy old.ready old.since None) (view_of view seen p old) (view_of view seen q new) answer
  ready_leaves (Ok x) so = left_ready x (got_ready view old new x valid so)
  ready_leaves {T} (Err e) so = by old.ready valid so
    where
      by : (ready : Bool) → StandsBy ready old.ring old.sound old.since → Addresses {T = T} view ready old new (Err e) → LeavesStore {T = T} 1 (FailedBy old.ready old.since None) (view_of view seen p old) (view_of view seen q new) (Err e)
      by true valid so = absurd so
      by false valid so = subst (λ (e : Trouble). LeavesStore {T = T} 1 (FailedBy old.ready old.since None) (view_of view seen p old) (view_of view seen q new) (Err e)) (sym so.0) (left_unready valid so.1)
