-- What resuming means to a store over the loop.
use Rattle.std.proofs.Common.{◌≡◌, ◌∙◌, ◌≤◌, ◌+◌, ◌++◌, ⊎_elim, inl, inr, ℕ, Bool, true, false, [], None, Some, refl, sym, ap, subst, arith, append-nil}
use Rattle.std.specs.Prelude.{Result, Ok, Err, IfOk, IfErr, IsErr, min}
use Rattle.std.specs.Result.{IsErrAnd}
use Rattle.il_ports.specs.declared.records.Trouble.{Trouble}
use Rattle.il_ports.specs.declared.records.Trouble.TheVariants as trouble
use Rattle.il_ports.specs.Media.{MediumView}
use Rattle.il_ports.specs.Stores.{Resumed}
use Rattle.il_drive.specs.Resting.{IsFree}
use Rattle.il_drive.specs.Steps.{IsStill}
use Rattle.il_ring.specs.Rings.{RingView, devices_of, drive_party, spare_of}
use Rattle.il_ring.specs.Lists.{Each}
use Rattle.il_control.specs.Calls.{IsFree as IsFreeRing, loop_of}
use Rattle.il_record.specs.declared.records.Since.{Since}
use Rattle.il_record.specs.declared.records.Since.TheVariants as since
use Rattle.il_record.specs.Called.{EndedBy}
use Rattle.il_record.specs.Came.{OnlyHeard, CameUnits}
use Rattle.il_record.specs.LoopStores.{LoopView, Addresses, FailedReady, FailedLost, Mended, NotMended, Resumes, StandsBy, StandsSo, Stood, calls_in, counted_resume, is_broken, most_resumes, since_frame, view_of}
use Rattle.loop_model.specs.Effect.{Transferred}
use Rattle.il_record.specs.Polls.{MayPoll}
use Rattle.il_record.specs.Runs.{Cleared, Interrupted, clear_asks}
use Rattle.il_record.proofs.HeardLogs.{heard_then}
use Rattle.il_record.proofs.Places.{may_poll_kept}
use Rattle.il_record.proofs.ReadRuns.{leaves_then, leaves_same}
use Rattle.il_record.proofs.StoreCalls.{came_then, came_then_units, stood_whole, stood_frame, transferred_then, frames_same, frames_rose, calls_less}
use Rattle.il_record.proofs.StoreRuns.{on_error, party_of}
use Rattle.il_record.proofs.StoreStarts.{count_of, got_ready, stands_free, still_of, unfailed}

-- ---- what it does, exactly

-- addressing tells nothing by the value of its Ok
any_value : {M U : Type 0} (view : M → MediumView) (ready : Bool) (old new : LoopView M) (y : U) → Addresses view ready old new (Ok y) → Addresses {T = Unit {0}} view ready old new (Ok tt)
any_value view true old new y so = so
any_value view false old new y so = so

-- where `ready` answered Ok the loop is ready
ready_behind : {M U : Type 0} (view : M → MediumView) (ready : Bool) (old new : LoopView M) (y : U) → old.ready ≡ ready → Addresses view ready old new (Ok y) → new.ready ≡ true
ready_behind {M} view true old new y is so = ap (λ (l : LoopView M). l.ready) so ∙ is
ready_behind {M} view false old new y is so = ap (λ (l : LoopView M). l.ready) so.left

module _ {M : Type 0} (T : Type 0) (view : M → MediumView) (more : ℕ) (before : LoopView M) (counted : more ≡ min (before.resumes + 1) most_resumes) (unsound : before.sound ≡ false) where
  store_is : record before { resumes = more } ≡ counted_resume before
  store_is = ap (λ (k : ℕ). record before { resumes = k }) counted

  as_unsound : (new : LoopView M) (answer : Result T Trouble) → Resumes view false (counted_resume before) new answer → Resumes view before.sound (counted_resume before) new answer
  as_unsound new answer so = subst (λ (b : Bool). Resumes view b (counted_resume before) new answer) (sym unsound) so

  pub resumes_not_ready : (result : Result T Trouble) (new : LoopView M) (e : Trouble) → Addresses {T = T} view before.ready (record before { resumes = more }) new (Err e) → IsErr result × IsErrAnd result (λ x. x ≡ e) → Resumes view before.sound (counted_resume before) new result
  resumes_not_ready result new e so handed =
      on_error result e (λ result. Resumes view before.sound (counted_resume before) new result) handed (as_unsound new (Err e) (inl (subst (λ (l : LoopView M). Addresses {T = T} view before.ready l new (Err e)) store_is so)))

  module _ {U : Type 0} (y : U) (ready : LoopView M) (so : Addresses view before.ready (record before { resumes = more }) ready (Ok y)) (s : RingView M) (used : spare_of ready.ring ≤ spare_of s + 7) where
    addressed_so : Addresses {T = Unit {0}} view before.ready (counted_resume before) ready (Ok tt)
    addressed_so = any_value view before.ready (counted_resume before) ready y (subst (λ (l : LoopView M). Addresses view before.ready l ready (Ok y)) store_is so)

    at : ready.ready ≡ true
    at = ready_behind view before.ready (record before { resumes = more }) ready y refl so

    pub resumes_done : {V E : Type 0} (x : T) (answer : Result V E) (z : V) (new : LoopView M) → EndedBy answer (record ready { ring = s }) new (Ok z) → IfOk answer (λ done. Cleared view (drive_party ready.ring) ready.ring s) → Resumes view before.sound (counted_resume before) (record new { sound = true }) (Ok x)
    resumes_done x (Ok d) z new ended done =
        as_unsound (record new { sound = true }) (Ok x)
        (subst (λ (l : LoopView M). Mended view (counted_resume before) (record l { sound = true })) (sym ended.1) (record { ready = ready; addressed = addressed_so; at = at; cleared = done; used = used; left = refl }))
    resumes_done x (Err e) z new ended done = let clash = ended.0 in cc

    pub resumes_broke : {V E : Type 0} (answer : Result V E) (result : Result T Trouble) (new : LoopView M) (e : Trouble) → EndedBy answer (record ready { ring = s }) new (Err e) → IfErr answer (λ b. Interrupted view (clear_asks (drive_party ready.ring)) (drive_party ready.ring) ready.ring s) → IsErr result × IsErrAnd result (λ x. x ≡ e)
        → Resumes view before.sound (counted_resume before) new result
    resumes_broke (Ok d) result new e ended not handed = let clash = ended.0 in cc
    resumes_broke (Err b) result new e ended not handed =
        let is : e ≡ trouble.Frame = let same = ended.0 in cc in
        on_error result e (λ result. Resumes view before.sound (counted_resume before) new result) handed
        (as_unsound new (Err e) (inr (is, subst (λ (l : LoopView M). NotMended view (counted_resume before) l) (sym ended.1) (record { ready = ready; addressed = addressed_so; at = at; interrupted = not; used = used; left = refl }))))

-- ---- what it leaves of the store

-- two steps that move no record are one
pub units_then : {M : Type 0} (view : M → MediumView) (whole : Bool) (r m s : RingView M) → IsFreeRing r → CameUnits view true [] r m → CameUnits view whole [] m s → CameUnits view whole [] r s
units_then view whole r m s free first more = record {
  came = came_then view whole r m s free first.came more.came;
  are = came_then_units view whole r m s free first.came more.came ∙ (λ i. first.are i ++ more.are i);
}

module _ {M S : Type 0} (view : M → MediumView) (seen : S → RingView M) (p q : S) (old : LoopView M) (valid : StandsSo old) where
  abbrev r : RingView M
  r = old.ring

  free : IsFreeRing r
  free = stands_free old.ready old.ring old.sound old.since valid

  resumed_more : (more k : ℕ) → more ≡ min (old.resumes + 1) most_resumes → min k most_resumes ≡ old.resumes → min (k + 1) most_resumes ≡ more
  resumed_more more k counted is = omega (arith, is, counted)

  module _ (more n : ℕ) (s : RingView M) (log : Since) (counted : more ≡ min (old.resumes + 1) most_resumes) (unheard : OnlyHeard (drive_party r) r s) (used : spare_of r ≤ spare_of s + n) (few : n ≤ 300) (still : IsStill (view r.drive.medium) (view s.drive.medium)) (may : Each MayPoll 1 (devices_of s)) where
    -- the store is sound again
    resumed_ok : {T : Type 0} (x : T) → CameUnits view true [] r s → IsFree (drive_party s) s.drive.state → (view s.drive.medium).faults ≡ (view r.drive.medium).faults → is_broken log ≡ false → (old.since ≡ since.Unbroken → log ≡ since.Unbroken)
        → Resumed (view_of view seen p old) (view_of view seen q (record { ring = s; ready = true; sound = true; since = log; resumes = more })) (Ok x)
    resumed_ok x units rest count alive same = record {
      goes_on = record {
        valid = (units.came.talked.state, (λ sound. rest), alive, may);
        told = still.stays_in.told;
        size = still.stays_in.size;
        sound = refl;
        ready = λ was. refl;
        left = calls_less 1 n r s used (omega (arith, few));
        room = ap calls_in units.came.talked.adds.room;
        failed = λ none. subst (λ log. FailedReady log None) (sym (same (unfailed old.ready old.since none))) refl;
        cause = (frames_same view units.came.pieces r s free.ring units.came.talked, count);
      };
      quiet = record { tape = still.tape; moment = still.moment; since = still.since };
      transferred = λ list so. subst (λ list. Transferred (loop_of s) s.books.log list) (append-nil list) (transferred_then view true [] r s list units refl so);
      stood = λ none start so.
          let whole = unfailed old.ready old.since none in
          subst (λ log. Stood view log (seen start) s) (sym (same whole)) (stood_whole view since.Unbroken [] (seen start) r s (subst (λ log. Stood view log (seen start) r) whole so) refl units refl unheard count (λ before. rest.status));
      resumed = λ k so. resumed_more more k counted so;
    }

    -- an exchange was broken off
    resumed_not : {T : Type 0} → CameUnits view false [] r s → (view r.drive.medium).faults ≤ (view s.drive.medium).faults → (old.since ≡ since.Unbroken → log ≡ since.Broken)
        → Resumed {T = T} (view_of view seen p old) (view_of view seen q (record { ring = s; ready = false; sound = false; since = log; resumes = more })) (Err trouble.Frame)
    resumed_not units count broke = record {
      goes_on = record {
        valid = (units.came.talked.state, refl, may);
        told = still.stays_in.told;
        size = still.stays_in.size;
        sound = refl;
        ready = tt;
        left = calls_less 1 n r s used (omega (arith, few));
        room = ap calls_in units.came.talked.adds.room;
        failed = λ none. subst (λ log. FailedLost log (Some trouble.Frame)) (sym (broke (unfailed old.ready old.since none))) refl;
        cause = (frames_rose view units.came.pieces r s free.ring units.came.talked, count);
      };
      quiet = record { tape = still.tape; moment = still.moment; since = still.since };
      transferred = λ list so. subst (λ list. Transferred (loop_of s) s.books.log list) (append-nil list) (transferred_then view false [] r s list units refl so);
      stood = λ none start so.
          let whole = unfailed old.ready old.since none in
          subst (λ log. Stood view log (seen start) s) (sym (broke whole)) (stood_frame view since.Unbroken (seen start) r s (subst (λ log. Stood view log (seen start) r) whole so) refl units.came unheard);
      resumed = λ k so. resumed_more more k counted so;
    }

  mended : {T : Type 0} (x : T) (new : LoopView M) → Mended view (counted_resume old) new → Resumed (view_of view seen p old) (view_of view seen q new) (Ok x)
  mended x new so =
      let got = got_ready view (counted_resume old) so.ready tt valid so.addressed in
      let m = so.ready.ring in
      let s = new.ring in
      let medium = so.cleared.medium ∙ got.medium in
      let party = party_of view true r m got.units.came in
      let first = got.used in
      let more = so.used in
      let new_is : new ≡ record { ring = s; ready = true; sound = true; since = so.ready.since; resumes = so.ready.resumes } = so.left ∙ ap (λ (b : Bool). record { ring = s; ready = b; sound = true; since = so.ready.since; resumes = so.ready.resumes }) so.at in
      subst (λ (l : LoopView M). Resumed (view_of view seen p old) (view_of view seen q l) (Ok x)) (sym new_is)
      (resumed_ok so.ready.resumes 12 s so.ready.since got.resumes (heard_then (drive_party r) r m s got.unheard (subst (λ d. OnlyHeard d m s) party so.cleared.unheard)) (omega (arith, first, more)) (omega arith) (still_of view r s medium) (may_poll_kept m s so.cleared.places got.may) x
      (units_then view true r m s free got.units so.cleared.came.units) (subst (λ d. IsFree d s.drive.state) (sym (party_of view true m s so.cleared.came.units.came)) so.cleared.rests.free) (count_of view r s medium) got.alive got.same)

  not_mended : {T : Type 0} (new : LoopView M) → NotMended view (counted_resume old) new → Resumed {T = T} (view_of view seen p old) (view_of view seen q new) (Err trouble.Frame)
  not_mended {T} new so =
      let got = got_ready view (counted_resume old) so.ready tt valid so.addressed in
      let m = so.ready.ring in
      let s = new.ring in
      let not = so.interrupted in
      let party = party_of view true r m got.units.came in
      let left = leaves_then view r.drive m.drive s.drive (leaves_same view r.drive m.drive got.medium) not.drive in
      let first = got.used in
      let more = so.used in
      subst (λ (l : LoopView M). Resumed {T = T} (view_of view seen p old) (view_of view seen q l) (Err trouble.Frame)) (sym so.left)
      (resumed_not so.ready.resumes 12 s (since_frame so.ready.since) got.resumes (heard_then (drive_party r) r m s got.unheard (subst (λ d. OnlyHeard d m s) party not.unheard)) (omega (arith, first, more)) (omega arith) left.still (may_poll_kept m s not.places got.may)
      (units_then view false r m s free got.units not.came.units) left.count (λ whole. ap since_frame (got.same whole)))

  not_ready : {T : Type 0} (ready : Bool) (new : LoopView M) (e : Trouble) → StandsBy ready r old.sound old.since → Addresses {T = T} view ready (counted_resume old) new (Err e) → Resumed {T = T} (view_of view seen p old) (view_of view seen q new) (Err e)
  not_ready {T} true new e valid so = absurd so
  not_ready {T} false new e valid so =
      let not = so.1.interrupted in
      subst (λ (e : Trouble). Resumed {T = T} (view_of view seen p old) (view_of view seen q new) (Err e)) (sym so.0)
      (subst (λ (l : LoopView M). Resumed {T = T} (view_of view seen p old) (view_of view seen q l) (Err trouble.Frame)) (sym so.1.left)
      (resumed_not (min (old.resumes + 1) most_resumes) 6 new.ring (since_frame old.since) refl not.unheard so.1.used (omega arith) not.drive.still (may_poll_kept r new.ring not.places valid.2) not.came.units not.drive.count (λ whole. ap since_frame whole)))

  -- nothing is sent where it is sound
  still_sound : {T : Type 0} (x : T) → old.sound ≡ true → Resumed (view_of view seen p old) (view_of view seen q (counted_resume old)) (Ok x)
  still_sound x sound = record {
    goes_on = record { valid = valid; told = refl; size = refl; sound = sound; ready = λ was. was; left = omega arith; room = refl; failed = λ none. none; cause = (refl, refl) };
    quiet = record { tape = refl; moment = refl; since = record { nothing_else = λ m t left. left; keeps = λ m t left. left } };
    transferred = λ list so. so;
    stood = λ none start so. so;
    resumed = λ k so. resumed_more (min (old.resumes + 1) most_resumes) k refl so;
  }

  pub resumed_by : {T : Type 0} (new : LoopView M) (answer : Result T Trouble) → Resumes view old.sound (counted_resume old) new answer → Resumed (view_of view seen p old) (view_of view seen q new) answer
  resumed_by {T} new answer so = by old.sound answer refl so
    where
      by : (sound : Bool) (answer : Result T Trouble) → old.sound ≡ sound → Resumes view sound (counted_resume old) new answer → Resumed (view_of view seen p old) (view_of view seen q new) answer
      by true (Ok x) is so = subst (λ (l : LoopView M). Resumed (view_of view seen p old) (view_of view seen q l) (Ok x)) (sym so) (still_sound x is)
      by true (Err e) is so = absurd so
      by false (Ok x) is so = mended x new so
      by false (Err e) is so = ⊎_elim (λ broke. not_ready old.ready new e valid broke)
          (λ not. subst (λ (e : Trouble). Resumed {T = T} (view_of view seen p old) (view_of view seen q new) (Err e)) (sym not.0) (not_mended new not.1)) so
