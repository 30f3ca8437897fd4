-- What a run of records means to a store over the loop.
use Rattle.std.proofs.Common.{◌≡◌, ◌≢◌, ◌∙◌, ◌≤◌, ◌+◌, ◌*◌, ◌/◌, ◌&&◌, ℕ, Bool, true, false, List, [], ◌∷◌, Some, None, length, refl, sym, ap, subst, arith}
use Rattle.std.specs.Prelude.{Result, Ok, Err, IfOk, IfErr, IsErr, is_some}
use Rattle.std.specs.Result.{IsErrAnd}
use Rattle.std.proofs.lemmas.Bool.{ne_eqb}
use Rattle.lif_model.specs.Causes.{Rose}
use Rattle.lif_model.specs.Tape.{bytes_from}
use Rattle.lif_model.specs.Shelf.{bytes_of}
use Rattle.il_ports.specs.declared.records.Trouble.{Trouble}
use Rattle.il_ports.specs.declared.records.Trouble.TheVariants as trouble
use Rattle.il_ports.specs.Media.{MediumView}
use Rattle.il_ports.specs.Stores.{GoesOn, IsReady, FetchedRun, StoredRun}
use Rattle.il_ports.specs.Transfers.{Added}
use Rattle.il_drive.specs.State.{status_of}
use Rattle.il_drive.specs.Resting.{IsFree}
use Rattle.loop_model.specs.Units.{RecordUnit}
use Rattle.il_ring.specs.Lists.{Each}
use Rattle.il_ring.specs.Rings.{RingView, devices_of, drive_party, spare_of}
use Rattle.il_record.specs.Polls.{MayPoll, PlacesKept}
use Rattle.il_control.specs.Calls.{IsIdle, loop_of}
use Rattle.il_record.specs.declared.records.Since.{Since}
use Rattle.il_record.specs.declared.records.Since.TheVariants as since
use Rattle.il_record.specs.Called.{Moved, left_broken}
use Rattle.il_record.specs.Came.{OnlyHeard, CameBy, CameUnits}
use Rattle.loop_model.specs.Effect.{all_good, Transferred}
use Rattle.il_record.specs.LoopStores.{LoopView, FailedBy, FailedLost, FailedReady, StandsBy, calls_in, is_broken, since_frame, since_medium, view_of}
use Rattle.il_record.specs.Runs.{unit, ReadAs, ReadBroke, WroteAs, WriteBroke}
use Rattle.il_record.proofs.Places.{may_poll_kept}
use Rattle.il_record.proofs.StoreCalls.{stood_whole, stood_medium, stood_frame, transferred_then, frames_same, frames_rose, calls_less}

-- how the log stands stays alive
alive_medium : (log : Since) → is_broken log ≡ false → is_broken (since_medium log) ≡ false
alive_medium since.Broken alive = alive
alive_medium since.SaidBroken alive = alive
alive_medium _ alive = refl

-- how a call failed that was the first one
failed_medium : (log : Since) → FailedReady log None → FailedReady (since_medium log) (Some trouble.Medium)
failed_medium since.Unbroken none = refl
failed_medium since.Failed none = cc
failed_medium _ none = absurd none

failed_frame : (log : Since) → FailedReady log None → FailedLost (since_frame log) (Some trouble.Frame)
failed_frame since.Unbroken none = refl
failed_frame since.Failed none = cc
failed_frame _ none = absurd none

bad_unit : (writes : Bool) (first : ℕ) (bytes : List ℕ) (status : ℕ) → status ≢ 0 → all_good (unit writes first bytes status ∷ []) ≡ false
bad_unit writes first bytes status bad = ap (λ b. b && true) (ne_eqb status 0 bad)

-- a call that answered so, and left the store so
pub as_left : {M T : Type 0} (P : LoopView M → Result T Trouble → Type 0) (l m : LoopView M) (x y : Result T Trouble) → (x ≡ y) × (l ≡ m) → P m y → P l x
as_left {M} {T} P l m x y is so = subst (λ (x : Result T Trouble). P l x) (sym is.0) (subst (λ (l : LoopView M). P l y) (sym is.1) so)

-- an answer that is handed on
pub on_error : {T E : Type 0} (result : Result T E) (x : E) (P : Result T E → Type 0) → IsErr result × IsErrAnd result (λ e. e ≡ x) → P (Err x) → P result
on_error (Err e) x P is so = subst (λ e. P (Err e)) (sym is.1) so
on_error (Ok y) x P is so = let clash = is.0 in cc

-- the drive's party stays
pub party_of : {M : Type 0} (view : M → MediumView) (whole : Bool) (r s : RingView M) → CameBy view whole r s → drive_party s ≡ drive_party r
party_of view whole r s came = ap (λ n. n + 1) came.talked.adds.before

-- ---- what stands before a run

pub record Begins {M : Type 0} (l : LoopView M) : Type 0 where
  pub ready : l.ready ≡ true
  pub sound : l.sound ≡ true
  pub idle : IsIdle l.ring
  pub free : IsFree (drive_party l.ring) l.ring.drive.state
  pub alive : is_broken l.since ≡ false
  pub may : Each MayPoll 1 (devices_of l.ring)

-- a sound store is ready
stands_ready : {M : Type 0} (ready : Bool) (r : RingView M) (sound : Bool) (log : Since) → StandsBy ready r sound log → sound ≡ true → (ready ≡ true) × StandsBy true r sound log
stands_ready true r sound log so is = (refl, so)
stands_ready false r sound log so is = let clash : true ≡ false = sym is ∙ so.1 in cc

pub begins : {M S : Type 0} (view : M → MediumView) (seen : S → RingView M) (p : S) (k : ℕ) (l : LoopView M) → IsReady k (view_of view seen p l) → Begins l
begins view seen p k l so =
    let at = stands_ready l.ready l.ring l.sound l.since so.valid so.sound in
    record { ready = at.0; sound = so.sound; idle = at.1.0; free = at.1.1 so.sound; alive = at.1.2; may = at.1.3 }

module _ {M S : Type 0} (view : M → MediumView) (seen : S → RingView M) (p q : S) (old : LoopView M) (k n : ℕ) (s : RingView M) (before : Begins old) (places : PlacesKept old.ring s) (used : spare_of old.ring ≤ spare_of s + n) (few : n ≤ 300 * k) where
  abbrev r : RingView M
  r = old.ring

  may : Each MayPoll 1 (devices_of s)
  may = may_poll_kept r s places before.may

  module _ (unheard : OnlyHeard (drive_party r) r s) (told : is_some (view s.drive.medium).tape ≡ is_some (view r.drive.medium).tape) (size : (view s.drive.medium).record_count ≡ (view r.drive.medium).record_count) where
    -- ---- the three ends of a call

    goes_on_ok : (us : List RecordUnit) → CameUnits view true us r s → all_good us ≡ true → IsFree (drive_party r) s.drive.state → (view s.drive.medium).faults ≡ (view r.drive.medium).faults
        → GoesOn {T = Unit {0}} k (view_of view seen p old) (view_of view seen q (record old { ring = s })) (Ok tt)
    goes_on_ok us units good free count = record {
      continues = record {
        valid = subst (λ b. StandsBy b s old.sound old.since) (sym before.ready) (units.came.talked.state, (λ sound. subst (λ d. IsFree d s.drive.state) (sym (party_of view true r s units.came)) free), before.alive, may);
        told = told;
        size = size;
        sound = before.sound;
        ready = λ was. was;
        left = calls_less k n r s used few;
        room = ap calls_in units.came.talked.adds.room;
        failed = λ none. none;
        cause = (frames_same view units.came.pieces r s before.idle.free.ring units.came.talked, count);
      };
      stood = λ start so. stood_whole view old.since us (seen start) r s so before.alive units good unheard count (λ before. free.status);
      resumed = λ k so. so;
    }

    goes_on_medium : (us : List RecordUnit) → CameUnits view true us r s → all_good us ≡ false → status_of s.drive.state ≡ 0 → Rose (view r.drive.medium).faults (view s.drive.medium).faults
        → GoesOn {T = Unit {0}} k (view_of view seen p old) (view_of view seen q (record old { ring = s; sound = false; since = since_medium old.since })) (Err trouble.Medium)
    goes_on_medium us units bad status rose = record {
      continues = record {
        valid = subst (λ b. StandsBy b s false (since_medium old.since)) (sym before.ready) (units.came.talked.state, (λ sound. cc), alive_medium old.since before.alive, may);
        told = told;
        size = size;
        sound = refl;
        ready = λ was. was;
        left = calls_less k n r s used few;
        room = ap calls_in units.came.talked.adds.room;
        failed = subst (λ b. FailedBy b old.since None → FailedBy b (since_medium old.since) (Some trouble.Medium)) (sym before.ready) (failed_medium old.since);
        cause = (frames_same view units.came.pieces r s before.idle.free.ring units.came.talked, rose);
      };
      stood = λ start so. stood_medium view old.since us (seen start) r s so before.alive units bad unheard status;
      resumed = λ k so. so;
    }

    goes_on_frame : (came : CameBy view false r s) → (view r.drive.medium).faults ≤ (view s.drive.medium).faults → GoesOn {T = Unit {0}} k (view_of view seen p old) (view_of view seen q (left_broken (record old { ring = s }))) (Err trouble.Frame)
    goes_on_frame came count = record {
      continues = record {
        valid = (came.talked.state, refl, may);
        told = told;
        size = size;
        sound = refl;
        ready = tt;
        left = calls_less k n r s used few;
        room = ap calls_in came.talked.adds.room;
        failed = subst (λ b. FailedBy b old.since None → FailedLost (since_frame old.since) (Some trouble.Frame)) (sym before.ready) (failed_frame old.since);
        cause = (frames_rose view came.pieces r s before.idle.free.ring came.talked, count);
      };
      stood = λ start so. stood_frame view old.since (seen start) r s so before.alive came unheard;
      resumed = λ k so. so;
    }

    -- the list gains the unit
    added : (writes : Bool) (first : ℕ) (bytes : List ℕ) → CameUnits view true (unit writes first bytes 0 ∷ []) r s → Added (record { writes = writes; first = first; bytes = bytes }) (Transferred (loop_of r) r.books.log) (Transferred (loop_of s) s.books.log)
    added writes first bytes units = record { at_end = λ list so. transferred_then view true (unit writes first bytes 0 ∷ []) r s list units refl so }

  -- ---- reads

  pub fetched : {E : Type 0} (first : ℕ) (bytes : List ℕ) (answer : Result Bool E) (new : LoopView M) (result : Result (Unit {0}) Trouble) → length bytes ≡ 256 * k → Moved answer (record old { ring = s }) new result
      → IfOk answer (λ all. ReadAs view (drive_party r) first bytes all r s) → IfErr answer (λ e. ReadBroke view (drive_party r) r s) → FetchedRun first k bytes (view_of view seen p old) (view_of view seen q new) result
  fetched first bytes (Ok true) new result long moved read broke =
      let still = read.drive.medium.still in
      let count : length bytes / 256 ≡ k = omega (arith, long) in
      as_left (λ l answer. FetchedRun first k bytes (view_of view seen p old) (view_of view seen q l) answer) new _ result _ moved (record {
        goes_on = goes_on_ok read.unheard still.stays_in.told still.stays_in.size (unit false first bytes 0 ∷ []) read.came refl read.drive.rests.free read.drive.medium.count;
        quiet = record { tape = still.tape; moment = still.moment; since = still.since };
        content = λ t told. read.drive.content t told ∙ ap (λ k. bytes_from t first k) count;
        transfers = added read.unheard still.stays_in.told still.stays_in.size false first bytes read.came;
      })
  fetched first bytes (Ok false) new result long moved read broke =
      let still = read.still in
      as_left (λ l answer. FetchedRun first k bytes (view_of view seen p old) (view_of view seen q l) answer) new _ result _ moved (record {
        goes_on = goes_on_medium read.unheard still.stays_in.told still.stays_in.size (unit false first read.bytes read.status ∷ []) read.came (bad_unit false first read.bytes read.status read.bad) read.rests.free.status read.rose;
        quiet = record { tape = still.tape; moment = still.moment; since = still.since };
        content = tt;
        transfers = tt;
      })
  fetched first bytes (Err e) new result long moved read broke =
      let still = broke.drive.still in
      as_left (λ l answer. FetchedRun first k bytes (view_of view seen p old) (view_of view seen q l) answer) new _ result _ moved (record {
        goes_on = goes_on_frame broke.unheard still.stays_in.told still.stays_in.size broke.came broke.drive.count;
        quiet = record { tape = still.tape; moment = still.moment; since = still.since };
        content = tt;
        transfers = tt;
      })

  -- ---- writes

  pub stored : {E : Type 0} (first : ℕ) (pieces : List (List ℕ)) (answer : Result Bool E) (new : LoopView M) (result : Result (Unit {0}) Trouble) → k ≡ length pieces → Moved answer (record old { ring = s }) new result
      → IfOk answer (λ all. WroteAs view (drive_party r) first pieces all r s) → IfErr answer (λ e. WriteBroke view (drive_party r) first pieces r s) → StoredRun first pieces (view_of view seen p old) (view_of view seen q new) result
  stored first pieces (Ok true) new result many moved wrote broke =
      as_left (λ l answer. StoredRun first pieces (view_of view seen p old) (view_of view seen q l) answer) new _ result _ moved (record {
        goes_on = subst (λ k. GoesOn {T = Unit {0}} k (view_of view seen p old) (view_of view seen q (record old { ring = s })) (Ok tt)) many
            (goes_on_ok wrote.unheard wrote.kept.stays_in.told wrote.kept.stays_in.size (unit true first (bytes_of pieces) 0 ∷ []) wrote.came refl wrote.rests.free wrote.count);
        content = wrote.stand;
        time = wrote.kept.time;
        transfers = added wrote.unheard wrote.kept.stays_in.told wrote.kept.stays_in.size true first (bytes_of pieces) wrote.came;
      })
  stored first pieces (Ok false) new result many moved wrote broke =
      let kept = wrote.left.kept in
      as_left (λ l answer. StoredRun first pieces (view_of view seen p old) (view_of view seen q l) answer) new _ result _ moved (record {
        goes_on = subst (λ k. GoesOn {T = Unit {0}} k (view_of view seen p old) (view_of view seen q (record old { ring = s; sound = false; since = since_medium old.since })) (Err trouble.Medium)) many
            (goes_on_medium wrote.unheard kept.stays_in.told kept.stays_in.size (unit true first (bytes_of pieces) wrote.status ∷ []) wrote.came (bad_unit true first (bytes_of pieces) wrote.status wrote.bad) wrote.rests.free.status wrote.rose);
        content = wrote.left.stand;
        time = kept.time;
        transfers = tt;
      })
  stored first pieces (Err e) new result many moved wrote broke =
      let kept = broke.left.kept in
      as_left (λ l answer. StoredRun first pieces (view_of view seen p old) (view_of view seen q l) answer) new _ result _ moved (record {
        goes_on = subst (λ k. GoesOn {T = Unit {0}} k (view_of view seen p old) (view_of view seen q (left_broken (record old { ring = s }))) (Err trouble.Frame)) many
            (goes_on_frame broke.unheard kept.stays_in.told kept.stays_in.size broke.came broke.left.count);
        content = broke.left.stand;
        time = kept.time;
        transfers = tt;
      })
