-- What settling and a commit promise, where the store failed, where it wrote nothing, and after a look at the gate.
use Rattle.std.proofs.Common.{◌≡◌, ◌∙◌, ◌≤◌, ◌+◌, ◌++◌, ℕ, Bool, [], refl, sym, ap, arith}
use Rattle.std.specs.Prelude.{Some, Result, Ok, Err, OnOk}
use Rattle.lif_model.specs.Tape.{Tape}
use Rattle.lif_model.specs.declared.version.Version.{Version}
use Rattle.lif_model.specs.Redo.{Changes, redo_of, settled}
use Rattle.lif_model.specs.Gate.{has_open_gate}
use Rattle.lif_model.specs.Commit.{AreChanges, IsCommitted, IsOldOrNew, IsRedoWrite, SettlesAs, IsSettleWrite, commit_writes}
use Rattle.lif_model.proofs.Moments.{reads_too, after_still}
use Rattle.lif_model.proofs.Redo.{settled_none}
use Rattle.lif_model.proofs.Commit.{settles_self}
use Rattle.il_ports.specs.declared.records.Trouble.{Trouble}
use Rattle.il_ports.specs.declared.records.Trouble.TheVariants as trouble
use Rattle.il_ports.specs.Trouble.{KeepsReady}
use Rattle.il_ports.specs.Transfers.{AddsOnly}
use Rattle.il_ports.specs.Stores.{RecordsView, IsStore, GoesOn, IsQuiet, RunLeaves}
use Rattle.il_ports.proofs.Stores.{goes_within, goes_further, quiet_run}
use Rattle.lif_redo.specs.Writing.{AddsWrites}
use Rattle.lif_redo.specs.Atomic.{Commits, Settles}
use Rattle.lif_redo.proofs.Told.{still_told}
use Rattle.lif_redo.proofs.Writes.{writes_only, same_writes, then_writes}
use Rattle.lif_redo.proofs.Order.{commit_is}

-- a commit in which the store failed
pub commit_broken : {S : Type 0} (calls j : ℕ) (version : Version) (cs : Changes) (v w : RecordsView S) (e : Trouble) → j ≤ calls → IsStore w
    → GoesOn {T = Unit {0}} j v w (Err e) → ((t : Tape) → v.tape ≡ Some t → RunLeaves v w (IsOldOrNew version cs t)) → Commits {T = Unit {0}} calls version cs v w (Err e)
commit_broken calls j version cs v w e few store goes moments = record {
  done = tt;
  settled = tt;
  any_moment = moments;
  after = λ t is. let now = still_told _ _ goes.continues.told t is in (now.0, now.1, reads_too _ _ _ _ _ now.0 (moments t is) (λ m le. store.leaves_now m now.0 le now.1));
  goes_on = goes_within j calls v w (Err e) few goes;
  writes = tt;
  transfers = tt;
}

-- settling, of a tape that stays: the store failed at once, or no redo is open
pub settles_still : {S T : Type 0} (v w : RecordsView S) (answer : Result T Trouble) → IsStore v → IsQuiet v w → GoesOn 2 v w answer
    → OnOk answer ((t : Tape) → v.tape ≡ Some t → redo_of t ≡ []) → OnOk answer (AddsWrites [] v.transferred w.transferred) → Settles v w answer
settles_still v w (Ok x) store quiet goes none adds = record {
  done = λ t is. quiet.tape ∙ is ∙ ap Some (sym (settled_none t (none t is)));
  settled = λ t is. settled_none t (none t (sym quiet.tape ∙ is));
  any_moment = λ t is. quiet_run v w (SettlesAs (settled t)) t store quiet is (settles_self t);
  after = λ t is. (t, quiet.tape ∙ is, settles_self t);
  idle = λ t is closed. (quiet.tape ∙ is, quiet_run v w (λ y. y ≡ t) t store quiet is refl);
  goes_on = goes_within 2 70 v w (Ok x) (omega arith) goes;
  writes = ([], λ t is. sym (none t is), adds);
  transfers = λ t is. writes_only (IsSettleWrite v.record_count (redo_of t)) [] _ _ tt adds;
}
settles_still v w (Err e) store quiet goes none adds = record {
  done = tt;
  settled = tt;
  any_moment = λ t is. quiet_run v w (SettlesAs (settled t)) t store quiet is (settles_self t);
  after = λ t is. (t, quiet.tape ∙ is, settles_self t);
  idle = λ t is closed. (quiet.tape ∙ is, quiet_run v w (λ y. y ≡ t) t store quiet is refl);
  goes_on = goes_within 2 70 v w (Err e) (omega arith) goes;
  writes = tt;
  transfers = λ t is. tt;
}

-- the gate was read before the commit
pub commit_asked : {S T : Type 0} (j k calls : ℕ) (version : Version) (cs : Changes) (v m w : RecordsView S) (x : T) (r : Result (Unit {0}) Trouble) → j + k ≤ calls → (are : AreChanges version v.record_count cs)
    → IsQuiet v m → GoesOn j v m (Ok x) → AddsWrites [] v.transferred m.transferred → Commits k version cs m w r → Commits calls version cs v w r
commit_asked j k calls version cs v m w x r few are quiet goes reads commits = record {
  done = done r commits.done;
  settled = commits.settled;
  any_moment = λ t is. after_still _ _ _ _ _ _ (IsOldOrNew version cs t) quiet.moment quiet.since (commits.any_moment t (quiet.tape ∙ is));
  after = λ t is. commits.after t (quiet.tape ∙ is);
  goes_on = goes_within (j + k) calls v w r few (goes_further j k v m w x r goes commits.goes_on);
  writes = writes r commits.writes;
  transfers = transfers r (writes r commits.writes);
}
  where
    size : m.record_count ≡ v.record_count
    size = goes.continues.size

    done : (r : Result (Unit {0}) Trouble) → OnOk r ((t : Tape) → m.tape ≡ Some t → (u : Tape) × (w.tape ≡ Some u) × IsCommitted version cs t u)
        → OnOk r ((t : Tape) → v.tape ≡ Some t → (u : Tape) × (w.tape ≡ Some u) × IsCommitted version cs t u)
    done (Ok y) given = λ t is. given t (quiet.tape ∙ is)
    done (Err e) given = tt

    writes : (r : Result (Unit {0}) Trouble) → OnOk r ((was_open : Bool) × ((t : Tape) → m.tape ≡ Some t → was_open ≡ has_open_gate t)
        × AddsWrites (commit_writes version m.record_count was_open cs) m.transferred w.transferred)
        → OnOk r ((was_open : Bool) × ((t : Tape) → v.tape ≡ Some t → was_open ≡ has_open_gate t)
        × AddsWrites (commit_writes version v.record_count was_open cs) v.transferred w.transferred)
    writes (Ok y) given = (
      given.0,
      λ t is. given.1 t (quiet.tape ∙ is),
      same_writes ([] ++ commit_writes version m.record_count given.0 cs) _ _ _ (ap (λ (n : ℕ). commit_writes version n given.0 cs) size) (then_writes [] _ _ _ _ reads given.2),
    )
    writes (Err e) given = tt

    transfers : (r : Result (Unit {0}) Trouble) → OnOk r ((was_open : Bool) × ((t : Tape) → v.tape ≡ Some t → was_open ≡ has_open_gate t)
        × AddsWrites (commit_writes version v.record_count was_open cs) v.transferred w.transferred) → AddsOnly (IsRedoWrite version v.record_count cs) v.transferred w.transferred r
    transfers (Ok y) given = writes_only (IsRedoWrite version v.record_count cs) _ _ _ (commit_is version v.record_count cs are given.0) given.2
    transfers (Err e) given = tt

-- ---- with another answer

still_kept : (T U : Type 0) (before now : Bool) (e : Trouble) → KeepsReady {T = T} before now (Err e) → KeepsReady {T = U} before now (Err e)
still_kept T U before now trouble.Frame was = tt
still_kept T U before now trouble.Medium was = was

pub goes_as : {S T U : Type 0} (calls : ℕ) (v w : RecordsView S) (x : T) (y : U) → GoesOn calls v w (Ok x) → GoesOn calls v w (Ok y)
goes_as calls v w x y goes =
    let c = goes.continues in
    record {
      continues = record { valid = c.valid; told = c.told; size = c.size; sound = c.sound; ready = c.ready; left = c.left; room = c.room; failed = c.failed; cause = c.cause };
      stood = goes.stood;
      resumed = goes.resumed;
    }

pub fails_as : {S T U : Type 0} (calls : ℕ) (v w : RecordsView S) (e : Trouble) → GoesOn {T = T} calls v w (Err e) → GoesOn {T = U} calls v w (Err e)
fails_as {T = T} {U = U} calls v w e goes =
    let c = goes.continues in
    record {
      continues = record { valid = c.valid; told = c.told; size = c.size; sound = c.sound; ready = still_kept T U v.ready w.ready e c.ready; left = c.left; room = c.room; failed = c.failed; cause = c.cause };
      stood = goes.stood;
      resumed = goes.resumed;
    }

pub settles_as : {S T U : Type 0} (v w : RecordsView S) (x : T) (y : U) → Settles v w (Ok x) → Settles v w (Ok y)
settles_as v w x y s = record {
  done = s.done;
  settled = s.settled;
  any_moment = s.any_moment;
  after = s.after;
  idle = s.idle;
  goes_on = goes_as 70 v w x y s.goes_on;
  writes = s.writes;
  transfers = s.transfers;
}

pub settling_fails_as : {S T U : Type 0} (v w : RecordsView S) (e : Trouble) → Settles {T = T} v w (Err e) → Settles {T = U} v w (Err e)
settling_fails_as v w e s = record {
  done = tt;
  settled = tt;
  any_moment = s.any_moment;
  after = s.after;
  idle = s.idle;
  goes_on = fails_as 70 v w e s.goes_on;
  writes = tt;
  transfers = λ t is. tt;
}
