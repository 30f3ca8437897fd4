-- What events leave of the tape.
use Rattle.std.proofs.Common.{◌≡◌, ◌∙◌, ℕ, Bool, true, false, if◌then◌else◌, List, [], ◌∷◌, Option, Some, None, refl, sym, ap, subst}
use Rattle.std.specs.Prelude.{is_some}
use Rattle.lif_model.specs.Tape.{Tape}
use Rattle.lif_model.specs.Commit.{IsSettleWrite, SettlesAs}
use Rattle.lif_model.specs.Redo.{redo_of, settled}
use Rattle.lif_model.specs.Volume.{volume_of}
use Rattle.lif_model.specs.Transfers.{Transfer}
use Rattle.il_ports.specs.Transfers.{WritesOnly}
use Rattle.il_frames.specs.declared.entry.Entry.{Entry}
use Rattle.loop_model.specs.Effect.{Transferred}
use Rattle.loop_model.specs.Exchanges.{IsWhole}
use Rattle.loop_model.specs.Loops.{Loop, host_loop}
use Rattle.loop_model.proofs.WholeReadings.{same_transfers}
use Rattle.il_script.specs.Replies.{is_ok}
use Rattle.il_script.specs.declared.reply.Reply.{Reply}
use Rattle.il_script.specs.declared.reply.Reply.TheVariants as reply
use Rattle.il_ring.specs.declared.plan.Planned.{Planned}
use Rattle.host_model.specs.Requests.{OfVolume, Get, Pack, Item, Asks, is_of_volume}
use Rattle.host_model.specs.HostStates.{HostState}
use Rattle.lif_model.specs.Finished.{IsPlain}
use Rattle.host_model.specs.Tapes.{CommitsFor, IsWritten, OnlySettling, finishes_first, only_reads, only_settles}
use Rattle.host_model.specs.Steps.{Event, IsStep, LeavesOnTape}
use Rattle.host_model.specs.Runs.{Chained, ended_ok}

-- ---- items that leave it free

never_settles : (item : Item) (r : Reply) → is_of_volume item ≡ false → only_settles r item ≡ true → (A : Type 0) → A
never_settles item (reply.No c) other on A = let clash : true ≡ false = sym on ∙ other in cc
never_settles (Asks (OfVolume command)) reply.Ok other on A = cc
never_settles (Asks (Get name)) reply.Ok other on A = cc
never_settles item reply.FaultFrame other on A = cc
never_settles item reply.FaultMedium other on A = cc
never_settles _ reply.Ok other on A = cc

never_written : (item : Item) (r : Reply) (n : ℕ) (t u : Tape) → is_of_volume item ≡ false → IsWritten r item n t u
never_written (Asks (OfVolume command)) reply.Ok n t u other = cc
never_written (Asks Pack) reply.Ok n t u other = cc
never_written item (reply.No c) n t u other = tt
never_written item reply.FaultFrame n t u other = tt
never_written item reply.FaultMedium n t u other = tt
never_written _ reply.Ok n t u other = tt

never_commits : (item : Item) → is_of_volume item ≡ false → (n : ℕ) (l : Loop) (log : List Entry) (t : Tape) → CommitsFor item n l log t
never_commits (Asks (OfVolume command)) other n l log t = cc
never_commits _ other n l log t = tt

-- an item that is not of the volume
pub tape_other : (e : Event) → is_of_volume e.item ≡ false → LeavesOnTape e
tape_other e other = record {
  plain = λ of. let clash : true ≡ false = sym of ∙ other in cc;
  same = λ on. never_settles e.item e.reply other on _;
  writes = λ on. never_settles e.item e.reply other on _;
  commits = λ ok changes t before off. never_commits e.item other _ _ _ t;
  reads = λ on. never_settles e.item reply.Ok other on _;
  written = λ t u before after. never_written e.item e.reply e.before.records t u other;
  again = λ is. let clash : true ≡ false = sym (ap is_of_volume is) ∙ other in cc;
}

-- ---- faults

abbrev pub is_fault : Reply → Bool
is_fault reply.FaultFrame = true
is_fault reply.FaultMedium = true
is_fault r = false

not_ok : (r : Reply) → is_fault r ≡ true → r ≡ reply.Ok → (A : Type 0) → A
not_ok reply.FaultFrame fault ok A = cc
not_ok reply.FaultMedium fault ok A = cc
not_ok _ fault ok A = let clash : false ≡ true = fault in cc

settles_not : (item : Item) (r : Reply) → is_fault r ≡ true → only_settles r item ≡ true → (A : Type 0) → A
settles_not item reply.FaultFrame fault on A = let clash : false ≡ true = on in cc
settles_not item reply.FaultMedium fault on A = let clash : false ≡ true = on in cc
settles_not item _ fault on A = let clash : false ≡ true = fault in cc

writes_any : (item : Item) (r : Reply) (n : ℕ) (t u : Tape) → is_fault r ≡ true → IsWritten r item n t u
writes_any item reply.FaultFrame n t u fault = tt
writes_any item reply.FaultMedium n t u fault = tt
writes_any item _ n t u fault = let clash : false ≡ true = fault in cc

-- a command that replied a fault, which only settles if it only reads
pub tape_faulted : (e : Event) → is_fault e.reply ≡ true
    → (only_reads e.item ≡ true → (t u : Tape) → e.before.tape ≡ Some t → e.after.tape ≡ Some u → finishes_first e.item e.before.records (volume_of t) ≡ false → SettlesAs (settled t) u) → LeavesOnTape e
tape_faulted e fault reads = record {
  plain = λ of ok. not_ok e.reply fault ok _;
  same = λ on. settles_not e.item e.reply fault on _;
  writes = λ on. settles_not e.item e.reply fault on _;
  commits = λ ok. not_ok e.reply fault ok _;
  reads = reads;
  written = λ t u before after. writes_any e.item e.reply e.before.records t u fault;
  again = λ pack ok. not_ok e.reply fault ok _;
}

-- ---- which records are written

-- if one list of the units of whole exchanges writes only by settling, each does
pub settles_each : (k d n : ℕ) (log : List Entry) (t : Tape) → IsWhole (host_loop k d) log → OnlySettling n (host_loop k d) log t
    → (list : List Transfer) → Transferred (host_loop k d) log list → WritesOnly (IsSettleWrite n (redo_of t)) list
settles_each k d n log t whole only list told =
    subst (WritesOnly (IsSettleWrite n (redo_of t)))
    (sym (same_transfers k d log only.list whole only.transferred) ∙ same_transfers k d log list whole told) only.only

-- ---- runs

abbrev pub IsPlainAt : HostState → Type 0
IsPlainAt s = (t : Tape) → s.tape ≡ Some t → IsPlain s.records t

-- after one event
plain_after : (plan : List Planned) (e : Event) (was : Bool) → IsStep plan e → (was ≡ true → IsPlainAt e.before) → (if is_of_volume e.item then is_ok e.reply else was) ≡ true → IsPlainAt e.after
plain_after plan e was step before on = by (is_of_volume e.item) refl on
  where
    told : (tape : Option Tape) → is_some tape ≡ true → (t : Tape) × (tape ≡ Some t)
    told None on = cc
    told (Some t) on = (t, refl)

    is_good : (r : Reply) → is_ok r ≡ true → r ≡ reply.Ok
    is_good reply.Ok on = refl
    is_good _ on = cc

    by : (of : Bool) → is_of_volume e.item ≡ of → (if of then is_ok e.reply else was) ≡ true → IsPlainAt e.after
    by true of ok = λ u now.
        let t = told e.before.tape (sym step.acts.replied.told ∙ ap is_some now) in
        subst (λ (n : ℕ). IsPlain n u) (sym step.acts.replied.size) (step.tape.plain of (is_good e.reply ok) t.0 u t.1 now)
    by false other here = λ u now.
        subst (λ (n : ℕ). IsPlain n u) (sym step.acts.replied.size) (before here u (sym (step.acts.replied.stays other) ∙ now))

pub plain_behind : (plan : List Planned) (start : HostState) (events : List Event) (finish : HostState) (was : Bool) → Chained plan start events finish → (was ≡ true → IsPlainAt start)
    → ended_ok was events ≡ true → IsPlainAt finish
plain_behind plan start [] finish was chain before on = subst IsPlainAt (sym chain) (before on)
plain_behind plan start (e ∷ events) finish was chain before on =
    plain_behind plan e.after events finish (if is_of_volume e.item then is_ok e.reply else was) chain.2
    (λ here. plain_after plan e was chain.1 (λ so. subst IsPlainAt (sym chain.0) (before so)) here) on

-- from the start of a run
pub plain_run : (plan : List Planned) (start : HostState) (events : List Event) (finish : HostState) → Chained plan start events finish → ended_ok false events ≡ true → IsPlainAt finish
plain_run plan start events finish chain on = plain_behind plan start events finish false chain (λ off. let clash : false ≡ true = off in cc) on
