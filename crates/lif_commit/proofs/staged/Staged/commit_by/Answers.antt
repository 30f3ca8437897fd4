use Rattle.std.proofs.Common.{◌≡◌, ◌≤◌, ◌+◌, ◌*◌, ◌/◌, ◌∙◌, Bool, true, false, ℕ, List, length, map, sym, ap, subst, arith, rules}
use Rattle.std.specs.Prelude.{Ok, Err}
use Rattle.std.proofs.lemmas.List.{length-map}
use Rattle.lif_model.specs.Tape.{Tape}
use Rattle.lif_model.specs.Redo.{Changes, targets_in}
use Rattle.lif_model.specs.Commit.{AreChanges, IsCommitted}
use Rattle.il_ports.specs.Stores.{GoesOn}
use Rattle.il_ports.proofs.Stores.{goes_further}
use Rattle.lif_redo.specs.Atomic.{commit_calls}
use Rattle.lif_redo.proofs.Told.{was_told, same_tape}
use Rattle.lif_dir.specs.Entries.{slot_bytes}
use Rattle.lif_dir.specs.Changes.{all_writes, count_with_all}
use Rattle.lif_commit.specs.Staged.{EndsWith, KeepsLast, past_end, touched_by_all, calls_of_all}
use Rattle.lif_commit.proofs.Staging.{touched_is, slots_commit, slots_fail, goes_fewer, goes_failed}
use Rattle.lif_commit.proofs.Turns.{turn_takes, turn_fits}
use Rattle.lif_commit.proofs.Ends.{ends_kept}
use Rattle.lif_commit.proofs.staged.Staged.commit_by.Goals as goal

few : (b : Bool) (k : ℕ) → commit_calls b k ≤ 2 * k + 4
few true k = omega arith
few false k = omega arith

pub commit_known-requires-clause-ready : goal.commit_known-requires-clause-ready
commit_known-requires-clause-ready g c =
    let start : ℕ = c.args.header.now.start in
    let s = c.in_ok-count.ensures.stages in
    let items : Changes = c.stage.new.self.changes.items in
    let is = touched_is start _ (all_writes start c.args.changes.now) items s.staged in
    record {
      valid = s.goes_on.continues.valid;
      sound = s.goes_on.continues.sound;
      left = omega (arith, c.requires.ready.left, s.few, ap (past_end start (length c.args.table.now.slots)) is.0, is.1, few c.args.is_open (length c.deref.result.now), ap length c.deref.ensures.value);
    }

pub commit_known-requires-clause-changes : goal.commit_known-requires-clause-changes
commit_known-requires-clause-changes g c =
    let s = c.in_ok-count.ensures.stages in
    let both = turn_takes c.args.version (g.R.Records.view c.args.records.now).record_count c.args.header.now.start c.args.header.now.length (map slot_bytes c.args.table.now.slots) c.requires.turn.0
    c.args.changes.now _ c.stage.new.self.changes.items c.requires.below c.requires.turn.1 c.requires.some c.requires.few s.staged in
    subst (λ (cs : Changes). AreChanges c.args.version (g.R.Records.view c.stage.new.records).record_count cs) (sym c.deref.ensures.value)
    (subst (λ (n : ℕ). AreChanges c.args.version n c.stage.new.self.changes.items) (sym s.goes_on.continues.size) both.0)

pub keep-requires : goal.keep-requires
keep-requires g c =
    let s = c.in_ok-count.ensures.stages in
    let slots : List (List ℕ) = map slot_bytes c.args.table.now.slots in
    let long : length slots ≡ length c.args.table.now.slots = length-map c.args.table.now.slots slot_bytes in
    let most = turn_fits (8 * c.args.header.now.length) slots c.requires.turn.0 c.args.changes.now (omega (arith, long, c.requires.shape)) c.requires.turn.1 in
    let count : c.in_ok-count.count ≡ count_with_all (length slots) c.args.changes.now = s.count ∙ ap (λ (k : ℕ). count_with_all k c.args.changes.now) (sym long) in
    omega (arith, most, count, c.requires.below, c.requires.small)

pub returns-in_err-count-clause-commits : goal.returns-in_err-count-clause-commits
returns-in_err-count-clause-commits g c =
    let start : ℕ = c.args.header.now.start in
    let s = c.in_err-count.ensures.stages in
    let is : c.from_residual.result ≡ Err c.in_err-count.field-0.0 = search rules in
    rw is (slots_fail c.args.version start (all_writes start c.args.changes.now) (g.R.Records.view c.args.records.now) (g.R.Records.view c.stage.new.records)
    (calls_of_all start (length c.args.table.now.slots) c.args.is_open c.args.changes.now) (past_end start (length c.args.table.now.slots) (touched_by_all start c.args.changes.now) + 3) c.in_err-count.field-0.0 (enough c.args.is_open _ _)
    (g.met.R.Records.is_store c.args.records.now) c.requires.settled s.quiet (goes_failed _ _ _ _ s.goes_on))
  where
    enough : (b : Bool) (p k : ℕ) → p + 3 ≤ p + commit_calls b k
    enough true p k = omega arith
    enough false p k = omega arith

pub returns-in_err-commit_known-clause-commits : goal.returns-in_err-commit_known-clause-commits
returns-in_err-commit_known-clause-commits g c =
    let view = g.R.Records.view in
    let start : ℕ = c.args.header.now.start in
    let many : ℕ = length c.args.table.now.slots in
    let writes = all_writes start c.args.changes.now in
    let items : Changes = c.stage.new.self.changes.items in
    let s = c.in_ok-count.ensures.stages in
    let is = touched_is start _ writes items s.staged in
    let long : length c.deref.result.now ≡ length (touched_by_all start c.args.changes.now) = ap length c.deref.ensures.value ∙ is.1 in
    let calls : past_end start many (targets_in items) + commit_calls c.args.is_open (length c.deref.result.now) ≡ calls_of_all start many c.args.is_open c.args.changes.now =
    λ i. past_end start many (is.0 i) + commit_calls c.args.is_open (long i) in
    let e = c.in_err-commit_known.ensures in
    let failed : c.from_residual-in_err-commit_known.result ≡ Err c.in_err-commit_known.field-0.0 = search rules in
    rw failed (slots_commit c.args.version start writes (view c.args.records.now) (view c.stage.new.records) (view c.commit_known.new.records) items c.deref.result.now c.deref.ensures.value
    s.goes_on.continues.size s.quiet s.staged s.reads
    (calls_of_all start many c.args.is_open c.args.changes.now) (Err c.in_err-commit_known.field-0.0)
    (subst (λ (n : ℕ). GoesOn {T = Unit {0}} n (view c.args.records.now) (view c.commit_known.new.records) (Err c.in_err-commit_known.field-0.0)) calls
    (goes_further (past_end start many (targets_in items)) (commit_calls c.args.is_open (length c.deref.result.now)) _ _ _ _ _ (goes_fewer _ (past_end start many (targets_in items)) _ _ _ s.few s.goes_on) e.goes_on))
    tt e.any_moment e.after tt)

pub returns-clause-commits : goal.returns-clause-commits
returns-clause-commits g c =
    let view = g.R.Records.view in
    let start : ℕ = c.args.header.now.start in
    let many : ℕ = length c.args.table.now.slots in
    let writes = all_writes start c.args.changes.now in
    let items : Changes = c.stage.new.self.changes.items in
    let s = c.in_ok-count.ensures.stages in
    let is = touched_is start _ writes items s.staged in
    let long : length c.deref.result.now ≡ length (touched_by_all start c.args.changes.now) = ap length c.deref.ensures.value ∙ is.1 in
    let calls : past_end start many (targets_in items) + commit_calls c.args.is_open (length c.deref.result.now) ≡ calls_of_all start many c.args.is_open c.args.changes.now =
    λ i. past_end start many (is.0 i) + commit_calls c.args.is_open (long i) in
    let e = c.in_ok-commit_known.ensures in
    slots_commit c.args.version start writes (view c.args.records.now) (view c.stage.new.records) (view c.commit_known.new.records) items c.deref.result.now c.deref.ensures.value
    s.goes_on.continues.size s.quiet s.staged s.reads
    (calls_of_all start many c.args.is_open c.args.changes.now) (Ok tt)
    (subst (λ (n : ℕ). GoesOn {T = Unit {0}} n (view c.args.records.now) (view c.commit_known.new.records) (Ok tt)) calls
    (goes_further (past_end start many (targets_in items)) (commit_calls c.args.is_open (length c.deref.result.now)) _ _ _ _ _ (goes_fewer _ (past_end start many (targets_in items)) _ _ _ s.few s.goes_on) e.goes_on))
    e.done e.any_moment e.after e.writes

pub returns-clause-last : goal.returns-clause-last
returns-clause-last g c u told =
    let start : ℕ = c.args.header.now.start in
    let size : ℕ = c.args.header.now.length in
    let changes = c.args.changes.now in
    let slots : List (List ℕ) = map slot_bytes c.args.table.now.slots in
    let s = c.in_ok-count.ensures.stages in
    let long : length slots ≡ length c.args.table.now.slots = length-map c.args.table.now.slots slot_bytes in
    let was = was_told _ _ (c.commit_known.ensures.goes_on.continues.told ∙ s.goes_on.continues.told) u told in
    let t : Tape = was.0 in
    let done = c.in_ok-commit_known.ensures.done t (s.quiet.tape ∙ was.1) in
    let committed : IsCommitted c.args.version c.stage.new.self.changes.items t u = subst (IsCommitted c.args.version c.stage.new.self.changes.items t) (same_tape _ _ _ done.1 told)
    (subst (λ (cs : Changes). IsCommitted c.args.version cs t done.0) c.deref.ensures.value done.2) in
    let count : c.in_ok-count.count ≡ count_with_all (length slots) changes = s.count ∙ ap (λ (k : ℕ). count_with_all k changes) (sym long) in
    subst (λ (k : ℕ). EndsWith start size (count_with_all k changes) c.keep.new.self.last u) long
    (ends_kept c.args.version start size slots c.requires.turn.0 changes c.stage.new.self.changes.items c.args.self.now.last c.keep.new.self.last t u (c.requires.known t was.1)
    c.requires.turn.1 (omega (arith, c.requires.below, ((g.met.R.Records.is_store _).is_tape t was.1).records))
    (s.staged.contents t was.1) committed
    (subst (λ (k : ℕ). KeepsLast (start + k / 8) c.stage.new.self.changes.items c.args.self.now.last c.keep.new.self.last) count
    (subst (λ (l : List ℕ). KeepsLast (start + c.in_ok-count.count / 8) c.stage.new.self.changes.items l c.keep.new.self.last) c.stage.ensures.last c.keep.ensures)))
