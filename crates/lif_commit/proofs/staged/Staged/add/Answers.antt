use Rattle.std.proofs.Common.{◌-◌, ◌*◌, ◌++◌, ◌≡◌, ℕ, [], refl, sym, ap, subst, ◌∙◌, append_assoc}
use Rattle.lif_model.specs.Tape.{Tape}
use Rattle.lif_model.specs.Writing.{SlotWrites}
use Rattle.lif_redo.proofs.Writes.{then_writes}
use Rattle.lif_dir.specs.Changes.{slot_after, entry_writes, change_writes}
use Rattle.lif_commit.specs.Staged.{AreBefore}
use Rattle.lif_commit.proofs.Staging.{staged_as, none_ended, ended_too, fits_below, change_is_before, before_append}
use Rattle.lif_commit.proofs.staged.Staged.add.Goals as goal

pub returns-in_ok-end-clause-reads : goal.returns-in_ok-end-clause-reads
returns-in_ok-end-clause-reads g c = then_writes [] [] _ _ _ c.in_ok-put_entries.ensures.reads c.in_ok-end.ensures.reads

pub returns-in_ok-end-clause-staged : goal.returns-in_ok-end-clause-staged
returns-in_ok-end-clause-staged g c = λ writes staged others.
    let change = c.args.change.now in
    let start : ℕ = c.args.header.now.start in
    let n : ℕ = (g.R.Records.view c.args.records.now).record_count in
    let quiet = c.put_entries.ensures.quiet in
    let entries = staged_as start _ _ (λ x. writes x ++ entry_writes change) (λ x. writes x ++ entry_writes change) c.put_entries.new.self.changes.items quiet.tape (λ x. refl)
    (c.in_ok-put_entries.ensures.staged writes staged) in
    let before = λ (t : Tape) (told : (g.R.Records.view c.put_entries.new.records).tape ≡ _).
    subst (λ (m : ℕ). AreBefore (8 * (m - start)) c.slot_after.result (writes t ++ entry_writes change)) (sym c.put_entries.ensures.goes_on.continues.size)
    (subst (λ (k : ℕ). AreBefore (8 * (n - start)) k (writes t ++ entry_writes change)) (sym c.slot_after.ensures)
    (before_append (8 * (n - start)) (slot_after change) (writes t) (entry_writes change) (others t (sym quiet.tape ∙ told) c.if-change.true) c.in_ok-put_entries.ensures.entries)) in
    staged_as start _ _ _ (λ x. writes x ++ change_writes start change x) c.end.new.self.changes.items (sym quiet.tape)
    (λ x. append_assoc (writes x) (entry_writes change) _ ∙ ap (λ (ws : SlotWrites). writes x ++ ws) (ended_too start c.slot_after.result change x c.slot_after.ensures c.if-change.true))
    (c.in_ok-end.ensures.staged (λ x. writes x ++ entry_writes change) entries before)

pub returns-else-change-clause-staged : goal.returns-else-change-clause-staged
returns-else-change-clause-staged g c = λ writes staged others.
    staged_as c.args.header.now.start _ _ (λ x. writes x ++ entry_writes c.args.change.now) (λ x. writes x ++ change_writes c.args.header.now.start c.args.change.now x) c.put_entries.new.self.changes.items refl
    (λ x. ap (λ (ws : SlotWrites). writes x ++ ws) (none_ended c.args.header.now.start c.args.change.now x c.if-change.false)) (c.in_ok-put_entries.ensures.staged writes staged)

pub returns-in_ok-end-clause-entries : goal.returns-in_ok-end-clause-entries
returns-in_ok-end-clause-entries g c = λ t told.
    change_is_before c.args.header.now.start _ c.args.change.now t ((g.met.R.Records.is_store c.args.records.now).is_tape t told)
    (fits_below c.args.header.now.start c.args.header.now.length _ _ c.args.change.now c.requires.fits.1 c.requires.below) c.in_ok-put_entries.ensures.entries

pub returns-else-change-clause-entries : goal.returns-else-change-clause-entries
returns-else-change-clause-entries g c = λ t told.
    change_is_before c.args.header.now.start _ c.args.change.now t ((g.met.R.Records.is_store c.args.records.now).is_tape t told)
    (fits_below c.args.header.now.start c.args.header.now.length _ _ c.args.change.now c.requires.fits.1 c.requires.below) c.in_ok-put_entries.ensures.entries
