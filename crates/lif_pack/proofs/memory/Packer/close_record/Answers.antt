use Rattle.std.proofs.Common.{◌≡◌, ◌<◌, ◌≤◌, ◌+◌, ◌*◌, ◌==◌, ◌∙◌, ℕ, zero, suc, List, false, length, sym, ap, subst, arith, rules}
use Rattle.std.specs.Prelude.{Some}
use Rattle.lif_model.specs.declared.version.Version.TheVariants.{Two}
use Rattle.lif_model.specs.Redo.{Changes}
use Rattle.lif_model.specs.Commit.{AreChanges, IsCommitted, IsOldOrNew}
use Rattle.lif_model.specs.Writing.{changes_by}
use Rattle.lif_model.proofs.Moments.{after_still, weaker}
use Rattle.il_ports.proofs.Stores.{goes_further, goes_within, quiet_run}
use Rattle.lif_commit.proofs.Staging.{goes_told}
use Rattle.lif_pack.specs.Packers.{slots_held}
use Rattle.lif_pack.specs.Steps.{HasSlotsOf}
use Rattle.lif_pack.proofs.Beyond.{closed_outside}
use Rattle.lif_pack.proofs.Placing.{same_slots_of}
use Rattle.lif_pack.proofs.ClosedTape.{closed_changes, closed_stands, closed_stops, closed_not_yet, closed_none}
use Rattle.lif_pack.proofs.ClosedSlots.{closed_still}
use Rattle.lif_pack.proofs.memory.Packer.close_record.Goals as goal

pub returns-in_err-next-clause-stops : goal.returns-in_err-next-clause-stops
returns-in_err-next-clause-stops g c t v is some same starts =
    let n : ℕ = (g.R.Records.view c.args.records.now).record_count in
    let p = c.requires.may in
    quiet_run _ _ _ t (g.met.R.Records.is_store _) c.stage_closed.ensures.quiet is
    (closed_not_yet n c.args.first p.0 p.1 (slots_held c.args.self.now) p.2 (slots_held c.stage_closed.new.self) t ((g.met.R.Records.is_store _).is_tape t is) (c.requires.settled t is) v some same)

some_items : (m : ℕ) → (m == 0) ≡ false → 0 < m
some_items zero off = cc
some_items (suc m) off = omega arith

pub commit-requires-clause-changes : goal.commit-requires-clause-changes
commit-requires-clause-changes g c =
    let n : ℕ = (g.R.Records.view c.args.records.now).record_count in
    let p = c.requires.may in
    let done = c.in_ok-next.ensures in
    let items : Changes = c.stage_closed.new.self.changes.items in
    let size : c.stage_closed.new.self.changes.len ≡ length items = search rules in
    let some : 0 < length items = omega (arith, size, some_items c.stage_closed.new.self.changes.len (sym c.is_empty.ensures ∙ c.if-not-is_empty.true)) in
    let are = closed_changes n c.args.first p.0 p.1 (slots_held c.args.self.now) p.2 (g.R.Records.view c.args.records.now).tape (length (slots_held c.args.self.now)) done.staged.0 items done.staged.2 done.staged.1 some
    (omega (arith, done.count)) in
    subst (λ (m : ℕ). AreChanges Two m c.deref.result.now) (sym done.goes_on.continues.size) (subst (λ (cs : Changes). AreChanges Two n cs) (sym c.deref.ensures.value) are)

pub returns-in_err-commit-clause-stops : goal.returns-in_err-commit-clause-stops
returns-in_err-commit-clause-stops g c t v is some same starts =
    let n : ℕ = (g.R.Records.view c.args.records.now).record_count in
    let p = c.requires.may in
    let done = c.in_ok-next.ensures in
    let old = slots_held c.args.self.now in
    let brought : (g.R.Records.view c.stage_closed.new.records).tape ≡ Some t = done.quiet.tape ∙ is in
    let changes : c.deref.result.now ≡ changes_by c.args.first done.staged.0 t = c.deref.ensures.value ∙ done.staged.1.contents t is in
    after_still _ _ _ _ _ _ _ done.quiet.moment done.quiet.since (weaker _ _ _ _ _ _ (c.commit.ensures.any_moment t brought) (λ y stopped.
    closed_stops n c.args.first p.0 p.1 old p.2 (slots_held c.stage_closed.new.self) done.live done.long done.staged.0
    done.staged.2 done.staged.3 t ((g.met.R.Records.is_store _).is_tape t is) (c.requires.settled t is) v some same starts y
    (subst (λ (cs : Changes). IsOldOrNew Two cs t y) changes stopped)))

pub returns-in_ok-commit-clause-goes_on : goal.returns-in_ok-commit-clause-goes_on
returns-in_ok-commit-clause-goes_on g c =
    let calls : ℕ = 2 * length c.deref.result.now + 6 in
    let few : length c.deref.result.now ≤ 3 = omega (arith, ap length c.deref.ensures.value, c.in_ok-next.ensures.count) in
    goes_within (1 + calls) 13 _ _ _ (omega (arith, few)) (goes_further 1 calls _ _ _ _ _ c.in_ok-next.ensures.goes_on (goes_told calls _ _ _ _ c.in_ok-commit.ensures.goes_on))

pub returns-in_ok-commit-clause-closes : goal.returns-in_ok-commit-clause-closes
returns-in_ok-commit-clause-closes g c end redo t may is =
    let n : ℕ = (g.R.Records.view c.args.records.now).record_count in
    let done = c.in_ok-next.ensures in
    let old = slots_held c.args.self.now in
    let brought : (g.R.Records.view c.stage_closed.new.records).tape ≡ Some t = done.quiet.tape ∙ is in
    let changes : c.deref.result.now ≡ changes_by c.args.first done.staged.0 t = c.deref.ensures.value ∙ done.staged.1.contents t is in
    let stands = c.in_ok-commit.ensures.done t brought in (
      stands.0,
      stands.1,
      record {
        volume = λ v some same starts ends.
            closed_stands n c.args.first end redo old may (slots_held c.stage_closed.new.self) done.live done.long done.staged.0
            done.staged.2 done.staged.3 t ((g.met.R.Records.is_store _).is_tape t is) (c.requires.settled t is) v some same starts stands.0
            (subst (λ (cs : Changes). IsCommitted Two cs t stands.0) changes stands.2);
        outside = closed_outside n c.args.first end redo old may t stands.0 ((g.met.R.Records.is_store _).is_tape t is) done.staged.0 c.deref.result.now done.staged.2 changes stands.2;
      },
    )

pub returns-in_ok-commit-clause-stops : goal.returns-in_ok-commit-clause-stops
returns-in_ok-commit-clause-stops g c t v is some same starts =
    let n : ℕ = (g.R.Records.view c.args.records.now).record_count in
    let p = c.requires.may in
    let done = c.in_ok-next.ensures in
    let old = slots_held c.args.self.now in
    let brought : (g.R.Records.view c.stage_closed.new.records).tape ≡ Some t = done.quiet.tape ∙ is in
    let changes : c.deref.result.now ≡ changes_by c.args.first done.staged.0 t = c.deref.ensures.value ∙ done.staged.1.contents t is in
    after_still _ _ _ _ _ _ _ done.quiet.moment done.quiet.since (weaker _ _ _ _ _ _ (c.commit.ensures.any_moment t brought) (λ y stopped.
    closed_stops n c.args.first p.0 p.1 old p.2 (slots_held c.stage_closed.new.self) done.live done.long done.staged.0
    done.staged.2 done.staged.3 t ((g.met.R.Records.is_store _).is_tape t is) (c.requires.settled t is) v some same starts y
    (subst (λ (cs : Changes). IsOldOrNew Two cs t y) changes stopped)))

pub returns-else-not-is_empty-clause-closes : goal.returns-else-not-is_empty-clause-closes
returns-else-not-is_empty-clause-closes g c end redo t may is =
    let done = c.in_ok-next.ensures in
    let old = slots_held c.args.self.now in
    let items : Changes = c.stage_closed.new.self.changes.items in
    let none : length items ≡ 0 = search (rules, c.is_empty.ensures, c.if-not-is_empty.false) in
    let stays = sym (closed_none c.args.first (g.R.Records.view c.args.records.now).tape done.staged.0 items old done.staged.1 none) ∙ done.staged.3 in
    (t, done.quiet.tape ∙ is, subst (λ (xs : List (List ℕ)). HasSlotsOf c.args.first end old xs t t) stays (same_slots_of c.args.first end old t))

pub returns-else-not-is_empty-clause-stops : goal.returns-else-not-is_empty-clause-stops
returns-else-not-is_empty-clause-stops g c t v is some same starts =
    let n : ℕ = (g.R.Records.view c.args.records.now).record_count in
    let p = c.requires.may in
    quiet_run _ _ _ t (g.met.R.Records.is_store _) c.stage_closed.ensures.quiet is
    (closed_not_yet n c.args.first p.0 p.1 (slots_held c.args.self.now) p.2 (slots_held c.stage_closed.new.self) t ((g.met.R.Records.is_store _).is_tape t is) (c.requires.settled t is) v some same)

pub returns-in_ok-commit-clause-may : goal.returns-in_ok-commit-clause-may
returns-in_ok-commit-clause-may g c =
    let done = c.in_ok-next.ensures in
    closed_still (g.R.Records.view c.args.records.now).record_count c.args.first (slots_held c.args.self.now) (slots_held c.stage_closed.new.self)
    done.live done.long done.staged.0 done.staged.2 done.staged.3

pub returns-else-not-is_empty-clause-may : goal.returns-else-not-is_empty-clause-may
returns-else-not-is_empty-clause-may g c =
    let done = c.in_ok-next.ensures in
    closed_still (g.R.Records.view c.args.records.now).record_count c.args.first (slots_held c.args.self.now) (slots_held c.stage_closed.new.self)
    done.live done.long done.staged.0 done.staged.2 done.staged.3
