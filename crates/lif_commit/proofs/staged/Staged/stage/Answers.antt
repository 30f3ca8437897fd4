use Rattle.std.proofs.Common.{◌≡◌, ◌<◌, ◌+◌, ◌-◌, ◌*◌, ◌∙◌, ℕ, suc, List, [], false, length, get_or, map, take, max, sym, ap, subst, refl, arith, rules}
use Rattle.std.specs.Prelude.{None, Err}
use Rattle.std.proofs.lemmas.List.{length-map, take_all}
use Rattle.std.proofs.Math.Nat.{le-max_left, le-max_right}
use Rattle.lif_model.specs.Redo.{targets_in}
use Rattle.lif_model.specs.declared.version.Version.TheVariants.{One}
use Rattle.il_ports.proofs.Stores.{goes_nowhere, goes_further, goes_within, quiet_nowhere, quiet_longer}
use Rattle.lif_redo.proofs.Writes.{no_write, then_writes}
use Rattle.lif_dir.specs.declared.change.Change.{Change}
use Rattle.lif_dir.specs.Entries.{slot_bytes}
use Rattle.lif_dir.specs.Changes.{FitsIn, slot_after, change_writes, all_writes, count_with_all}
use Rattle.lif_commit.specs.Staged.{IsStagedAs, AreBefore, past_end}
use Rattle.lif_commit.proofs.Staging.{none_staged, staged_as, touched_is, goes_fewer, goes_told, goes_failed, before_more, before_append}
use Rattle.lif_commit.proofs.Turns.{next_in_turn, turn_next, turn_count, writes_next, count_next, first_past}
use Rattle.lif_commit.proofs.staged.Staged.stage.Goals as goal

pub loop-k-init : goal.loop-k-init
loop-k-init g c =
    let none : c.clear.new.self.items ≡ [] = c.clear.ensures.items in
    let zero_past : past_end c.args.header.now.start (length c.args.table.now.slots) (targets_in c.clear.new.self.items) ≡ 0 = ap (λ cs. past_end c.args.header.now.start (length c.args.table.now.slots) (targets_in cs)) none in
    record {
      goes_on = goes_within 0 _ _ _ _ (omega arith) (goes_nowhere _ _ c.requires.ready);
      quiet = quiet_nowhere _;
      reads = no_write _;
      last = refl;
      few = omega (arith, ap length none);
      count = c.len-count.ensures.count;
      turn = (map slot_bytes c.args.table.now.slots, c.requires.turn.0, refl, c.requires.turn.1);
      staged = none_staged c.args.header.now.start _ c.clear.new.self.items none;
      before = λ t told. tt;
    }

pub add-requires-clause-ready : goal.add-requires-clause-ready
add-requires-clause-ready g c =
    let v = c.loop-k.invariant in
    let start : ℕ = c.args.header.now.start in
    let items = c.loop-k.self.changes.items in
    let is = touched_is start _ (all_writes start (take c.loop-k.k c.args.changes.now)) items v.staged in
    record {
      valid = v.goes_on.continues.valid;
      sound = v.goes_on.continues.sound;
      left = omega (arith, c.requires.ready.left, v.goes_on.continues.left, ap (past_end start (length c.args.table.now.slots)) is.0, first_past start (length c.args.table.now.slots) c.loop-k.k c.args.changes.now);
    }

pub add-requires-clause-fits : goal.add-requires-clause-fits
add-requires-clause-fits g c =
    let v = c.loop-k.invariant in
    (length v.turn.0, (next_in_turn (8 * c.args.header.now.length) v.turn.0 v.turn.1 c.args.changes.now c.loop-k.k _ c.loop-k-test.true v.turn.3).0)

pub returns-in_err-add-clause-stages : goal.returns-in_err-add-clause-stages
returns-in_err-add-clause-stages g c =
    let v = c.loop-k.invariant in
    let start : ℕ = c.args.header.now.start in
    let count : ℕ = length c.args.table.now.slots in
    let items = c.loop-k.self.changes.items in
    let staged = touched_is start _ (all_writes start (take c.loop-k.k c.args.changes.now)) items v.staged in
    let is : c.from_residual.result ≡ Err c.in_err-add.field-0.0 = search rules in
    rw is (record {
      goes_on = goes_failed _ _ _ _ (goes_within (past_end start count (targets_in items) + 3) _ _ _ _
          (omega (arith, ap (past_end start count) staged.0, first_past start count c.loop-k.k c.args.changes.now))
          (goes_further (past_end start count (targets_in items)) 3 _ _ _ _ _ v.goes_on c.in_err-add.ensures.goes_on));
      few = tt;
      quiet = quiet_longer _ _ _ v.quiet c.add.ensures.quiet;
      reads = tt;
      staged = tt;
      count = tt;
    })

-- what stands for a change that is not there
abbrev unset : Change
unset = record {
  version = One;
  slot = 0;
  entry = record { name = record { bytes = [] }; kind = 0; start = 0; length = 0; date = []; volume = 0; implementation = [] };
  next = None;
  ended = false;
}

pub loop-k-preserved : goal.loop-k-preserved
loop-k-preserved g c =
    let v = c.loop-k.invariant in
    let r = c.in_ok-add.ensures in
    let start : ℕ = c.args.header.now.start in
    let size : ℕ = c.args.header.now.length in
    let many : ℕ = length c.args.table.now.slots in
    let slots : List (List ℕ) = map slot_bytes c.args.table.now.slots in
    let n : ℕ = (g.R.Records.view c.args.records.now).record_count in
    let changes : List Change = c.args.changes.now in
    let k : ℕ = c.loop-k.k in
    let lt : k < length changes = c.loop-k-test.true in
    let change : Change = get_or changes k unset in
    let fits : FitsIn (8 * size) (length v.turn.0) change = (next_in_turn (8 * size) v.turn.0 v.turn.1 changes k unset lt v.turn.3).0 in
    let as_many : c.loop-k.count ≡ length v.turn.0 =
    v.count ∙ ap (λ (m : ℕ). count_with_all m (take k changes)) (sym (length-map c.args.table.now.slots slot_bytes)) ∙ sym (turn_count (8 * size) slots v.turn.0 (take k changes) v.turn.2) in
    let after = c.slot_after.ensures in
    let more : c.max-count.result ≡ max c.loop-k.count (slot_after change) = c.max-count.ensures ∙ ap (max c.loop-k.count) after in
    let now = staged_as start _ (g.R.Records.view c.loop-k.records).tape (all_writes start (take k changes)) (all_writes start (take k changes)) c.loop-k.self.changes.items v.quiet.tape (λ x. refl) v.staged in
    let added = r.staged (all_writes start (take k changes)) now (λ t told ended.
    subst (λ (m : ℕ). AreBefore (8 * (m - start)) (slot_after change) (all_writes start (take k changes) t)) (sym v.goes_on.continues.size)
    (before_more (8 * (n - start)) (suc c.loop-k.count) (slot_after change) (all_writes start (take k changes) t) (omega (arith, fits.end_past ended, as_many)) (v.before t (sym v.quiet.tape ∙ told)))) in
    record {
      goes_on = goes_fewer (past_end start many (targets_in c.loop-k.self.changes.items) + 3) _ _ _ _ (omega (arith, v.goes_on.continues.left, r.few))
          (goes_further (past_end start many (targets_in c.loop-k.self.changes.items)) 3 _ _ _ _ _ v.goes_on r.goes_on);
      quiet = quiet_longer _ _ _ v.quiet c.add.ensures.quiet;
      reads = then_writes [] [] _ _ _ v.reads r.reads;
      last = c.add.ensures.last ∙ v.last;
      few = omega (arith, v.few, c.add.ensures.count);
      count = more ∙ ap (λ (m : ℕ). max m (slot_after change)) v.count ∙ count_next many changes k unset lt;
      turn = turn_next (8 * size) slots v.turn.0 v.turn.1 changes k unset lt v.turn.2 v.turn.3;
      staged = staged_as start _ _ _ (all_writes start (take (k + 1) changes)) c.add.new.self.changes.items (sym v.quiet.tape) (λ x. writes_next start changes k unset x lt) added;
      before = λ t told.
          subst (AreBefore (8 * (n - start)) (suc c.max-count.result)) (writes_next start changes k unset t lt)
          (before_append (8 * (n - start)) (suc c.max-count.result) (all_writes start (take k changes) t) (change_writes start change t)
          (before_more (8 * (n - start)) (suc c.loop-k.count) (suc c.max-count.result) (all_writes start (take k changes) t) (omega (arith, more, le-max_left c.loop-k.count (slot_after change))) (v.before t told))
          (before_more (8 * (n - start)) (suc (slot_after change)) (suc c.max-count.result) (change_writes start change t) (omega (arith, more, le-max_right c.loop-k.count (slot_after change)))
          (subst (λ (m : ℕ). AreBefore (8 * (m - start)) (suc (slot_after change)) (change_writes start change t)) v.goes_on.continues.size (r.entries t (v.quiet.tape ∙ told)))));
    }

pub returns-clause-stages : goal.returns-clause-stages
returns-clause-stages g c =
    let v = c.loop-k.invariant in
    let start : ℕ = c.args.header.now.start in
    let many : ℕ = length c.args.table.now.slots in
    let items = c.loop-k.self.changes.items in
    let changes : List Change = c.args.changes.now in
    let all : take c.loop-k.k changes ≡ changes = take_all c.loop-k.k changes (omega (arith, c.loop-k-test.false)) in
    let staged = touched_is start _ (all_writes start (take c.loop-k.k changes)) items v.staged in
    record {
      goes_on = goes_told _ _ _ tt c.loop-k.count (goes_within (past_end start many (targets_in items)) _ _ _ _
          (omega (arith, ap (past_end start many) staged.0, first_past start many c.loop-k.k changes)) v.goes_on);
      few = v.goes_on.continues.left;
      quiet = v.quiet;
      reads = v.reads;
      staged = subst (λ (cs : List Change). IsStagedAs start (g.R.Records.view c.args.records.now).tape (all_writes start cs) items) all v.staged;
      count = v.count ∙ ap (count_with_all many) all;
    }
