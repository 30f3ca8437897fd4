use Rattle.std.proofs.Common.{◌≡◌, ◌-◌, ◌++◌, ◌∷◌, [], ◌∙◌, ap, subst, sym, arith, ℕ, take, length}
use Rattle.std.specs.Prelude.{Some}
use Rattle.std.proofs.lemmas.List.{take_all}
use Rattle.lif_model.specs.Tape.{Tape, record_at}
use Rattle.lif_model.specs.Gate.{gate_of}
use Rattle.lif_model.specs.Stops.{Torn}
use Rattle.lif_model.specs.Redo.{redo_start, changed}
use Rattle.lif_model.proofs.Moments.{started, goes_on}
use Rattle.lif_model.proofs.Redo.{length_changed, changes_below}
use Rattle.lif_model.proofs.Commit.{armed_settles, in_place, closing, changed_take, changed_all, below_at}
use Rattle.lif_redo.proofs.Writes.{no_write, then_writes, same_writes, take_writes}
use Rattle.il_ports.proofs.Stores.{goes_nowhere, goes_further}
use Rattle.lif_redo.proofs.steps.finish.Goals as goal

pub loop-change-init : goal.loop-change-init
loop-change-init g c = record {
  goes_on = goes_nowhere _ _ c.requires.ready;
  writes = no_write _;
  tape = λ t is. is;
  moments = λ t is. started _ _ _ t (λ x left. (g.met.R.Records.is_store _).leaves_only t x is left) (armed_settles _ _ t (c.requires.armed t is).1);
}

pub put-requires-clause-within : goal.put-requires-clause-within
put-requires-clause-within g c =
    let cs = c.args.changes.now in
    let are = c.requires.changes in
    let n = (g.R.Records.view c.args.records.now).record_count in
    omega (arith, below_at (redo_start are.0 n) cs c.loop-change.change-index (changes_below are.0 n cs are.1) c.loop-change-test.true, c.loop-change.invariant.goes_on.continues.size)

pub returns-in_err-put-clause-any_moment : goal.returns-in_err-put-clause-any_moment
returns-in_err-put-clause-any_moment g c t is =
    goes_on _ _ _ _ _ _ _ _ _ _ (c.loop-change.invariant.tape t is) (c.loop-change.invariant.moments t is) c.put.ensures.stored.time
    (λ x torn. in_place _ _ t x _ (c.requires.armed t is).1 c.loop-change-test.true torn)

pub loop-change-preserved : goal.loop-change-preserved
loop-change-preserved g c = record {
  goes_on = goes_further _ 1 _ _ _ _ _ c.loop-change.invariant.goes_on c.in_ok-put.ensures.stored.goes_on;
  writes = take_writes c.args.changes.now c.loop-change.change-index _ _ _ c.loop-change-test.true c.loop-change.invariant.writes c.in_ok-put.ensures.writes;
  tape = λ t is. c.in_ok-put.ensures.stored.content _ (c.loop-change.invariant.tape t is) ∙ ap Some (sym (changed_take _ _ t c.loop-change-test.true));
  moments = λ t is.
      goes_on _ _ _ _ _ _ _ _ _ _ (c.loop-change.invariant.tape t is) (c.loop-change.invariant.moments t is) c.put.ensures.stored.time
      (λ x torn. in_place _ _ t x _ (c.requires.armed t is).1 c.loop-change-test.true torn);
}

pub returns-in_err-put-2-clause-any_moment : goal.returns-in_err-put-2-clause-any_moment
returns-in_err-put-2-clause-any_moment g c t is =
    let cs = c.args.changes.now in
    let y : Tape = changed (take c.loop-change.change-index cs) t in
    let place : c.size-gate.result - 4 ≡ gate_of (length t) = omega (arith, ((g.met.R.Records.is_store _).is_tape t is).records, c.size-gate.ensures, c.loop-change.invariant.goes_on.continues.size) in
    goes_on _ _ _ _ _ _ _ _ _ _ (c.loop-change.invariant.tape t is) (c.loop-change.invariant.moments t is) c.put-2.ensures.stored.time
    (λ x torn. closing _ cs t y x (c.requires.armed t is).1 (length_changed (take c.loop-change.change-index cs) t)
    (λ k. ap (λ (u : Tape). record_at u k) (changed_all cs c.loop-change.change-index t c.loop-change-test.false)) (subst (λ (n : ℕ). Torn n y x) place torn))

pub returns-clause-any_moment : goal.returns-clause-any_moment
returns-clause-any_moment g c t is =
    let cs = c.args.changes.now in
    let y : Tape = changed (take c.loop-change.change-index cs) t in
    let place : c.size-gate.result - 4 ≡ gate_of (length t) = omega (arith, ((g.met.R.Records.is_store _).is_tape t is).records, c.size-gate.ensures, c.loop-change.invariant.goes_on.continues.size) in
    goes_on _ _ _ _ _ _ _ _ _ _ (c.loop-change.invariant.tape t is) (c.loop-change.invariant.moments t is) c.put-2.ensures.stored.time
    (λ x torn. closing _ cs t y x (c.requires.armed t is).1 (length_changed (take c.loop-change.change-index cs) t)
    (λ k. ap (λ (u : Tape). record_at u k) (changed_all cs c.loop-change.change-index t c.loop-change-test.false)) (subst (λ (n : ℕ). Torn n y x) place torn))

pub returns-clause-writes : goal.returns-clause-writes
returns-clause-writes g c =
    let cs = c.args.changes.now in
    let n = (g.R.Records.view c.args.records.now).record_count in
    let place : c.size-gate.result - 4 ≡ gate_of n = omega (arith, c.size-gate.ensures, c.loop-change.invariant.goes_on.continues.size) in
    same_writes _ _ _ _ (λ d. take_all c.loop-change.change-index cs c.loop-change-test.false d ++ (place d, c.zero_record.ensures d) ∷ [])
    (then_writes _ _ _ _ _ c.loop-change.invariant.writes c.in_ok-put-2.ensures.writes)
