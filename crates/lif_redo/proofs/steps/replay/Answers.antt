use Rattle.std.proofs.Common.{◌≡◌, ◌<◌, ◌-◌, ◌+◌, ◌*◌, ◌++◌, ◌∷◌, [], ◌∙◌, ap, subst, refl, sym, arith, ℕ, List, take, length, get_or, set, length-append}
use Rattle.std.specs.Prelude.{Some}
use Rattle.std.proofs.lemmas.List.{take_more, take_all}
use Rattle.lif_model.specs.Tape.{record_at}
use Rattle.lif_model.specs.Gate.{gate_of}
use Rattle.lif_model.specs.Stops.{Torn}
use Rattle.lif_model.specs.Redo.{data_record, redo_of, changed}
use Rattle.lif_model.proofs.Moments.{started, goes_on}
use Rattle.lif_redo.proofs.Told.{written}
use Rattle.lif_redo.proofs.Held.{targets_long, redo_count, copied, copied_bytes, settles_at_first, settles_in_place, settles_closing, settled_is, settle_some}
use Rattle.lif_redo.proofs.Writes.{no_write, then_writes, same_writes}
use Rattle.il_ports.proofs.Stores.{goes_nowhere, goes_further, goes_within}
use Rattle.lif_redo.proofs.steps.replay.Goals as goal

pub loop-i-init : goal.loop-i-init
loop-i-init g c =
    let n = (g.R.Records.view c.args.records.now).record_count in
    record {
      goes_on = goes_nowhere _ _ c.requires.ready;
      writes = ([], λ t is. refl, refl, no_write _);
      tape = λ t is. is;
      moments = λ t is. started _ _ _ t (λ x left. (g.met.R.Records.is_store _).leaves_only t x is left)
          (settles_at_first t n ((g.met.R.Records.is_store _).is_tape t is).records c.args.version c.args.targets.now c.requires.may_be (c.requires.found t is));
    }

pub data_record-requires-clause-long : goal.data_record-requires-clause-long
data_record-requires-clause-long g c =
    omega (arith, (targets_long c.args.version (g.R.Records.view c.args.records.now).record_count c.args.targets.now c.requires.may_be).1, c.size-size.ensures)

pub returns-in_err-copy-clause-any_moment : goal.returns-in_err-copy-clause-any_moment
returns-in_err-copy-clause-any_moment g c t is =
    let n = (g.R.Records.view c.args.records.now).record_count in
    goes_on _ _ _ _ _ _ _ _ _ _ (c.loop-i.invariant.tape t is) (c.loop-i.invariant.moments t is) c.copy.ensures.time
    (λ x torn. settles_in_place t n ((g.met.R.Records.is_store _).is_tape t is).records c.args.version c.args.targets.now c.requires.may_be (c.requires.found t is) x c.loop-i.i c.loop-i-test.true torn)

pub loop-i-preserved : goal.loop-i-preserved
loop-i-preserved g c =
    let version = c.args.version in
    let n = (g.R.Records.view c.args.records.now).record_count in
    let ts = c.args.targets.now in
    let place : c.data_record.result ≡ data_record version n c.loop-i.i = c.data_record.ensures ∙ ap (λ (m : ℕ). data_record version m c.loop-i.i) c.size-size.ensures in
    let inv = c.loop-i.invariant in
    let now = c.in_ok-copy.ensures.writes in
    record {
      goes_on = goes_within (2 * c.loop-i.i + 2) (2 * (c.loop-i.i + 1)) _ _ _ (omega arith) (goes_further (2 * c.loop-i.i) 2 _ _ _ _ _ inv.goes_on c.in_ok-copy.ensures.goes_on);
      writes = (
        inv.writes.0 ++ (get_or ts c.loop-i.i 0, now.0) ∷ [],
        λ t is.
            let size = ((g.met.R.Records.is_store _).is_tape t is).records in
            let bytes : now.0 ≡ record_at (changed (take c.loop-i.i (redo_of t)) t) (data_record version n c.loop-i.i) = now.1 _ (inv.tape t is) ∙ ap (record_at (changed (take c.loop-i.i (redo_of t)) t)) place in
            let change = ap (λ (bs : List ℕ). (get_or ts c.loop-i.i 0, bs)) bytes ∙ copied_bytes t n size version ts c.requires.may_be (c.requires.found t is) c.loop-i.i c.loop-i-test.true in
            (λ d. inv.writes.1 t is d ++ change d ∷ [])
            ∙ sym (take_more (redo_of t) c.loop-i.i (0, []) (omega (arith, c.loop-i-test.true, redo_count t n size version ts c.requires.may_be (c.requires.found t is)))),
        length-append inv.writes.0 _ ∙ omega (arith, inv.writes.2),
        then_writes _ _ _ _ _ inv.writes.3 now.2,
      );
      tape = λ t is.
          let size = ((g.met.R.Records.is_store _).is_tape t is).records in
          c.in_ok-copy.ensures.content _ (inv.tape t is)
          ∙ ap (λ (k : ℕ). Some (set (changed (take c.loop-i.i (redo_of t)) t) (get_or ts c.loop-i.i 0) (record_at (changed (take c.loop-i.i (redo_of t)) t) k))) place
          ∙ ap Some (copied t n size version ts c.requires.may_be (c.requires.found t is) c.loop-i.i c.loop-i-test.true);
      moments = λ t is.
          goes_on _ _ _ _ _ _ _ _ _ _ (inv.tape t is) (inv.moments t is) c.copy.ensures.time
          (λ x torn. settles_in_place t n ((g.met.R.Records.is_store _).is_tape t is).records version ts c.requires.may_be (c.requires.found t is) x c.loop-i.i c.loop-i-test.true torn);
    }

pub overflow_sub-size : goal.overflow_sub-size
overflow_sub-size g c =
    omega (arith, (targets_long c.args.version (g.R.Records.view c.args.records.now).record_count c.args.targets.now c.requires.may_be).0, c.size-size.ensures)

pub put-requires-clause-within : goal.put-requires-clause-within
put-requires-clause-within g c =
    omega (arith, (targets_long c.args.version (g.R.Records.view c.args.records.now).record_count c.args.targets.now c.requires.may_be).0, c.size-size.ensures, c.loop-i.invariant.goes_on.continues.size)

pub returns-in_err-put-clause-any_moment : goal.returns-in_err-put-clause-any_moment
returns-in_err-put-clause-any_moment g c t is =
    let n = (g.R.Records.view c.args.records.now).record_count in
    let place : c.size-size.result - 4 ≡ gate_of n = omega (arith, c.size-size.ensures) in
    goes_on _ _ _ _ _ _ _ _ _ _ (c.loop-i.invariant.tape t is) (c.loop-i.invariant.moments t is) c.put.ensures.stored.time
    (λ x torn. settles_closing t n ((g.met.R.Records.is_store _).is_tape t is).records c.args.version c.args.targets.now c.requires.may_be (c.requires.found t is) x c.loop-i.i c.loop-i-test.false
    (subst (λ (k : ℕ). Torn k (changed (take c.loop-i.i (redo_of t)) t) x) place torn))

pub returns-clause-any_moment : goal.returns-clause-any_moment
returns-clause-any_moment g c t is =
    let n = (g.R.Records.view c.args.records.now).record_count in
    let place : c.size-size.result - 4 ≡ gate_of n = omega (arith, c.size-size.ensures) in
    goes_on _ _ _ _ _ _ _ _ _ _ (c.loop-i.invariant.tape t is) (c.loop-i.invariant.moments t is) c.put.ensures.stored.time
    (λ x torn. settles_closing t n ((g.met.R.Records.is_store _).is_tape t is).records c.args.version c.args.targets.now c.requires.may_be (c.requires.found t is) x c.loop-i.i c.loop-i-test.false
    (subst (λ (k : ℕ). Torn k (changed (take c.loop-i.i (redo_of t)) t) x) place torn))

pub returns-clause-done : goal.returns-clause-done
returns-clause-done g c t is =
    let n = (g.R.Records.view c.args.records.now).record_count in
    let place : c.size-size.result - 4 ≡ gate_of n = omega (arith, c.size-size.ensures) in
    written _ _ _ _ _ _ (c.in_ok-put.ensures.stored.content _ (c.loop-i.invariant.tape t is)) place c.zero_record.ensures
    ∙ ap Some (settled_is t n ((g.met.R.Records.is_store _).is_tape t is).records c.args.version c.args.targets.now c.requires.may_be (c.requires.found t is) c.loop-i.i c.loop-i-test.false)

pub returns-clause-writes : goal.returns-clause-writes
returns-clause-writes g c =
    let version = c.args.version in
    let n = (g.R.Records.view c.args.records.now).record_count in
    let ts = c.args.targets.now in
    let done = c.loop-i.invariant.writes in
    let place : c.size-size.result - 4 ≡ gate_of n = omega (arith, c.size-size.ensures) in
    let some : 0 < length done.0 = omega (arith, done.2, c.loop-i-test.false, (targets_long version n ts c.requires.may_be).2) in (
      done.0,
      λ t is. done.1 t is ∙ take_all c.loop-i.i (redo_of t) (omega (arith, c.loop-i-test.false, redo_count t n ((g.met.R.Records.is_store _).is_tape t is).records version ts c.requires.may_be (c.requires.found t is))),
      same_writes _ _ _ _ ((λ d. done.0 ++ (place d, c.zero_record.ensures d) ∷ []) ∙ sym (settle_some n done.0 some)) (then_writes _ _ _ _ _ done.3 c.in_ok-put.ensures.writes),
    )
