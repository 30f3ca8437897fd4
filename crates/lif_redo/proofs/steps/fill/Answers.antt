use Rattle.std.proofs.Common.{◌≡◌, ◌++◌, ◌∷◌, [], ◌∙◌, ap, arith, ℕ, List, take, get_or}
use Rattle.lif_model.specs.Redo.{data_record}
use Rattle.lif_model.specs.Commit.{content_writes}
use Rattle.lif_model.proofs.Redo.{changes_long}
use Rattle.lif_model.proofs.Directory.{data_within}
use Rattle.lif_model.proofs.Commit.{shut_start}
use Rattle.lif_redo.proofs.Told.{written}
use Rattle.lif_redo.proofs.Filled.{changes_few, contents_next, filled_first, filled_more, filled_write}
use Rattle.lif_redo.proofs.Writes.{no_write, then_writes, same_writes}
use Rattle.il_ports.proofs.Stores.{goes_nowhere, goes_further}
use Rattle.lif_redo.proofs.steps.fill.Goals as goal

pub loop-i-init : goal.loop-i-init
loop-i-init g c =
    let n = (g.R.Records.view c.args.records.now).record_count in
    record {
      goes_on = goes_nowhere _ _ c.requires.ready;
      writes = no_write _;
      filled = λ t is. (t, is, filled_first c.args.version n c.args.changes.now t ((g.met.R.Records.is_store _).is_tape t is).records c.requires.changes (c.requires.shut t is));
      moments = λ t is. shut_start c.args.version t _ _ (λ x left. (g.met.R.Records.is_store _).leaves_only t x is left) (c.requires.shut t is);
    }

pub data_record-requires-clause-long : goal.data_record-requires-clause-long
data_record-requires-clause-long g c =
    omega (arith, (changes_long c.args.version (g.R.Records.view c.args.records.now).record_count c.args.changes.now c.requires.changes).1, c.size-size.ensures)

pub put-requires-clause-within : goal.put-requires-clause-within
put-requires-clause-within g c =
    let version = c.args.version in
    let n = (g.R.Records.view c.args.records.now).record_count in
    let cs = c.args.changes.now in
    let long = (changes_long version n cs c.requires.changes).1 in
    let place : c.data_record.result ≡ data_record version n c.loop-i.i = c.data_record.ensures ∙ ap (λ (m : ℕ). data_record version m c.loop-i.i) c.size-size.ensures in
    omega (arith, place, data_within version n c.loop-i.i long (omega (arith, c.loop-i-test.true, changes_few version n cs c.requires.changes)), c.loop-i.invariant.goes_on.continues.size)

pub returns-in_err-put-clause-any_moment : goal.returns-in_err-put-clause-any_moment
returns-in_err-put-clause-any_moment g c t is =
    let version = c.args.version in
    let n = (g.R.Records.view c.args.records.now).record_count in
    let filled = c.loop-i.invariant.filled t is in
    let place : c.data_record.result ≡ data_record version n c.loop-i.i = c.data_record.ensures ∙ ap (λ (m : ℕ). data_record version m c.loop-i.i) c.size-size.ensures in
    filled_write version n c.args.changes.now t ((g.met.R.Records.is_store _).is_tape t is).records c.requires.changes c.loop-i.i _ _ _ _ _ _ _ _ filled.0 place filled.1 filled.2
    (c.loop-i.invariant.moments t is) c.put.ensures.stored.time

pub loop-i-preserved : goal.loop-i-preserved
loop-i-preserved g c =
    let version = c.args.version in
    let n = (g.R.Records.view c.args.records.now).record_count in
    let cs = c.args.changes.now in
    let place : c.data_record.result ≡ data_record version n c.loop-i.i = c.data_record.ensures ∙ ap (λ (m : ℕ). data_record version m c.loop-i.i) c.size-size.ensures in
    let bytes : List ℕ = (get_or cs c.loop-i.i (0, [])).1 in
    record {
      goes_on = goes_further _ 1 _ _ _ _ _ c.loop-i.invariant.goes_on c.in_ok-put.ensures.stored.goes_on;
      writes = same_writes _ _ _ _ ((λ d. content_writes version n 0 (take c.loop-i.i cs) ++ (place d, bytes) ∷ []) ∙ contents_next version n c.loop-i.i cs c.loop-i-test.true)
          (then_writes _ _ _ _ _ c.loop-i.invariant.writes c.in_ok-put.ensures.writes);
      filled = λ t is.
          let filled = c.loop-i.invariant.filled t is in (
            _,
            written _ filled.0 _ _ _ bytes (c.in_ok-put.ensures.stored.content filled.0 filled.1) place (λ d. bytes),
            filled_more version n cs t ((g.met.R.Records.is_store _).is_tape t is).records c.requires.changes c.loop-i.i filled.0 c.loop-i-test.true filled.2,
          );
      moments = λ t is.
          let filled = c.loop-i.invariant.filled t is in
          filled_write version n cs t ((g.met.R.Records.is_store _).is_tape t is).records c.requires.changes c.loop-i.i _ _ _ _ _ _ _ _ filled.0 place filled.1 filled.2
          (c.loop-i.invariant.moments t is) c.put.ensures.stored.time;
    }
