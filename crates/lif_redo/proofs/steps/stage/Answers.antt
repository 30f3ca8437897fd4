use Rattle.std.proofs.Common.{◌≡◌, ◌-◌, ◌++◌, ◌∷◌, [], ◌∙◌, ap, arith, length}
use Rattle.lif_model.specs.Redo.{targets_place, targets_record}
use Rattle.lif_model.specs.Commit.{content_writes}
use Rattle.lif_model.proofs.Redo.{changes_long}
use Rattle.lif_redo.proofs.Told.{written}
use Rattle.lif_redo.proofs.Filled.{filled_staged, targets_write}
use Rattle.lif_redo.proofs.Writes.{then_writes, same_writes}
use Rattle.lif_redo.proofs.steps.stage.Goals as goal

pub overflow_sub-targets : goal.overflow_sub-targets
overflow_sub-targets g c =
    omega (arith, (changes_long c.args.version (g.R.Records.view c.args.records.now).record_count c.args.changes.now c.requires.changes).0, c.size-targets.ensures, c.fill.ensures.goes_on.continues.size)

pub returns-in_err-put-clause-any_moment : goal.returns-in_err-put-clause-any_moment
returns-in_err-put-clause-any_moment g c t is =
    let n = (g.R.Records.view c.args.records.now).record_count in
    let filled = c.in_ok-fill.ensures.filled t is in
    let place : c.size-targets.result - 3 ≡ targets_place n = omega (arith, c.size-targets.ensures, c.fill.ensures.goes_on.continues.size) in
    targets_write c.args.version n c.args.changes.now t ((g.met.R.Records.is_store _).is_tape t is).records c.requires.changes _ _ _ _ _ _ _ _ _ filled.0 place filled.1 filled.2
    (c.fill.ensures.any_moment t is) c.put.ensures.stored.time

pub returns-clause-any_moment : goal.returns-clause-any_moment
returns-clause-any_moment g c t is =
    let n = (g.R.Records.view c.args.records.now).record_count in
    let filled = c.in_ok-fill.ensures.filled t is in
    let place : c.size-targets.result - 3 ≡ targets_place n = omega (arith, c.size-targets.ensures, c.fill.ensures.goes_on.continues.size) in
    targets_write c.args.version n c.args.changes.now t ((g.met.R.Records.is_store _).is_tape t is).records c.requires.changes _ _ _ _ _ _ _ _ _ filled.0 place filled.1 filled.2
    (c.fill.ensures.any_moment t is) c.put.ensures.stored.time

pub returns-clause-staged : goal.returns-clause-staged
returns-clause-staged g c t is =
    let version = c.args.version in
    let n = (g.R.Records.view c.args.records.now).record_count in
    let cs = c.args.changes.now in
    let filled = c.in_ok-fill.ensures.filled t is in
    let place : c.size-targets.result - 3 ≡ targets_place n = omega (arith, c.size-targets.ensures, c.fill.ensures.goes_on.continues.size) in
    let names = c.targets_record.ensures ∙ ap (targets_record version) (c.as_slice.ensures.value ∙ c.numbers-numbers.ensures) in (
      _,
      written _ filled.0 _ _ _ _ (c.in_ok-put.ensures.stored.content filled.0 filled.1) place names,
      filled_staged version n cs t ((g.met.R.Records.is_store _).is_tape t is).records c.requires.changes (length cs) filled.0 (omega arith) filled.2,
    )

pub returns-clause-writes : goal.returns-clause-writes
returns-clause-writes g c =
    let version = c.args.version in
    let n = (g.R.Records.view c.args.records.now).record_count in
    let cs = c.args.changes.now in
    let place : c.size-targets.result - 3 ≡ targets_place n = omega (arith, c.size-targets.ensures, c.fill.ensures.goes_on.continues.size) in
    let names = c.targets_record.ensures ∙ ap (targets_record version) (c.as_slice.ensures.value ∙ c.numbers-numbers.ensures) in
    same_writes _ _ _ _ (λ d. content_writes version n 0 cs ++ (place d, names d) ∷ []) (then_writes _ _ _ _ _ c.in_ok-fill.ensures.writes c.in_ok-put.ensures.writes)
