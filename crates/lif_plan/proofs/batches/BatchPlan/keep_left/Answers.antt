use Rattle.std.proofs.Common.{rules}
use Rattle.std.proofs.lemmas.Fn.{filter_same}
use Rattle.lif_plan.proofs.batches.BatchPlan.keep_left.Goals as goal

pub returns-clause-files : goal.returns-clause-files
returns-clause-files c = filter_same _ _ _ (λ x b f' k. search rules) _ _ c.retain.ensures.filtered
