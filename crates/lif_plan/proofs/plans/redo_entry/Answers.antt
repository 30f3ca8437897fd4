use Rattle.std.proofs.Common.{ap, ◌∙◌, rules}
use Rattle.lif_model.specs.Directory.{is_end}
use Rattle.lif_plan.proofs.Planning.{not_end_kind}
use Rattle.lif_plan.proofs.Formats.{redo_is_entry}
use Rattle.lif_plan.proofs.plans.redo_entry.Goals as goal

pub returns-clause-kind : goal.returns-clause-kind
returns-clause-kind c = not_end_kind c.new.result (search rules) (ap is_end (search rules) ∙ redo_is_entry c.args.version c.args.size)
