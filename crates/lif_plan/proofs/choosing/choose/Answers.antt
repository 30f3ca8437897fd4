use Rattle.std.proofs.Common.{◌∙◌, map}
use Rattle.lif_model.proofs.Fit.{fit_beside_none}
use Rattle.lif_dir.specs.Entries.{slot_bytes}
use Rattle.lif_plan.proofs.choosing.choose.Goals as goal

pub returns : goal.returns
returns c = c.choose_beside.ensures ∙ fit_beside_none c.args.size c.args.directory_end c.args.capacity (map slot_bytes c.args.slots.now.slots) c.args.count
