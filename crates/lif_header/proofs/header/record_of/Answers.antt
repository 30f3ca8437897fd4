use Rattle.std.proofs.Common.{◌∙◌}
use Rattle.lif_header.proofs.Fresh.{over_zeros}
use Rattle.lif_header.proofs.header.record_of.Goals as goal

pub returns : goal.returns
returns c = c.put.ensures ∙ over_zeros c.args.text.now c.told-text
