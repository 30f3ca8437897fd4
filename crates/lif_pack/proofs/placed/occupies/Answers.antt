use Rattle.std.proofs.Common.{rules}
use Rattle.lif_dir.proofs.Bytes.{HasWidths}
use Rattle.lif_pack.proofs.Plain.{plain_entry}
use Rattle.lif_pack.proofs.placed.occupies.Goals as goal

pub returns-then-is_live-clause-plain : goal.returns-then-is_live-clause-plain
returns-then-is_live-clause-plain c = let widths : HasWidths c.args.entry = search rules in plain_entry c.args.entry widths

pub returns-else-is_live-clause-plain : goal.returns-else-is_live-clause-plain
returns-else-is_live-clause-plain c = let widths : HasWidths c.args.entry = search rules in plain_entry c.args.entry widths
