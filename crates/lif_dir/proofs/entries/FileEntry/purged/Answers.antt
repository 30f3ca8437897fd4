use Rattle.std.proofs.Common.{rules}
use Rattle.lif_dir.proofs.Edited.{purged_is}
use Rattle.lif_dir.proofs.entries.FileEntry.purged.Goals as goal

pub returns : goal.returns
returns c = purged_is c.args.self (search rules)
