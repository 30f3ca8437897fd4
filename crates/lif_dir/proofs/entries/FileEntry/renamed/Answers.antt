use Rattle.std.proofs.Common.{rules}
use Rattle.lif_dir.proofs.Edited.{renamed_is}
use Rattle.lif_dir.proofs.entries.FileEntry.renamed.Goals as goal

pub returns : goal.returns
returns c = renamed_is c.args.self c.args.name.bytes (search rules)
