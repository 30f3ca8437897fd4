use Rattle.std.proofs.Common.{arith, rules}
use Rattle.lif_dir.proofs.Edited.{moved_is}
use Rattle.lif_dir.proofs.entries.FileEntry.moved.Goals as goal

pub returns : goal.returns
returns c = moved_is c.args.self c.args.start c.args.length c.args.implementation (search rules) (omega arith) (omega arith)
