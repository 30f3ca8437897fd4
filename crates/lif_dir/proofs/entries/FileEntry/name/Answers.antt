use Rattle.std.proofs.Common.{rules, sym}
use Rattle.lif_dir.proofs.Bytes.{name_back}
use Rattle.lif_dir.proofs.entries.FileEntry.name.Goals as goal

pub returns : goal.returns
returns c = sym (name_back c.args.self (search rules))
