use Rattle.std.proofs.Common.{rules, sym}
use Rattle.lif_dir.proofs.Bytes.{live_back}
use Rattle.lif_dir.proofs.entries.FileEntry.is_live.Goals as goal

pub returns : goal.returns
returns c = sym (live_back c.args.self (search rules))
