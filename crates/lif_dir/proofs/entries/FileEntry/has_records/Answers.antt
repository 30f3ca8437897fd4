use Rattle.std.proofs.Common.{rules, sym}
use Rattle.lif_dir.proofs.Bytes.{records_back}
use Rattle.lif_dir.proofs.entries.FileEntry.has_records.Goals as goal

pub returns : goal.returns
returns c = sym (records_back c.args.self (search rules))
