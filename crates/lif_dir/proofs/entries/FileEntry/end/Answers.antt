use Rattle.std.proofs.Common.{rules, arith}
use Rattle.lif_dir.proofs.Bytes.{start_back, length_back}
use Rattle.lif_dir.proofs.entries.FileEntry.end.Goals as goal

pub returns-clause-end : goal.returns-clause-end
returns-clause-end c = omega (arith, start_back c.args.self (search rules), length_back c.args.self (search rules))
