use Rattle.std.proofs.Common.{rules}
use Rattle.il_ports.proofs.FileBytes.{put_over}
use Rattle.il_ports.proofs.memory_file.put_over.Goals as goal

pub returns : goal.returns
returns c = search (rules, put_over)
