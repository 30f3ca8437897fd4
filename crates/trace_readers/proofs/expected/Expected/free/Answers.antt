use Rattle.std.proofs.Common.{length, arith}
use Rattle.trace_readers.proofs.KnownLemmas.{unclear}
use Rattle.trace_readers.proofs.expected.Expected.free.Goals as goal

pub returns-in_default-clause-fault : goal.returns-in_default-clause-fault
returns-in_default-clause-fault c =
    unclear (length c.args.self.now.records) c.args.first c.args.bytes.now (omega arith)
