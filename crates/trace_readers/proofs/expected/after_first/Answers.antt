use Rattle.std.proofs.Common.{drop, arith}
use Rattle.std.proofs.lemmas.List.{length-drop, take_all}
use Rattle.trace_readers.proofs.expected.after_first.Goals as goal

pub returns : goal.returns
returns c = let bytes = c.args.bytes.now in take_all _ (drop 256 bytes) (omega (arith, length-drop 256 bytes))
