use Rattle.std.proofs.Common.{sym, arith}
use Rattle.std.proofs.lemmas.List.{drop_all, take_rest}
use Rattle.tape_why.proofs.image.after_piece.Goals as goal

pub returns-then-bytes-lt256 : goal.returns-then-bytes-lt256
returns-then-bytes-lt256 c = sym (drop_all 256 c.args.bytes.now (omega arith))

pub returns-else-bytes-lt256 : goal.returns-else-bytes-lt256
returns-else-bytes-lt256 c = take_rest c.args.bytes.now 256
