use Rattle.std.proofs.Common.{sym, arith}
use Rattle.std.proofs.lemmas.List.{drop_all, take_rest}
use Rattle.il_ports.proofs.image.after_record.Goals as goal

pub returns-then-rest-lt256 : goal.returns-then-rest-lt256
returns-then-rest-lt256 c = sym (drop_all 256 c.args.rest.now (omega arith))

pub returns-else-rest-lt256 : goal.returns-else-rest-lt256
returns-else-rest-lt256 c = take_rest c.args.rest.now 256
