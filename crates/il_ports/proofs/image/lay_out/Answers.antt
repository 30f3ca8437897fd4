use Rattle.std.specs.Prelude.{◌+◌, ◌-◌, ◌*◌}
use Rattle.std.proofs.Common.{arith}
use Rattle.std.proofs.lemmas.Slice.{drop-put_mid}
use Rattle.il_ports.proofs.image.lay_out.Goals as goal

-- what comes after the record is not touched
pub returns-clause-behind : goal.returns-clause-behind
returns-clause-behind c =
    drop-put_mid (256 * c.args.place) (256 * (c.args.place + 1) - 256 * c.args.place) c.args.bytes.now c.copy_from_slice.new.self (256 * (c.args.place + 1)) (omega arith) (omega arith) (omega arith)
