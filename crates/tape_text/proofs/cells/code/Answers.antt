use Rattle.std.proofs.Common.{rules}
use Rattle.hex.specs.Hex.{encode_upper}
use Rattle.tape_text.proofs.Quoted.{cell_text, hex_small}
use Rattle.tape_text.proofs.cells.code.Goals as goal

pub returns-clause-field : goal.returns-clause-field
returns-clause-field c =
    let made = c.put_hex.new.self in
    hex_small made.text c.to_be_bytes.result 4 (cell_text c.args.cell.now c.clear.new.self made (encode_upper c.to_be_bytes.result) c.clear.ensures c.put_hex.ensures.text) (search rules)
