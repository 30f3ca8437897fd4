use Rattle.std.proofs.Common.{◌∙◌, rules, arith}
use Rattle.tape_text.proofs.Quoted.{cell_text, decimal_small}
use Rattle.tape_text.proofs.cells.bytes.Goals as goal

pub returns-in-Some-clause-field : goal.returns-in-Some-clause-field
returns-in-Some-clause-field c =
    let made = c.put.new.self in
    decimal_small made.text c.in-Some.count 20 (omega arith)
    (cell_text c.args.cell.now c.clear.new.self made c.as_bytes.result.now c.clear.ensures c.put.ensures ∙ c.as_bytes.ensures.value ∙ c.format.ensures.text) (search rules)
