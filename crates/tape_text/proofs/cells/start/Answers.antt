use Rattle.std.proofs.Common.{rules, decimal, arith}
use Rattle.tape_text.proofs.Quoted.{cell_text, decimal_small}
use Rattle.tape_text.proofs.cells.start.Goals as goal

pub returns-clause-field : goal.returns-clause-field
returns-clause-field c =
    let made = c.put_number.new.self in
    let number = c.args.entry.now.start in
    decimal_small made.text number 10 (omega arith) (cell_text c.args.cell.now c.clear.new.self made (decimal number) c.clear.ensures c.put_number.ensures.text) (search rules)
