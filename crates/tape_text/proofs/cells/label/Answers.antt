use Rattle.std.proofs.Common.{rules}
use Rattle.lif_model.specs.Printed.{printed}
use Rattle.tape_text.proofs.Quoted.{cell_text, printed_small}
use Rattle.tape_text.proofs.cells.label.Goals as goal

pub returns-clause-field : goal.returns-clause-field
returns-clause-field c =
    let made = c.put_name.new.self in
    printed_small made.text c.label.result 5 (search rules) (cell_text c.args.cell.now c.clear.new.self made (printed c.label.result) c.clear.ensures c.put_name.ensures.text)
