use Rattle.std.proofs.Common.{rules}
use Rattle.tape_names.specs.Dates.{date_in}
use Rattle.tape_text.specs.Listing.{date_text}
use Rattle.tape_text.proofs.Quoted.{cell_text, date_small}
use Rattle.tape_text.proofs.cells.date.Goals as goal

pub returns-clause-field : goal.returns-clause-field
returns-clause-field c =
    let made = c.put_date.new.page in
    let date = date_in c.args.entry.now.date in
    date_small made.text date 16 (cell_text c.args.cell.now c.clear.new.self made (date_text date) c.clear.ensures c.put_date.ensures.text) (search rules)
