use Rattle.std.proofs.Common.{◌++◌, ◌∙◌, codes, ap, refl}
use Rattle.csv.specs.Writing.{default_writer, fields_text, row_body}
use Rattle.tape_text.specs.Rows.{names_in, numbers_in}
use Rattle.tape_text.proofs.RowParts.{file_parts}
use Rattle.tape_text.proofs.Sheets.{append_next, with_text}
use Rattle.tape_text.proofs.table.put_file.Goals as goal

pub returns-clause-text : goal.returns-clause-text
returns-clause-text c =
    let page = c.args.page.now in
    let names = row_body default_writer (names_in c.args.image.now c.args.header.now c.args.entry.now) in
    let numbers = fields_text default_writer (numbers_in c.args.entry.now) in
    let last = codes "\n" in
    append_next page c.put_numbers.new.page c.put.new.self (names ++ numbers) last last
    (append_next page c.put_names.new.page c.put_numbers.new.page names numbers numbers c.put_names.ensures.text c.put_numbers.ensures.text refl)
    c.put.ensures refl
    ∙ ap (with_text page) (file_parts c.args.image.now c.args.header.now c.args.entry.now)
