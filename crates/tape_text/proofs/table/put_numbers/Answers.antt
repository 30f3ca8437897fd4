use Rattle.std.proofs.Common.{◌∷◌, ◌∙◌, [], decimal, ap}
use Rattle.il_script.specs.Sheet.{Sheet}
use Rattle.tape_text.specs.Listing.{bytes_cell, date_cell, field_cell, records_cell}
use Rattle.tape_text.proofs.RowParts.{field_next, fields_none}
use Rattle.tape_text.proofs.table.put_numbers.Goals as goal

pub returns-clause-text : goal.returns-clause-text
returns-clause-text c =
    let page = c.args.page.now in
    let start = decimal c.args.entry.now.start in
    let records = records_cell c.args.entry.now in
    let bytes = bytes_cell c.args.entry.now in
    let date = date_cell c.args.entry.now in
    let field = field_cell c.args.entry.now in
    field_next page c.put_next-4.new.page c.put_next-5.new.page (start ∷ records ∷ bytes ∷ date ∷ []) c.text-5.result.now field
    (field_next page c.put_next-3.new.page c.put_next-4.new.page (start ∷ records ∷ bytes ∷ []) c.text-4.result.now date
    (field_next page c.put_next-2.new.page c.put_next-3.new.page (start ∷ records ∷ []) c.text-3.result.now bytes
    (field_next page c.put_next.new.page c.put_next-2.new.page (start ∷ []) c.text-2.result.now records
    (field_next page page c.put_next.new.page [] c.text.result.now start
    (fields_none page)
    c.put_next.ensures.text (c.text.ensures ∙ ap (λ (s : Sheet). s.text) c.start.ensures.text))
    c.put_next-2.ensures.text (c.text-2.ensures ∙ ap (λ (s : Sheet). s.text) c.records.ensures.text))
    c.put_next-3.ensures.text (c.text-3.ensures ∙ ap (λ (s : Sheet). s.text) c.bytes.ensures.text))
    c.put_next-4.ensures.text (c.text-4.ensures ∙ ap (λ (s : Sheet). s.text) c.date.ensures.text))
    c.put_next-5.ensures.text (c.text-5.ensures ∙ ap (λ (s : Sheet). s.text) c.field.ensures.text)
