use Rattle.std.proofs.Common.{◌∷◌, ◌++◌, ◌∙◌, codes, decimal, ap, refl}
use Rattle.il_script.specs.Sheet.{Sheet}
use Rattle.tape_text.specs.Listing.{left, name_cell, records_cell, right}
use Rattle.tape_text.specs.Map.{legend_line, letter_of}
use Rattle.tape_text.proofs.Sheets.{append_next}
use Rattle.tape_text.proofs.map.put_legend_line.Goals as goal

pub returns-clause-text : goal.returns-clause-text
unfolding legend_line
returns-clause-text c =
    let page = c.args.page.now in
    let widths = c.args.widths in
    let entry = c.args.entry.now in
    let letter = letter_of c.args.number ∷ codes "  " in
    let name = left widths.name (name_cell entry) in
    let gap = codes "  " in
    let records = right widths.records (records_cell entry) in
    let from = codes " records from " in
    let start = decimal entry.start in
    let last = codes "\n" in
    append_next page c.put_number.new.self c.put-3.new.self (letter ++ name ++ gap ++ records ++ from ++ start) last last
    (append_next page c.put-2.new.self c.put_number.new.self (letter ++ name ++ gap ++ records ++ from) start start
    (append_next page c.put_right.new.page c.put-2.new.self (letter ++ name ++ gap ++ records) from from
    (append_next page c.put.new.self c.put_right.new.page (letter ++ name ++ gap) (right widths.records c.text-2.result.now) records
    (append_next page c.put_left.new.page c.put.new.self (letter ++ name) gap gap
    (append_next page c.put_letter.new.page c.put_left.new.page letter (left widths.name c.text.result.now) name c.put_letter.ensures.text c.put_left.ensures.text
    (ap (left widths.name) (c.text.ensures ∙ ap (λ (s : Sheet). s.text) c.name.ensures.text)))
    c.put.ensures refl)
    c.put_right.ensures.text (ap (right widths.records) (c.text-2.ensures ∙ ap (λ (s : Sheet). s.text) c.records.ensures.text)))
    c.put-2.ensures refl)
    c.put_number.ensures.text refl)
    c.put-3.ensures refl
