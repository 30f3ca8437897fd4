use Rattle.std.proofs.Common.{◌++◌, ◌∷◌, ◌∙◌, [], codes, ap, refl}
use Rattle.csv.specs.Writing.{default_writer, field_text, fields_text}
use Rattle.il_script.specs.Sheet.{Sheet}
use Rattle.lif_model.specs.Printed.{printed}
use Rattle.tape_text.proofs.RowParts.{empty_parts, field_next, fields_none}
use Rattle.tape_text.proofs.Sheets.{append_next, with_text}
use Rattle.tape_text.proofs.table.put_lone.Goals as goal

pub returns : goal.returns
returns c =
    let page = c.args.page.now in
    let first = c.put_first.new.page in
    let image = field_text default_writer c.args.image.now in
    let label = fields_text default_writer (printed c.args.header.now.label ∷ []) in
    let last = codes ",,,,,,,,\n" in
    append_next page c.put_next.new.page c.put.new.self (image ++ label) last last
    (append_next page first c.put_next.new.page image label label c.put_first.ensures.text
    (field_next first first c.put_next.new.page [] c.text.result.now (printed c.args.header.now.label)
    (fields_none first)
    c.put_next.ensures.text (c.text.ensures ∙ ap (λ (s : Sheet). s.text) c.label.ensures.text))
    refl)
    c.put.ensures refl
    ∙ ap (with_text page) (empty_parts c.args.image.now c.args.header.now)
