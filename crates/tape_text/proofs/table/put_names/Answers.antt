use Rattle.std.proofs.Common.{◌∷◌, ◌∙◌, [], ap, refl}
use Rattle.csv.specs.Writing.{default_writer, field_text, fields_text}
use Rattle.il_script.specs.Sheet.{Sheet}
use Rattle.lif_model.specs.Printed.{printed}
use Rattle.tape_text.specs.Listing.{name_cell, type_cell, type_name_cell}
use Rattle.tape_text.proofs.RowParts.{field_next, fields_none}
use Rattle.tape_text.proofs.Sheets.{append_next}
use Rattle.tape_text.proofs.table.put_names.Goals as goal

pub returns-clause-text : goal.returns-clause-text
returns-clause-text c =
    let first = c.put_first.new.page in
    let image = field_text default_writer c.args.image.now in
    let label = printed c.args.header.now.label in
    let name = name_cell c.args.entry.now in
    let code = type_cell c.args.entry.now in
    let kind = type_name_cell c.args.entry.now in
    let names = fields_text default_writer (label ∷ name ∷ code ∷ kind ∷ []) in
    append_next c.args.page.now first c.put_next-4.new.page image names names c.put_first.ensures.text
    (field_next first c.put_next-3.new.page c.put_next-4.new.page (label ∷ name ∷ code ∷ []) c.text-4.result.now kind
    (field_next first c.put_next-2.new.page c.put_next-3.new.page (label ∷ name ∷ []) c.text-3.result.now code
    (field_next first c.put_next.new.page c.put_next-2.new.page (label ∷ []) c.text-2.result.now name
    (field_next first first c.put_next.new.page [] c.text.result.now label
    (fields_none first)
    c.put_next.ensures.text (c.text.ensures ∙ ap (λ (s : Sheet). s.text) c.label.ensures.text))
    c.put_next-2.ensures.text (c.text-2.ensures ∙ ap (λ (s : Sheet). s.text) c.name.ensures.text))
    c.put_next-3.ensures.text (c.text-3.ensures ∙ ap (λ (s : Sheet). s.text) c.code.ensures.text))
    c.put_next-4.ensures.text (c.text-4.ensures ∙ ap (λ (s : Sheet). s.text) c.type_of.ensures.text))
    refl
