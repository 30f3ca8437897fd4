use Rattle.std.proofs.Common.{◌++◌, ◌∙◌, codes, decimal, ap, refl}
use Rattle.il_script.specs.Sheet.{Sheet}
use Rattle.tape_text.specs.Picture.{color_of, holder_text, square_content, xml_text}
use Rattle.tape_text.proofs.Sheets.{append_next}
use Rattle.tape_text.proofs.picture.put_content.Goals as goal

pub returns-clause-text : goal.returns-clause-text
unfolding square_content
returns-clause-text c =
    let page = c.args.page.now in
    let fill = codes "fill=\"" in
    let color = color_of c.args.holder in
    let title = codes "\"><title>" in
    let number = decimal c.args.record_number in
    let colon = codes ": " in
    let name = xml_text (holder_text c.args.holder) in
    let last = codes "</title></rect>\n" in
    append_next page c.put_xml.new.page c.put-5.new.self (fill ++ color ++ title ++ number ++ colon ++ name) last last
    (append_next page c.put-4.new.self c.put_xml.new.page (fill ++ color ++ title ++ number ++ colon) (xml_text c.text.result.now) name
    (append_next page c.put_short.new.page c.put-4.new.self (fill ++ color ++ title ++ number) colon colon
    (append_next page c.put-3.new.self c.put_short.new.page (fill ++ color ++ title) number number
    (append_next page c.put-2.new.self c.put-3.new.self (fill ++ color) title title
    (append_next page c.put.new.self c.put-2.new.self fill c.color_of.result.now color c.put.ensures c.put-2.ensures c.color_of.ensures.color)
    c.put-3.ensures refl)
    c.put_short.ensures.text refl)
    c.put-4.ensures refl)
    c.put_xml.ensures.text (ap xml_text (c.text.ensures ∙ ap (λ (s : Sheet). s.text) c.name_holder.ensures.text)))
    c.put-5.ensures refl
