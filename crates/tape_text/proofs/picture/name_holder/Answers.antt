use Rattle.std.proofs.Common.{◌≡◌, ◌≤◌, List, ℕ, length, rules, ap, subst, sym}
use Rattle.il_script.specs.Sheet.{Sheet}
use Rattle.lif_model.specs.Printed.{printed}
use Rattle.lif_dir.proofs.Bytes.{HasWidths}
use Rattle.tape_text.specs.Picture.{xml_text}
use Rattle.tape_text.proofs.Escaped.{name_small}
use Rattle.tape_text.proofs.picture.name_holder.Goals as goal

pub returns-in-File-clause-small : goal.returns-in-File-clause-small
returns-in-File-clause-small c =
    let widths : HasWidths c.in-File.entry = search rules in
    let is : c.name.new.cell.text ≡ printed c.in-File.entry.name.bytes = ap (λ (s : Sheet). s.text) c.name.ensures.text in
    subst (λ (t : List ℕ). length (xml_text t) ≤ 110) (sym is) (name_small c.in-File.entry.name.bytes widths.name)
