use Rattle.std.proofs.Common.{◌++◌, ◌∙◌, map, codes, ap, sym}
use Rattle.lif_dir.specs.Entries.{slot_bytes}
use Rattle.tape_why.specs.Why.{printed_name_at, defect_cause}
use Rattle.tape_why.specs.declared.defects.Defect.{Defect}
use Rattle.tape_why.proofs.Pages.{two_texts}
use Rattle.tape_why.proofs.causes.put_defect.Goals as goal

pub returns-in-Outside-clause-text : goal.returns-in-Outside-clause-text
returns-in-Outside-clause-text c =
    let slots = map slot_bytes c.args.table.now.slots in
    two_texts c.args.page.now c.put_name_at.new.page c.put.new.self (printed_name_at slots c.in-Outside.place)
    (codes " has records that are not between the directory and the end of the medium") c.put_name_at.ensures.text c.put.ensures
    ∙ ap (λ (d : Defect). record c.args.page.now { text = c.args.page.now.text ++ defect_cause slots d }) (sym c.in-Outside.is)

pub returns-in-SharedName-clause-text : goal.returns-in-SharedName-clause-text
returns-in-SharedName-clause-text c =
    let slots = map slot_bytes c.args.table.now.slots in
    two_texts c.args.page.now c.put-in-SharedName.new.self c.put_name_at-in-SharedName.new.page (codes "two files have the name ")
    (printed_name_at slots c.in-SharedName.first) c.put-in-SharedName.ensures c.put_name_at-in-SharedName.ensures.text
    ∙ ap (λ (d : Defect). record c.args.page.now { text = c.args.page.now.text ++ defect_cause slots d }) (sym c.in-SharedName.is)
