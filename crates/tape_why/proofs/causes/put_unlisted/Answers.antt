use Rattle.std.proofs.Common.{map, codes}
use Rattle.lif_dir.specs.Entries.{slot_bytes}
use Rattle.tape_why.specs.Why.{defect_cause}
use Rattle.tape_why.proofs.Pages.{three_texts}
use Rattle.tape_why.proofs.causes.put_unlisted.Goals as goal

pub returns-clause-text : goal.returns-clause-text
returns-clause-text c =
    three_texts c.args.page.now c.put.new.self c.put_defect.new.page c.put-2.new.self (codes "it cannot be listed: ")
    (defect_cause (map slot_bytes c.args.table.now.slots) c.args.defect) (codes "\n") c.put.ensures c.put_defect.ensures.text c.put-2.ensures
