use Rattle.std.proofs.Common.{◌≡◌, ◌++◌, ◌∙◌, ℕ, List, map, true, false, codes, ap, sym}
use Rattle.lif_model.specs.declared.version.Version.TheVariants.{Two}
use Rattle.lif_model.specs.Volume.{is_adopted, is_adopted_with}
use Rattle.lif_model.specs.Apply.{Adopt, Upgrade, is_upgraded}
use Rattle.lif_model.proofs.Adopted.{adopted_some}
use Rattle.lif_dir.specs.Entries.{slot_bytes}
use Rattle.tape_why.specs.Why.{adopt_text, upgrade_text}
use Rattle.tape_why.proofs.Pages.{three_texts}
use Rattle.tape_why.proofs.Answered.{plan_answers, small_head, none_head, small_line, none_line}
use Rattle.tape_why.proofs.listed.put_listed.Goals as goal

pub returns-then-is_upgraded-clause-changeable : goal.returns-then-is_upgraded-clause-changeable
returns-then-is_upgraded-clause-changeable c =
    sym (adopted_some c.args.size Two (map slot_bytes c.args.directory.now.table.slots) (sym c.is_upgraded.ensures ∙ c.if-is_upgraded.true))

pub returns-then-is_adopted-clause-text : goal.returns-then-is_adopted-clause-text
returns-then-is_adopted-clause-text c = λ v is.
    let n : ℕ = c.args.size in
    let slots = map slot_bytes c.args.directory.now.table.slots in
    let off : is_upgraded n v ≡ false = ap (is_adopted_with n Two) is.same ∙ sym c.is_upgraded.ensures ∙ c.if-is_upgraded.false in
    let on : is_adopted n v.slots ≡ true = ap (is_adopted n) is.same ∙ sym c.is_adopted.ensures ∙ c.if-is_adopted.true in
    let answer = c.err.ensures.value ∙ plan_answers n Upgrade c.args.header.now slots c.upgrade.result v c.upgrade.ensures.plan is in
    three_texts c.args.page.now c.put-then-is_adopted.new.self c.put_upgrade.new.page c.put-then-is_adopted-2.new.self small_head (upgrade_text c.err.result) (codes "\n")
    c.put-then-is_adopted.ensures c.put_upgrade.ensures.text c.put-then-is_adopted-2.ensures
    ∙ ap (λ (l : List ℕ). record c.args.page.now { text = c.args.page.now.text ++ l }) (small_line n v c.err.result off on answer)

pub returns-else-is_adopted-clause-text : goal.returns-else-is_adopted-clause-text
returns-else-is_adopted-clause-text c = λ v is.
    let n : ℕ = c.args.size in
    let slots = map slot_bytes c.args.directory.now.table.slots in
    let off : is_upgraded n v ≡ false = ap (is_adopted_with n Two) is.same ∙ sym c.is_upgraded.ensures ∙ c.if-is_upgraded.false in
    let no : is_adopted n v.slots ≡ false = ap (is_adopted n) is.same ∙ sym c.is_adopted.ensures ∙ c.if-is_adopted.false in
    let answer = c.err-else-is_adopted.ensures.value ∙ plan_answers n Adopt c.args.header.now slots c.adopt.result v c.adopt.ensures.plan is in
    three_texts c.args.page.now c.put-else-is_adopted.new.self c.put_adopt.new.page c.put-else-is_adopted-2.new.self none_head (adopt_text c.err-else-is_adopted.result) (codes "\n")
    c.put-else-is_adopted.ensures c.put_adopt.ensures.text c.put-else-is_adopted-2.ensures
    ∙ ap (λ (l : List ℕ). record c.args.page.now { text = c.args.page.now.text ++ l }) (none_line n v c.err-else-is_adopted.result off no answer)
