use Rattle.std.proofs.Common.{◌≡◌, ◌∙◌, [], rules, refl, sym, ap, Some, None}
use Rattle.system_files.specs.Folders.{folder_before}
use Rattle.system_files.proofs.folder_of.Goals as goal

pub returns-in-None : goal.returns-in-None
returns-in-None c = (None, c.in-None.ensures.cases, refl)

pub returns-in-Some-empty-default : goal.returns-in-Some-empty-default
returns-in-Some-empty-default c =
    let at = c.in-Some-empty-default.ensures.cases in
    let none : c.in-Some-empty-default.field-0-0.now ≡ [] = search rules in
    (Some (at.0, at.1), at.2, ap folder_before (sym none ∙ at.3))

pub returns-in-Some : goal.returns-in-Some
returns-in-Some c =
    let at = c.in-Some.ensures.cases in
    (Some (at.0, at.1), at.2, search rules)
