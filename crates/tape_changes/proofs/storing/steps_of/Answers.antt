use Rattle.std.proofs.Common.{◌≡◌, ◌++◌, ◌∷◌, ◌∙◌, List, [], All, ap, arith, length, length-append, map, rules, subst, sym}
use Rattle.std.proofs.lemmas.List.Elements.{All-push}
use Rattle.tape_changes.specs.declared.changing.Step.{Step}
use Rattle.tape_changes.specs.Changing.{IsFormedStep, said}
use Rattle.tape_changes.specs.Storing.{ready_step}
use Rattle.tape_changes.proofs.Mapped.{mapped_more}
use Rattle.tape_volumes.proofs.Rooms.{pushed}
use Rattle.tape_changes.proofs.storing.steps_of.Goals as goal

pub files-preserved : goal.files-preserved
files-preserved c =
    let held = c.files.invariant in
    let count = held.room in
    let step = c.step_of.result in
    let more : c.push.new.self.items ≡ c.files.steps.items ++ step ∷ [] = pushed _ _ _ _ _ _ c.push.ensures.full (omega (arith, count, c.files-test.true, held.space)) c.push.ensures.items in
    let long = ap length more in
    let both = length-append c.files.steps.items (step ∷ []) in
    record {
      said = ap (λ (l : List Step). map said l) more
          ∙ mapped_more said ready_step c.files.steps.items c.args.files.now c.files.ready-index step c.ready-item.result c.files-test.true c.ready-item.is c.step_of.ensures.said held.said;
      formed = subst (All IsFormedStep) (sym more) (All-push IsFormedStep c.files.steps.items step held.formed c.step_of.ensures.formed);
      room = omega (arith, long, both, count);
      space = search rules;
    }
