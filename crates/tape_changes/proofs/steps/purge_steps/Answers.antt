use Rattle.std.proofs.Common.{◌≡◌, ◌++◌, ◌∷◌, ◌∙◌, List, [], ap, arith, rules, map, length, length-append, All, subst, sym}
use Rattle.std.proofs.lemmas.List.{map-append}
use Rattle.std.proofs.lemmas.List.Elements.{All-push}
use Rattle.tape_changes.specs.Changing.{IsFormedStep, SaidStep, said}
use Rattle.tape_changes.specs.declared.changing.Step.{Step}
use Rattle.tape_volumes.proofs.Rooms.{pushed}
use Rattle.tape_changes.proofs.Purged.{purges_more}
use Rattle.tape_changes.proofs.steps.purge_steps.Goals as goal

pub names-preserved : goal.names-preserved
names-preserved c =
    let held = c.names.invariant in
    let count = held.room in
    let more : c.push.new.self.items ≡ c.names.steps.items ++ c.purge_step.result ∷ [] = pushed _ _ _ _ _ _ c.push.ensures.full (omega (arith, count, c.names-test.true, held.space)) c.push.ensures.items in
    let long = ap length more in
    let both = length-append c.names.steps.items (c.purge_step.result ∷ []) in
    record {
      said = purges_more c.args.names.now c.args.texts.now c.names.place _ _ c.names-test.true c.requires (map said c.names.steps.items) (map said c.push.new.self.items) _
          (ap (λ (steps : List Step). map said steps) more ∙ map-append said c.names.steps.items (c.purge_step.result ∷ []) ∙ ap (λ (step : SaidStep). map said c.names.steps.items ++ step ∷ []) c.purge_step.ensures.said) held.said;
      formed = subst (All IsFormedStep) (sym more) (All-push IsFormedStep c.names.steps.items c.purge_step.result held.formed c.purge_step.ensures.formed);
      room = omega (arith, long, both, count);
      space = search rules;
    }
