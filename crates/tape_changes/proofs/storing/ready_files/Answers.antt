use Rattle.std.proofs.Common.{◌≡◌, ◌++◌, ◌∷◌, ◌∙◌, List, [], All, ap, arith, length, length-append, map, rules, subst, sym}
use Rattle.std.proofs.lemmas.List.Elements.{All-push}
use Rattle.tape_changes.specs.declared.storing.Ready.{Ready}
use Rattle.tape_changes.specs.Storing.{IsReadyFile, incoming_step, ready_step}
use Rattle.tape_changes.proofs.Mapped.{mapped_more}
use Rattle.tape_volumes.proofs.Rooms.{pushed}
use Rattle.tape_changes.proofs.storing.ready_files.Goals as goal

pub files-preserved : goal.files-preserved
files-preserved c =
    let held = c.files.invariant in
    let count = held.room in
    let made = c.in_ok-make_ready.field-0 in
    let more : c.push.new.self.items ≡ c.files.all.items ++ made ∷ [] = pushed _ _ _ _ _ _ c.push.ensures.full (omega (arith, count, c.files-test.true, held.space)) c.push.ensures.items in
    let long = ap length more in
    let both = length-append c.files.all.items (made ∷ []) in
    record {
      steps = ap (λ (l : List Ready). map ready_step l) more
          ∙ mapped_more ready_step (incoming_step c.args.over c.args.quiet) c.files.all.items c.args.files.now c.files.incoming-index made c.incoming-item.result c.files-test.true c.incoming-item.is c.in_ok-make_ready.ensures.step held.steps;
      ready = subst (All IsReadyFile) (sym more) (All-push IsReadyFile c.files.all.items made held.ready c.in_ok-make_ready.ensures.ready);
      room = omega (arith, long, both, count);
      space = search rules;
    }
