use Rattle.std.proofs.Common.{◌≡◌, true, false, ◌∙◌, ◌+◌, ◌++◌, ◌∷◌, [], length, refl, ap, arith, rules}
use Rattle.std.proofs.lemmas.List.{drop_all, length-append}
use Rattle.tape_changes.specs.declared.changing.Next.TheVariants as next
use Rattle.tape_changes.specs.Changing.{FrontIsLeft, attempts_of}
use Rattle.tape_volumes.proofs.Rooms.{pushed}
use Rattle.tape_changes.proofs.Joined.{after_next, after_none, beside_all, beside_next, beside_none, beside_on, attempts_next, joins_all, joins_last, joins_next, joins_none, left_at, step_next}
use Rattle.tape_changes.proofs.changing.take_steps.Goals as goal

pub steps-init : goal.steps-init
steps-init g c =
    let v = g.V.Volumes.seen c.args.volumes.now in
    record {
      valid = c.requires.valid;
      count = ap length c.requires.empty;
      space = c.requires.room;
      joins = joins_none c.args.ends_early c.args.steps.now _ c.args.replies.now.items v.mounted _ c.requires.empty refl;
      after = after_none _ v.mounted refl;
      beside = beside_none (FrontIsLeft (attempts_of c.args.steps.now) v.mounted) v;
    }

pub returns-in-Ends-clause-taken : goal.returns-in-Ends-clause-taken
returns-in-Ends-clause-taken g c =
    let now = c.steps in
    let more : c.push.new.self.items ≡ now.replies.items ++ c.try_step-reply.result ∷ [] = pushed _ _ _ _ _ _ c.push.ensures.full (omega (arith, now.invariant.count, c.steps-test.true, now.invariant.space)) c.push.ensures.items in
    joins_last _ _ _ _ _ _ _ _ now.invariant.joins _ _ c.try_step-reply.result c.push.new.self.items _ _ next.Ends false (step_next c.args.steps.now now.step-index _ c.steps-test.true c.step-item.is) more
    (record { tried = c.try_step-reply.ensures.tried; tells = c.in-Ends.ensures }) (refl, refl, refl, refl)

pub returns-in-Ends-clause-beside : goal.returns-in-Ends-clause-beside
returns-in-Ends-clause-beside g c =
    let v = g.V.Volumes.seen in
    let now = c.steps in
    beside_next now.step-index _ _ (v c.args.volumes.now) (v now.volumes) (v c.try_step-reply.new.volumes) now.invariant.after.seen
    (left_at c.args.steps.now now.step-index _ (v c.args.volumes.now).mounted (v now.volumes).mounted c.steps-test.true c.step-item.is now.invariant.after) now.invariant.beside c.try_step-reply.ensures.beside

pub returns-in-LosesOutput-clause-taken : goal.returns-in-LosesOutput-clause-taken
returns-in-LosesOutput-clause-taken g c =
    let now = c.steps in
    let more : c.push.new.self.items ≡ now.replies.items ++ c.try_step-reply.result ∷ [] = pushed _ _ _ _ _ _ c.push.ensures.full (omega (arith, now.invariant.count, c.steps-test.true, now.invariant.space)) c.push.ensures.items in
    joins_last _ _ _ _ _ _ _ _ now.invariant.joins _ _ c.try_step-reply.result c.push.new.self.items _ _ next.LosesOutput true (step_next c.args.steps.now now.step-index _ c.steps-test.true c.step-item.is) more
    (record { tried = c.try_step-reply.ensures.tried; tells = c.in-LosesOutput.ensures }) (refl, refl, refl, refl)

pub returns-in-LosesOutput-clause-beside : goal.returns-in-LosesOutput-clause-beside
returns-in-LosesOutput-clause-beside g c =
    let v = g.V.Volumes.seen in
    let now = c.steps in
    beside_next now.step-index _ _ (v c.args.volumes.now) (v now.volumes) (v c.try_step-reply.new.volumes) now.invariant.after.seen
    (left_at c.args.steps.now now.step-index _ (v c.args.volumes.now).mounted (v now.volumes).mounted c.steps-test.true c.step-item.is now.invariant.after) now.invariant.beside c.try_step-reply.ensures.beside

pub steps-preserved : goal.steps-preserved
steps-preserved g c =
    let v = g.V.Volumes.seen in
    let now = c.steps in
    let more : c.push.new.self.items ≡ now.replies.items ++ c.try_step-reply.result ∷ [] = pushed _ _ _ _ _ _ c.push.ensures.full (omega (arith, now.invariant.count, c.steps-test.true, now.invariant.space)) c.push.ensures.items in
    record {
      valid = c.try_step-reply.ensures.valid;
      count = ap length more ∙ length-append now.replies.items (c.try_step-reply.result ∷ []) ∙ ap (λ n. n + 1) now.invariant.count;
      space = search rules;
      joins = joins_next _ _ _ _ _ _ _ _ now.invariant.joins _ _ c.try_step-reply.result c.push.new.self.items _ _ (step_next c.args.steps.now now.step-index _ c.steps-test.true c.step-item.is) more
          (record { tried = c.try_step-reply.ensures.tried; tells = c.in-GoesOn.ensures });
      after = after_next _ _ _ (attempts_next c.args.steps.now now.step-index _ c.steps-test.true c.step-item.is) (v c.args.volumes.now).mounted (v now.volumes).mounted now.invariant.after _ refl _ c.try_step-reply.result _
          (v c.try_step-reply.new.volumes).mounted _ _ c.try_step-reply.ensures.tried c.in-GoesOn.ensures;
      beside = beside_on now.step-index _ (v c.args.volumes.now) (v c.try_step-reply.new.volumes) (beside_next now.step-index _ _ (v c.args.volumes.now) (v now.volumes) (v c.try_step-reply.new.volumes) now.invariant.after.seen
          (left_at c.args.steps.now now.step-index _ (v c.args.volumes.now).mounted (v now.volumes).mounted c.steps-test.true c.step-item.is now.invariant.after) now.invariant.beside c.try_step-reply.ensures.beside);
    }

pub returns-clause-taken : goal.returns-clause-taken
returns-clause-taken g c = joins_all _ _ _ _ _ _ _ _ c.steps.invariant.joins (drop_all c.steps.step-index c.args.steps.now (omega (arith, c.steps-test.false)))

pub returns-clause-beside : goal.returns-clause-beside
returns-clause-beside g c =
    let v = g.V.Volumes.seen in
    beside_all c.steps.step-index _ (v c.args.volumes.now) (v c.steps.volumes) (omega (arith, c.requires.some, c.steps-test.false, c.steps.auto.step-index-end)) c.steps.invariant.beside
