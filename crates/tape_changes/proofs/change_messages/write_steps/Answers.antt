use Rattle.std.proofs.Common.{◌∙◌, rules}
use Rattle.tape_changes.proofs.Said.{reply_at, told_front, told_next}
use Rattle.tape_changes.proofs.change_messages.write_steps.Goals as goal

pub steps-preserved : goal.steps-preserved
steps-preserved g c = record {
  written = told_next c.args.image.now c.args.steps.now c.args.replies.now c.steps.place _ c.copied-reply.result _ _ _ c.steps-test.true c.index-steps-place.is (c.copied-reply.ensures ∙ reply_at c.args.replies.now c.steps.place c.get.result _ c.get.ensures.lookup.1 c.get.ensures.lookup.3) c.steps.invariant.written c.in_ok-write_change.ensures.parts;
  faults = search rules;
}

pub returns-in_err-write_change-clause-parts : goal.returns-in_err-write_change-clause-parts
returns-in_err-write_change-clause-parts g c =
    told_front c.args.image.now c.args.steps.now c.args.replies.now c.steps.place _ c.copied-reply.result _ _ _ c.from_residual.result c.from_residual.ensures.0 c.steps-test.true c.index-steps-place.is
    (c.copied-reply.ensures ∙ reply_at c.args.replies.now c.steps.place c.get.result _ c.get.ensures.lookup.1 c.get.ensures.lookup.3) c.steps.invariant.written c.in_err-write_change.ensures.parts
