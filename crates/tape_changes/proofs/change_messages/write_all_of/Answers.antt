use Rattle.std.proofs.Common.{◌≡◌, ◌++◌, ◌∙◌, ap, rules, subst, sym}
use Rattle.il_ports.specs.Writing.{WritesAll}
use Rattle.tape_changes.specs.ChangeMessages.{change_messages, step_messages}
use Rattle.tape_volumes.specs.Endings.{ending_message}
use Rattle.tape_volumes.specs.declared.ending.Ending.TheVariants as ending
use Rattle.tape_volumes.specs.declared.went.Went.TheVariants as went
use Rattle.tape_volumes.proofs.Fronts.{all_next}
use Rattle.tape_changes.proofs.change_messages.write_all_of.Goals as goal

pub returns-in_ok-write_ending_of-in-Went-Unwritten-clause-parts : goal.returns-in_ok-write_ending_of-in-Went-Unwritten-clause-parts
returns-in_ok-write_ending_of-in-Went-Unwritten-clause-parts g c =
    let image = c.args.image.now in
    let messages = step_messages image c.args.steps.now c.args.replies.now in
    let is : c.args.ending ≡ ending.Went went.Unwritten = search rules in
    let same : change_messages image c.args.ending c.args.steps.now c.args.replies.now ≡ ending_message image c.args.ending ++ messages =
    ap (λ e. change_messages image e c.args.steps.now c.args.replies.now) is ∙ ap (λ e. ending_message image e ++ messages) (sym is) in
    subst (λ text. WritesAll (g.K.Sink.written c.args.to.now) (g.K.Sink.written c.write_steps-in-Went-Unwritten.new.to) text c.write_steps-in-Went-Unwritten.result) (sym same)
    (all_next _ _ _ (ending_message image c.args.ending) messages c.write_steps-in-Went-Unwritten.result c.in_ok-write_ending_of-in-Went-Unwritten.ensures.parts c.write_steps-in-Went-Unwritten.ensures.parts)
