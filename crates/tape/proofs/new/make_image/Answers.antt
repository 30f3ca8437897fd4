use Rattle.std.proofs.Common.{◌∙◌, Bool, true, List, ap, inr, subst}
use Rattle.il_script.specs.declared.reply.Reply.{Reply}
use Rattle.tape_changes.specs.ChangeMessages.{change_messages}
use Rattle.tape_changes.specs.Changing.{ChangesDid, output_of}
use Rattle.tape_volumes.specs.Messages.{WritesMessage}
use Rattle.tape_volumes.specs.declared.ending.Ending.TheVariants as ending
use Rattle.tape.specs.New.{StaysIf}
use Rattle.tape.proofs.Inserts.{works_with}
use Rattle.tape.proofs.new.make_image.Goals as goal

pub returns-clause-made : goal.returns-clause-made
returns-clause-made g c =
    let did = c.work_on_tape-went in
    let making = g.W.Makers.making c.end_with.new.makers in
    inr (record {
      drive = c.in-Ok.drive;
      drive_now = did.result.1.medium;
      made = c.end_with.ensures.goes_on.made c.args.image.now c.args.size c.in-Ok.drive c.in-Ok.ensures.made;
      back = c.end_with.ensures.back.took;
      inside = c.in-Ok.ensures.inside;
      went = did.result.0;
      replies = did.result.1.job.replies.items;
      works = works_with (λ w s t. ChangesDid true c.args.steps.now w did.result.1.job.replies.items s t (output_of (g.K.Sink.written c.args.out) (g.K.Sink.faults c.args.out)) (output_of (g.K.Sink.written did.result.1.job.out) (g.K.Sink.faults did.result.1.job.out)))
          _ _ _ did.result.0 _ _
          (λ same. (ap (λ job. job.replies.items) same ∙ c.requires.empty, ap (λ job. output_of (g.K.Sink.written job.out) (g.K.Sink.faults job.out)) same)) did.ensures;
      status_is = c.status.ensures;
      error = g.E.Sink.written c.write_changed.new.to;
      faults = g.E.Sink.faults c.write_changed.new.to;
      says = subst (λ (replies : List Reply). WritesMessage (change_messages c.args.image.now (ending.Went did.result.0) c.args.steps.now replies) (g.E.Sink.written c.args.error.now) (g.E.Sink.written c.write_changed.new.to)
          (g.E.Sink.faults c.args.error.now) (g.E.Sink.faults c.write_changed.new.to)) c.deref.ensures.value c.write_changed.ensures;
      stays = subst (λ (done : Bool). StaysIf done making did.result.1.medium c.args.image.now (g.E.Sink.written c.write_changed.new.to) (g.E.Sink.written c.end_with.new.error)
          (g.E.Sink.faults c.write_changed.new.to) (g.E.Sink.faults c.end_with.new.error)) c.is_done.ensures c.end_with.ensures.stays;
    })
