use Rattle.std.proofs.Common.{◌∙◌, List, ap, subst}
use Rattle.il_script.specs.declared.reply.Reply.{Reply}
use Rattle.tape_changes.specs.ChangeMessages.{change_messages}
use Rattle.tape_changes.specs.Changing.{output_of}
use Rattle.tape_volumes.specs.Messages.{WritesMessage}
use Rattle.tape.proofs.Inserts.{ends_in_drive}
use Rattle.tape.proofs.changes.take_steps.Goals as goal

pub work_on_image-ending-requires-clause-asks : goal.work_on_image-ending-requires-clause-asks
work_on_image-ending-requires-clause-asks g c = (c.requires.formed, c.requires.some, c.requires.empty, c.requires.room)

pub returns-clause-changed : goal.returns-clause-changed
returns-clause-changed g c =
    let did = c.work_on_image-ending in record {
      ending = did.result.0;
      replies = did.result.1.replies.items;
      ends = ends_in_drive _ _ _ _ _ did.result.0 c.args.image.now
          (λ same. (ap (λ job. job.replies.items) same ∙ c.requires.empty, ap (λ job. output_of (g.K.Sink.written job.out) (g.K.Sink.faults job.out)) same)) did.ensures.ends;
      status_is = c.status.ensures;
      says = subst (λ (replies : List Reply). WritesMessage (change_messages c.args.image.now did.result.0 c.args.steps.now replies) (g.E.Sink.written c.args.error.now) (g.E.Sink.written c.write_changed.new.to)
          (g.E.Sink.faults c.args.error.now) (g.E.Sink.faults c.write_changed.new.to)) c.deref.ensures.value c.write_changed.ensures;
    }
