use Rattle.std.proofs.Common.{◌∙◌, List, ap, subst}
use Rattle.tape_jobs.specs.declared.copying.Taken.{Taken}
use Rattle.tape_jobs.specs.CopyMessages.{copy_messages}
use Rattle.tape_volumes.specs.Messages.{WritesMessage}
use Rattle.tape.proofs.Inserts.{ends_in_drive}
use Rattle.tape.proofs.copies.copy_named.Goals as goal

pub returns-clause-copied : goal.returns-clause-copied
returns-clause-copied g c =
    let did = c.work_on_image-ending in record {
      folder = c.args.folder;
      folder_now = did.result.1.folder;
      given = c.back.ensures.goes_on.gave c.args.folder c.requires.given;
      back = c.back.ensures.took;
      closed = c.requires.closed;
      is_at = c.requires.place;
      ends = did.result.1.ends.items;
      ending = did.result.0;
      did = ends_in_drive _ _ _ _ _ did.result.0 c.args.image.now
          (λ same. (ap (λ job. job.folder) same, ap (λ job. job.ends.items) same ∙ c.new.ensures.items)) did.ensures.ends;
      status_is = c.status.ensures;
      says = subst (λ (ends : List Taken). WritesMessage (copy_messages c.args.image.now c.args.path.now did.result.0 ends) (g.E.Sink.written c.args.error.now) (g.E.Sink.written c.write_copied.new.to)
          (g.E.Sink.faults c.args.error.now) (g.E.Sink.faults c.write_copied.new.to)) c.deref.ensures.value c.write_copied.ensures;
    }
