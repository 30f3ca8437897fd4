use Rattle.std.proofs.Common.{ap}
use Rattle.tape.proofs.Inserts.{ends_in_drive}
use Rattle.tape.proofs.showing.show_image.Goals as goal

pub returns-clause-shown : goal.returns-clause-shown
returns-clause-shown g c =
    let did = c.work_on_image-ending in record {
      ending = did.result.0;
      ends = ends_in_drive _ _ _ _ _ did.result.0 c.args.image.now (λ same. (ap (λ job. g.K.Sink.written job.out) same, ap (λ job. g.K.Sink.faults job.out) same)) did.ensures.ends;
      status_is = c.end_on.ensures.status;
      says = c.end_on.ensures.says;
    }
