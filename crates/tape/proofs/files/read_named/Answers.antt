use Rattle.std.proofs.Common.{ap}
use Rattle.tape.proofs.Inserts.{ends_in_drive}
use Rattle.tape.proofs.files.read_named.Goals as goal

pub returns-clause-read : goal.returns-clause-read
returns-clause-read g c =
    let did = c.work_on_image-ending in record {
      ending = did.result.0;
      ends = ends_in_drive _ _ _ _ _ did.result.0 c.args.image.now (λ same. (ap (λ job. g.K.Sink.written job.out) same, ap (λ job. g.K.Sink.faults job.out) same)) did.ensures.ends;
      status_is = c.status.ensures;
      says = c.write_file_ending.ensures;
    }
