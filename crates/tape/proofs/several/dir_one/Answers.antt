use Rattle.std.proofs.Common.{ap}
use Rattle.tape.proofs.Inserts.{ends_in_drive}
use Rattle.tape.proofs.several.dir_one.Goals as goal

pub returns-clause-listed : goal.returns-clause-listed
returns-clause-listed g c =
    let did = c.work_on_image-ending in record {
      style = c.style_for-style.result;
      style_is = c.style_for-style.ensures;
      ends = ends_in_drive _ _ _ _ _ did.result.0 c.args.name.now (λ same. (ap (λ job. g.K.Sink.written job.out) same, ap (λ job. g.K.Sink.faults job.out) same)) did.ensures.ends;
      says = c.write_ending.ensures;
    }
