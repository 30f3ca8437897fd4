use Rattle.std.proofs.Common.{◌≡◌, List, ℕ, ap, subst}
use Rattle.tape_changes.specs.Changing.{output_of}
use Rattle.tape_changes.specs.Replacing.{OldOrNewIsLeft, ReplaceDid}
use Rattle.tape_changes.specs.declared.replacing.Stored.TheVariants as became
use Rattle.tape.specs.Images.{EndsInDrive, sight}
use Rattle.tape.proofs.Inserts.{ends_in_drive}
use Rattle.tape.proofs.put.set_file.Goals as goal

pub returns-clause-set : goal.returns-clause-set
returns-clause-set g c = λ quiet is.
    let did = c.work_on_image-ending in
    let drives = sight g.M.Medium.view g.M.Medium.refuses (g.D.Drives.lent c.args.drives.now) (g.D.Drives.lent c.work_on_image-ending.new.drives) in
    let old = output_of (g.K.Sink.written c.args.out) (g.K.Sink.faults c.args.out) in
    let now = output_of (g.K.Sink.written did.result.1.out) (g.K.Sink.faults did.result.1.out) in
    record {
      ending = did.result.0;
      stored = did.result.1.stored;
      ends = subst (λ (line : List ℕ). EndsInDrive drives (λ w s t. ReplaceDid c.args.file.now line did.result.1.stored w s t old now) (OldOrNewIsLeft c.args.file.now)
          ((did.result.1.stored ≡ became.Untried) × (now ≡ old)) did.result.0 c.args.image.now) is
          (ends_in_drive drives (λ w s t. ReplaceDid c.args.file.now c.args.line.now did.result.1.stored w s t old now) _ _ _ did.result.0 c.args.image.now
          (λ same. (ap (λ job. job.stored) same, ap (λ job. output_of (g.K.Sink.written job.out) (g.K.Sink.faults job.out)) same)) did.ensures.ends);
      status_is = c.status.ensures;
      says = c.write_replaced.ensures;
    }
