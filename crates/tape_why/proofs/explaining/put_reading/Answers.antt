use Rattle.std.proofs.Common.{◌++◌, ◌∙◌, ℕ, List, length, map, ap, subst}
use Rattle.std.specs.Prelude.{Result}
use Rattle.lif_model.specs.Tape.{record_at}
use Rattle.lif_model.specs.Header.{HeaderParts}
use Rattle.lif_header.specs.Reading.{IsFault}
use Rattle.lif_header.specs.declared.header.HeaderFault.{HeaderFault}
use Rattle.lif_dir.specs.Entries.{slot_bytes}
use Rattle.tape_why.specs.Readings.{IsReadAs}
use Rattle.tape_why.proofs.Volumes.{fault_cause}
use Rattle.tape_why.proofs.explaining.put_reading.Goals as goal

pub returns-in-Err-clause-text : goal.returns-in-Err-clause-text
returns-in-Err-clause-text c = λ t size read.
    let slots = c.args.directory.now.table.slots in
    let is : IsFault (length t) (record_at t 0) c.in-Err.fault = subst (λ (r : Result HeaderParts HeaderFault). IsReadAs t slots r) c.in-Err.is read in
    c.put_unlisted.ensures.text
    ∙ ap (λ (l : List ℕ). record c.args.page.now { text = c.args.page.now.text ++ l }) (fault_cause t c.in-Err.fault is (map slot_bytes slots))
