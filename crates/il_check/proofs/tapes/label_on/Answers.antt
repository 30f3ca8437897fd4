use Rattle.std.proofs.Common.{◌∙◌, ap, subst, Some, List, ℕ}
use Rattle.std.specs.Prelude.{Result, Err}
use Rattle.lif_model.specs.Tape.{Tape}
use Rattle.lif_model.specs.Redo.{settled}
use Rattle.il_ports.specs.MemoryRecords.{RecordsState, state_of}
use Rattle.il_ports.specs.declared.memory_records.MemoryRecords.{MemoryRecords}
use Rattle.lif_volume.specs.declared.fault.VolumeFault.{VolumeFault}
use Rattle.lif_volume.specs.Answers.{IsLegalAs}
use Rattle.il_check.proofs.LabelLemmas.{labelled, unlabelled}
use Rattle.il_check.proofs.tapes.label_on.Goals as goal

pub returns-in-Ok-label : goal.returns-in-Ok-label
returns-in-Ok-label c =
    let told = ap (λ (r : MemoryRecords). Some (state_of r).records) c.in-Ok.ensures.records ∙ ap (λ (s : RecordsState). Some s.records) c.in_ok-records.ensures ∙ ap (λ (t : Tape). Some t) c.in_ok-copied.ensures in
    labelled c.args.tape.now c.in-Ok-label.label (c.in-Ok-label.ensures.exactly c.args.tape.now told) (c.in-Ok-label.ensures.label c.args.tape.now told)

pub returns-in-Err-Refused : goal.returns-in-Err-Refused
returns-in-Err-Refused c =
    let told = ap (λ (r : MemoryRecords). Some (state_of r).records) c.in-Ok.ensures.records ∙ ap (λ (s : RecordsState). Some s.records) c.in_ok-records.ensures ∙ ap (λ (t : Tape). Some t) c.in_ok-copied.ensures in
    unlabelled c.args.tape.now (subst (λ (r : VolumeFault). let answer : Result (List ℕ) VolumeFault = Err r in IsLegalAs (settled c.args.tape.now) answer) c.in-Err-Refused.field-0-is (c.in-Err-Refused.ensures.exactly c.args.tape.now told))
