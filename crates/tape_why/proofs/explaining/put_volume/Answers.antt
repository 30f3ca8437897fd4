use Rattle.std.proofs.Common.{◌≡◌, ◌++◌, ◌∙◌, ℕ, List, true, map, ap, sym, subst}
use Rattle.lif_model.specs.Tape.{record_at}
use Rattle.lif_model.specs.Header.{is_readable}
use Rattle.lif_model.specs.Legal.{is_legal}
use Rattle.lif_dir.specs.Entries.{slot_bytes}
use Rattle.lif_dir.specs.Tables.{Table}
use Rattle.lif_dir.specs.declared.entries.Slot.{Slot}
use Rattle.lif_plan.specs.Plans.{IsVolumeWith}
use Rattle.tape_why.proofs.Volumes.{volume_on, legal_here, is_volume_read, listed_cause}
use Rattle.tape_why.proofs.explaining.put_volume.Goals as goal

pub returns-then-is_legal-clause-text : goal.returns-then-is_legal-clause-text
returns-then-is_legal-clause-text c = λ t size read.
    let n : ℕ = c.args.size in
    let slots = c.args.directory.now.table.slots in
    let readable : is_readable n (record_at t 0) ≡ true = ap (λ (m : ℕ). is_readable m (record_at t 0)) (sym size) ∙ read.readable in
    let legal : is_legal t ≡ true =
    sym (legal_here n t c.args.header.now slots size read) ∙ sym (c.is_legal.ensures.legal (record_at t 0) read.told readable) ∙ c.if-is_legal.true in
    let same : c.is_legal.new.self.table.slots ≡ slots = ap (λ (s : Table). s.slots) c.is_legal.ensures.table in
    c.put_listed.ensures.text (volume_on t)
    (subst (λ (s : List Slot). IsVolumeWith n c.args.header.now (map slot_bytes s) (volume_on t)) (sym same) (is_volume_read n t c.args.header.now slots size read legal))
    ∙ ap (λ (l : List ℕ). record c.args.page.now { text = c.args.page.now.text ++ l }) (listed_cause n t c.args.header.now slots size read legal)
