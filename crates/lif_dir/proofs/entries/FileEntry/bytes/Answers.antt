use Rattle.std.proofs.Common.{◌≡◌, rules, arith, ap, ◌∙◌}
use Rattle.std.proofs.lemmas.Grind.{common_steps}
use Rattle.lif_dir.specs.Entries.{entry_bytes, slot_from}
use Rattle.lif_dir.proofs.Bytes.{slot_back, HasWidths}
use Rattle.lif_dir.proofs.entries.FileEntry.bytes.Goals as goal

pub returns-clause-slot : goal.returns-clause-slot
returns-clause-slot c = λ kind.
    let widths : HasWidths c.args.self.now = search rules in
    let bytes : c.put-7.new.entry ≡ entry_bytes c.args.self.now = grind (arith, common_steps) in
    ap slot_from bytes ∙ slot_back c.args.self.now widths kind
