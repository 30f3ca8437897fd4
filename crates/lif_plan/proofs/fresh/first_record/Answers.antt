use Rattle.std.proofs.Common.{ℕ, List, set, ap, ◌∙◌, rules}
use Rattle.lif_model.specs.Made.{first_directory_record}
use Rattle.lif_plan.proofs.Formats.{first_made}
use Rattle.lif_plan.proofs.fresh.first_record.Goals as goal

pub returns : goal.returns
returns c =
    ap (λ (bytes : List ℕ). set (set bytes 42 255) 43 255) c.put_first.ensures
    ∙ first_made c.bytes.result (search rules)
    ∙ ap first_directory_record (c.bytes.ensures.bytes ∙ c.redo_entry.ensures.entry)
