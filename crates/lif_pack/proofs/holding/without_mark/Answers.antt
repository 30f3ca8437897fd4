use Rattle.std.proofs.Common.{◌≡◌, ◌==◌, ◌∙◌, ℕ, false, ap}
use Rattle.lif_model.specs.Directory.{is_end, is_purged}
use Rattle.lif_dir.specs.Entries.{entry_bytes, entry_from, is_entry}
use Rattle.lif_pack.proofs.Entries.{unmarked_type, is_slot}
use Rattle.lif_pack.proofs.holding.without_mark.Goals as goal

pub returns-clause-bytes : goal.returns-clause-bytes
returns-clause-bytes c =
    let no_end : is_end c.unmarked_bytes.result ≡ false =
    ap is_end c.unmarked_bytes.ensures.bytes ∙ ap (λ (k : ℕ). k == 0xFFFF) (unmarked_type (entry_bytes c.args.entry) c.unmarked_bytes.ensures.size) ∙ c.requires in
    c.of.ensures.bytes no_end ∙ c.unmarked_bytes.ensures.bytes

pub returns-clause-entry : goal.returns-clause-entry
returns-clause-entry c =
    let no_end : is_end c.unmarked_bytes.result ≡ false =
    ap is_end c.unmarked_bytes.ensures.bytes ∙ ap (λ (k : ℕ). k == 0xFFFF) (unmarked_type (entry_bytes c.args.entry) c.unmarked_bytes.ensures.size) ∙ c.requires in
    ap is_entry c.of.ensures.slot ∙ is_slot (is_end c.unmarked_bytes.result) (is_purged c.unmarked_bytes.result) (entry_from c.unmarked_bytes.result) no_end
