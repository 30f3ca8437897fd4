use Rattle.std.proofs.Common.{ℕ, ◌==◌, if◌then◌else◌, Bool, ap, rules, ◌∙◌}
use Rattle.std.proofs.lemmas.Bool.{ne_eqb}
use Rattle.lif_dir.specs.declared.entries.Slot.TheVariants.{Live, Purged}
use Rattle.lif_dir.proofs.Bytes.{slot_back}
use Rattle.lif_dir.proofs.entries.Slot.holding.Goals as goal

pub returns-in-0-clause-told : goal.returns-in-0-clause-told
returns-in-0-clause-told c = slot_back c.args.entry (search rules) c.requires ∙ ap (λ (k : ℕ). if k == 0 then Purged c.args.entry else Live c.args.entry) c.in-0.is

pub returns-in_default-clause-told : goal.returns-in_default-clause-told
returns-in_default-clause-told c =
    slot_back c.args.entry (search rules) c.requires ∙ ap (λ (b : Bool). if b then Purged c.args.entry else Live c.args.entry) (ne_eqb c.args.entry.kind 0 (search rules))
