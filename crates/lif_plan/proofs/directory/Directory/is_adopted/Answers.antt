use Rattle.std.proofs.Common.{ℕ, List, map, sym, ap, ◌∙◌}
use Rattle.lif_model.specs.Legal.{slot_named}
use Rattle.lif_dir.specs.Entries.{slot_bytes}
use Rattle.lif_plan.proofs.Found.{adopted_by_name, not_adopted}
use Rattle.lif_plan.proofs.directory.Directory.is_adopted.Goals as goal

pub returns-in-Some-entry_named : goal.returns-in-Some-entry_named
returns-in-Some-entry_named c =
    let slots : List (List ℕ) = map slot_bytes c.args.self.now.table.slots in
    c.is_redo_file.ensures ∙ adopted_by_name slots c.requires.distinct c.args.size _ (ap (slot_named slots) (sym c.in-Some.ensures.name) ∙ sym c.in-Some-entry_named.ensures)

pub returns-in-None : goal.returns-in-None
returns-in-None c =
    let slots : List (List ℕ) = map slot_bytes c.args.self.now.table.slots in
    sym (not_adopted slots c.requires.distinct c.args.size (ap (slot_named slots) (sym c.in-Some.ensures.name) ∙ sym c.in-None.ensures))
