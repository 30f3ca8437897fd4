use Rattle.std.proofs.Common.{◌≡◌, ap, sym, ◌∙◌, rules, map}
use Rattle.std.specs.Prelude.{None}
use Rattle.lif_model.specs.Legal.{slot_named}
use Rattle.lif_dir.specs.Entries.{slot_bytes, entry_bytes}
use Rattle.lif_plan.proofs.Found.{not_adopted}
use Rattle.lif_plan.proofs.Planning.{version_here}
use Rattle.lif_plan.proofs.directory.Directory.redo_version.Goals as goal

pub returns-in_err-entry : goal.returns-in_err-entry
returns-in_err-entry c =
    let none : c.from_residual.result ≡ None = search rules in
    rw none (not_adopted (map slot_bytes c.args.self.now.table.slots) c.requires.distinct c.args.size
    (ap (slot_named (map slot_bytes c.args.self.now.table.slots)) (sym c.redo_name.ensures) ∙ sym c.in_err-entry.ensures))

pub returns : goal.returns
returns c = version_here c.args.size (map slot_bytes c.args.self.now.table.slots) (entry_bytes c.in_ok-entry.entry) c.version_of.result c.requires.distinct
    (ap (slot_named (map slot_bytes c.args.self.now.table.slots)) (sym c.redo_name.ensures) ∙ sym c.in_ok-entry.ensures) c.version_of.ensures
