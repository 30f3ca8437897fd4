use Rattle.std.proofs.Common.{◌≡◌, true, false, map, ◌∙◌, rules}
use Rattle.std.specs.Prelude.{is_some}
use Rattle.lif_dir.specs.Entries.{slot_bytes}
use Rattle.lif_plan.proofs.Planning.{version_tells, past_gate}
use Rattle.lif_plan.proofs.directory.Directory.is_in_use.Goals as goal

pub returns-then-is_none : goal.returns-then-is_none
returns-then-is_none c = λ v same.
    let slots = map slot_bytes c.args.self.now.table.slots in
    let none : is_some c.redo_version.result ≡ false = search rules in
    let off = version_tells c.args.size slots c.redo_version.result c.redo_version.ensures ∙ none in
    simp (same, off) (c.runs_past.ensures ∙ past_gate c.args.size slots c.start.result c.start.ensures off)

pub returns-else-is_none : goal.returns-else-is_none
returns-else-is_none c = λ v same.
    let some : is_some c.redo_version.result ≡ true = search rules in
    simp (same, version_tells c.args.size (map slot_bytes c.args.self.now.table.slots) c.redo_version.result c.redo_version.ensures ∙ some) c.if-is_none.false
